-- The entries of a clause passed one after the other, up to its 0: what is found among them, and which rows are stamped.
use Prim.Native.Nat.{ℕ, ◌+◌, ◌≤◌, ◌<◌}
use mathlib.Core.Path.{◌≡◌, sym, ap, subst, ◌∙◌}
use mathlib.Core.List.{List}
use mathlib.Core.Logic.{◌≢◌, ⊎_elim, by_cases}
use native.Mathlib.Decide.{dec_lt, ℕ_discrete}
use native.Mathlib.Omega.{arith}
use lib.IntN.{ℤ}
use Rattle.terms.specs.Literals.{variable_of}
use Rattle.formula.specs.InnerLookup.{NextZero}
use Rattle.formula.specs.Tables.{literal_at}
use Rattle.forest_entries.specs.InnerFlags.{Has}
use Rattle.forest_entries.proofs.Flags.{has_next, next_none}

-- From start up to i stand literals only, and P holds of none of their variables.
pub record Passing (P : ℕ → Type 0) (ls : List ℤ) (start i : ℕ) : Type 0 where
  pub from : start ≤ i
  pub literals : (e : ℕ) → start ≤ e → e < i → variable_of (literal_at ls e) ≢ 0
  pub none : (v : ℕ) → Has ls start i v → P v → ⊥

module _ {P : ℕ → Type 0} {ls : List ℤ} {start i : ℕ} (p : Passing P ls start i) where
  -- One literal more.
  pub pass_more : (v : ℕ) → v ≡ variable_of (literal_at ls i) → v ≢ 0 → (P v → ⊥) → Passing P ls start (i + 1)
  pass_more v is some not' =
      record {
        from = let f = p.from in omega arith;
        literals = λ e s l. by_cases (ℕ_discrete e i) (λ q z. some (is ∙ ap (λ d. variable_of (literal_at ls d)) (sym q) ∙ z)) (λ other. p.literals e s (omega arith));
        none = λ w h holds. ⊎_elim (λ before. p.none w before holds) (λ q. not' (subst P q holds)) ((has_next ls start i v p.from is w).1 h);
      }

  module _ {end : ℕ} (next : NextZero ls start end) where
    -- The next 0 is not among what is passed ...
    upto : i ≤ end
    upto = by_cases (dec_lt end i) (λ l. absurd (p.literals end next.from l (next_none next))) (λ l. omega arith)

    -- ... so that a 0 here is the next one ...
    pub ends_here : variable_of (literal_at ls i) ≡ 0 → i ≡ end
    ends_here z = by_cases (dec_lt i end) (λ l. absurd (next.literals i p.from l z)) (λ l. let u = upto in omega arith)

    -- ... and P holds of no variable up to it, ...
    pub passed_all : variable_of (literal_at ls i) ≡ 0 → (v : ℕ) → Has ls start end v → P v → ⊥
    passed_all z v h = p.none v (subst (λ e. Has ls start e v) (sym (ends_here z)) h)

    -- ... while a literal here stands before it.
    pub passed_one : (v : ℕ) → v ≡ variable_of (literal_at ls i) → v ≢ 0 → Has ls start end v
    passed_one v is some =
        let other : i ≢ end = λ q. some (is ∙ ap (λ e. variable_of (literal_at ls e)) q ∙ next_none next) in
        record { place = i; from = p.from; before = let u = upto in omega arith; is = sym is }
