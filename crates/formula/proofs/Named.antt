-- The table of the variables that a prefix names before entry i, which the scans by either reading rule keep, and how it goes on.
use Prim.Native.Nat.{ℕ, zero, suc, ◌≤◌, ◌<◌}
use mathlib.Core.Path.{◌≡◌, refl, sym, ap, ◌∙◌}
use mathlib.Core.Bool.{Bool, true, false}
use mathlib.Core.List.{List}
use native.Mathlib.Decide.{ℕ_discrete}
use native.Mathlib.Omega.{arith}
use lib.ListN.{length, get_or, set, length-set, replicate, length-replicate}
use lib.Seq.{get_or-set_same, get_or-set_other}
use Rattle.terms.proofs.Common.{below_suc, clash}
use Rattle.formula.specs.Tables.{at, VariableAt}

pub record Named (es : List ℕ) (i : ℕ) (named : List Bool) : Type 0 where
  pub size : length named ≡ 4097
  pub names : (v : ℕ) → get_or named v false ≡ true → (b : ℕ) × (b < i) × VariableAt es b × (at es b ≡ v)
  pub all : (b : ℕ) → b < i → VariableAt es b → get_or named (at es b) false ≡ true

pub unnamed : (m v : ℕ) → get_or (replicate m false) v false ≡ false
unnamed zero v = refl
unnamed (suc m) zero = refl
unnamed (suc m) (suc v) = unnamed m v

pub named_none : (es : List ℕ) → Named es 0 (replicate 4097 false)
named_none es = record { size = length-replicate 4097 false; names = λ v t. absurd (clash t (unnamed 4097 v)); all = λ b l. absurd (omega arith) }

module _ {es : List ℕ} {i : ℕ} {named : List Bool} (s : Named es i named) where
  -- An entry that is no variable names none.
  pub named_skip : (VariableAt es i → ⊥) → Named es (suc i) named
  named_skip other = record {
    size = s.size;
    names = λ v t. let (b, l, var, q) = s.names v t in (b, omega arith, var, q);
    all = below_suc (λ b. VariableAt es b → get_or named (at es b) false ≡ true) i s.all (λ var. absurd (other var));
  }

  -- A variable is named from now on.
  pub named_more : VariableAt es i → at es i ≤ 4096 → Named es (suc i) (set named (at es i) true)
  named_more here fits = record {
    size = length-set named (at es i) true ∙ s.size;
    names = λ v t. by_dec v t (ℕ_discrete v (at es i));
    all = below_suc (λ b. VariableAt es b → get_or (set named (at es i) true) (at es b) false ≡ true) i
        (λ b l var. kept (at es b) (s.all b l var) (ℕ_discrete (at es b) (at es i))) (λ _. stored);
  }
    where
      stored : get_or (set named (at es i) true) (at es i) false ≡ true
      stored = get_or-set_same named (at es i) true false (let q = s.size in omega arith)

      kept : (v : ℕ) → get_or named v false ≡ true → Dec (v ≡ at es i) → get_or (set named (at es i) true) v false ≡ true
      kept v t (yes q) = ap (λ w. get_or (set named (at es i) true) w false) q ∙ stored
      kept v t (no other) = get_or-set_other named (at es i) v true false other ∙ t

      by_dec : (v : ℕ) → get_or (set named (at es i) true) v false ≡ true → Dec (v ≡ at es i) → (b : ℕ) × (b < suc i) × VariableAt es b × (at es b ≡ v)
      by_dec v t (yes q) = (i, omega arith, here, sym q)
      by_dec v t (no other) =
          let (b, l, var, q) = s.names v (sym (get_or-set_other named (at es i) v true false other) ∙ t) in (b, omega arith, var, q)
