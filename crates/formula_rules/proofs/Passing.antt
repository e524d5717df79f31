-- A prefix that rule 2 accepts, entry by entry: what each entry is, and what stands before it.
use Prim.Native.Nat.{ℕ, zero, suc, ◌≤◌, ◌<◌, ◌+◌}
use mathlib.Core.Path.{◌≡◌, refl, sym, ap, ◌∙◌, subst}
use mathlib.Core.Bool.{Bool, true, false, cond, not, ◌&&◌}
use mathlib.Core.List.{List, [], ◌∷◌}
use mathlib.Core.Logic.{inl, inr, ◌≢◌}
use native.Mathlib.Decide.{ℕ_discrete, dec_le}
use native.Mathlib.Omega.{arith}
use borrow.Author.Tests.{eq-eqb, ne_eqb, lt-ltb, le-ltb}
use lib.Dec.{eqb}
use lib.ListN.{length, drop, drop_of_length-le}
use lib.Seq.{drop-cons}
use Rattle.terms.specs.Refusals.{None}
use Rattle.terms.proofs.Common.{by_test, clash}
use Rattle.formula.specs.Meaning.{has}
use Rattle.formula.specs.InnerScan.{IsMark}
use Rattle.formula.specs.Tables.{at, opens, VariableAt}
use Rattle.formula.proofs.Scanned.{open_end}
use Rattle.formula_rules.specs.Rules.{JoinedCause}
use Rattle.formula_rules.specs.InnerScan.{empty_at, begins_after, last_mark, begun_before}
use Rattle.formula_rules.proofs.Begun.{last_next, last_stays, begins_open, begins_shut, begun_next, begun_joined, scan_begins}
use Rattle.formula_rules.proofs.Scanned.{mark_some}

-- what is left of a prefix begins with 0
unfoldable pub starts_zero : List ℕ → Bool
starts_zero [] = false
starts_zero (entry ∷ more) = eqb entry 0

-- a mark with this behind it begins a block, after one with the mark `last`
abbrev pub new_mark : ℕ → ℕ → List ℕ → Bool
new_mark mark last more = not (starts_zero more) && not (eqb mark last)

-- What is left of a prefix has no fault under rule 2: by whether a block may open, the mark of the last block that is not empty, how many have
-- begun, and the variables named so far.
pub data Passes (n : ℕ) : Bool → ℕ → ℕ → List ℕ → List ℕ → Type 0 where
  no_more : {last count : ℕ} {names : List ℕ} → Passes n true last count names []
  begin : {mark last count : ℕ} {names more : List ℕ} → IsMark mark → new_mark mark last more ≡ true → count ≢ 64
      → Passes n false mark (suc count) names more → Passes n true last count names (mark ∷ more)
  go_on : {mark last count : ℕ} {names more : List ℕ} → IsMark mark → new_mark mark last more ≡ false → Passes n false last count names more
      → Passes n true last count names (mark ∷ more)
  close_block : {last count : ℕ} {names more : List ℕ} → Passes n true last count names more → Passes n false last count names (0 ∷ more)
  name : {v last count : ℕ} {names more : List ℕ} → v ≢ 0 → v ≤ n → has names v ≡ false → Passes n false last count (v ∷ names) more
      → Passes n false last count names (v ∷ more)

-- the two ways to say that a block is empty
pub starts_empty : (es : List ℕ) (i : ℕ) → starts_zero (drop (suc i) es) ≡ empty_at es i
unfolding starts_zero
starts_empty es i = go (dec_le (suc (suc i)) (length es))
  where
    go : Dec (suc i < length es) → starts_zero (drop (suc i) es) ≡ empty_at es i
    go (yes l) = ap starts_zero (drop-cons es (suc i) 0 l) ∙ sym (ap (λ b. b && eqb (at es (suc i)) 0) (lt-ltb (suc i) (length es) l))
    go (no l) =
        let past : length es ≤ suc i = omega arith in
        ap starts_zero (drop_of_length-le es past) ∙ sym (ap (λ b. b && eqb (at es (suc i)) 0) (le-ltb (suc i) (length es) past))

module _ {n : ℕ} {es : List ℕ} (none : None (JoinedCause n es)) where
  pub mark_is : (i : ℕ) → i < length es → opens es i ≡ true → IsMark (at es i)
  mark_is i more open' = go (ℕ_discrete (at es i) 1) (ℕ_discrete (at es i) 2)
    where
      go : Dec (at es i ≡ 1) → Dec (at es i ≡ 2) → IsMark (at es i)
      go (yes q) d = inl q
      go (no a) (yes q) = inr q
      go (no a) (no b) = absurd (none 4 i (JoinedCause.no_mark refl (more, open') a b))

  -- all names so far stand before entry i
  Named : ℕ → List ℕ → Type 0
  Named i names = (v : ℕ) → has names v ≡ true → (b : ℕ) × (b < i) × VariableAt es b × (at es b ≡ v)

  named_later : (i : ℕ) (names : List ℕ) → Named i names → Named (suc i) names
  unfolding Named
  named_later i names so v t = let (b, l, var, q) = so v t in (b, omega arith, var, q)

  named_here : (i : ℕ) (names : List ℕ) → VariableAt es i → Named i names → Named (suc i) (at es i ∷ names)
  unfolding Named
  named_here i names var so v t = go (ℕ_discrete (at es i) v)
    where
      go : Dec (at es i ≡ v) → (b : ℕ) × (b < suc i) × VariableAt es b × (at es b ≡ v)
      go (yes q) = (i, omega arith, var, q)
      go (no other) = named_later i names so v (sym (ap (λ b. cond b true (has names v)) (ne_eqb (at es i) v other)) ∙ t)

  -- what follows entry i, where the next state is that of the definitions
  State : ℕ → List ℕ → Type 0
  State i names = Passes n (opens es i) (last_mark es i) (begun_before es i) names (drop i es)

  after_mark : (i : ℕ) (names : List ℕ) → i < length es → opens es i ≡ true → State (suc i) names
      → Passes n true (last_mark es i) (begun_before es i) names (at es i ∷ drop (suc i) es)
  unfolding State
  after_mark i names more open' later = by_test (new_mark (at es i) (last_mark es i) (drop (suc i) es)) begun going
    where
      new_is : new_mark (at es i) (last_mark es i) (drop (suc i) es) ≡ begins_after es i (last_mark es i)
      new_is = ap (λ b. not b && not (eqb (at es i) (last_mark es i))) (starts_empty es i)

      within : i ≤ length es
      within = omega arith

      marks_some : (e : ℕ) → e < i → opens es e ≡ true → at es e ≢ 0
      marks_some e l opens-e = mark_some (at es e) (mark_is e (omega arith) opens-e)

      -- the next state by what the mark did
      next : (new : Bool) → begins_after es i (last_mark es i) ≡ new
          → Passes n false (cond new (at es i) (last_mark es i)) (cond new (suc (begun_before es i)) (begun_before es i)) names (drop (suc i) es)
      next new q =
          subst (λ (c : ℕ). Passes n false (cond new (at es i) (last_mark es i)) c names (drop (suc i) es)) (begun_next es i new (begins_open es i open' ∙ q))
          (subst (λ (l : ℕ). Passes n false l (begun_before es (suc i)) names (drop (suc i) es))
          (last_next es i open' ∙ ap (λ b. cond b (at es i) (last_mark es i)) q)
          (subst (λ (b : Bool). Passes n b (last_mark es (suc i)) (begun_before es (suc i)) names (drop (suc i) es))
          (ne_eqb (at es i) 0 (mark_some (at es i) (mark_is i more open'))) later))

      begun : new_mark (at es i) (last_mark es i) (drop (suc i) es) ≡ true → Passes n true (last_mark es i) (begun_before es i) names (at es i ∷ drop (suc i) es)
      begun q =
          let new = sym new_is ∙ q in
          begin (mark_is i more open') q (λ many. none 6 i (JoinedCause.too_many_blocks refl (more, open') (scan_begins es i within marks_some open' more new)
          (sym (begun_joined es i within marks_some open') ∙ many))) (next true new)

      going : new_mark (at es i) (last_mark es i) (drop (suc i) es) ≡ false → Passes n true (last_mark es i) (begun_before es i) names (at es i ∷ drop (suc i) es)
      going q = go_on (mark_is i more open') q (next false (sym new_is ∙ q))

  module _ (i : ℕ) (names : List ℕ) (shut : opens es i ≡ false) where
    -- inside a block nothing begins
    stays : (o : Bool) (later : List ℕ) → opens es (suc i) ≡ o → State (suc i) later → Passes n o (last_mark es i) (begun_before es i) later (drop (suc i) es)
    unfolding State
    stays o later q state =
        subst (λ (c : ℕ). Passes n o (last_mark es i) c later (drop (suc i) es)) (begun_next es i false (begins_shut es i shut))
        (subst (λ (l : ℕ). Passes n o l (begun_before es (suc i)) later (drop (suc i) es)) (last_stays es i shut)
        (subst (λ (b : Bool). Passes n b (last_mark es (suc i)) (begun_before es (suc i)) later (drop (suc i) es)) q state))

    after_close : at es i ≡ 0 → State (suc i) names → Passes n false (last_mark es i) (begun_before es i) names (at es i ∷ drop (suc i) es)
    after_close z state =
        subst (λ (e : ℕ). Passes n false (last_mark es i) (begun_before es i) names (e ∷ drop (suc i) es)) (sym z)
        (close_block (stays true names (eq-eqb (at es i) 0 z) state))

    after_name : i < length es → at es i ≢ 0 → Named i names → State (suc i) (at es i ∷ names)
        → Passes n false (last_mark es i) (begun_before es i) names (at es i ∷ drop (suc i) es)
    unfolding Named
    after_name more some so state =
        let low : ¬ (n < at es i) = λ over. none 7 i (JoinedCause.outside refl (more, shut, some) over) in
        name some (omega arith) (by_test (has names (at es i)) old (λ f. f)) (stays false (at es i ∷ names) (ne_eqb (at es i) 0 some) state)
      where
        old : has names (at es i) ≡ true → has names (at es i) ≡ false
        old t = let (b, l, var, q) = so (at es i) t in absurd (none 8 i (JoinedCause.named_before b refl (more, shut, some) l var q))

  passes_from : (m i : ℕ) (names : List ℕ) → length es ≡ i + m → Named i names → State i names
  unfolding State
  passes_from zero i names q so =
      subst (Passes n (opens es i) (last_mark es i) (begun_before es i) names) (sym (drop_of_length-le es {i = i} (omega arith)))
      (by_test (opens es i) (λ t. subst (λ (b : Bool). Passes n b (last_mark es i) (begun_before es i) names []) (sym t) no_more)
      (λ f. absurd (none 3 (length es) (JoinedCause.ends_inside refl refl (open_end es i (omega arith) f)))))
  passes_from (suc m) i names q so =
      let more : i < length es = omega arith in
      subst (Passes n (opens es i) (last_mark es i) (begun_before es i) names) (sym (drop-cons es i 0 more))
      (by_test (opens es i)
      (λ t. subst (λ (b : Bool). Passes n b (last_mark es i) (begun_before es i) names (at es i ∷ drop (suc i) es)) (sym t)
      (after_mark i names more t (passes_from m (suc i) names (omega arith) (named_later i names so))))
      (λ f. subst (λ (b : Bool). Passes n b (last_mark es i) (begun_before es i) names (at es i ∷ drop (suc i) es)) (sym f)
      (inside f (passes_from m (suc i) names (omega arith) (named_later i names so))
      (λ var. passes_from m (suc i) (at es i ∷ names) (omega arith) (named_here i names var so)) (ℕ_discrete (at es i) 0))))
    where
      inside : opens es i ≡ false → State (suc i) names → (VariableAt es i → State (suc i) (at es i ∷ names)) → Dec (at es i ≡ 0)
          → Passes n false (last_mark es i) (begun_before es i) names (at es i ∷ drop (suc i) es)
      inside f closed named (yes z) = after_close i names f z closed
      inside f closed named (no some) = let more : i < length es = omega arith in after_name i names f more some so (named (more, f, some))

  -- So a prefix that has no cause passes.
  pub passes : Passes n true 0 0 [] es
  unfolding State Named
  passes = passes_from (length es) 0 [] (omega arith) (λ v t. absurd (clash t refl))
