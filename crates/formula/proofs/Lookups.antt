-- How the clause with a given number is found: what is passed, a clause at a time.
use Prim.Native.Nat.{ℕ, zero, suc, ◌≤◌, ◌<◌, ◌+◌, ◌-◌}
use mathlib.Core.Path.{◌≡◌, refl, sym, ap, ◌∙◌}
use mathlib.Core.Bool.{Bool}
use mathlib.Core.List.{List, [], ◌∷◌}
use mathlib.Core.Logic.{◌≢◌}
use native.Mathlib.Omega.{arith}
use native.Mathlib.Nat.{add-zero}
use borrow.Author.Tests.{eq-eqb, ne_eqb}
use lib.IntN.{ℤ, pos}
use lib.ListN.{length, get_or, take, drop, length-take, length-drop}
use lib.Seq.{get_or-take, get_or-drop, drop-drop, length-take-le}
use Rattle.terms.specs.Literals.{variable_of}
use Rattle.formula.specs.Tables.{literal_at, cut}
use Rattle.formula.specs.Meaning.{clauses, is_zero}
use Rattle.formula.specs.InnerLookup.{NextZero, Stands, InRows}
use Rattle.formula.specs.Clause.{begin_of}
use Rattle.std.specs.Prelude.{None, Some}
use Rattle.formula.proofs.Cuts.{cut_closed, cut_unclosed}

is_nought : ℤ → Bool
is_nought literal = is_zero (variable_of literal)

-- an entry of what is left of a table is one of the table
at_rest : (ls : List ℤ) (start e : ℕ) → variable_of (literal_at (drop start ls) e) ≡ variable_of (literal_at ls (start + e))
at_rest ls start e = ap variable_of (get_or-drop start ls e (pos 0))

-- Up to the next 0 stands the next clause, and after it the clauses that follow.
pub clauses_closed : (ls : List ℤ) (start z : ℕ) → NextZero ls start z → z < length ls
    → clauses (drop start ls) ≡ take (z - start) (drop start ls) ∷ clauses (drop (z + 1) ls)
unfolding clauses is_nought
clauses_closed ls start z next l =
    let from = next.from in
    let there : start + (z - start) ≡ z = omega arith in
    let after : start + suc (z - start) ≡ z + 1 = omega arith in
    cut_closed is_nought (pos 0) (z - start) (drop start ls) (rw (length-drop start ls) (omega arith))
    (λ e before. ne_eqb _ 0 (λ q. next.literals (start + e) (omega arith) (omega arith) (sym (at_rest ls start e) ∙ q)))
    (eq-eqb _ 0 (at_rest ls start (z - start) ∙ ap (λ e. variable_of (literal_at ls e)) there ∙ next.closes l))
    ∙ ap (λ rest. take (z - start) (drop start ls) ∷ cut is_nought rest) (drop-drop (suc (z - start)) start ls ∙ ap (λ e. drop e ls) after)

-- Where no 0 is left, no clause is left.
pub clauses_unclosed : (ls : List ℤ) (start z : ℕ) → NextZero ls start z → length ls ≤ z → clauses (drop start ls) ≡ []
unfolding clauses is_nought
clauses_unclosed ls start z next l =
    cut_unclosed is_nought (pos 0) (drop start ls)
    (λ e before. let short = rw (length-drop start ls) at before in
    ne_eqb _ 0 (λ q. next.literals (start + e) (omega arith) (omega arith) (sym (at_rest ls start e) ∙ q)))

-- past its first element a list is its tail
after_first : {A : Type 0} (x : A) (xs : List A) (k : ℕ) (d : A) → k ≢ 0 → get_or (x ∷ xs) k d ≡ get_or xs (k - 1) d
after_first x xs zero d some = absurd (some refl)
after_first x xs (suc k) d some = let q : k ≡ suc k - 1 = omega arith in ap (λ j. get_or xs j d) q

-- past its first clause a table begins where that one ends
begin_after : (c : List ℤ) (cs : List (List ℤ)) (k : ℕ) → k ≢ 0 → begin_of (c ∷ cs) k ≡ length c + 1 + begin_of cs (k - 1)
unfolding begin_of
begin_after c cs zero some = absurd (some refl)
begin_after c cs (suc k) some = let q : k ≡ suc k - 1 = omega arith in ap (λ j. length c + 1 + begin_of cs j) q

-- The clause asked for is the one with the number `left` among those from `start` on.
pub record Passed (ls : List ℤ) (asked start left : ℕ) : Type 0 where
  pub within : start ≤ length ls
  pub count : length (clauses ls) + left ≡ asked + length (clauses (drop start ls))
  pub same : get_or (clauses ls) asked [] ≡ get_or (clauses (drop start ls)) left []
  pub begins : begin_of (clauses ls) asked ≡ start + begin_of (clauses (drop start ls)) left

module _ {ls : List ℤ} {asked start left : ℕ} (p : Passed ls asked start left) where
  -- one clause more is passed
  pub pass_clause : (z : ℕ) → NextZero ls start z → z < length ls → left ≢ 0 → Passed ls asked (z + 1) (left - 1)
  pass_clause z next l some =
      let q = clauses_closed ls start z next l in
      let shorter : length (clauses (drop start ls)) ≡ suc (length (clauses (drop (z + 1) ls))) = ap length q in
      let counted = p.count in
      let begun = p.begins in
      let over : begin_of (clauses (drop start ls)) left ≡ length (take (z - start) (drop start ls)) + 1 + begin_of (clauses (drop (z + 1) ls)) (left - 1) =
      ap (λ cs. begin_of cs left) q ∙ begin_after _ (clauses (drop (z + 1) ls)) left some in
      let from = next.from in
      let size : length (take (z - start) (drop start ls)) ≡ z - start = length-take-le _ (drop start ls) (rw (length-drop start ls) (omega arith)) in
      let rest = ap (λ cs. get_or cs left []) q ∙ after_first _ (clauses (drop (z + 1) ls)) left [] some in
      record { within = omega arith; count = omega arith; same = p.same ∙ rest; begins = omega arith }

  pub stands_here : (z : ℕ) → NextZero ls start z → z < length ls → left ≡ 0 → Stands ls asked (Some (record { start = start; end = z }))
  unfolding Stands begin_of
  stands_here z next l none =
      let q = clauses_closed ls start z next l in
      let some : length (clauses (drop start ls)) ≡ suc (length (clauses (drop (z + 1) ls))) = ap length q in
      let counted = p.count in
      let begun : begin_of (clauses ls) asked ≡ start + begin_of (clauses (drop start ls)) 0 =
      p.begins ∙ ap (λ k. start + begin_of (clauses (drop start ls)) k) none in
      let same = p.same ∙ ap (λ k. get_or (clauses (drop start ls)) k []) none ∙ ap (λ cs. get_or cs 0 []) q in
      (next.from, omega arith, omega arith, sym same, sym (begun ∙ add-zero start))

  pub stands_nowhere : clauses (drop start ls) ≡ [] → Stands ls asked None
  unfolding Stands
  stands_nowhere none = let counted = p.count in let left_none : length (clauses (drop start ls)) ≡ 0 = ap length none in omega arith

-- A clause's variables have rows, as the table's do.
pub part_rows : (ls : List ℤ) (start z : ℕ) → z ≤ length ls → InRows ls → InRows (take (z - start) (drop start ls))
part_rows ls start z l all e h =
    let short : e < z - start = omega (arith, length-take (z - start) (drop start ls), h) in
    let at : literal_at (take (z - start) (drop start ls)) e ≡ literal_at ls (start + e) =
    get_or-take (z - start) (drop start ls) e (pos 0) short ∙ get_or-drop start ls e (pos 0) in
    rw (ap variable_of at) (all (start + e) (omega arith))
