-- The computed counts are right: every well-formed table has counts.
use Prim.Native.Nat.{ℕ}
use mathlib.Core.Path.{◌≡◌, sym, ◌∙◌, subst}
use mathlib.Core.Bool.{true, false, ◌&&◌, false≢true}
use native.Mathlib.Omega.{arith}
use Rattle.forest_theory.specs.Reach.{Variables}
use Rattle.forest_theory.specs.InnerVariables.{Lawful}
use Rattle.forest_theory.specs.Tables.{Table, row, WellFormed}
use Rattle.forest_theory.specs.Counts.{Numbered, Within, Counted}
use Rattle.forest_theory.specs.InnerSearch.{has}
use Rattle.forest_theory.specs.InnerFusing.{classes_up, count_of, counts_of}
use Rattle.forest_theory.proofs.Choice.{both}
use Rattle.forest_theory.proofs.Search.{has_member_lem, member_has}
use Rattle.forest_theory.proofs.Climb.{above_falls}
use Rattle.forest_theory.proofs.Fusing.{up_member, member_up, row_all}
use Rattle.forest_theory.proofs.Numbered.{numbered_one, numbered_none, numbered_same, how_many_numbered}
use Rattle.forest_theory.proofs.Counts.{row_number, within_name}

module _ {X : Variables} {W : Table} (lawful : Lawful X) (formed : WellFormed X W) where
  -- The computed count is the number of variables in the class and below.
  count_number : (c : ℕ) → Numbered (Within X W c) (count_of X W c)
  unfolding count_of
  count_number c = numbered_same (λ v. (λ p. found v p.2, λ w. let (a, b) = lawful.within v w.existential in (a, b, passes v w)))
      (how_many_numbered (λ v. X.ex v && has c (classes_up W (X.lev v) (W.cls v))) X.count)
    where
      found : (v : ℕ) → (X.ex v && has c (classes_up W (X.lev v) (W.cls v))) ≡ true → Within X W c v
      found v t =
          let (e, h) = both (X.ex v) (has c (classes_up W (X.lev v) (W.cls v))) t in
          let (k, a) = member_up (X.lev v) (W.cls v) (has_member_lem (classes_up W (X.lev v) (W.cls v)) h) in
          record { existential = e; rises = k; above = a }

      passes : (v : ℕ) → Within X W c v → (X.ex v && has c (classes_up W (X.lev v) (W.cls v))) ≡ true
      passes v w = rw w.existential (member_has (up_member (X.lev v) w.above
          (omega (arith, above_falls formed w.above, ((formed.right v).class w.existential).block))))

  -- So the computed counts are right.
  pub counts_counted : Counted X W (row X.count (counts_of X W))
  unfolding counts_of
  counts_counted = record { right = λ v. (row_number formed).1 (subst (Numbered (Within X W v)) (sym (row_all lawful (count_of X W) zeros v)) (count_number v)) }
    where
      zeros : (v : ℕ) → X.ex v ≡ false → count_of X W v ≡ 0
      zeros v u = numbered_one (count_number v) (numbered_none (λ y w. false≢true (sym u ∙ (within_name formed w).existential)))
