-- Add with a clause and with the same clause reduced: from the same lent tables, well formed or not, and the same tally they answer the same and leave
-- the same.
use Prim.Native.Nat.{ℕ, ◌≤◌}
use mathlib.Core.Path.{◌≡◌}
use mathlib.Core.List.{List, [], ◌∷◌, ◌++◌}
use mathlib.Core.Logic.{◌⊎◌, inl, ⊎_elim}
use native.Mathlib.Omega.{arith}
use lib.IntN.{ℤ}
use lib.ListN.{length}
use Rattle.std.specs.Prelude.{Ok, Err}
use Rattle.terms.specs.Limits.{clause_entries}
use Rattle.terms.specs.Refusals.{At0, None}
use Rattle.terms.specs.Says.{Answer}
use Rattle.terms.proofs.Orders as order
use Rattle.terms.proofs.Orders.{carry_judged, one_more, same_order}
use Rattle.formula.specs.Meaning.{connected}
use Rattle.forest_theory.specs.Reach.{Variables, Joined}
use Rattle.forest_theory.specs.Tables.{joins}
use Rattle.forest_theory.specs.InnerGrowth.{before, added, Added}
use Rattle.forest_theory.proofs.Reach.{joined_added}
use Rattle.forest_tables.specs.Formula.{variables}
use Rattle.forest_tables.specs.Causes.{ForestCause}
use Rattle.forest_tables.proofs.Agreeing.{lawful}
use Rattle.formula.specs.Causes.{VariableCount, PrefixLong, ClausesLong}
use Rattle.formula_rules.specs.Rules.{read_as, PrefixCauseBy, NoRule}
use Rattle.grow_refusals.specs.Admitted.{AddedCause}
use Rattle.grow.specs.Grown.{Standing, forest_in, TallyCause, Extended, Took, Leaves, add_order, Adds}
use Rattle.grow.proofs.Tight.{add_tight}
use Rattle.grow_reduced.specs.Reduced.{reduced_clause}
use Rattle.grow_reduced.proofs.Carried.{Step, Carries, forest_carried}
use Rattle.grow_reduced.proofs.Clauses.{Gives, gives_reduced, reduced_gives, gives_joined}
use Rattle.grow_reduced.proofs.Accepted.{reduced_length, reduced_first}

-- Joins with a clause added carry over to those with one that gives what it gives.
added_carried : {X : Variables} (js : List (List ℕ)) {c d : List ℤ} → Gives X c d
    → Carries X (Joined (js ++ (connected c ∷ []))) (Joined (js ++ (connected d ∷ [])))
added_carried {X} js {c} {d} g = record { carried = λ a b s j. (joined_added a b).1 (go a b s ((joined_added a b).0 j)) }
  where
    go : (a b : ℕ) → Step X a b → Added (Joined js) (connected c) a b → Added (Joined js) (connected d) a b
    go a b s (before j) = before j
    go a b s (added l r) = let (left, right) = gives_joined g a b s l r in added left right

module _ (rule n : ℕ) (es : List ℕ) (clause : List ℤ) (few : length clause ≤ clause_entries) (first : None (AddedCause n clause)) where
  abbrev read : List ℕ
  read = read_as rule es

  abbrev X : Variables
  X = variables n read

  -- the clause reduced
  abbrev reduced : List ℤ
  reduced = reduced_clause X clause

  adds_over : {s s' : Standing} (a : Answer ℕ) → Adds rule n es s clause s' a → Adds rule n es s reduced s' a
  adds_over {s} {s'} a added' =
      record { judged = carry_judged (add_order rule n es s clause) (add_order rule n es s reduced) over a added'.judged; leaves = go a added'.leaves }
    where
      -- the lengths, and the literals, of neither clause are refused
      over : order.Carries (add_order rule n es s clause) (add_order rule n es s reduced)
      over =
          one_more (At0 23 (NoRule rule)) (At0 23 (NoRule rule)) (λ k p c. c) (λ k p c. c)
          (one_more (VariableCount n) (VariableCount n) (λ k p c. c) (λ k p c. c)
          (one_more (At0 2 (PrefixLong es ⊎ ClausesLong (length clause))) (At0 2 (PrefixLong es ⊎ ClausesLong (length reduced)))
          (λ k p c. (c.0, c.1, ⊎_elim inl (λ over. absurd (omega arith)) c.2))
          (λ k p c. let short = reduced_length X clause in (c.0, c.1, ⊎_elim inl (λ over. absurd (omega arith)) c.2))
          (one_more (PrefixCauseBy rule n es) (PrefixCauseBy rule n es) (λ k p c. c) (λ k p c. c)
          (one_more (AddedCause n clause) (AddedCause n reduced) (λ k p c. absurd (first k p c)) (λ k p c. absurd (reduced_first n read clause first k p c))
          (same_order (ForestCause n read s.rows ∷ TallyCause X s ∷ []))))))

      go : (a : Answer ℕ) → Leaves X (Extended X (forest_in X s) clause) (Took X s) s s' a → Leaves X (Extended X (forest_in X s) reduced) (Took X s) s s' a
      go (Ok k) (is, grown, took) =
          let js = joins X (forest_in X s) in
          let forest = forest_carried (lawful n read) (added_carried js (gives_reduced clause)) (added_carried js (reduced_gives clause)) grown.forest in
          (is, record { past = grown.past; forest = forest; counted = grown.counted }, took)
      go (Err refusal) stays = stays

  -- A clause that may be added, and the same clause reduced.
  pub same_add : {s s' s'' : Standing} (a b : Answer ℕ) → Adds rule n es s clause s' a → Adds rule n es s reduced s'' b → (a ≡ b) × (s' ≡ s'')
  same_add a b told told' = add_tight es a b (adds_over a told) told'
