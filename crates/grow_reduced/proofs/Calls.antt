-- The calls with a clause table and with a reduction of it, both of which check accepts: from the same lent tables they answer the same and leave the
-- same in every row. So a plan is shared: the forest built of the one serves the other, and so do its sets.
use Prim.Native.Nat.{ℕ}
use mathlib.Core.Path.{◌≡◌, ◌∙◌}
use mathlib.Core.List.{List, [], ◌∷◌, ◌++◌}
use mathlib.Core.Logic.Iff
use mathlib.Core.Logic.{◌↔◌}
use lib.IntN.{ℤ}
use Rattle.std.specs.Prelude.{Ok, Err}
use Rattle.terms.specs.Answers.{TooLong, Listing}
use Rattle.terms.specs.Listed.{Listed}
use Rattle.terms.specs.Refusals.{Causes, At0, NoneOf}
use Rattle.terms.specs.Says.{Answer}
use Rattle.terms.specs.declared.Scheme.{Scheme}
use Rattle.terms.proofs.Answers.{listed-as}
use Rattle.terms.proofs.Orders.{Carries, carry_judged, same_order, one_more, behind}
use Rattle.formula.specs.Lent.{Formula, formula_of}
use Rattle.formula_rules.specs.Rules.{read_as, check_order}
use Rattle.forest_tables.specs.Formula.{variables, Shares}
use Rattle.forest_tables.specs.Lent.{Rows}
use Rattle.forest_tables.specs.Causes.{ForestCause}
use Rattle.forest.specs.Causes.{NotUniversal, ask_order, list_order}
use Rattle.forest.specs.InnerOrders.{behind_check}
use Rattle.forest.specs.Answers.{EntriesBy, MembersBy, EntriesListed, SetListed, Sized}
use Rattle.forest.proofs.Demands.{list_settled, size_settled}
use Rattle.grow.specs.Grown.{Standing, TooShort, Tallies, Leaves, build_order, Builds}
use Rattle.grow.proofs.Taking.{tallies_sum, sum_tallies}
use Rattle.forest_tables.proofs.Agreeing.{lawful}
use Rattle.grow.proofs.Tight.{build_tight}
use Rattle.grow_reduced.specs.Reduced.{Reduction}
use Rattle.grow_reduced.proofs.Clauses.{reduction_many}
use Rattle.grow_reduced.proofs.Orders.{carry_over, filling_over}
use Rattle.grow_reduced.proofs.Plans.{same_forest, same_entries, same_members, same_size}

module _ (rule n : ℕ) (es : List ℕ) {ls ls' : List ℤ} (reduction : Reduction (variables n (read_as rule es)) ls ls')
    (accepted : NoneOf (check_order rule (formula_of n es ls))) (accepted' : NoneOf (check_order rule (formula_of n es ls'))) where
  -- the two formulas, and the prefix as the rule reads it
  abbrev f : Formula
  f = formula_of n es ls

  abbrev f' : Formula
  f' = formula_of n es ls'

  abbrev read : List ℕ
  read = read_as rule es

  -- What carries over does so behind check.
  after_check : {more more' : List Causes} → Carries more more' → Carries (check_order rule f ++ more) (check_order rule f' ++ more')
  after_check over = carry_over (check_order rule f) (check_order rule f') accepted accepted' over

  module _ (r : Rows) (x : ℕ) where
    -- A call that lists for x.
    list_over : {P P' : ℕ → Type 0} → ((v : ℕ) → P v ↔ P' v) → (before after : List ℕ) (a : Answer ℕ)
        → Listing (list_order rule f r x P before) P before after a → Listing (list_order rule f' r x P' before) P' before after a
    list_over {P} {P'} same before =
        filling_over (Listed P) (Listed P')
        (after_check (behind (ForestCause n read r ∷ At0 13 (NotUniversal n read x) ∷ [])
        (one_more (At0 14 (TooLong P before)) (At0 14 (TooLong P' before)) (λ k p c. (c.0, c.1, longer same c.2))
        (λ k p c. (c.0, c.1, longer (λ v. Iff.symm (same v)) c.2)) (same_order []))))
        (λ list. listed-as same) before
      where
        longer : {Q Q' : ℕ → Type 0} → ((v : ℕ) → Q v ↔ Q' v) → TooLong Q before → TooLong Q' before
        longer same (list, listed, long) = (list, listed-as same listed, long)

    module _ (scheme : Scheme) where
      -- The entry points and the set of x, by either scheme: the same answer, and the same entries afterwards.
      pub same_entries_listed : (before after after' : List ℕ) (a b : Answer ℕ)
          → EntriesListed rule scheme f r x before after a → EntriesListed rule scheme f' r x before after' b → (a ≡ b) × (after ≡ after')
      same_entries_listed before after after' a b told told' =
          list_settled rule f' r x (λ g. EntriesBy scheme g r x) before after after' a b (list_over (same_entries n read reduction r scheme x) before after a told) told'

      pub same_set_listed : (before after after' : List ℕ) (a b : Answer ℕ)
          → SetListed rule scheme f r x before after a → SetListed rule scheme f' r x before after' b → (a ≡ b) × (after ≡ after')
      same_set_listed before after after' a b told told' =
          list_settled rule f' r x (λ g. MembersBy scheme g r x) before after after' a b (list_over (same_members n read reduction r scheme x) before after a told) told'

      -- The size of the set.
      sized_over : (a : Answer ℕ) → Sized rule scheme f r x a → Sized rule scheme f' r x a
      sized_over = go
        where
          over : Carries (ask_order rule f r x) (ask_order rule f' r x)
          over = after_check (same_order (behind_check n read r x))

          go : (a : Answer ℕ) → Sized rule scheme f r x a → Sized rule scheme f' r x a
          go (Ok size) (none, is) = (over.none none, (same_size n read reduction r scheme x size).0 is)
          go (Err refusal) (first, none) = (over.first _ _ first, none)

      pub same_size_told : (a b : Answer ℕ) → Sized rule scheme f r x a → Sized rule scheme f' r x b → a ≡ b
      same_size_told a b told told' = size_settled rule f' r x scheme a b (sized_over a told) told'

  -- Build: the same answer, and the same class names, parents, counts and tally afterwards.
  built_over : {s s' : Standing} (a : Answer ℕ) → Builds rule f s s' a → Builds rule f' s s' a
  built_over {s} {s'} a built =
      record {
        judged = carry_judged (build_order rule f s) (build_order rule f' s) (after_check (same_order (At0 14 (TooShort n s) ∷ []))) a built.judged;
        leaves = go a built.leaves;
      }
    where
      go : (a : Answer ℕ) → Leaves (variables n read) (Shares ls) (Tallies (variables n read) ls) s s' a
          → Leaves (variables n read) (Shares ls') (Tallies (variables n read) ls') s s' a
      go (Ok k) (is, grown, tally) =
          let law = lawful n read in
          let forest = (same_forest n read reduction).0 grown.forest in
          let t = tallies_sum law ls s' grown.forest tally in (
            is,
            record { past = grown.past; forest = forest; counted = grown.counted },
            sum_tallies law ls' s' forest (record { clauses = t.clauses ∙ reduction_many reduction; classes = t.classes; merges = t.merges }),
          )
      go (Err refusal) stays = stays

  pub same_build : {s s' s'' : Standing} (a b : Answer ℕ) → Builds rule f s s' a → Builds rule f' s s'' b → (a ≡ b) × (s' ≡ s'')
  same_build a b built built' = build_tight f' a b (built_over a built) built'
