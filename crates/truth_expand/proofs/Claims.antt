-- The theorems of truth for expanding; their proofs are in the files before.
use Rattle.terms.specs.Says.{Answer}
use Rattle.std.specs.Prelude.{Ok}
use Rattle.terms.specs.declared.Counts.{Counts}
use Prim.Native.Nat.{ℕ}
use mathlib.Core.Path.{◌≡◌, refl, subst}
use mathlib.Core.Bool.{true}
use mathlib.Core.List.{List, [], ◌∷◌}
use mathlib.Core.Logic.{◌↔◌}
use lib.ListN.{length}
use Rattle.terms.specs.Listed.{Listed}
use Rattle.terms.specs.Refusals.{NoneOf}
use Rattle.terms.specs.declared.Scheme.{Scheme}
use Rattle.terms.specs.declared.Scheme.TheVariants.{Standard}
use Rattle.terms.proofs.Common.{by_test}
use Rattle.formula.specs.Lent.{Formula}
use Rattle.formula_rules.specs.Rules.{read_by, ruled_prefix, check_order}
use Rattle.forest_tables.specs.Formula.{universal}
use Rattle.forest_tables.specs.Lent.{variables_of}
use Rattle.forest.specs.Answers.{DependsBy}
use Rattle.path_resolution.specs.Paths.{DependsByPaths}
use Rattle.dqbf_sets.proofs.Agreement.{read_sound}
use Rattle.expand.specs.Promise.{ResultTables, expanded_by, OfExpanded, expand_order, LeavesFormula, Expands}
use Rattle.expand.proofs.Accepted.{written, result_is}
use Rattle.truth_formula.specs.Holds.{Holds}
use Rattle.truth_expand.specs.Serves.{Serves}
use Rattle.truth_expand.specs.Story.{story, FoundTooFarIn}
use Rattle.truth_expand.proofs.Expanded.{expansion_holds}
use Rattle.truth_expand.proofs.Serving.{sets_serve, paths_serve}
use Rattle.truth_expand.proofs.StoryTold.{story_holds, story_set, story_too_far_in, right_holds, wrong_fails}

-- The sets by either scheme serve, and so do the resolution-path sets.
pub sets_serve_for_expanding : (scheme : Scheme) (f : Formula) (x : ℕ) (members : List ℕ) → universal f.n f.prefix x ≡ true
    → Listed (DependsBy scheme f x) members → Serves f x members
sets_serve_for_expanding scheme f x members u set = sets_serve f x u scheme members set

pub path_sets_serve_for_expanding : (f : Formula) (x : ℕ) (members : List ℕ) → universal f.n f.prefix x ≡ true
    → Listed (DependsByPaths (variables_of f) f.clauses x) members → Serves f x members
path_sets_serve_for_expanding f x members u set = paths_serve f x u members set

module _ (rule : ℕ) (f : Formula) (x : ℕ) where
  -- A formula that is accepted holds, as the rule reads it, exactly if it does with a universal expanded by members that serve.
  pub expanding_keeps_truth : NoneOf (check_order rule f) → universal f.n (read_by rule f).prefix x ≡ true
      → (members : List ℕ) → Serves (read_by rule f) x members → Holds (read_by rule f) ↔ Holds (expanded_by (read_by rule f) x members)
  expanding_keeps_truth none u members serves =
      let first : NoneOf (ruled_prefix rule f.n f.prefix (length f.clauses)) = (none.0, (none.1.0, (none.1.1.0, (none.1.1.1.0, tt)))) in
      expansion_holds (read_by rule f) x members u serves (read_sound rule f.n f.prefix (length f.clauses) first) none.1.1.1.1.0

  -- What is written where nothing is refused, read as a formula, holds exactly if what was lent does.
  pub written_keeps_truth : (out out' : ResultTables) (count entries literals : ℕ) → NoneOf (expand_order rule f x out)
      → OfExpanded (read_by rule f) x (LeavesFormula out out' count entries literals) → Holds (read_by rule f) ↔ Holds (written out' count entries literals)
  written_keeps_truth out out' count entries literals none (members, set, leaves) =
      let checked : NoneOf (check_order rule f) = (none.0, (none.1.0, (none.1.1.0, (none.1.1.1.0, (none.1.1.1.1.0, tt))))) in
      let u : universal f.n (read_by rule f).prefix x ≡ true =
      by_test (universal f.n (read_by rule f).prefix x) (λ t. t) (λ q. absurd (none.1.1.1.1.1.0 13 0 (refl, refl, q))) in
      subst (λ (g : Formula). Holds (read_by rule f) ↔ Holds g) (result_is out out' count entries literals (expanded_by (read_by rule f) x members) leaves)
      (expanding_keeps_truth checked u members (sets_serve (read_by rule f) x u Standard members set))

  -- So by the promise of the call.
  pub expand_keeps_truth : (out out' : ResultTables) (counts : Counts) → Expands rule f x out out' (Ok counts)
      → Holds (read_by rule f) ↔ Holds (written out' counts.n counts.prefix counts.clauses)
  expand_keeps_truth out out' counts (none, leaves) = written_keeps_truth out out' counts.n counts.prefix counts.clauses none leaves

-- The story: a true formula, of which the set of 1 is 2 and 4; a search that starts one existential block too far in finds 4 alone. Expanded by the set
-- the formula stays true, and expanded by what is found too far in it is false.
pub record StoryTold : Type 0 where
  pub holds : Holds story
  pub set : Listed (DependsBy Standard story 1) (2 ∷ 4 ∷ [])
  pub too_far_in : Listed (FoundTooFarIn story 1) (4 ∷ [])
  pub expanded_by_the_set : Holds (expanded_by story 1 (2 ∷ 4 ∷ []))
  pub expanded_by_too_few : Holds (expanded_by story 1 (4 ∷ [])) → ⊥

pub one_block_too_far_in_changes_truth : StoryTold
one_block_too_far_in_changes_truth =
    record {
      holds = story_holds;
      set = story_set;
      too_far_in = story_too_far_in;
      expanded_by_the_set = right_holds;
      expanded_by_too_few = wrong_fails;
    }
