-- The theorems of truth for a formula as lent, as a rule reads it; their proofs are in the files before.
use Prim.Native.Nat.{ℕ}
use mathlib.Core.Path.{◌≡◌, subst}
use mathlib.Core.Bool.{true}
use mathlib.Core.List.{List, []}
use mathlib.Core.Logic.{◌↔◌}
use lib.ListN.{length}
use Rattle.terms.specs.Refusals.{NoneOf}
use Rattle.terms.specs.declared.Scheme.{Scheme}
use Rattle.formula.specs.Lent.{Formula, formula_of}
use Rattle.formula_rules.specs.Rules.{read_by, ruled_prefix, check_order}
use Rattle.formula_rules.proofs.Agreement.{both_accept}
use Rattle.forest_tables.specs.Lent.{variables_of}
use Rattle.forest.specs.Answers.{DependsBy}
use Rattle.path_resolution.specs.Paths.{DependsByPaths}
use Rattle.dqbf_sets.specs.Depends.{DependsOnBy}
use Rattle.dqbf_sets.proofs.Agreement.{read_sound}
use Rattle.truth.specs.Strategies.{Assignment}
use Rattle.truth_formula.specs.Holds.{Holds, HoldsWithin, TurnsIn, GameOf}
use Rattle.truth_formula.specs.Listed.{HoldsListed, HoldsListedWithin, ListedPaths}
use Rattle.truth_formula.proofs.Turns.{game_holds}
use Rattle.truth_formula.proofs.Narrowed.{sets_all, wider_all}
use Rattle.truth_formula.proofs.Lists.{listed_sets, listed_paths}
use Rattle.truth_formula.proofs.Unlisted.{no_lists}
use Rattle.truth_formula.proofs.Computed.{won_by, holds_computed, for_all_there_is, there_is_for_all, for_all_there_is_lem, not_there_is_for_all}

module _ (rule : ℕ) (f : Formula) where
  -- the formula as the rule reads it
  abbrev read : Formula
  read = read_by rule f

  -- An accepted formula is true by strategies exactly if its game is won, whatever turns its variables have within a block and whatever values they have
  -- before; and whether it is so is computed.
  pub strategies_and_game_agree : NoneOf (check_order rule f) → (turns : List ℕ) → TurnsIn (read_by rule f) turns → (a : Assignment)
      → GameOf (read_by rule f) turns a ↔ Holds (read_by rule f)
  strategies_and_game_agree none turns order a = game_holds read order none.1.1.1.1.0 a

  pub truth_is_computed : NoneOf (check_order rule f) → (won_by (read_by rule f) ≡ true) ↔ Holds (read_by rule f)
  truth_is_computed none = holds_computed read none.1.1.1.1.0

  -- A formula is true exactly if it is with each existential allowed to depend only on those x that it may depend on and whose set has it: by the
  -- standard and by the strict scheme, and by resolution paths.
  pub sets_keep_truth : (scheme : Scheme) → Holds (read_by rule f) ↔ HoldsWithin (DependsBy scheme (read_by rule f)) (read_by rule f)
  sets_keep_truth scheme = sets_all read scheme

  pub path_sets_keep_truth : Holds (read_by rule f) ↔ HoldsWithin (DependsByPaths (variables_of (read_by rule f)) f.clauses) (read_by rule f)
  path_sets_keep_truth = wider_all read (DependsByPaths (variables_of read) f.clauses) (λ x y d. d)

  -- And so by any sets that have the resolution-path sets in them.
  pub wider_sets_keep_truth : (Set : ℕ → ℕ → Type 0) → ((x y : ℕ) → DependsByPaths (variables_of (read_by rule f)) f.clauses x y → Set x y)
      → Holds (read_by rule f) ↔ HoldsWithin Set (read_by rule f)
  wider_sets_keep_truth Set wider = wider_all read Set wider

  -- And so with dependency lists, where it may depend on the universals of its list.
  pub listed_sets_keep_truth : (ds : List ℕ) (scheme : Scheme)
      → HoldsListed (read_by rule f) ds ↔ HoldsListedWithin (DependsOnBy scheme (read_by rule f) ds) (read_by rule f) ds
  listed_sets_keep_truth ds scheme = listed_sets read ds scheme

  pub listed_path_sets_keep_truth : (ds : List ℕ) → HoldsListed (read_by rule f) ds ↔ HoldsListedWithin (ListedPaths (read_by rule f) ds) (read_by rule f) ds
  listed_path_sets_keep_truth ds = listed_paths read ds

  -- Where no list is lent an accepted formula is true with its lists exactly if it is by its prefix.
  pub no_lists_no_change : NoneOf (check_order rule f) → HoldsListed (read_by rule f) [] ↔ Holds (read_by rule f)
  no_lists_no_change none =
      no_lists read (read_sound rule f.n f.prefix (length f.clauses) (none.0, (none.1.0, (none.1.1.0, (none.1.1.1.0, tt)))))

-- Where rule 1 accepts a prefix both rules agree on the truth of the formula.
pub rules_agree_on_truth : (f : Formula) → NoneOf (ruled_prefix 1 f.n f.prefix (length f.clauses)) → Holds (read_by 1 f) ↔ Holds (read_by 2 f)
rules_agree_on_truth f none =
    subst (λ (es : List ℕ). Holds (formula_of f.n es f.clauses) ↔ Holds (read_by 2 f)) (both_accept f.n f.prefix (length f.clauses) none).1
    (λ h. h, λ h. h)

-- For all x there is a y that is equal to x, and there is no y that is equal to all x.
pub for_all_x_there_is_y : Holds for_all_there_is
for_all_x_there_is_y = for_all_there_is_lem

pub no_y_is_for_all_x : Holds there_is_for_all → ⊥
no_y_is_for_all_x h = not_there_is_for_all h
