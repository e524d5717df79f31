-- What antt computes of formula A as lent, also with a clause put last: that check accepts it, its forest, its sets, its climbs.
use Prim.Native.Nat.{ℕ, suc, ◌<◌}
use mathlib.Core.Path.{◌≡◌, refl}
use mathlib.Core.Bool.{true}
use mathlib.Core.List.{List, [], ◌∷◌}
use lib.Dec.{lit≤}
use lib.IntN.{ℤ}
use lib.ListN.{length}
use Rattle.terms.specs.Refusals.{NoneOf}
use Rattle.formula_rules.specs.Rules.{check_order}
use Rattle.formula_rules.proofs.Orders.{rule_one_accepts}
use Rattle.forest_tables.specs.Lent.{rows}
use Rattle.formula.specs.Meaning.{blocks, clauses, level, is_universal, is_existential, opposite, denied, always_true, connected}
use Rattle.formula.specs.InnerLevels.{free_level}
use Rattle.formula.specs.Tables.{cut}
use Rattle.formula.proofs.Accepts.{good_mark, prefix_passes, clauses_pass, accepts}
use Rattle.forest_theory.specs.Reach.{Variables}
use Rattle.forest_theory.specs.Tables.{row, lent}
use Rattle.forest_theory.specs.InnerClimb.{climb_by, climb}
use Rattle.forest_theory.specs.InnerSearch.{has, meets, keep, put_back, find, see, spread, reached, is_from, sift, set_of}
use Rattle.forest_theory.specs.InnerFusing.{fill, classes_up, marks, goes_before, under, fuse_class, fuse_parent, table_of, rows_by, fuse_marks}
use Rattle.forest_theory.specs.InnerFusing.{fuse, fuse_all, singles, forest_of, count_of, counts_of}
use Rattle.forest_theory.specs.Counts.{how_many, names_itself}
use Rattle.forest_tables.specs.Formula.{variables, universal, joined}
use Rattle.grow.specs.Grown.{Standing, standing, forest_in, with_last}
use Rattle.grow.specs.InnerTallies.{many}
use Rattle.grow.specs.InnerTallies.{SumsUp}
use Rattle.grow_cases.specs.FormulaA.{prefix_a, clauses_a, with_clauses, tally, stand_a, stand79, stand12, stand_none, clause79, clause58, clause12}
use Rattle.grow_cases.specs.Cases.{lengthened}

-- The variables of A.
abbrev pub A : Variables
A = variables 9 prefix_a

-- The rows are the computed forest of the clauses, one for each variable, with its computed counts and the tally of the clauses.
pub record ForestRows (X : Variables) (ls : List ℤ) (s : Standing) : Type 0 where
  pub computed : forest_of X (joined ls) ≡ record { classes = s.rows.classes; parents = s.rows.parents }
  pub counted : counts_of X (forest_in X s) ≡ s.rows.counts
  pub tallied : SumsUp X (many ls) s
  pub long : (length s.rows.classes ≡ X.count) × (length s.rows.parents ≡ X.count) × (length s.rows.counts ≡ X.count)

-- A with {5 8} added, of which rule 17.1 lists no rows.
abbrev pub stand58 : Standing
stand58 =
    standing (rows (1 ∷ 2 ∷ 0 ∷ 4 ∷ 4 ∷ 0 ∷ 7 ∷ 8 ∷ 9 ∷ []) (0 ∷ 0 ∷ 0 ∷ 1 ∷ 0 ∷ 0 ∷ 4 ∷ 4 ∷ 4 ∷ []) (6 ∷ 1 ∷ 0 ∷ 5 ∷ 0 ∷ 0 ∷ 1 ∷ 1 ∷ 1 ∷ [])) (tally 6 1 6)

-- Check accepts A under rule 1, and A with either clause put last.
pub record Accepted : Type 0 where
  pub own : NoneOf (check_order 1 (with_clauses clauses_a))
  pub with79 : NoneOf (check_order 1 (with_clauses (with_last clauses_a clause79)))
  pub with58 : NoneOf (check_order 1 (with_clauses (with_last clauses_a clause58)))

pub accepted : Accepted
unfolding good_mark prefix_passes clauses_pass
accepted =
    record {
      own = rule_one_accepts (with_clauses clauses_a) (accepts 9 prefix_a clauses_a (lit≤ tt) (lit≤ tt) (lit≤ tt) refl refl);
      with79 =
          rule_one_accepts (with_clauses (with_last clauses_a clause79)) (accepts 9 prefix_a (with_last clauses_a clause79) (lit≤ tt) (lit≤ tt) (lit≤ tt) refl refl);
      with58 =
          rule_one_accepts (with_clauses (with_last clauses_a clause58)) (accepts 9 prefix_a (with_last clauses_a clause58) (lit≤ tt) (lit≤ tt) (lit≤ tt) refl refl);
    }

-- The forest of A, and of A with a clause put last.
pub record Forests : Type 0 where
  pub own : ForestRows A clauses_a stand_a
  pub with79 : ForestRows A (with_last clauses_a clause79) stand79
  pub with58 : ForestRows A (with_last clauses_a clause58) stand58
  pub with12 : ForestRows A (with_last clauses_a clause12) stand12
  pub with_none : ForestRows A (with_last clauses_a []) stand_none

pub forests : Forests
unfolding blocks clauses opposite denied always_true connected free_level level is_universal is_existential cut row lent has fill classes_up marks
    goes_before under fuse_class fuse_parent table_of rows_by fuse_marks fuse fuse_all singles forest_of count_of counts_of how_many names_itself joined
forests = record {
  own = record { computed = refl; counted = refl; tallied = record { clauses = refl; classes = refl; merges = refl }; long = (refl, refl, refl) };
  with79 = record { computed = refl; counted = refl; tallied = record { clauses = refl; classes = refl; merges = refl }; long = (refl, refl, refl) };
  with58 = record { computed = refl; counted = refl; tallied = record { clauses = refl; classes = refl; merges = refl }; long = (refl, refl, refl) };
  with12 = record { computed = refl; counted = refl; tallied = record { clauses = refl; classes = refl; merges = refl }; long = (refl, refl, refl) };
  with_none = record { computed = refl; counted = refl; tallied = record { clauses = refl; classes = refl; merges = refl }; long = (refl, refl, refl) };
}

-- The sets of 3 and 6.
pub record Sets : Type 0 where
  pub of_3 : set_of A (joined clauses_a) 3 ≡ 4 ∷ 7 ∷ 8 ∷ []
  pub of_6 : set_of A (joined clauses_a) 6 ≡ 9 ∷ []
  pub of_3_with79 : set_of A (joined (with_last clauses_a clause79)) 3 ≡ 4 ∷ 5 ∷ 7 ∷ 8 ∷ 9 ∷ []
  pub of_6_with79 : set_of A (joined (with_last clauses_a clause79)) 6 ≡ 7 ∷ 9 ∷ []
  pub of_3_with58 : set_of A (joined (with_last clauses_a clause58)) 3 ≡ 4 ∷ 5 ∷ 7 ∷ 8 ∷ 9 ∷ []
  pub of_6_with58 : set_of A (joined (with_last clauses_a clause58)) 6 ≡ 9 ∷ []

pub sets_A : Sets
unfolding blocks clauses opposite denied always_true connected free_level level is_universal is_existential cut has meets keep put_back find see spread reached is_from sift set_of joined
sets_A = record { of_3 = refl; of_6 = refl; of_3_with79 = refl; of_6_with79 = refl; of_3_with58 = refl; of_6_with58 = refl }

-- The entry point of a universal x for a deeper existential y, whatever stands past row 9: where the climb ends.
pub record Climbs (more more' more'' : List ℕ) (x y e rises : ℕ) : Type 0 where
  pub of_universal : universal 9 prefix_a x ≡ true
  pub for_existential : is_existential 9 prefix_a y ≡ true
  pub deeper : level prefix_a x < level prefix_a y
  pub ends : let W = forest_in A (lengthened stand_a more more' more'') in climb A W (suc (level prefix_a x)) (W.cls y) 0 ≡ record { top = e; rises = rises }

pub climb_3_8 : (more more' more'' : List ℕ) → Climbs more more' more'' 3 8 4 1
unfolding blocks free_level level is_universal is_existential cut row lent climb_by climb universal
climb_3_8 more more' more'' = record { of_universal = refl; for_existential = refl; deeper = lit≤ tt; ends = refl }

pub climb_6_9 : (more more' more'' : List ℕ) → Climbs more more' more'' 6 9 9 0
unfolding blocks free_level level is_universal is_existential cut row lent climb_by climb universal
climb_6_9 more more' more'' = record { of_universal = refl; for_existential = refl; deeper = lit≤ tt; ends = refl }
