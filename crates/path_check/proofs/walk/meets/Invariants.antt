-- The invariant: no entry from start up to i is of an existential deeper than x with the stamp.
use mathlib.Core.Path.{◌≡◌}
use lib.ListN.{get_or}
use Rattle.forest_tables.specs.InnerTabled.{tabled}
use Rattle.forest_theory.specs.Reach.{Deeper}
use Rattle.path_check.proofs.Entries.{Passing}
use Rattle.path_check.proofs.walk.meets.Given as goal

abbrev pub invariant-loop-i : goal.invariant-loop-i
invariant-loop-i l = Passing (λ v. Deeper (tabled l.n l.levels l.universals) l.x.0 v × (get_or l.stamps v 0 ≡ l.stamp)) l.clauses l.start l.i
