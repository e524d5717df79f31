-- The invariant: nothing fails before entry i, and the stamps are those of the clause before it (Walked).
use Rattle.forest_tables.specs.InnerTabled.{tabled}
use Rattle.path_check.specs.Causes.{PathCause}
use Rattle.path_check.specs.InnerWalk.{Walked}
use Rattle.path_check.proofs.Following.{Clean}
use Rattle.path_check.proofs.walk.follow.Given as goal

abbrev pub invariant-loop-i : goal.invariant-loop-i
invariant-loop-i l = record {
  walked : Walked l.clauses l.path l.stamps l.i;
  clean : Clean (PathCause (tabled l.n l.levels l.universals) l.clauses l.x.0 l.y.0 l.path) l.i;
}
