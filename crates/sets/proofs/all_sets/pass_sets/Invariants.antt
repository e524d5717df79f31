-- What is put for the universals up to a number is their list (PutAll). Each step adds the record of a universal (put_next) or nothing (put_other), and
-- the tops, their runs and the places stay right for the level that they are over.
use Prim.Native.Nat.{◌+◌, ◌-◌, ◌≤◌}
use Rattle.sets_subtrees.specs.InnerRuns.{Floored}
use Rattle.sets_record.specs.InnerPlaces.{Placed}
use Rattle.sets.specs.InnerPassed.{SetsUpto, PutAll}
use Rattle.sets.proofs.all_sets.pass_sets.Given as goal

abbrev pub invariant-loop-number : goal.invariant-loop-number
invariant-loop-number l = record {
  most : l.number ≤ l.pass.n + 1;
  floored : Floored l.pass.n l.prefix l.classes l.parents l.floor.level.0 l.floor.place l.floor.from l.tops l.lead l.after;
  placed : Placed l.pass.n l.tops l.places l.out l.end;
  put : PutAll (SetsUpto l.pass.scheme l.pass.n l.prefix l.clauses l.classes l.parents (l.number - 1)) l.pass.writing l.initial.out l.out l.end;
}
