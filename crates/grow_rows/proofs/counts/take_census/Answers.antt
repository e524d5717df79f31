use Prim.Native.Nat.{◌<◌}
use borrow.Author.Rules.{rules}
use Rattle.std.proofs.lemmas.List.{get_or-take}
use Rattle.grow_rows.proofs.Census.{census_none, census_universal, census_member, census_name}
use Rattle.grow_rows.proofs.counts.take_census.Goals as goal
use Rattle.grow_rows.proofs.counts.take_census.Goals.{then-class-passed, else-class-passed}

pub loop-passed-init : goal.loop-passed-init
loop-passed-init c = census_none _ _

pub loop-passed-preserved-then-class-eq0 : goal.loop-passed-preserved-then-class-eq0
loop-passed-preserved-then-class-eq0 c =
    let more : c.loop-passed.passed < c.args.n = search rules in
    census_universal c.loop-passed.invariant more (rw get_or-take at c.if-class-eq0.true)

pub loop-passed-preserved : goal.loop-passed-preserved
loop-passed-preserved c =
    let more : c.loop-passed.passed < c.args.n = search rules in
    let some = rw get_or-take at c.if-class-eq0.false in
    elim c.if-class-passed.branch [
      | then-class-passed w ↦ rw w.names-is (census_name c.loop-passed.invariant more some (rw get_or-take at w.if-class-passed.true))
      | else-class-passed w ↦ rw w.names-is (census_member c.loop-passed.invariant more some (rw get_or-take at w.if-class-passed.false))
    ]
