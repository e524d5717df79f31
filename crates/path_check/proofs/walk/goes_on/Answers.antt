-- The first clause is asked for x, and any other for a stamped existential deeper than x: those stamped are the variables of the clause before.
use Prim.Native.Nat.{◌-◌}
use mathlib.Core.Path.{refl}
use native.Mathlib.Omega.{arith}
use Rattle.forest_tables.specs.InnerTabled.{tabled}
use Rattle.path_check.proofs.Following.{joins_first, joins_next}
use Rattle.path_check.proofs.walk.goes_on.Goals as goal

pub returns-then-i-eq0 : goal.returns-then-i-eq0
returns-then-i-eq0 c =
    let a = c.args in
    let pre = c.requires in
    let (end, f) = pre.walked.0 in
    record { told = joins_first pre.walked.1 f (tabled a.n a.levels.now a.universals.now) a.x.0 c.has_variable.result c.if-i-eq0.true (c.has_variable.ensures.told end f.next) }

pub overflow_add-before : goal.overflow_add-before
overflow_add-before c =
    let some = c.if-i-eq0.false in
    let pre = c.requires in
    let l = pre.within.1 in
    record { fits = omega (arith, pre.within.0 (c.args.i - 1) (omega arith)) }

pub overflow_cast-before : goal.overflow_cast-before
overflow_cast-before c =
    let some = c.if-i-eq0.false in
    let pre = c.requires in
    let l = pre.within.1 in
    record { fits = omega (arith, pre.within.0 (c.args.i - 1) (omega arith)) }

pub returns : goal.returns
returns c =
    let a = c.args in
    let pre = c.requires in
    let (end, f) = pre.walked.0 in
    record { told = joins_next pre.walked.1 f (tabled a.n a.levels.now a.universals.now) a.x.0 c.meets.result c.if-i-eq0.false refl (c.meets.ensures.told end f.next) }
