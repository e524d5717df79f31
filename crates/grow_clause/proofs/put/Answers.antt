-- A clause that is always true connects nothing, and the rows stay; any other connects all its variables, which `join_all` joins to the deepest.
use mathlib.Core.Path.{sym}
use Rattle.formula.proofs.Signs.{connected_none, connected_all}
use Rattle.grow_clause.proofs.Stars.{grew_none}
use Rattle.grow_clause.proofs.put.Goals as goal

pub returns-then-always_true-clause-joined : goal.returns-then-always_true-clause-joined
returns-then-always_true-clause-joined c =
    let none = connected_none c.args.clause.now (sym c.if-always_true.ensures.truth) in
    rw none (grew_none c.requires.rows)

pub returns-clause-joined : goal.returns-clause-joined
returns-clause-joined c =
    let all = connected_all c.args.clause.now (sym c.if-always_true.ensures.truth) in
    rw all c.join_all.ensures.joined
