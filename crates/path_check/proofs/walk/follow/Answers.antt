use mathlib.Core.Logic.{inl}
use native.Mathlib.Omega.{arith}
use Rattle.std.proofs.Common.{rules}
use Rattle.path_check.proofs.Following.{clean_more, fails_first, fails_never, walk_none}
use Rattle.path_check.proofs.walk.follow.Goals as goal

pub loop-i-init : goal.loop-i-init
loop-i-init c = record { walked = walk_none; clean = λ e l. absurd (omega arith) }

pub returns-then-fails_at : goal.returns-then-fails_at
returns-then-fails_at c = record { judged = inl (fails_first c.loop-i.invariant.clean c.if-fails_at.ensures.told) }

pub loop-i-preserved : goal.loop-i-preserved
loop-i-preserved c = record { walked = c.stamp_clause.ensures.walked; clean = clean_more c.loop-i.invariant.clean c.if-fails_at.ensures.told }

pub returns : goal.returns
returns c = record { judged = (fails_never c.loop-i.invariant.clean (search rules) (λ l. omega (arith, c.loop-i-test.false)), tt) }
