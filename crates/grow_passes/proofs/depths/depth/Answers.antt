-- Each arm is a case of the tests in `depth_of`.
use borrow.Author.Tests.{le-leb, lt-leb}
use Rattle.grow_passes.proofs.depths.depth.Goals as goal

pub returns-then-v-lt1 : goal.returns-then-v-lt1
returns-then-v-lt1 c = record { depth = simp (lt-leb _ _ c.if-v-lt1.true) }

pub returns-then-n-v : goal.returns-then-n-v
returns-then-n-v c = record { depth = simp (le-leb _ _ c.if-v-lt1.false, lt-leb _ _ c.if-n-v.true) }

pub returns-then-universal : goal.returns-then-universal
returns-then-universal c = record { depth = simp (le-leb _ _ c.if-v-lt1.false, le-leb _ _ c.if-n-v.false, c.if-universal.true) }

pub returns-else-universal : goal.returns-else-universal
returns-else-universal c = record { depth = simp (le-leb _ _ c.if-v-lt1.false, le-leb _ _ c.if-n-v.false, c.if-universal.false) }
