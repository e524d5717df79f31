-- At the begin of each block every entry before it is without fault, and the scan's variables say what stands there (`Scanned`). A block takes
-- two steps: its mark (scan_mark, fault_at_mark), and then its variables up to where they end (block_fault, block_unclosed, block_closed).
use Prim.Native.Nat.{◌-◌}
use mathlib.Core.Bool.{true}
use lib.ListN.{length}
use Rattle.formula_rules.proofs.Scanned.{Scanned}
use Rattle.formula_rules.proofs.judging.joined_verdict.Given as goal

abbrev pub invariant-loop-i : goal.invariant-loop-i
invariant-loop-i l = Scanned l.n l.prefix l.i true l.last l.blocks l.named

abbrev pub decreases-loop-i : goal.decreases-loop-i
decreases-loop-i l = length l.prefix - l.i
