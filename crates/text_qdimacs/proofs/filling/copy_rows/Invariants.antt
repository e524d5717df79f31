-- The invariant: the rows passed are copied.
use Rattle.std.proofs.Common.{◌≡◌, ℕ, ◌<◌, get_or}
use Rattle.text_qdimacs.proofs.filling.copy_rows.Given as goal

abbrev pub invariant-loop-i : goal.invariant-loop-i
invariant-loop-i g l = (d : _) (k : ℕ) → k < l.i → get_or l.to k d ≡ get_or l.from k d
