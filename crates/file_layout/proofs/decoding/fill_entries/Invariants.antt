-- The entries that are passed are what the numbers stand for, one after another.
use Rattle.std.proofs.Common.{ℕ, ◌+◌, ◌*◌, ◌<◌, get_or}
use Rattle.file_format.specs.Numbers.{number_at}
use Rattle.file_layout.proofs.decoding.fill_entries.Given as goal

abbrev pub invariant-loop-i : goal.invariant-loop-i
invariant-loop-i g l =
    (d : _) (k : ℕ) → k < l.i → goal.F-post g l.entry_of (number_at l.width l.file (l.from + l.width * k)) (get_or l.entry-items k d)
