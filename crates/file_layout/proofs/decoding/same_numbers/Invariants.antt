-- The entries that are passed are the numbers, one after another.
use Rattle.std.proofs.Common.{◌≡◌, ℕ, ◌+◌, ◌*◌, ◌<◌, get_or}
use Rattle.file_format.specs.Numbers.{number_at}
use Rattle.file_layout.proofs.decoding.same_numbers.Given as goal

abbrev pub invariant-loop-i : goal.invariant-loop-i
invariant-loop-i l = (d k : ℕ) → k < l.i → get_or l.table k d ≡ number_at l.width l.file (l.from + l.width * k)
