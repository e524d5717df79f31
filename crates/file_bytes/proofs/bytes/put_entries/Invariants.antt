-- The bytes of the entries that are passed are stored, and reach no further than four for each.
use Rattle.std.proofs.Common.{ℕ, ◌+◌, ◌*◌, ◌≤◌, ◌≡◌, map, take}
use Rattle.text_write.specs.InnerBytes.{Wrote}
use Rattle.file_format.specs.Numbers.{bytes_of}
use Rattle.file_bytes.proofs.bytes.put_entries.Given as goal

abbrev pub invariant-loop-entry : goal.invariant-loop-entry
invariant-loop-entry g l =
    (l.next ≤ l.at + 4 * l.entry-index)
    × ((f : _ → ℕ) → ((x : _) (y : ℕ) → goal.F-post g l.number_of x y → y ≡ f x)
    → Wrote (bytes_of l.width (take l.entry-index (map f l.entries))) l.initial.out l.out l.at l.next)
