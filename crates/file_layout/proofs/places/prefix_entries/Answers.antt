-- The payload of kind 1 has two bytes for n and two for each entry (prefix_length).
use native.Mathlib.Omega.{arith}
use Rattle.file_layout.proofs.Spans.{prefix_length}
use Rattle.file_layout.proofs.places.prefix_entries.Goals as goal

pub overflow_sub-result : goal.overflow_sub-result
overflow_sub-result c = omega (arith, c.size_at-size.ensures.read, c.requires.laid.counted)

pub returns : goal.returns
returns c = record { counted = omega (arith, c.size_at-size.ensures.read, prefix_length c.args.file.now) }
