-- The payload of kind 2 has four bytes for each entry (clauses_length).
use mathlib.Core.Path.{ap, ◌∙◌}
use native.Mathlib.Omega.{arith}
use Rattle.file_format.specs.Places.{size_at}
use Rattle.file_layout.proofs.Spans.{clauses_length, laid_near}
use Rattle.file_layout.proofs.places.clause_entries.Goals as goal

pub size_at-size-requires : goal.size_at-size-requires
size_at-size-requires c = record { near = omega (arith, c.second_at-second.ensures.found, (laid_near c.args.file.now c.requires.laid).0) }

pub returns : goal.returns
returns c =
    let file = c.args.file.now in
    let size = c.size_at-size.ensures.read ∙ ap (size_at file) c.second_at-second.ensures.found in
    record { counted = omega (arith, size, clauses_length file) }
