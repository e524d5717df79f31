use Rattle.std.proofs.Common.{take, ap, ◌∙◌}
use Rattle.std.proofs.lemmas.List.{take_all}
use Rattle.file_bytes.proofs.Composed.{wrote_as}
use Rattle.file_bytes.proofs.Runs.{number_low}
use Rattle.file_bytes.proofs.bytes.put_number.Goals as goal

pub returns : goal.returns
returns c =
    let a = c.args in
    let all = take_all c.loop-byte.byte-index (take a.width c.to_le_bytes-bytes.result) c.loop-byte-test.false in
    let low = ap (take a.width) c.to_le_bytes-bytes.ensures ∙ number_low a.width a.number c.requires.near.1 in
    record { wrote = wrote_as (all ∙ low) c.loop-byte.invariant }
