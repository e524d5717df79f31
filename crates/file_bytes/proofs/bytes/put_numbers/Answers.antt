-- An entry is its own number here, so that the numbers are stored as they are (map-id).
use Rattle.std.proofs.Common.{rules, ℕ, ap}
use Rattle.std.proofs.lemmas.List.{map-id}
use Rattle.file_format.specs.Numbers.{bytes_of}
use Rattle.file_bytes.proofs.Composed.{wrote_as}
use Rattle.file_bytes.proofs.bytes.put_numbers.Goals as goal

pub returns : goal.returns
returns c =
    let a = c.args in
    record { wrote = wrote_as (ap (bytes_of a.width) (map-id a.numbers.now)) (c.put_entries.ensures.wrote (λ (x : ℕ). x) (λ x y post. search rules)) }
