-- An entry is its own number here, so that the numbers are stored as they are read (map-id).
use Rattle.std.proofs.Common.{rules, ℕ, ap, ◌∙◌}
use Rattle.std.proofs.lemmas.List.{map-id}
use lib.Seq.{sets}
use Rattle.file_format.specs.Numbers.{numbers_at}
use Rattle.file_layout.proofs.decoding.fill_numbers.Goals as goal

pub returns : goal.returns
returns c =
    let a = c.args in
    let front = c.fill_entries.ensures.stored (λ (x : ℕ). x) (λ x y post. search rules) in
    record { stored = front ∙ ap (sets a.table.now 0) (map-id (numbers_at a.width a.file.now a.from a.many)) }
