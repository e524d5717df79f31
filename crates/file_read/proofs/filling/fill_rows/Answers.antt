-- Three runs of n numbers, one behind the other in the record of kind 3, are stored each in its table.
use Rattle.std.proofs.Common.{ℕ, List, ◌+◌, ◌*◌, ◌<◌, ◌≡◌, refl, ap, ◌∙◌, arith}
use mathlib.Core.Logic.{inr}
use Rattle.std.proofs.lemmas.List.Edits.{sets}
use Rattle.file_format.specs.Places.{third_at}
use Rattle.file_layout.specs.InnerLaid.{Laid}
use Rattle.file_layout.proofs.Spans.{laid_ends, count_read}
use Rattle.file_verify.proofs.Agreement.{rows_are}
use Rattle.file_read.proofs.filling.fill_rows.Goals as goal

-- every place that is read is near enough
near : (file : List ℕ) (n third : ℕ) → Laid file → third ≡ third_at file → n < 65536 → third + 6 + 12 * n < 4294967294
near file n third laid is low =
    let ends = laid_ends file laid in
    omega (arith, is, low, ends.third, ends.fourth)

pub overflow_add-first : goal.overflow_add-first
overflow_add-first c =
    omega (arith, near c.args.file.now c.two_at-n.result c.third_at-first.result c.requires.room.0 c.third_at-first.ensures.found c.two_at-n.ensures.read.1)

pub fill_numbers-requires : goal.fill_numbers-requires
fill_numbers-requires c =
    let file = c.args.file.now in
    let close = near file c.two_at-n.result c.third_at-first.result c.requires.room.0 c.third_at-first.ensures.found c.two_at-n.ensures.read.1 in
    record { room = (inr refl, omega (arith, close), omega (arith, count_read file c.two_at-n.ensures.read.0, c.requires.room.1)) }

pub overflow_add-first-2 : goal.overflow_add-first-2
overflow_add-first-2 c =
    omega (arith, near c.args.file.now c.two_at-n.result c.third_at-first.result c.requires.room.0 c.third_at-first.ensures.found c.two_at-n.ensures.read.1)

pub fill_numbers-requires-2 : goal.fill_numbers-requires-2
fill_numbers-requires-2 c =
    let file = c.args.file.now in
    let close = near file c.two_at-n.result c.third_at-first.result c.requires.room.0 c.third_at-first.ensures.found c.two_at-n.ensures.read.1 in
    record { room = (inr refl, omega (arith, close), omega (arith, count_read file c.two_at-n.ensures.read.0, c.requires.room.2)) }

pub overflow_add-first-3 : goal.overflow_add-first-3
overflow_add-first-3 c =
    omega (arith, near c.args.file.now c.two_at-n.result c.third_at-first.result c.requires.room.0 c.third_at-first.ensures.found c.two_at-n.ensures.read.1)

pub overflow_add-first-4 : goal.overflow_add-first-4
overflow_add-first-4 c =
    omega (arith, near c.args.file.now c.two_at-n.result c.third_at-first.result c.requires.room.0 c.third_at-first.ensures.found c.two_at-n.ensures.read.1)

pub fill_numbers-requires-3 : goal.fill_numbers-requires-3
fill_numbers-requires-3 c =
    let file = c.args.file.now in
    let close = near file c.two_at-n.result c.third_at-first.result c.requires.room.0 c.third_at-first.ensures.found c.two_at-n.ensures.read.1 in
    record { room = (inr refl, omega (arith, close), omega (arith, count_read file c.two_at-n.ensures.read.0, c.requires.room.3)) }

pub returns : goal.returns
returns c =
    let a = c.args in
    let (x, y, z) =
    rows_are a.file.now c.two_at-n.result c.third_at-first.result (count_read a.file.now c.two_at-n.ensures.read.0) c.third_at-first.ensures.found in
    record {
      classes = c.fill_numbers.ensures.stored ∙ ap (sets a.classes.now 0) x;
      parents = c.fill_numbers-2.ensures.stored ∙ ap (sets a.parents.now 0) y;
      counts = c.fill_numbers-3.ensures.stored ∙ ap (sets a.counts.now 0) z;
    }
