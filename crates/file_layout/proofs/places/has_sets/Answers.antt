-- Sets are there exactly if the record behind that of kind 3 is of kind 4 (sets_read).
use Rattle.std.proofs.Common.{ℕ, sym, ap, ◌∙◌, arith, nat_eq}
use Rattle.file_format.specs.Layout.{sets_kind}
use Rattle.file_format.specs.Places.{kind_at}
use Rattle.file_layout.proofs.Spans.{sets_read, laid_near}
use Rattle.file_layout.proofs.places.has_sets.Goals as goal

pub kind_at-kind-requires : goal.kind_at-kind-requires
kind_at-kind-requires c =
    record { near = omega (arith, c.fourth_at-fourth.ensures.found, (laid_near c.args.file.now c.requires.laid).2) }

pub returns : goal.returns
returns c =
    let file = c.args.file.now in
    let kind = c.kind_at-kind.ensures.read ∙ ap (kind_at file) c.fourth_at-fourth.ensures.found in
    record { told = ap (λ (k : ℕ). nat_eq k sets_kind) kind ∙ sym (sets_read file) }
