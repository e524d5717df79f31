-- Where a line begins nothing is stored, and else one byte: by the flag.
use mathlib.Core.Path.{ap}
use mathlib.Core.Bool.{Bool}
use mathlib.Core.List.{[]}
use Rattle.text_write.specs.InnerText.{spaced}
use Rattle.text_write.proofs.Stores.{wrote_none, wrote_as}
use Rattle.text_write.proofs.writing.put_space.Goals as goal

pub returns-then-first : goal.returns-then-first
unfolding spaced
returns-then-first c =
    let a = c.args in
    record { wrote = wrote_as (ap (λ (first : Bool). spaced first []) c.if-first.true) (wrote_none a.out.now a.at) }

pub returns : goal.returns
unfolding spaced
returns c = record { wrote = wrote_as (ap (λ (first : Bool). spaced first []) c.if-first.false) c.put_byte.ensures.wrote }
