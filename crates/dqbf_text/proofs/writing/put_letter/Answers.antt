-- Where a list begins one byte is stored, and else none: by the flag.
use mathlib.Core.Path.{ap}
use mathlib.Core.Bool.{Bool}
use mathlib.Core.List.{[]}
use Rattle.text_write.proofs.Stores.{wrote_none, wrote_as}
use Rattle.dqbf_text.specs.InnerText.{lettered}
use Rattle.dqbf_text.proofs.writing.put_letter.Goals as goal

pub returns-then-first : goal.returns-then-first
unfolding lettered
returns-then-first c = record { wrote = wrote_as (ap (λ (first : Bool). lettered first []) c.if-first.true) c.put_byte.ensures.wrote }

pub returns : goal.returns
unfolding lettered
returns c =
    let a = c.args in
    record { wrote = wrote_as (ap (λ (first : Bool). lettered first []) c.if-first.false) (wrote_none a.out.now a.at) }
