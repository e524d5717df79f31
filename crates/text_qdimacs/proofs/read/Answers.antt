-- A text that is too long is refused for it; any other is read by way of scratch tables, whatever their length.
use mathlib.Core.Path.{refl}
use mathlib.Core.Logic.{inl}
use Rattle.text_qdimacs.proofs.Readings.{first_overlong}
use Rattle.text_qdimacs.proofs.read.Goals as goal

pub returns-then-text-gt-TEXT_MOST : goal.returns-then-text-gt-TEXT_MOST
returns-then-text-gt-TEXT_MOST c = record { answered = (inl (first_overlong c.args.text.now c.if-text-gt-TEXT_MOST.true), (refl, refl)) }
