-- A byte with room is one store; one without is none, and a store past the end changes nothing (set_out).
use mathlib.Core.Path.{refl, sym}
use lib.Seq.{set_out}
use Rattle.text_write.proofs.bytes.put_byte.Goals as goal

pub returns : goal.returns
returns c =
    let a = c.args in
    record { wrote = record { end = refl; stored = sym (set_out a.out.now a.at a.byte c.if-at-out.false) } }
