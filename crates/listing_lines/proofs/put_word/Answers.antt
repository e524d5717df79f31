use mathlib.Core.Path.{refl}
use native.Mathlib.Omega.{arith}
use Rattle.text_write.proofs.Stores.{upto_more, upto_all}
use Rattle.listing_lines.proofs.put_word.Goals as goal

pub loop-byte-preserved : goal.loop-byte-preserved
loop-byte-preserved c = upto_more c.loop-byte.invariant c.loop-byte-test.true c.put_byte-next.ensures.wrote (omega arith) refl

pub returns : goal.returns
returns c = record { wrote = upto_all c.loop-byte.invariant c.loop-byte-test.false }
