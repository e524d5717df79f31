-- The digits left, read after the value so far, spell what all of them do; k digits are below 10^k, so that no sum wraps.
use Prim.Native.Nat.{◌^◌, ◌<◌}
use mathlib.Core.Path.{◌≡◌}
use lib.Seq.{slice}
use lib.ListN.{drop}
use Rattle.text_words.specs.InnerPlaces.{spelt_of}
use Rattle.text_words.proofs.words.digits_in.Given as goal

abbrev pub invariant-loop-byte : goal.invariant-loop-byte
invariant-loop-byte l = record {
  below : l.value < 10 ^ l.byte-index;
  spells : spelt_of l.value (drop l.byte-index l.byte-items) ≡ spelt_of 0 (slice l.start l.end l.text);
}
