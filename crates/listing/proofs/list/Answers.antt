-- What was read stands in front of the buffer, and prints what the input prints, all of it or not (printed_whole).
use mathlib.Core.Path.{◌∙◌}
use Prim.Native.Nat.{ℕ}
use lib.ListN.{length-replicate}
use Rattle.listing.proofs.Settled.{printed_whole}
use Rattle.listing.proofs.list.Goals as goal

pub returns : goal.returns
returns g c =
    let r = c.in_ok-got.ensures in
    let size = c.read_full.auto.text ∙ length-replicate {A = ℕ} 65537 0 in
    record {
      unread = tt;
      printed = printed_whole _ _ _ c.in_ok-got.got _ _ c.list_text.result size r.within r.read r.ended c.list_text.ensures.printed;
    }
