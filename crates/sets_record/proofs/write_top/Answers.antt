-- Where the set stands already it is copied, and the places stay; else its run is written and noted. Both are the same list, since from a number there
-- is one run.
use mathlib.Core.Path.{refl, sym, ap, ◌∙◌, subst}
use mathlib.Core.Logic.{inl, inr}
use native.Mathlib.Omega.{arith}
use lib.ListN.{length}
use Rattle.sets_subtrees.specs.InnerRuns.{Run}
use Rattle.sets_subtrees.proofs.Linked.{run_one}
use Rattle.sets_record.specs.InnerPlaces.{Standing}
use Rattle.sets_record.proofs.Places.{copied}
use Rattle.sets_record.proofs.write_top.Goals as goal

pub copy_within-requires : goal.copy_within-requires
copy_within-requires c =
    let (list, leads, stands, room) = c.requires.led.1 in
    let is = c.row_at-place.ensures in
    let here = (stands (λ z. c.if-place-ne0.true (is.read ∙ z))).before in
    let size = leads.1 in
    let high = c.unpack-run.ensures.both.1 in
    record { start_le_end = omega arith; in_bounds = omega arith; dest_in_bounds = omega arith; not_exhausted = tt }

pub returns-then-place-ne0 : goal.returns-then-place-ne0
returns-then-place-ne0 c =
    let a = c.args in
    let (list, leads, stands, room) = c.requires.led.1 in
    let is = c.row_at-place.ensures in
    let here = subst (λ i. Standing a.out.now i list a.start) (sym is.read) (stands (λ z. c.if-place-ne0.true (is.read ∙ z))) in
    let size = sym (c.unpack-run.ensures.both.1 ∙ leads.1) in
    record {
      written = (list, leads, c.copy_within.ensures.after ∙ rw (← size) (copied here room));
      noted = inl refl;
    }

pub write_run-requires : goal.write_run-requires
write_run-requires c =
    let (list, leads, stands, room) = c.requires.led.1 in
    record { room = (list, subst (λ h. Run c.args.after.now h list) (sym c.unpack-run.ensures.both.0) leads.0, room) }

pub returns : goal.returns
returns c =
    let after = c.args.after.now in
    let (list, leads, stands, room) = c.requires.led.1 in
    let (other, run, written) = c.write_run.ensures.written in
    let walked = subst (λ h. Run after h other) c.unpack-run.ensures.both.0 run in
    record {
      written = (other, (walked, leads.1 ∙ ap length (run_one after _ list other leads.0 walked)), written);
      noted = inr c.note_place.ensures.noted;
    }
