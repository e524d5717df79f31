-- The row of the top says how many its set has, so that the end of the record is known first; then the set is written, and the front.
use Prim.Native.Nat.{ℕ, ◌+◌}
use mathlib.Core.Path.{refl, sym, ap, ◌∙◌}
use mathlib.Core.Bool.{Bool, cond}
use mathlib.Core.List.{List, ◌∷◌}
use mathlib.Core.Logic.{inl}
use native.Mathlib.Omega.{arith}
use borrow.Author.Tests.{not-true, not-false}
use lib.ListN.{length}
use lib.Seq.{sets, length-sets}
use Rattle.terms.proofs.Common.{clash}
use Rattle.sets_record.proofs.Places.{stand_on}
use Rattle.sets_record.proofs.Soles.{record_stored}
use Rattle.sets_record.proofs.put_run.Goals as goal

pub returns-then-not-draft : goal.returns-then-not-draft
returns-then-not-draft c =
    let put : List ℕ → Bool → List ℕ = λ list writing. let a = c.args in
    cond writing (sets a.out.now a.draft.at (a.draft.x.0 ∷ length list ∷ list)) a.out.now in
    let (list, leads, stands, room) = c.requires.led.1 in
    let size = c.unpack-run.ensures.both.1 ∙ leads.1 in
    record {
      put = (list, leads, (omega arith, sym (ap (put list) (not-true c.args.draft.writing c.if-not-draft.true))));
      noted = (λ _. refl, inl refl);
    }

pub write_top-requires : goal.write_top-requires
write_top-requires c =
    let (small, (list, leads, stands, room)) = c.requires.led in
    record { led = (small, (list, leads, λ some. stand_on (omega arith) (stands some), room (not-false c.args.draft.writing c.if-not-draft.false))) }

pub write_front-requires : goal.write_front-requires
write_front-requires c =
    let a = c.args in
    let (list, leads, stands, room) = c.requires.led.1 in
    let (other, found, written) = c.write_top.ensures.written in
    let high = c.unpack-run.ensures.both.1 in
    let one = leads.1 in
    let two = found.1 in
    let fits = room (not-false a.draft.writing c.if-not-draft.false) in
    let size = ap length written ∙ length-sets a.out.now (a.draft.at + 2) other in
    record { room = (omega arith, omega arith, omega arith) }

pub returns : goal.returns
returns c =
    let put : List ℕ → Bool → List ℕ = λ list writing. let a = c.args in
    cond writing (sets a.out.now a.draft.at (a.draft.x.0 ∷ length list ∷ list)) a.out.now in
    let a = c.args in
    let (list, leads, written) = c.write_top.ensures.written in
    let noted = c.write_top.ensures.noted in
    let on = not-false a.draft.writing c.if-not-draft.false in
    let size = c.unpack-run.ensures.both.1 ∙ leads.1 in
    let stored = record_stored a.out.now a.draft.at a.draft.x.0 list (omega arith) written c.write_front.ensures.written in
    record {
      put = (list, leads, (omega arith, stored ∙ sym (ap (put list) on)));
      noted = (λ off. absurd (clash on off), noted);
    }
