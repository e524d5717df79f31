-- The flags of the entry points tell the set: what they pick is counted, or written. None is picked where no variable has a top (topless_none).
use Prim.Native.Nat.{ℕ}
use mathlib.Core.Path.{sym, ap, ◌∙◌}
use mathlib.Core.Bool.{Bool, cond}
use mathlib.Core.List.{List, ◌∷◌}
use native.Mathlib.Omega.{arith}
use borrow.Author.Tests.{not-true, not-false}
use lib.ListN.{length}
use lib.Seq.{sets}
use Rattle.forest_members.specs.declared.Asked.TheVariants.{Set}
use Rattle.forest_members.specs.InnerPicked.{pick, picked, NoneUpto}
use Rattle.forest_entries.proofs.Flags.{fresh}
use Rattle.sets_record.proofs.Soles.{topless_none}
use Rattle.sets_record.proofs.put_flagged.Goals as goal

pub flag_points-requires : goal.flag_points-requires
flag_points-requires c = record { tied = (c.requires.tied.2, fresh) }

pub count_picked-count-requires : goal.count_picked-count-requires
count_picked-count-requires c =
    let flags : List Bool = c.flag_points.new.flags in
    let none : NoneUpto (pick Set c.args.draft.n flags c.args.tops.now) c.args.draft.from = let a = c.args in
    topless_none a.draft.scheme a.draft.n a.tops.now a.clauses.now a.draft.x.0 flags a.draft.from
    c.flag_points.ensures.entered c.requires.topless.1 in
    record { skipped = (c.requires.topless.0, none) }

pub returns-then-not-draft : goal.returns-then-not-draft
returns-then-not-draft c =
    let flags : List Bool = c.flag_points.new.flags in
    let members : List ℕ = let a = c.args in
    picked (pick Set a.draft.n flags a.tops.now) a.draft.n in
    let put : Bool → List ℕ = λ writing. let a = c.args in
    cond writing (sets a.out.now a.draft.at (a.draft.x.0 ∷ length members ∷ members)) a.out.now in
    let count = c.count_picked-count.ensures in
    let off = not-true c.args.draft.writing c.if-not-draft.true in
    record { put = record { flags = flags; flagged = c.flag_points.ensures.entered; put = (omega arith, sym (ap put off)) } }

pub write_record-requires : goal.write_record-requires
write_record-requires c =
    let flags : List Bool = c.flag_points.new.flags in
    let none : NoneUpto (pick Set c.args.draft.n flags c.args.tops.now) c.args.draft.from = let a = c.args in
    topless_none a.draft.scheme a.draft.n a.tops.now a.clauses.now a.draft.x.0 flags a.draft.from
    c.flag_points.ensures.entered c.requires.topless.1 in
    let (few, small, tied) = c.requires.tied in
    let (from, topless) = c.requires.topless in
    let room = c.requires.room in
    let on = not-false c.args.draft.writing c.if-not-draft.false in
    record {
      skipped = (from, none);
      room = (small, room on flags c.flag_points.ensures.entered);
    }

pub returns : goal.returns
returns c =
    let flags : List Bool = c.flag_points.new.flags in
    let members : List ℕ = let a = c.args in
    picked (pick Set a.draft.n flags a.tops.now) a.draft.n in
    let put : Bool → List ℕ = λ writing. let a = c.args in
    cond writing (sets a.out.now a.draft.at (a.draft.x.0 ∷ length members ∷ members)) a.out.now in
    let (end, written) = c.write_record.ensures.put in
    let on = not-false c.args.draft.writing c.if-not-draft.false in
    record { put = record { flags = flags; flagged = c.flag_points.ensures.entered; put = (end, written ∙ sym (ap put on)) } }
