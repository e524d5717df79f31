-- The set is written first, behind the front, and then the front, whose count is what lies between (record_stored).
use Prim.Native.Nat.{ℕ, ◌+◌}
use mathlib.Core.Path.{◌∙◌, ap}
use mathlib.Core.List.{List}
use native.Mathlib.Omega.{arith}
use lib.ListN.{length}
use lib.Seq.{length-sets}
use Rattle.forest_members.specs.declared.Asked.TheVariants.{Set}
use Rattle.forest_members.specs.InnerPicked.{pick, picked}
use Rattle.forest_members.proofs.Picked.{picked_most}
use Rattle.sets_record.proofs.Soles.{record_stored}
use Rattle.sets_record.proofs.write_record.Goals as goal

pub write_front-requires : goal.write_front-requires
write_front-requires c =
    let members : List ℕ = picked (pick Set c.args.draft.n c.args.entered.now c.args.tops.now) c.args.draft.n in
    let a = c.args in
    let room = c.requires.room.1 in
    let end = c.write_picked-end.ensures.behind in
    let written = c.write_picked-end.ensures.written in
    let size = ap length written ∙ length-sets a.out.now (a.draft.at + 2) members in
    let most = picked_most (pick Set a.draft.n a.entered.now a.tops.now) a.draft.n in
    record { room = (omega arith, omega arith, omega arith) }

pub returns : goal.returns
returns c =
    let members : List ℕ = picked (pick Set c.args.draft.n c.args.entered.now c.args.tops.now) c.args.draft.n in
    let a = c.args in
    let end = c.write_picked-end.ensures.behind in
    let written = c.write_picked-end.ensures.written in
    record { put = (end, record_stored a.out.now a.draft.at a.draft.x.0 members end written c.write_front.ensures.written) }
