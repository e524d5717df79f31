-- Where x has no entry point its set is empty (having_none). Of several the flags tell the set. A sole one is entered alone, so that its set is what its run
-- has (sole_entering), and in each case what stands in `out` already stays.
use Prim.Native.Nat.{ℕ, ◌≤◌}
use mathlib.Core.Path.{sym, ap, subst}
use mathlib.Core.Bool.{Bool}
use mathlib.Core.List.{List}
use native.Mathlib.Omega.{arith}
use lib.ListN.{length}
use Rattle.std.specs.Prelude.{None, Some}
use Rattle.terms.specs.InnerPairs.{low_of}
use Rattle.forest_members.specs.declared.Asked.TheVariants.{Set}
use Rattle.forest_members.specs.InnerPicked.{pick, picked}
use Rattle.sets_occurrences.specs.InnerThreads.{Together, EnteredBy}
use Rattle.sets_subtrees.specs.InnerRuns.{Leads, only, having}
use Rattle.sets_subtrees.proofs.Linked.{run_one}
use Rattle.sets_record.specs.InnerPut.{PutList}
use Rattle.sets_record.proofs.Soles.{sole_entering, sole_is, having_none, sole_within}
use Rattle.sets_record.proofs.Places.{placed_on, placed_top}
use Rattle.sets_record.proofs.put_set.Goals.{In-Ok-None, In-Ok-Some}
use Rattle.sets_record.proofs.put_set.Goals as goal

-- x has no entry point, and no flag tells it
none_entered : (c : In-Ok-None) → let a = c.args in EnteredBy a.draft.scheme a.draft.n a.tops.now a.clauses.now a.draft.x.0 (only 0)
none_entered c =
    let a = c.args in
    let P : Bool → ℕ → Type 0 = λ sign. Together a.clauses.now sign a.draft.x.0 in
    sole_entering 0 (sole_is a.draft.scheme a.draft.n a.tops.now P None c.in-Ok-None.field-0-is c.in-Ok-None.ensures.sole)

pub put_empty-requires : goal.put_empty-requires
put_empty-requires c =
    let entered = none_entered (goal.at.put_empty-requires c).In-Ok-None in
    let none = ap length (having_none c.args.draft.n c.args.tops.now) in
    record { room = (c.requires.tied.1, λ on. let room = c.requires.room on (only 0) entered in omega arith) }

pub returns-in-Ok-None-clause-put : goal.returns-in-Ok-None-clause-put
returns-in-Ok-None-clause-put c =
    let a = c.args in
    let d = a.draft in
    record {
      flags = only 0;
      flagged = none_entered (goal.at.returns-in-Ok-None-clause-put c).In-Ok-None;
      put = subst (λ (l : List ℕ). PutList l d.x.0 d.at d.writing a.out.now c.put_empty.new.out c.put_empty.result) (sym (having_none d.n a.tops.now))
          c.put_empty.ensures.put;
    }

pub put_flagged-requires : goal.put_flagged-requires
put_flagged-requires c =
    let (few, small, tied) = c.requires.tied in
    let (from, topless, _, _, _) = c.requires.led in
    let room = c.requires.room in
    record {
      tied = (few, omega arith, tied);
      topless = (from, topless);
      room = room;
    }

-- its sole entry point is one of the variables, and its flag alone tells it
sole_entered : (c : In-Ok-Some) → let a = c.args in
    (c.in-Ok-Some.top.0 ≤ a.draft.n) × EnteredBy a.draft.scheme a.draft.n a.tops.now a.clauses.now a.draft.x.0 (only c.in-Ok-Some.top.0)
sole_entered c =
    let a = c.args in
    let top : ℕ = c.in-Ok-Some.top.0 in
    let P : Bool → ℕ → Type 0 = λ sign. Together a.clauses.now sign a.draft.x.0 in
    let sole = sole_is a.draft.scheme a.draft.n a.tops.now P (Some c.in-Ok-Some.top) c.in-Ok-Some.field-0-is c.in-Ok-Some.ensures.sole in
    (sole_within a.draft.scheme a.draft.n a.tops.now P top sole c.requires.led.2, sole_entering top sole)

pub put_run-requires : goal.put_run-requires
put_run-requires c =
    let a = c.args in
    let top : ℕ = c.in-Ok-Some.top.0 in
    let (low, entered) = sole_entered (goal.at.put_run-requires c).In-Ok-Some in
    let members = having a.draft.n a.tops.now top in
    let leads : Leads a.after.now c.row_at.result members = subst (λ row. Leads a.after.now row members) (sym c.row_at.ensures.read) (c.requires.led.3 top low) in
    let (few, small, tied) = c.requires.tied in
    record { led = (small, (members, leads, c.requires.led.4 top low, λ on. c.requires.room on (only top) entered)) }

pub returns-in-Err : goal.returns-in-Err
returns-in-Err c =
    let a = c.args in
    let d = a.draft in
    let set = c.put_flagged.ensures in
    let members = picked (pick Set d.n set.put.flags a.tops.now) d.n in
    record {
      put = set.put;
      placed = placed_on d.n a.tops.now a.places.now a.out.now d.at d.x.0 c.requires.led.4 d.writing members set.put.put;
    }

pub returns-in-Ok-Some : goal.returns-in-Ok-Some
returns-in-Ok-Some c =
    let a = c.args in
    let d = a.draft in
    let top : ℕ = c.in-Ok-Some.top.0 in
    let (low, entered) = sole_entered (goal.at.returns-in-Ok-Some c).In-Ok-Some in
    let members = having d.n a.tops.now top in
    let leads : Leads a.after.now c.row_at.result members = subst (λ row. Leads a.after.now row members) (sym c.row_at.ensures.read) (c.requires.led.3 top low) in
    let run = c.put_run in
    let (list, found, other) = run.ensures.put in
    let (same, noted) = run.ensures.noted in
    let one = run_one a.after.now (low_of c.row_at.result) list members found.0 leads.0 in
    let put = subst (λ (l : List ℕ). PutList l d.x.0 d.at d.writing a.out.now run.new.out run.result) one other in
    record {
      put = record { flags = only top; flagged = entered; put = put };
      placed = placed_top d.n a.tops.now a.places.now a.out.now d.at d.x.0 c.requires.led.4 top d.writing put
          (λ on. c.requires.room on (only top) entered) same noted;
    }
