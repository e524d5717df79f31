-- A note that is there is right; where there is none the clause is looked through, and its note put in (notes_set).
use native.Mathlib.Omega.{arith}
use Prim.Native.Nat.{ℕ}
use Rattle.formula.specs.InnerLookup.{NextZero}
use Rattle.forest_entries.specs.InnerFlags.{Has, Via}
use Rattle.sets_occurrences.specs.InnerSoleTops.{SoleOf}
use Rattle.sets_sizes.specs.InnerNotes.{NoteIs}
use Rattle.sets_sizes.proofs.NotedTops.{note_one, alone_sole, sole_small, notes_set}
use Rattle.sets_sizes.proofs.noting.noted.Goals as goal

pub bounds-notes-start : goal.bounds-notes-start
bounds-notes-start c = let (_, _, less, notes) = c.requires.notes in let long = notes.0 in omega arith

pub returns-then-old-ne0 : goal.returns-then-old-ne0
returns-then-old-ne0 c =
    let (_, _, less, notes) = c.requires.notes in
    record {
      note = notes.1 c.args.start less c.if-old-ne0.true;
      noted = notes;
    }

pub bounds-notes-start-2 : goal.bounds-notes-start-2
bounds-notes-start-2 c = let (_, _, less, notes) = c.requires.notes in let long = notes.0 in omega arith

pub note_of-note-requires : goal.note_of-note-requires
note_of-note-requires c =
    let a = c.args in
    let told : (z : ℕ) → NextZero a.clauses.now a.start z → SoleOf c.sole_after.result (Via a.n a.tops.now (Has a.clauses.now a.start z)) =
    λ z next. alone_sole (Via a.n a.tops.now (Has a.clauses.now a.start z)) c.sole_after.result (c.sole_after.ensures.sole z next) in
    let (few, within, less, notes) = c.requires.notes in
    record { small = sole_small a.n a.tops.now a.clauses.now a.start few within less c.sole_after.result told }

pub returns : goal.returns
returns c =
    let a = c.args in
    let told : (z : ℕ) → NextZero a.clauses.now a.start z → SoleOf c.sole_after.result (Via a.n a.tops.now (Has a.clauses.now a.start z)) =
    λ z next. alone_sole (Via a.n a.tops.now (Has a.clauses.now a.start z)) c.sole_after.result (c.sole_after.ensures.sole z next) in
    let (few, within, less, notes) = c.requires.notes in
    let note = c.note_of-note.result in
    let (of, some) = c.note_of-note.ensures.note in
    let is : NoteIs a.n a.tops.now a.clauses.now a.start note =
    (some, λ sole says z next. note_one note _ c.sole_after.result sole of says (told z next)) in
    record {
      note = is;
      noted = notes_set a.n a.tops.now a.clauses.now a.notes.now a.start note less notes is;
    }
