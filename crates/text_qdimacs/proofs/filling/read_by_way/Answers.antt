-- What the first scan found decides: a fault is the first cause, and so is a table without room for what was counted; else what was scanned is filled in.
use mathlib.Core.Path.{refl}
use native.Mathlib.Omega.{arith}
use Rattle.terms.proofs.Verdicts.{handed_on}
use Rattle.text_qdimacs.specs.Reading.{no_room_prefix, no_room_clauses}
use Rattle.text_qdimacs.proofs.Readings.{first_fault, first_room, read_all}
use Rattle.text_qdimacs.proofs.filling.read_by_way.Goals.{then-prefix-counts-via-then-prefix-counts, then-prefix-counts-via-else-prefix-counts+then-clauses-counts}
use Rattle.text_qdimacs.proofs.filling.read_by_way.Goals as goal

pub returns-in_err-counts : goal.returns-in_err-counts
returns-in_err-counts c =
    let a = c.args in
    let w = c.in_err-counts in
    rw (handed_on c.from_residual.result c.from_residual.ensures.1)
    (record { answered = (first_fault a.text.now a.prefix.now a.clauses.now c.requires.short _ _ w.ensures.scanned, (refl, refl)) })

pub returns-then-prefix-counts : goal.returns-then-prefix-counts
returns-then-prefix-counts c =
    let a = c.args in
    let s = c.in_ok-counts.ensures.scanned in
    let first = first_room a.text.now a.prefix.now a.clauses.now c.requires.short s.text_of in
    elim c.then-prefix-counts.branch [
      | then-prefix-counts-via-then-prefix-counts w ↦
          record { answered = (first (no_room_prefix s.text_of (omega (arith, s.entries_counted, w.if-prefix-counts.true))), (refl, refl)) }
      | then-prefix-counts-via-else-prefix-counts+then-clauses-counts w ↦
          record { answered = (first (no_room_clauses s.text_of (omega (arith, s.literals_counted, w.if-clauses-counts.true))), (refl, refl)) }
    ]

pub returns : goal.returns
returns c =
    let a = c.args in
    let s = c.in_ok-counts.ensures.scanned in
    let f = c.fill in
    record {
      answered =
          read_all a.text.now a.prefix.now a.clauses.now c.requires.short s.text_of (omega (arith, s.entries_counted, c.if-prefix-counts.false))
          (omega (arith, s.literals_counted, c.if-clauses-counts.false)) f.new.prefix f.new.clauses f.result f.ensures.filled;
    }
