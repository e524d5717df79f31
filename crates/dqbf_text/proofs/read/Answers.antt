-- What the first scan found decides: a fault, or a table without room for what was counted; else the second scan stores it.
use mathlib.Core.Path.{refl}
use mathlib.Core.Logic.{inl}
use native.Mathlib.Omega.{arith}
use Rattle.terms.proofs.Verdicts.{handed_on}
use Rattle.text_write.proofs.Outputs.{first_overlong}
use Rattle.dqbf_text.specs.Reading.{no_room_prefix, no_room_clauses, no_room_lists}
use Rattle.dqbf_text.proofs.Readings.{first_fault, first_room, read_all}
use Rattle.dqbf_text.proofs.read.Goals.{then-prefix-counts-via-then-prefix-counts, then-prefix-counts-via-else-prefix-counts+then-clauses-counts}
use Rattle.dqbf_text.proofs.read.Goals.{then-prefix-counts-via-else-prefix-counts+else-clauses-counts+then-lists-counts}
use Rattle.dqbf_text.proofs.read.Goals as goal

pub returns-then-text-gt-TEXT_MOST : goal.returns-then-text-gt-TEXT_MOST
returns-then-text-gt-TEXT_MOST c = record { answered = (inl (first_overlong c.args.text.now c.if-text-gt-TEXT_MOST.true), (refl, refl, refl)) }

pub returns-in_err-counts : goal.returns-in_err-counts
returns-in_err-counts c =
    let a = c.args in
    rw (handed_on c.from_residual.result c.from_residual.ensures.1)
    (record {
      answered = (
        first_fault a.text.now (a.prefix.now, a.clauses.now, a.lists.now) c.if-text-gt-TEXT_MOST.false _ _ c.in_err-counts.ensures.scanned,
        (refl, refl, refl),
      );
    })

pub returns-then-prefix-counts : goal.returns-then-prefix-counts
returns-then-prefix-counts c =
    let a = c.args in
    let s = c.in_ok-counts.ensures.scanned in
    let first = first_room a.text.now (a.prefix.now, a.clauses.now, a.lists.now) c.if-text-gt-TEXT_MOST.false s.text_of in
    elim c.then-prefix-counts.branch [
      | then-prefix-counts-via-then-prefix-counts w ↦
          record { answered = (first (no_room_prefix s.text_of (omega (arith, s.prefix_adds.counted, w.if-prefix-counts.true))), (refl, refl, refl)) }
      | then-prefix-counts-via-else-prefix-counts+then-clauses-counts w ↦
          record { answered = (first (no_room_clauses s.text_of (omega (arith, s.clauses_adds.counted, w.if-clauses-counts.true))), (refl, refl, refl)) }
      | then-prefix-counts-via-else-prefix-counts+else-clauses-counts+then-lists-counts w ↦
          record { answered = (first (no_room_lists s.text_of (omega (arith, s.lists_adds.counted, w.if-lists-counts.true))), (refl, refl, refl)) }
    ]

pub returns : goal.returns
returns c =
    let a = c.args in
    let s = c.in_ok-counts.ensures.scanned in
    let o = c.scan-2 in
    record {
      answered =
          read_all a.text.now (a.prefix.now, a.clauses.now, a.lists.now) c.if-text-gt-TEXT_MOST.false s.text_of
          (omega (arith, s.prefix_adds.counted, c.if-prefix-counts.false)) (omega (arith, s.clauses_adds.counted, c.if-clauses-counts.false))
          (omega (arith, s.lists_adds.counted, c.if-lists-counts.false)) (o.new.prefix, o.new.clauses, o.new.lists) o.result o.ensures.scanned;
    }
