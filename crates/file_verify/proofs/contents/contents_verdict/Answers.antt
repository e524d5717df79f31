-- 1 and 2 are told by the numbers alone; else what is read into tables within the limits decides.
use mathlib.Core.Logic.{inl, inr}
use native.Mathlib.Omega.{arith}
use Rattle.file_format.specs.Places.{formula_held}
use Rattle.file_layout.proofs.Spans.{count_read}
use Rattle.file_verify.proofs.Judging.{count_over, length_over}
use Rattle.file_verify.proofs.contents.contents_verdict.Goals as goal

pub returns-then-n-gt-MOST : goal.returns-then-n-gt-MOST
returns-then-n-gt-MOST c =
    let counted = count_read c.args.file.now c.two_at-n.ensures.read.0 in
    let a = c.args in
    record { judged = count_over a.rule (formula_held a.file.now) a.file.now c.requires.laid.1 (omega (arith, counted, c.if-n-gt-MOST.true)) }

pub returns-then-entries-gt-ENTRIES : goal.returns-then-entries-gt-ENTRIES
returns-then-entries-gt-ENTRIES c =
    let counted = count_read c.args.file.now c.two_at-n.ensures.read.0 in
    let a = c.args in
    record {
      judged = length_over a.rule (formula_held a.file.now) a.file.now c.requires.laid.1 (omega (arith, counted, c.if-n-gt-MOST.false))
          (inl (omega (arith, c.prefix_entries-entries.ensures.counted, c.if-entries-gt-ENTRIES.true)));
    }

pub returns-then-literals-gt-ENTRIES : goal.returns-then-literals-gt-ENTRIES
returns-then-literals-gt-ENTRIES c =
    let counted = count_read c.args.file.now c.two_at-n.ensures.read.0 in
    let a = c.args in
    record {
      judged = length_over a.rule (formula_held a.file.now) a.file.now c.requires.laid.1 (omega (arith, counted, c.if-n-gt-MOST.false))
          (inr (omega (arith, c.clause_entries-literals.ensures.counted, c.if-literals-gt-ENTRIES.true)));
    }

pub read_verdict-requires : goal.read_verdict-requires
read_verdict-requires c =
    let counted = count_read c.args.file.now c.two_at-n.ensures.read.0 in
    record {
      held = (c.requires.laid.0, counted, c.prefix_entries-entries.ensures.counted, c.clause_entries-literals.ensures.counted);
      limits = (c.if-entries-gt-ENTRIES.false, c.if-literals-gt-ENTRIES.false);
    }
