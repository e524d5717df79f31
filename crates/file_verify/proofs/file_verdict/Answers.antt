-- 23 comes first, then the causes in the records, then those in what they hold.
use Rattle.terms.proofs.Verdicts.{handed_on}
use Rattle.file_layout.proofs.Laying.{file_laid}
use Rattle.file_verify.proofs.Judging.{no_rule, records_refused, records_then}
use Rattle.file_verify.proofs.file_verdict.Goals as goal

pub returns-then-not-is_rule : goal.returns-then-not-is_rule
returns-then-not-is_rule c =
    let a = c.args in
    record { judged = no_rule a.rule a.file.now c.if-not-is_rule.ensures.told }

pub contents_verdict-requires : goal.contents_verdict-requires
contents_verdict-requires c =
    let file = c.args.file.now in
    record { laid = (file_laid file c.in_ok-layout_verdict.ensures.judged, c.if-not-is_rule.ensures.told) }

pub returns-in_err-layout_verdict : goal.returns-in_err-layout_verdict
returns-in_err-layout_verdict c =
    let a = c.args in
    rw (handed_on c.from_residual.result c.from_residual.ensures.1)
    record { judged = records_refused a.rule a.file.now c.if-not-is_rule.ensures.told c.in_err-layout_verdict.field-0.0 c.in_err-layout_verdict.ensures.judged }

pub returns : goal.returns
returns c =
    let a = c.args in
    record {
      judged = records_then a.rule a.file.now c.if-not-is_rule.ensures.told c.contents_verdict.result c.in_ok-layout_verdict.ensures.judged
          c.contents_verdict.ensures.judged;
    }
