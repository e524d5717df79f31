-- The prefix is judged by the rule first; what is found by the prefix as the rule reads it stands behind that in the order.
use Rattle.terms.proofs.Verdicts.{handed_on}
use mathlib.Core.List.{[]}
use Rattle.terms.specs.Answers.{Answered}
use Rattle.terms.proofs.Answers.{carry-answered}
use Rattle.formula.specs.Lent.{formula_of}
use Rattle.formula_rules.specs.Rules.{ruled_prefix, read_as}
use Rattle.formula_rules.proofs.Reading.{refused_read, sound_read, behind_read}
use Rattle.forest_tables.specs.Lent.{rows}
use Rattle.forest.specs.InnerOrders.{behind_entry}
use Rattle.forest.specs.Answers.{Entry}
use Rattle.forest.proofs.entry_point.Goals as goal

pub sound_entry-requires : goal.sound_entry-requires
sound_entry-requires c =
    let a = c.args in
    record {
      sound = sound_read (ruled_prefix a.rule a.n a.prefix.now 0) _ a.rule a.n a.prefix.now c.in_ok-read.was
          c.take_prefix.ensures.takes;
    }

pub returns-in_err-read : goal.returns-in_err-read
returns-in_err-read c =
    let a = c.args in
    rw (handed_on c.from_residual.result c.from_residual.ensures.1)
    record {
      answer = (
        refused_read (ruled_prefix a.rule a.n a.prefix.now 0) _ a.rule a.n a.prefix.now
            (behind_entry a.n (read_as a.rule a.prefix.now) (rows a.classes.now a.parents.now a.counts.now) a.x.0 a.y.0) c.in_err-read.was
            c.take_prefix.ensures.takes,
        tt,
      );
    }

pub returns : goal.returns
returns c =
    let a = c.args in
    let lent = rows a.classes.now a.parents.now a.counts.now in
    let found = c.sound_entry.result in
    record {
      answer = behind_read (ruled_prefix a.rule a.n a.prefix.now 0) _ a.rule a.n a.prefix.now c.in_ok-read.was c.take_prefix.ensures.takes
          (λ order read. Answered order (Entry (formula_of a.n read []) lent a.x.0 a.y.0) found)
          (λ order order' read. carry-answered (Entry (formula_of a.n read []) lent a.x.0 a.y.0) found order order')
          (λ read. behind_entry a.n read lent a.x.0 a.y.0) c.sound_entry.ensures.answer;
    }
