-- The verdict on the file comes first in the order, and 14 behind it; the rows that are stored were judged to be right.
use Rattle.std.proofs.Common.{refl, [], ◌∷◌, ◌++◌}
use Rattle.terms.specs.Refusals.{At0}
use Rattle.terms.proofs.Orders.{behind_none}
use Rattle.terms.proofs.Verdicts.{first_of_more, handed_on}
use Rattle.formula_rules.specs.Rules.{read_by}
use Rattle.forest_tables.specs.Lent.{rows}
use Rattle.file_format.specs.Places.{formula_held}
use Rattle.file_format.specs.Causes.{NoFileRoom, lent_tables}
use Rattle.file_format.proofs.Orders.{carry_loading}
use Rattle.file_verify.specs.InnerVerified.{verify_order}
use Rattle.file_verify.proofs.Disagree.{own_rows}
use Rattle.file_verify.proofs.Judging.{verified_laid}
use Rattle.file_read.proofs.load.Goals as goal

pub load_right-requires : goal.load_right-requires
load_right-requires c =
    let a = c.args in
    record { laid = verified_laid a.rule a.file.now c.in_ok-file_verdict.ensures.judged.0 }

pub returns-in_err-file_verdict : goal.returns-in_err-file_verdict
returns-in_err-file_verdict c =
    let a = c.args in
    let lent = lent_tables a.prefix.now a.clauses.now (rows a.classes.now a.parents.now a.counts.now) in
    let last = At0 14 (NoFileRoom (formula_held a.file.now) lent) ∷ [] in
    rw (handed_on c.from_residual.result c.from_residual.ensures.1)
    record { loaded = (first_of_more (verify_order a.rule a.file.now) last _ _ c.in_err-file_verdict.ensures.judged.0, refl {a = lent}) }

pub returns : goal.returns
returns c =
    let a = c.args in
    let file = a.file.now in
    let lent = lent_tables a.prefix.now a.clauses.now (rows a.classes.now a.parents.now a.counts.now) in
    let last = At0 14 (NoFileRoom (formula_held file) lent) ∷ [] in
    let o = c.load_right in
    let left = lent_tables o.new.prefix o.new.clauses (rows o.new.classes o.new.parents o.new.counts) in
    let read = read_by a.rule (formula_held file) in
    let (none, (r, right)) = c.in_ok-file_verdict.ensures.judged in
    record {
      loaded = carry_loading read file lent left o.result last (verify_order a.rule file ++ last)
          (behind_none (verify_order a.rule file) last none) (o.ensures.loaded read (own_rows read file refl right));
    }
