-- The formula is judged by the rule; what is found by the prefix as the rule reads it stands behind that in the order.
use Prim.Native.Nat.{ℕ}
use mathlib.Core.List.{List, [], ◌∷◌}
use Rattle.terms.proofs.Verdicts.{first_of_more, handed_on}
use Rattle.formula.specs.Lent.{Formula, formula_of}
use Rattle.formula_rules.specs.Rules.{read_by, check_order}
use Rattle.formula_rules.proofs.Reading.{behind_read}
use Rattle.sets.proofs.AllSets.{sound_closed}
use Rattle.file_format.specs.Causes.{ForestFileCause}
use Rattle.file_verify.specs.InnerVerified.{Finds}
use Rattle.file_verify.proofs.Judging.{carry_finds}
use Rattle.file_verify.proofs.contents.formula_verdict.Goals as goal

pub forest_verdict-requires : goal.forest_verdict-requires
forest_verdict-requires c =
    let a = c.args in
    let reads = c.in_ok-read.ensures.takes in
    record { sound = (c.requires.laid, (reads.1, reads.3, sound_closed a.rule (formula_of a.n a.prefix.now a.clauses.now) reads.0)) }

pub returns-in_err-read : goal.returns-in_err-read
returns-in_err-read c =
    let a = c.args in
    let f : Formula = formula_of a.n a.prefix.now a.clauses.now in
    rw (handed_on c.from_residual.result c.from_residual.ensures.1)
    record {
      judged = (first_of_more (check_order a.rule f) (ForestFileCause (read_by a.rule f) a.file.now ∷ []) _ _ c.in_err-read.ensures.takes, tt);
    }

pub returns : goal.returns
returns c =
    let a = c.args in
    let file = a.file.now in
    let with_prefix : List ℕ → Formula = λ read. formula_of a.n read a.clauses.now in
    let v = c.forest_verdict.result in
    record {
      judged = behind_read (check_order a.rule (with_prefix a.prefix.now)) _ a.rule a.n a.prefix.now c.in_ok-read.was c.take_formula.ensures.takes
          (λ order read. Finds order (with_prefix read) file v) (λ order order' read. carry_finds (with_prefix read) file v order order')
          (λ read. ForestFileCause (with_prefix read) file ∷ []) c.forest_verdict.ensures.judged;
    }
