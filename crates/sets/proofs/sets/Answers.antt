-- The formula is judged by the rule first; what is listed by the prefix as the rule reads it stands behind that in the order.
use Prim.Native.Nat.{ℕ}
use mathlib.Core.Path.{refl}
use mathlib.Core.List.{List}
use Rattle.terms.specs.Answers.{Filling}
use Rattle.terms.proofs.Answers.{carry-filling}
use Rattle.terms.proofs.Verdicts.{handed_on}
use Rattle.formula.specs.Lent.{Formula, formula_of}
use Rattle.formula_rules.specs.Rules.{check_order, read_by}
use Rattle.formula_rules.proofs.Reading.{refused_read, none_read, sound_read, more_read, behind_read}
use Rattle.forest_tables.specs.Lent.{Rows, rows}
use Rattle.sets.specs.Sets.{AllSetsBy}
use Rattle.sets.specs.InnerOrders.{behind_sets}
use Rattle.sets.proofs.AllSets.{sound_closed}
use Rattle.sets.proofs.sets.Goals as goal

pub sound_sets-requires : goal.sound_sets-requires
sound_sets-requires c =
    let with_prefix : List ℕ → Formula = λ read. let a = c.args in
    formula_of a.n read a.clauses.now in
    let formula : Formula = with_prefix c.args.prefix.now in
    let a = c.args in
    let order = check_order a.rule formula in
    let is = c.in_ok-read.was in
    let reads = c.take_formula.ensures in
    record {
      sound = (
        sound_read order _ a.rule a.n a.prefix.now is reads.takes,
        more_read order _ a.rule a.n a.prefix.now is reads.takes,
        sound_closed a.rule formula (none_read order _ a.rule a.n a.prefix.now is reads.takes),
      );
    }

pub returns-in_err-read : goal.returns-in_err-read
returns-in_err-read c =
    let with_prefix : List ℕ → Formula = λ read. let a = c.args in
    formula_of a.n read a.clauses.now in
    let lent : Rows = let a = c.args in
    rows a.classes.now a.parents.now a.counts.now in
    let formula : Formula = with_prefix c.args.prefix.now in
    let a = c.args in
    rw (handed_on c.from_residual.result c.from_residual.ensures.1)
    record {
      listed = (
        refused_read (check_order a.rule formula) _ a.rule a.n a.prefix.now
            (behind_sets a.scheme (read_by a.rule formula) lent a.out.now) c.in_err-read.was
            c.take_formula.ensures.takes,
        refl,
      );
    }

pub returns : goal.returns
returns c =
    let lent : Rows = let a = c.args in
    rows a.classes.now a.parents.now a.counts.now in
    let with_prefix : List ℕ → Formula = λ read. let a = c.args in
    formula_of a.n read a.clauses.now in
    let formula : Formula = with_prefix c.args.prefix.now in
    let a = c.args in
    let after = c.sound_sets.new.out in
    let answer = c.sound_sets.result in
    record {
      listed = behind_read (check_order a.rule formula) _ a.rule a.n a.prefix.now c.in_ok-read.was c.take_formula.ensures.takes
          (λ order read. Filling order (AllSetsBy a.scheme (with_prefix read) lent) a.out.now after answer)
          (λ order order' read. carry-filling (AllSetsBy a.scheme (with_prefix read) lent) a.out.now after answer order order')
          (λ read. behind_sets a.scheme (with_prefix read) lent a.out.now)
          c.sound_sets.ensures.listed;
    }
