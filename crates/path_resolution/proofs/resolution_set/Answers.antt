-- The formula is judged by the rule; what is listed by the prefix as the rule reads it stands behind that in the order.
use Prim.Native.Nat.{ℕ}
use mathlib.Core.Path.{refl}
use mathlib.Core.List.{List}
use Rattle.terms.specs.Answers.{Listing}
use Rattle.terms.specs.Listed.{Listed}
use Rattle.terms.proofs.Answers.{carry-filling}
use Rattle.terms.proofs.Verdicts.{handed_on}
use Rattle.formula.specs.Lent.{formula_of}
use Rattle.formula_rules.specs.Rules.{check_order, read_as}
use Rattle.formula_rules.proofs.Reading.{refused_read, none_read, sound_read, behind_read}
use Rattle.forest_tables.specs.Lent.{variables_of}
use Rattle.path_resolution.specs.Paths.{DependsByPaths}
use Rattle.path_resolution.specs.InnerEnds.{behind_resolution}
use Rattle.path_resolution.proofs.Listing.{read_clauses}
use Rattle.path_resolution.proofs.resolution_set.Goals as goal

pub sound_set-requires : goal.sound_set-requires
sound_set-requires c =
    let a = c.args in
    let formula = formula_of a.n a.prefix.now a.clauses.now in
    let order = check_order a.rule formula in
    let is = c.in_ok-read.was in
    record {
      sound = (
        sound_read order _ a.rule a.n a.prefix.now is c.take_formula.ensures.takes,
        read_clauses a.rule formula (none_read order _ a.rule a.n a.prefix.now is c.take_formula.ensures.takes),
      );
    }

pub returns-in_err-read : goal.returns-in_err-read
returns-in_err-read c =
    let a = c.args in
    let with_prefix = λ (read : List ℕ). formula_of a.n read a.clauses.now in
    let later = λ (read : List ℕ). behind_resolution (with_prefix read) a.x.0 a.out.now in
    let formula = formula_of a.n a.prefix.now a.clauses.now in
    rw (handed_on c.from_residual.result c.from_residual.ensures.1)
    record {
      listed = (
        refused_read (check_order a.rule formula) _ a.rule a.n a.prefix.now (later (read_as a.rule a.prefix.now))
            c.in_err-read.was c.take_formula.ensures.takes,
        refl,
      );
    }

pub returns : goal.returns
returns c =
    let a = c.args in
    let with_prefix = λ (read : List ℕ). formula_of a.n read a.clauses.now in
    let later = λ (read : List ℕ). behind_resolution (with_prefix read) a.x.0 a.out.now in
    let Dependent = λ (read : List ℕ). DependsByPaths (variables_of (with_prefix read)) a.clauses.now a.x.0 in
    let formula = formula_of a.n a.prefix.now a.clauses.now in
    let after = c.sound_set.new.out in
    let answer = c.sound_set.result in
    record {
      listed = behind_read (check_order a.rule formula) _ a.rule a.n a.prefix.now c.in_ok-read.was c.take_formula.ensures.takes
          (λ order read. Listing order (Dependent read) a.out.now after answer)
          (λ order order' read. carry-filling (Listed (Dependent read)) a.out.now after answer order order')
          later c.sound_set.ensures.listed;
    }
