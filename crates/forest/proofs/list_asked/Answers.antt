-- The formula is judged by the rule first; what is listed by the prefix as the rule reads it stands behind that in the order.
use Rattle.terms.proofs.Verdicts.{handed_on}
use Prim.Native.Nat.{ℕ}
use mathlib.Core.Path.{refl}
use mathlib.Core.List.{List, [], ◌∷◌, ◌++◌}
use Rattle.terms.specs.Answers.{Listing, TooLong}
use Rattle.terms.specs.Listed.{Listed}
use Rattle.terms.specs.Refusals.{Causes, At0}
use Rattle.terms.proofs.Answers.{carry-filling}
use Rattle.formula.specs.Lent.{Formula, formula_of}
use Rattle.formula_rules.specs.Rules.{check_order, read_as}
use Rattle.formula_rules.proofs.Reading.{refused_read, sound_read, more_read, behind_read}
use Rattle.forest_tables.specs.Lent.{Rows, rows}
use Rattle.forest.specs.InnerOrders.{behind_check}
use Rattle.forest.specs.InnerWanted.{Wanted}
use Rattle.forest.proofs.list_asked.Goals as goal
use Rattle.forest.proofs.list_asked.Goals.{Start}

-- the formula and the rows that are lent
abbrev formula : Start → Formula
formula at-start = let a = at-start.args in formula_of a.n a.prefix.now a.clauses.now

abbrev lent : Start → Rows
lent at-start = let a = at-start.args in rows a.classes.now a.parents.now a.counts.now

-- what is asked for of the prefix that is read, and what is looked for behind check
abbrev Asked-for : Start → List ℕ → ℕ → Type 0
Asked-for at-start read =
    let a = at-start.args in
    Wanted a.question.scheme a.question.asked (formula_of a.n read a.clauses.now) (lent at-start) a.question.x.0

abbrev later : Start → List ℕ → List Causes
later at-start read =
    let a = at-start.args in
    behind_check a.n read (lent at-start) a.question.x.0 ++ (At0 14 (TooLong (Asked-for at-start read) a.out.now) ∷ [])

pub sound_list-requires : goal.sound_list-requires
sound_list-requires c =
    let s = (goal.at.sound_list-requires c).Start in
    let a = c.args in
    let order = check_order a.rule (formula s) in
    record {
      sound = (
        sound_read order _ a.rule a.n a.prefix.now c.in_ok-read.was c.take_formula.ensures.takes,
        more_read order _ a.rule a.n a.prefix.now c.in_ok-read.was c.take_formula.ensures.takes,
      );
    }

pub returns-in_err-read : goal.returns-in_err-read
returns-in_err-read c =
    let s = (goal.at.returns-in_err-read c).Start in
    let a = c.args in
    rw (handed_on c.from_residual.result c.from_residual.ensures.1)
    record {
      listed = (
        refused_read (check_order a.rule (formula s)) _ a.rule a.n a.prefix.now (later s (read_as a.rule a.prefix.now)) c.in_err-read.was
            c.take_formula.ensures.takes,
        refl,
      );
    }

pub returns : goal.returns
returns c =
    let s = (goal.at.returns c).Start in
    let a = c.args in
    let after = c.sound_list.new.out in
    let answer = c.sound_list.result in
    record {
      listed = behind_read (check_order a.rule (formula s)) _ a.rule a.n a.prefix.now c.in_ok-read.was c.take_formula.ensures.takes
          (λ order read. Listing order (Asked-for s read) a.out.now after answer)
          (λ order order' read. carry-filling (Listed (Asked-for s read)) a.out.now after answer order order')
          (later s) c.sound_list.ensures.listed;
    }
