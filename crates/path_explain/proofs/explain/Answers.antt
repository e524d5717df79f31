-- The formula is judged by the rule; what is written by the prefix as the rule reads it stands behind that in the order.
use Prim.Native.Nat.{ℕ}
use mathlib.Core.Path.{refl}
use mathlib.Core.List.{List}
use Rattle.terms.specs.Answers.{Filling}
use Rattle.terms.specs.Refusals.{Causes}
use Rattle.terms.proofs.Answers.{carry-filling}
use Rattle.terms.proofs.Verdicts.{handed_on}
use Rattle.formula.specs.Lent.{Formula, formula_of}
use Rattle.formula_rules.specs.Rules.{check_order, read_as}
use Rattle.formula_rules.proofs.Orders.{clauses_sound}
use Rattle.formula_rules.proofs.Reading.{refused_read, none_read, sound_read, behind_read}
use Rattle.path_explain.specs.Causes.{ExplainsBy}
use Rattle.path_explain.specs.InnerOrders.{behind_explain}
use Rattle.path_explain.proofs.Answers.{clauses_closed}
use Rattle.path_explain.proofs.explain.Goals as goal
use Rattle.path_explain.proofs.explain.Goals.{Start}

-- the formula that is lent, and as it is with a prefix that is read
abbrev formula : Start → Formula
formula at-start = let a = at-start.args in formula_of a.n a.prefix.now a.clauses.now

abbrev with_prefix : Start → List ℕ → Formula
with_prefix at-start read = let a = at-start.args in formula_of a.n read a.clauses.now

-- what is written by it, and what is looked for behind check
abbrev Written : Start → List ℕ → List ℕ → Type 0
Written at-start read = let a = at-start.args in ExplainsBy (with_prefix at-start read) a.signs a.x.0 a.y.0

abbrev later : Start → List ℕ → List Causes
later at-start read = let a = at-start.args in behind_explain (with_prefix at-start read) a.signs a.x.0 a.y.0 a.out.now

pub sound_explain-requires : goal.sound_explain-requires
sound_explain-requires c =
    let s = (goal.at.sound_explain-requires c).Start in
    let a = c.args in
    let order = check_order a.rule (formula s) in
    let is = c.in_ok-read.was in
    let none = none_read order _ a.rule a.n a.prefix.now is c.take_formula.ensures.takes in
    record {
      sound = (
        sound_read order _ a.rule a.n a.prefix.now is c.take_formula.ensures.takes,
        clauses_sound a.rule (formula s) none,
        clauses_closed a.rule (formula s) none,
      );
    }

pub returns-in_err-read : goal.returns-in_err-read
returns-in_err-read c =
    let s = (goal.at.returns-in_err-read c).Start in
    let a = c.args in
    rw (handed_on c.from_residual.result c.from_residual.ensures.1)
    record {
      explained = (
        refused_read (check_order a.rule (formula s)) _ a.rule a.n a.prefix.now (later s (read_as a.rule a.prefix.now)) c.in_err-read.was
            c.take_formula.ensures.takes,
        refl,
      );
    }

pub returns : goal.returns
returns c =
    let s = (goal.at.returns c).Start in
    let a = c.args in
    let after = c.sound_explain.new.out in
    let answer = c.sound_explain.result in
    record {
      explained = behind_read (check_order a.rule (formula s)) _ a.rule a.n a.prefix.now c.in_ok-read.was c.take_formula.ensures.takes
          (λ order read. Filling order (Written s read) a.out.now after answer)
          (λ order order' read. carry-filling (Written s read) a.out.now after answer order order')
          (later s) c.sound_explain.ensures.explained;
    }
