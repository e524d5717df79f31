-- The tests of the definition in its order: always true, satisfied, and with x true whether x or a member is there.
use Rattle.std.proofs.Common.{sym, ◌∙◌}
use Rattle.expand_clauses.specs.InnerCopied.{tabled}
use Rattle.expand_clauses.proofs.Testing.{copy_always, copy_satisfied, copy_touched, copy_first}
use Rattle.expand_clauses.proofs.literals.has_copy.Goals as goal

pub returns-then-always_true : goal.returns-then-always_true
returns-then-always_true c =
    let a = c.args in
    let always = c.always_true.ensures in
    record {
      told = (
        copy_always a.value a.x.0 (tabled a.copies.now) a.clause.now (sym always.truth ∙ c.if-always_true.true),
        always.stamped,
      );
    }

pub returns-then-is_satisfied : goal.returns-then-is_satisfied
returns-then-is_satisfied c =
    let a = c.args in
    let always = c.always_true.ensures in
    record {
      told = (
        copy_satisfied a.value a.x.0 (tabled a.copies.now) a.clause.now (sym always.truth ∙ c.if-always_true.false)
            (sym c.is_satisfied.ensures.told ∙ c.if-is_satisfied.true),
        always.stamped,
      );
    }

pub returns-then-value : goal.returns-then-value
returns-then-value c =
    let a = c.args in
    let always = c.always_true.ensures in
    record {
      told = (
        copy_touched a.value a.x.0 (tabled a.copies.now) a.clause.now (sym always.truth ∙ c.if-always_true.false)
            (sym c.is_satisfied.ensures.told ∙ c.if-is_satisfied.false) c.if-value.true c.is_touched.ensures.told,
        always.stamped,
      );
    }

pub returns : goal.returns
returns c =
    let a = c.args in
    let always = c.always_true.ensures in
    record {
      told = (
        copy_first a.value a.x.0 (tabled a.copies.now) a.clause.now (sym always.truth ∙ c.if-always_true.false)
            (sym c.is_satisfied.ensures.told ∙ c.if-is_satisfied.false) c.if-value.false,
        always.stamped,
      );
    }
