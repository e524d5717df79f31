-- The prefix is judged by the rule first, beside a number of entries that is over the limit exactly where the longer clause table is (entries_alike);
-- what is listed by the prefix as the rule reads it stands behind that in the order.
use Prim.Native.Nat.{ℕ, ◌<◌}
use mathlib.Core.Path.{refl}
use mathlib.Core.List.{List, ◌++◌}
use mathlib.Core.Logic.{inr}
use native.Mathlib.Omega.{arith}
use lib.ListN.{length}
use Rattle.terms.specs.Answers.{Listing}
use Rattle.terms.specs.Listed.{Listed}
use Rattle.terms.specs.Limits.{clause_entries}
use Rattle.terms.specs.Refusals.{Causes}
use Rattle.terms.proofs.Answers.{carry-filling}
use Rattle.terms.proofs.Verdicts.{handed_on}
use Rattle.formula.specs.Lent.{Formula, formula_of}
use Rattle.formula_rules.specs.Rules.{ruled_prefix, read_as}
use Rattle.formula_rules.proofs.Reading.{refused_read, none_read, sound_read, behind_read}
use Rattle.forest_tables.specs.Lent.{Rows, rows}
use Rattle.grow.specs.Grown.{with_last}
use Rattle.grow_changed.specs.Changed.{Changes}
use Rattle.grow_changed.specs.InnerChanged.{behind_changed}
use Rattle.grow_changed.proofs.Telling.{entries_alike}
use Rattle.grow_changed.proofs.changed.Goals as goal

pub changed_read-requires : goal.changed_read-requires
changed_read-requires c =
    let front : List Causes = let a = c.args in
    ruled_prefix a.rule a.n a.prefix.now c.entries.result in
    let a = c.args in
    let is = c.in_ok-read.was in
    let none = none_read front _ a.rule a.n a.prefix.now is c.take_prefix.ensures.takes in
    let short : clause_entries < length (with_last a.clauses.now a.clause.now) → ⊥ =
    λ long. none.1.1.0 2 0 (refl, refl, inr (c.entries.ensures.alike.1 long)) in
    record { sound = (sound_read front _ a.rule a.n a.prefix.now is c.take_prefix.ensures.takes, omega arith) }

pub returns-in_err-read : goal.returns-in_err-read
returns-in_err-read c =
    let lent : Rows = let a = c.args in
    rows a.classes.now a.parents.now a.counts.now in
    let with_prefix : List ℕ → Formula = λ read. let a = c.args in
    formula_of a.n read a.clauses.now in
    let front : List Causes = let a = c.args in
    ruled_prefix a.rule a.n a.prefix.now c.entries.result in
    let later : List ℕ → List Causes = λ read. let a = c.args in
    behind_changed a.scheme (with_prefix read) lent a.clause.now a.out.now in
    let a = c.args in
    let behind = later (read_as a.rule a.prefix.now) in
    rw (handed_on c.from_residual.result c.from_residual.ensures.1)
    record {
      listed = (
        (entries_alike a.rule a.n a.prefix.now c.entries.ensures.alike behind).first _ _
            (refused_read front _ a.rule a.n a.prefix.now behind c.in_err-read.was c.take_prefix.ensures.takes),
        refl,
      );
    }

pub returns : goal.returns
returns c =
    let lent : Rows = let a = c.args in
    rows a.classes.now a.parents.now a.counts.now in
    let with_prefix : List ℕ → Formula = λ read. let a = c.args in
    formula_of a.n read a.clauses.now in
    let later : List ℕ → List Causes = λ read. let a = c.args in
    behind_changed a.scheme (with_prefix read) lent a.clause.now a.out.now in
    let front : List Causes = let a = c.args in
    ruled_prefix a.rule a.n a.prefix.now c.entries.result in
    let a = c.args in
    let done = c.changed_read in
    let after = done.new.out in
    let P : List ℕ → ℕ → Type 0 = λ read. Changes a.scheme (with_prefix read) lent a.clause.now in
    let read = read_as a.rule a.prefix.now in
    let listed = behind_read front _ a.rule a.n a.prefix.now c.in_ok-read.was c.take_prefix.ensures.takes
    (λ order read. Listing order (P read) a.out.now after done.result)
    (λ order order' read. carry-filling (Listed (P read)) a.out.now after done.result order order') later
    done.ensures.listed in
    record {
      listed = carry-filling (Listed (P read)) a.out.now after done.result (front ++ later read) _
          (entries_alike a.rule a.n a.prefix.now c.entries.ensures.alike (later read)) listed;
    }
