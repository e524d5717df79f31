-- A table over the limit is over it with more behind it, and within the limit the sum is exact.
use native.Mathlib.Omega.{arith}
use Rattle.grow_changed.proofs.Copying.{last_length}
use Rattle.grow_changed.proofs.entries.Goals as goal

pub returns-then-clauses-gt-ENTRIES : goal.returns-then-clauses-gt-ENTRIES
returns-then-clauses-gt-ENTRIES c =
    let a = c.args in
    let size = last_length a.clauses.now a.clause.now in
    record {
      alike = (
        λ _. let long = c.if-clauses-gt-ENTRIES.true in
            omega arith,
        λ _. c.if-clauses-gt-ENTRIES.true,
      );
    }

pub returns-then-clause-gt-ENTRIES : goal.returns-then-clause-gt-ENTRIES
returns-then-clause-gt-ENTRIES c =
    let a = c.args in
    let size = last_length a.clauses.now a.clause.now in
    record {
      alike = (
        λ _. let long = c.if-clause-gt-ENTRIES.true in
            omega arith,
        λ _. c.if-clause-gt-ENTRIES.true,
      );
    }

pub returns : goal.returns
returns c =
    let a = c.args in
    let size = last_length a.clauses.now a.clause.now in
    record { alike = (λ l. omega arith, λ l. omega arith) }
