-- Lists that are too long are refused first (long_refused); else the formula is read, and the order is that of check (read_beside).
use Rattle.formula.specs.Lent.{formula_of}
use Rattle.dqbf_lists.proofs.Ordering.{long_refused, read_beside}
use Rattle.dqbf_lists.proofs.reading.read_listed.Goals as goal

pub returns-then-entries-gt-ENTRIES : goal.returns-then-entries-gt-ENTRIES
returns-then-entries-gt-ENTRIES c =
    let a = c.args in
    record {
      reads = long_refused a.rule (formula_of a.n a.prefix.now a.clauses.now) a.entries c.if-entries-gt-ENTRIES.true _
          c.long_fault.ensures.first;
    }

pub returns : goal.returns
returns c =
    let a = c.args in
    record {
      reads = read_beside a.rule (formula_of a.n a.prefix.now a.clauses.now) a.entries c.if-entries-gt-ENTRIES.false _
          c.read_formula.result c.read_formula.ensures.reads;
    }
