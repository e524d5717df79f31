-- A clause that has a copy has its literals and a 0 stored; one that has none leaves the table as it is.
use mathlib.Core.Path.{sym, ◌∙◌}
use Rattle.expand_clauses.specs.InnerCopied.{tabled}
use Rattle.expand_clauses.proofs.Storing.{stored_as, stored_none}
use Rattle.expand_clauses.proofs.Copying.{one_copied, none_copied}
use Rattle.expand_clauses.proofs.literals.copy_clause.Goals as goal

pub has_copy-requires : goal.has_copy-requires
has_copy-requires c =
    let pre = c.requires in
    record { sound = (pre.sound.0, pre.sound.1) }

pub copy_one-requires : goal.copy_one-requires
copy_one-requires c =
    let pre = c.requires in
    record { few = (pre.sound.2, pre.sound.3, pre.sound.4) }

pub returns-then-has_copy : goal.returns-then-has_copy
returns-then-has_copy c =
    let a = c.args in
    let has = c.has_copy.ensures in
    record {
      stored = (
        stored_as (one_copied a.value a.x.0 (tabled a.copies.now) a.clause.now (sym c.if-has_copy.true ∙ has.told.0))
            c.copy_one.ensures.stored,
        has.told.1,
      );
    }

pub returns : goal.returns
returns c =
    let a = c.args in
    let has = c.has_copy.ensures in
    record {
      stored = (
        stored_as (none_copied a.value a.x.0 (tabled a.copies.now) a.clause.now (sym c.if-has_copy.false ∙ has.told.0))
            (stored_none a.out.now a.at),
        has.told.1,
      );
    }
