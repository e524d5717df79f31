-- Both lengths are counted before anything is written, so that the refusals stand in their order; then the two writes leave the formula.
use Rattle.std.proofs.Common.{◌<◌, refl, ◌∙◌, arith, length}
use mathlib.Core.Logic.{inl, inr, ⊎_elim}
use Rattle.terms.proofs.Overwritten.{stored_overwritten}
use Rattle.terms.proofs.Verdicts.{at0_none}
use Rattle.formula.specs.Lent.{formula_of}
use Rattle.expand_clauses.specs.InnerCopied.{tabled}
use Rattle.expand.specs.Promise.{result_tables, Long, Short}
use Rattle.expand.specs.InnerWriting.{expanded_with}
use Rattle.expand.proofs.fill.Goals as goal

-- it is within the limits behind the second test, and behind the fourth there is room for it
pub returns : goal.returns
returns c =
    let a = c.args in
    let written = expanded_with a.count a.x.0 (tabled a.copies.now) (formula_of a.count a.prefix.now a.clauses.now) in
    let lent = result_tables a.out_prefix.now a.out_clauses.now in
    let entries = c.prefix_entries-entries.ensures.counted in
    let literals = c.clause_entries-literals.ensures.counted in
    let within : Long written → ⊥ =
    ⊎_elim (λ l. omega (arith, c.if-entries-gt-ENTRIES.false, entries)) (λ l. omega (arith, c.if-literals-gt-ENTRIES.false, literals)) in
    let short : Short lent written → ⊥ =
    ⊎_elim (λ l. omega (arith, c.if-out_prefix-entries.false, entries)) (λ l. omega (arith, c.if-out_clauses-literals.false, literals)) in
    let room : length lent.prefix < length written.prefix → ⊥ = λ l. short (inl l) in
    let rooms : length lent.clauses < length written.clauses → ⊥ = λ l. short (inr l) in
    record {
      fits = (
        (at0_none 2 within, (at0_none 14 short, tt)),
        record {
          count_is = refl;
          entries_is = entries;
          literals_is = literals;
          prefix_is = c.lay.ensures.stored.store ∙ stored_overwritten written.prefix lent.prefix (omega arith);
          clauses_is = c.copy_clauses.ensures.stored.store ∙ stored_overwritten written.clauses lent.clauses (omega arith);
        },
      );
    }
