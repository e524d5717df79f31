use mathlib.Core.Path.{◌≡◌, sym, ap, ◌∙◌}
use borrow.Author.Tests.{eqb-true, eqb-false}
use lib.IntN.{ℤ}
use lib.ListN.{set}
use Rattle.std.proofs.Common.{rules}
use Rattle.formula.specs.Tables.{literal_at}
use Rattle.terms.specs.Literals.{variable_of}
use Rattle.expand_clauses.specs.InnerCopies.{named}
use Rattle.expand_clauses.specs.InnerCopied.{tabled}
use Rattle.expand_clauses.proofs.Copying.{literals_x, literals_more, literals_all}
use Rattle.expand_clauses.proofs.literals.copy_one.Goals as goal

pub loop-entry-preserved-then-eq : goal.loop-entry-preserved-then-eq
loop-entry-preserved-then-eq c =
    let read : c.new-literal.result.0 ≡ literal_at c.args.clause.now c.loop-entry.entry-index = search rules in
    literals_x c.loop-entry.invariant c.loop-entry-test.true (c.variable.ensures.own ∙ ap variable_of read) (eqb-true _ _ (sym c.eq.ensures ∙ c.if-eq.true))

pub loop-entry-preserved : goal.loop-entry-preserved
loop-entry-preserved c =
    let a = c.args in
    let l = c.loop-entry in
    let read : c.new-literal.result.0 ≡ literal_at a.clause.now l.entry-index = search rules in
    let name = c.name_by-name.ensures.named ∙ ap (named a.value (tabled a.copies.now)) read in
    let stored : c.store.new.table ≡ set l.out l.end c.name_by-name.result.0 = search rules in
    literals_more l.invariant c.loop-entry-test.true (c.variable.ensures.own ∙ ap variable_of read) (eqb-false _ _ (sym c.eq.ensures ∙ c.if-eq.false))
    (stored ∙ ap (λ (z : ℤ). set l.out l.end z) name)

pub returns : goal.returns
returns c = record { stored = literals_all c.loop-entry.invariant c.loop-entry-test.false c.store-2.ensures.stored }
