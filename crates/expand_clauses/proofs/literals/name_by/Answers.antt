-- With x true the name is the copy's, with x false it stays: the two cases of `named`.
use mathlib.Core.Path.{sym, ap, ◌∙◌}
use Rattle.expand_clauses.specs.InnerCopies.{named}
use Rattle.expand_clauses.specs.InnerCopied.{tabled}
use Rattle.expand_clauses.proofs.literals.name_by.Goals as goal

pub returns-then-value : goal.returns-then-value
unfolding named
returns-then-value c =
    let a = c.args in
    record { named = c.rename.ensures.renamed ∙ sym (ap (λ b. named b (tabled a.copies.now) a.literal.0) c.if-value.true) }

pub returns-else-value : goal.returns-else-value
unfolding named
returns-else-value c =
    let a = c.args in
    record { named = sym (ap (λ b. named b (tabled a.copies.now) a.literal.0) c.if-value.false) }
