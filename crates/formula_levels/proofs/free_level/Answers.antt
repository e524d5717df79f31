-- The free level depends on the mark of the first block, and that is the first entry (free_of_first).
use mathlib.Core.Path.{ap, sym, ◌∙◌}
use mathlib.Core.Bool.{cond}
use borrow.Author.Tests.{eq-eqb, ne_eqb}
use Rattle.formula.specs.Tables.{at}
use Rattle.formula.proofs.Levelling.{free_of_none, free_of_first}
use Rattle.formula_levels.proofs.free_level.Goals as goal

pub returns-then-prefix-eq0 : goal.returns-then-prefix-eq0
returns-then-prefix-eq0 c = record { free = free_of_none c.args.prefix.now c.if-prefix-eq0.true }

pub returns-then-prefix-eq1 : goal.returns-then-prefix-eq1
returns-then-prefix-eq1 c =
    let es = c.args.prefix.now in
    record { free = sym (ap (λ b. cond b 1 0) (eq-eqb (at es 0) 1 c.if-prefix-eq1.true)) ∙ free_of_first es c.requires.sound.1 c.if-prefix-eq0.false }

pub returns-else-prefix-eq1 : goal.returns-else-prefix-eq1
returns-else-prefix-eq1 c =
    let es = c.args.prefix.now in
    record { free = sym (ap (λ b. cond b 1 0) (ne_eqb (at es 0) 1 c.if-prefix-eq1.false)) ∙ free_of_first es c.requires.sound.1 c.if-prefix-eq0.false }
