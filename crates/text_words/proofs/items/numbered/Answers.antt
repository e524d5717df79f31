-- The item of a number by its sign, and by whether it is 0: each way through is one case of the definition.
use mathlib.Core.Path.{refl}
use borrow.Author.Tests.{eq-eqb, ne_eqb}
use Rattle.text_words.specs.InnerNumbers.{plain_item, negated_item}
use Rattle.text_words.specs.InnerPlaces.{signed_item}
use Rattle.text_words.proofs.items.numbered.Goals as goal

pub returns-then-negative : goal.returns-then-negative
unfolding signed_item negated_item
returns-then-negative c = record { read = rw (c.if-negative.true, eq-eqb c.args.value 0 c.if-value-eq0.true) refl }

pub returns-then-value-eq0 : goal.returns-then-value-eq0
unfolding signed_item plain_item
returns-then-value-eq0 c = record { read = rw (c.if-negative.false, eq-eqb c.args.value 0 c.if-value-eq0.true) c.close_at.ensures.read }

pub returns-then-negative-2 : goal.returns-then-negative-2
unfolding signed_item negated_item
returns-then-negative-2 c = record { read = rw (c.if-negative-2.true, ne_eqb c.args.value 0 c.if-value-eq0.false) refl }

pub returns-else-negative-2 : goal.returns-else-negative-2
unfolding signed_item plain_item
returns-else-negative-2 c = record { read = rw (c.if-negative-2.false, ne_eqb c.args.value 0 c.if-value-eq0.false) refl }
