-- The scheme is chosen by the very test that the code makes, and either branch knows its outcome.
use mathlib.Core.Path.{sym, ap}
use mathlib.Core.Bool.{Bool, cond}
use borrow.Author.Tests.{eq-eqb, ne_eqb}
use Rattle.terms.specs.declared.Scheme.TheVariants.{Standard, Strict}
use Rattle.c_answers.specs.Codes.{scheme_of}
use Rattle.c_answers.proofs.scheme_in.Goals as goal

pub returns-then-number-eq2 : goal.returns-then-number-eq2
unfolding scheme_of
returns-then-number-eq2 c = record { asked = sym (ap (λ (b : Bool). cond b Strict Standard) (eq-eqb c.args.number 2 c.if-number-eq2.true)) }

pub returns-else-number-eq2 : goal.returns-else-number-eq2
unfolding scheme_of
returns-else-number-eq2 c = record { asked = sym (ap (λ (b : Bool). cond b Strict Standard) (ne_eqb c.args.number 2 c.if-number-eq2.false)) }
