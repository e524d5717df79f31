-- What the note says is joined to what was before.
use mathlib.Core.Logic.{inl, inr, ⊎_elim}
use Rattle.std.specs.Prelude.{Ok}
use Rattle.sets_occurrences.proofs.SoleTops.{sole_as}
use Rattle.sets_sizes.proofs.noting.clause_top.Goals as goal

pub returns-clause-sole : goal.returns-clause-sole
returns-clause-sole c z next =
    let said = c.noted-note.ensures.note.1 (Ok c.in_ok-sole_in.field-0) c.in_ok-sole_in.ensures.said z next in
    sole_as (λ e. (⊎_elim inl (λ o. inr ((said e).0 o)), ⊎_elim inl (λ v. inr ((said e).1 v)))) c.join.result c.join.ensures.sole
