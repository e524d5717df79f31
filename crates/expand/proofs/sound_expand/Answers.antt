-- The level of x is looked up; where it is universal its set is found, and what is expanded by that stands behind 13 in the order.
use Rattle.std.proofs.Common.{ℕ, [], ◌∷◌, arith}
use Rattle.std.proofs.lemmas.List.{length-replicate}
use Rattle.terms.specs.InnerLimits.{variable_rows}
use Rattle.terms.specs.Refusals.{At0}
use Rattle.terms.proofs.Common.{clash}
use Rattle.terms.proofs.Orders.{behind_none}
use Rattle.terms.proofs.Verdicts.{at0_none}
use Rattle.formula.specs.Lent.{formula_of}
use Rattle.forest.specs.Causes.{NotUniversal}
use Rattle.expand.specs.Promise.{result_tables}
use Rattle.expand.specs.InnerOrders.{result_order, behind_expand}
use Rattle.expand.proofs.Outcome.{found_room, found_set, carry_expands}
use Rattle.expand.proofs.sound_expand.Goals as goal

-- a table for the members has a row for each variable
pub slice_bounds-expand_set-end : goal.slice_bounds-expand_set-end
slice_bounds-expand_set-end c =
    let a = c.args in
    let sound = c.requires.sound.0 in
    omega (
      arith,
      found_room (formula_of a.n a.prefix.now a.clauses.now) a.x.0 sound (omega (arith, sound.few, length-replicate {A = ℕ} variable_rows 0))
          c.find-size.ensures.listed,
    )

pub expand_set-requires-clause-set : goal.expand_set-requires-clause-set
expand_set-requires-clause-set c =
    let a = c.args in
    let sound = c.requires.sound.0 in
    found_set (formula_of a.n a.prefix.now a.clauses.now) a.x.0 sound (omega (arith, sound.few, length-replicate {A = ℕ} variable_rows 0))
    c.find-size.ensures.listed

pub returns : goal.returns
returns c =
    let a = c.args in
    let f = formula_of a.n a.prefix.now a.clauses.now in
    let x = a.x.0 in
    let front = At0 13 (NotUniversal f.n f.prefix x) in
    let none = at0_none 13 (λ no'. clash c.in-Some.ensures.found.0 no') in
    let done = c.expand_set in
    let out = result_tables a.out_prefix.now a.out_clauses.now in
    let out' = result_tables done.new.out_prefix done.new.out_clauses in
    record {
      expanded = carry_expands f x out out' done.result (result_order f x out) (behind_expand f x out)
          (behind_none (front ∷ []) (result_order f x out) (none, tt)) done.ensures.expanded;
    }
