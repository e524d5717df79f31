-- The census of the rows tells whether the tally agrees; if it does, the tally with the clause taken is that of the rows which are left.
use mathlib.Core.Path.{◌∙◌}
use mathlib.Core.List.{[], ◌∷◌}
use native.Mathlib.Omega.{arith}
use Rattle.formula.specs.Meaning.{connected}
use Rattle.forest_theory.proofs.Fewer.{fewer_added}
use Rattle.forest_tables.specs.Formula.{variables}
use Rattle.forest_tables.specs.Lent.{rows}
use Rattle.forest_tables.proofs.Agreeing.{lawful}
use Rattle.grow_refusals.specs.Admitted.{WrongTally}
use Rattle.grow.specs.Grown.{Standing, standing, forest_in, TallyCause, Extended, Took}
use Rattle.grow.proofs.Standings.{rowed_grown, acceptance}
use Rattle.grow.proofs.Tallies.{agrees_clauses, agrees_classes, agrees_sum, tally_accepted, fell}
use Rattle.grow.proofs.Taking.{fell_took, none_added}
use Rattle.grow.proofs.adding.add_formed.Goals as goal

pub take-taken-requires : goal.take-taken-requires
take-taken-requires c =
    let a = c.args in
    let pre = c.requires in
    let seen = c.take_census-seen in
    let census = seen.ensures.census.right a.prefix.now a.parents.now pre.rows.1 in
    let agrees : WrongTally a.tally seen.result.names seen.result.existentials → ⊥ = c.if-disagrees.ensures.told in
    let extended = c.extend-left.ensures in
    let fewer = fewer_added (connected a.clause.now) (lawful a.n a.prefix.now) pre.rows.1 extended.rows.forest a.n in
    let few = seen.ensures.census.few.1 in
    record {
      agrees = (
        agrees_clauses a.tally agrees,
        omega (arith, fewer, agrees_classes a.tally agrees, census.1, extended.left),
        omega (arith, agrees_sum a.tally agrees, few, pre.sound.0.few),
      );
    }

pub returns : goal.returns
returns c =
    let a = c.args in
    let s : Standing = standing (rows a.classes.now a.parents.now a.counts.now) a.tally in
    let X = variables a.n a.prefix.now in
    let pre = c.requires in
    let seen = c.take_census-seen in
    let census = seen.ensures.census.right a.prefix.now a.parents.now pre.rows.1 in
    let agrees : WrongTally a.tally seen.result.names seen.result.existentials → ⊥ = c.if-disagrees.ensures.told in
    let extended = c.extend-left in
    let taken = c.take-taken in
    let law = lawful a.n a.prefix.now in
    let left : Standing = standing (rows extended.new.classes extended.new.parents extended.new.counts) taken.result in
    record {
      added =
          acceptance (TallyCause X s ∷ []) X (Extended X (forest_in X s) a.clause.now) (Took X s) s.rows
          taken.result (tally_accepted X s census agrees) c.counted.ensures.counted
          (rowed_grown a.n a.prefix.now extended.ensures.rows _ _ extended.ensures.counts)
          (fell_took law s left (none_added law (connected a.clause.now) pre.rows.1 extended.ensures.rows.forest)
          (fell X s left extended.result (agrees_classes a.tally agrees ∙ census.1) extended.ensures.left taken.ensures.took));
    }
