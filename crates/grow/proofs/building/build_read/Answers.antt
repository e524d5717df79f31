-- Where a table is too short all stays; else the rows, their counts and the tally are those of the formula.
use mathlib.Core.List.{[], ◌∷◌}
use Rattle.terms.specs.Refusals.{At0}
use Rattle.forest_tables.specs.Formula.{variables, Shares}
use Rattle.forest_tables.specs.Lent.{rows}
use Rattle.forest_tables.proofs.Agreeing.{lawful}
use Rattle.grow.specs.Grown.{Standing, standing, TooShort, Tallies}
use Rattle.grow.proofs.Accepted.{build_accepted}
use Rattle.grow.proofs.Standings.{rowed_grown, acceptance}
use Rattle.grow.proofs.Taking.{sum_tallies}
use Rattle.grow.proofs.building.build_read.Goals as goal

pub returns : goal.returns
returns c =
    let a = c.args in
    let s : Standing = standing (rows a.classes.now a.parents.now a.counts.now) a.tally in
    let X = variables a.n a.prefix.now in
    let built = c.build_sound-built in
    let enough = c.if-not-has_room.ensures.told in
    let grown = rowed_grown a.n a.prefix.now built.ensures.rows _ _ built.ensures.counts in
    record {
      built =
          acceptance (At0 14 (TooShort a.n s) ∷ []) X (Shares a.clauses.now) (Tallies X a.clauses.now) s.rows
          built.result (build_accepted a.n s enough) c.counted.ensures.counted grown
          (sum_tallies (lawful a.n a.prefix.now) a.clauses.now _ grown.forest built.ensures.tally);
    }
