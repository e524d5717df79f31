-- The ends of the paths from x are marked in one table and those from its negation in another; what is paired by the two depends on x (depends_are).
use mathlib.Core.Path.{ap, ◌∙◌, subst}
use mathlib.Core.Bool.{Bool, true, false}
use mathlib.Core.List.{List}
use native.Mathlib.Omega.{arith}
use lib.IntN.{ℤ, neg_ℤ}
use lib.ListN.{length-replicate}
use Rattle.terms.specs.InnerLimits.{resolution_literal_rows}
use Rattle.terms.specs.Literals.{variable_of}
use Rattle.forest_tables.specs.InnerTabled.{tabled}
use Rattle.forest_tables.specs.Formula.{signed}
use Rattle.forest_entries.proofs.Sides.{signed_variable}
use Rattle.path_resolution.specs.InnerEnds.{Ends}
use Rattle.path_resolution.proofs.Reaching.{depends_are}
use Rattle.path_resolution.proofs.Listing.{complement_plain, complement_negation}
use Rattle.path_resolution.proofs.ends.flag_tied.Goals as goal

pub mark_ends-requires : goal.mark_ends-requires
unfolding signed
mark_ends-requires c =
    let (few, read, most, _) = c.requires.few in
    let (chained, size) = c.requires.chained in
    let own = ap variable_of c.negation.ensures.negated ∙ signed_variable false c.args.x.0 in
    record {
      few = (few, read, length-replicate {A = Bool} resolution_literal_rows false);
      chained = (chained, omega arith);
    }

pub mark_ends-requires-2 : goal.mark_ends-requires-2
unfolding signed
mark_ends-requires-2 c =
    let (few, read, most, _) = c.requires.few in
    let (chained, size) = c.requires.chained in
    let own = ap variable_of c.literal.ensures.plain ∙ signed_variable true c.args.x.0 in
    record {
      few = (few, read, length-replicate {A = Bool} resolution_literal_rows false);
      chained = (chained, omega arith);
    }

pub pair_ends-requires : goal.pair_ends-requires
pair_ends-requires c =
    let (few, _, _, rows) = c.requires.few in
    let size = length-replicate {A = Bool} resolution_literal_rows false in
    record {
      few = (few, rows);
      sizes = (c.mark_ends.auto.marks ∙ size, c.mark_ends-2.auto.marks ∙ size);
    }

pub returns : goal.returns
unfolding signed
returns c =
    record {
      flagged = λ v low high. let a = c.args in
          let x = a.x.0 in
          let ends = c.mark_ends.new.marks in
          let others = c.mark_ends-2.new.marks in
          let EndsFrom : List Bool → ℤ → Type 0 = λ marks from. Ends (tabled a.n a.levels.now a.universals.now) a.clauses.now x from marks in
          let plain = subst (EndsFrom ends) (ap neg_ℤ c.negation.ensures.negated ∙ complement_negation x) c.mark_ends.ensures.ends in
          let negated = subst (EndsFrom others) (ap neg_ℤ c.literal.ensures.plain ∙ complement_plain x) c.mark_ends-2.ensures.ends in
          let told = c.pair_ends.ensures.flagged v low high in
          let d = depends_are ends others plain negated v low high in
          (λ t. d.0 (told.0 t), λ q. told.1 (d.1 q));
    }
