-- x and n are looked at in their order; then what is flagged by the level table is what depends on x by the prefix (dependents_listed).
use Prim.Native.Nat.{◌<◌}
use mathlib.Core.Path.{◌≡◌, refl, sym, ◌∙◌}
use mathlib.Core.Bool.{Bool, true, false}
use mathlib.Core.List.{List, [], ◌∷◌}
use mathlib.Core.Logic.{inl, inr}
use native.Mathlib.Omega.{arith}
use lib.ListN.{length-replicate}
use Rattle.terms.specs.Limits.{most_resolution_variables}
use Rattle.terms.specs.InnerLimits.{resolution_rows}
use Rattle.terms.specs.Refusals.{Causes, At0, NoneOf}
use Rattle.terms.proofs.Common.{clash}
use Rattle.terms.proofs.Verdicts.{at0_first, at0_none}
use Rattle.forest_tables.specs.InnerTabled.{universal_in}
use Rattle.forest_tables.proofs.Agreeing.{universal_agrees}
use Rattle.forest_members.specs.declared.Asked.TheVariants.{Points}
use Rattle.forest_members.specs.InnerPicked.{pick}
use Rattle.forest.specs.Causes.{NotUniversal}
use Rattle.forest.proofs.Listings.{picks_listing}
use Rattle.path_resolution.proofs.Listing.{universal_upto, dependents_listed}
use Rattle.path_resolution.proofs.set_by_levels.Goals as goal

pub returns-then-not-universal_at : goal.returns-then-not-universal_at
returns-then-not-universal_at c =
    record {
      listed = λ es sound table. let told = c.universal_at in
          (inl (at0_first 13 (sym (universal_agrees sound table c.args.x.0) ∙ sym told.ensures.told ∙ c.if-not-universal_at.true)), refl);
    }

pub returns-then-n-gt-RESOLUTION_MOST : goal.returns-then-n-gt-RESOLUTION_MOST
returns-then-n-gt-RESOLUTION_MOST c =
    let universal : universal_in c.args.n c.args.universals.now c.args.x.0 ≡ true = sym c.universal_at.ensures.told ∙ c.if-not-universal_at.false in
    record {
      listed = λ es sound table. let no-13 = at0_none 13 (λ no'. clash universal (universal_agrees sound table c.args.x.0 ∙ no')) in
          (inr (no-13, inl (at0_first 27 c.if-n-gt-RESOLUTION_MOST.true)), refl);
    }

pub flag_dependent-requires : goal.flag_dependent-requires
flag_dependent-requires c =
    let universal : universal_in c.args.n c.args.universals.now c.args.x.0 ≡ true = sym c.universal_at.ensures.told ∙ c.if-not-universal_at.false in
    let a = c.args in
    let upto = universal_upto a.n a.universals.now a.x.0 universal in
    record { few = (omega (arith, c.if-n-gt-RESOLUTION_MOST.false), c.requires.sound, upto, length-replicate {A = Bool} resolution_rows false) }

pub returns : goal.returns
unfolding pick
returns c =
    let universal : universal_in c.args.n c.args.universals.now c.args.x.0 ≡ true = sym c.universal_at.ensures.told ∙ c.if-not-universal_at.false in
    record {
      listed = λ es sound table. let a = c.args in
          let u = universal in
          let few = c.if-n-gt-RESOLUTION_MOST.false in
          let flags = c.flag_dependent.new.flags in
          let order : List Causes = At0 13 (NotUniversal a.n es a.x.0) ∷ At0 27 (most_resolution_variables < a.n) ∷ [] in
          let no-13 = at0_none 13 (λ no'. clash u (universal_agrees sound table a.x.0 ∙ no')) in
          let none : NoneOf order = (no-13, (at0_none 27 (λ over. omega arith), tt)) in
          picks_listing order (pick Points a.n flags []) a.n a.out.now c.list_picked.new.out none
          (dependents_listed sound table u flags [] c.flag_dependent.ensures.flagged) c.list_picked.result c.list_picked.ensures.listed;
    }
