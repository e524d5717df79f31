use Prim.Native.Nat.{◌+◌}
use mathlib.Core.Path.{◌≡◌, refl, sym, ap, ◌∙◌, subst}
use mathlib.Core.Bool.{cond}
use native.Mathlib.Omega.{arith}
use lib.Dec.{eqb}
use lib.ListN.{length, set}
use Rattle.terms.specs.Literals.{variable_of}
use Rattle.formula.specs.Tables.{literal_at}
use Rattle.sets_occurrences.specs.InnerThreads.{marked, Gathered}
use Rattle.sets_occurrences.proofs.Chains.{Passing, passing_none, passing_inside}
use Rattle.sets_occurrences.proofs.Gathering.{marked_some, gathered_none, gathered_more, passing_begun}
use Rattle.sets_occurrences.proofs.gather.Goals as goal

pub loop-i-init : goal.loop-i-init
loop-i-init c =
    let a = c.args in
    record { passing = passing_none a.clauses.now; gathered = gathered_none a.clauses.now a.universals.now a.places.now a.starts.now }

pub loop-i-preserved : goal.loop-i-preserved
loop-i-preserved c =
    let a = c.args in
    let l = c.loop-i in
    let passing = l.invariant.passing in
    let gathered = l.invariant.gathered in
    let few = gathered.few in
    let less = c.loop-i-test.true in
    let ls = a.clauses.now in
    let flags = a.universals.now in
    let own = c.variable_at-variable.ensures in
    let v = variable_of (literal_at ls l.i) in
    let begun = c.begun-start.ensures.begun ∙ ap (λ v. cond (eqb v 0) (l.i + 1) l.start) own.read in
    let counted = c.counted-count.ensures.counted ∙ ap (λ v. cond (marked flags v) 1 0) own.read in
    record {
      passing = subst (λ s. Passing ls s (l.i + 1)) (sym begun) (passing_begun passing less);
      gathered =
          subst (λ k. Gathered ls flags (set l.places l.count l.i) (set l.starts l.count l.start) (l.count + k) (l.i + 1)) (sym counted)
          (gathered_more gathered l.start (omega arith) (omega arith) (marked flags v) refl (λ m. passing_inside passing less (marked_some flags v m)));
    }

pub returns : goal.returns
returns c =
    let a = c.args in
    let l = c.loop-i in
    let q : l.i ≡ length a.clauses.now = omega arith in
    record { gathered = subst (Gathered a.clauses.now a.universals.now l.places l.starts l.count) q l.invariant.gathered }
