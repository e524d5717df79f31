-- What build refuses is what check refuses of the formula, for there are rows for every variable; where it counts, its order has no cause and its rows are
-- the formula's own forest, by which the formula is listed. Under the first rule the prefix is read as it stands.
use Prim.Native.Nat.{ℕ}
use mathlib.Core.Path.{◌≡◌, subst}
use native.Mathlib.Omega.{arith}
use lib.ListN.{length-replicate}
use mathlib.Core.List.{List}
use Rattle.std.proofs.Common.{Option, None, Some}
use Rattle.std.specs.Prelude.{Ok, Err}
use Rattle.terms.specs.Refusals.{FirstOf, NoneOf}
use Rattle.terms.specs.Says.{Answer, fault_number}
use Rattle.terms.specs.declared.Refusal.{Refusal}
use Rattle.formula.specs.Lent.{Formula, formula_of}
use Rattle.formula.specs.InnerLevels.{SoundPrefix}
use Rattle.formula.specs.InnerLookup.{SoundClauses}
use Rattle.formula.proofs.Sound.{sound_check}
use Rattle.formula_rules.specs.Rules.{read_as, check_order}
use Rattle.formula_rules.proofs.Orders.{clauses_sound}
use Rattle.sets_occurrences.specs.InnerThreads.{Closed}
use Rattle.sets.proofs.AllSets.{sound_closed}
use Rattle.grow.specs.Grown.{Standing, Builds}
use Rattle.grow.specs.InnerRows.{Room}
use Rattle.listing.specs.Listing.{IsRead, Lists, Prints, AllPrinted, not_accepted, listing}
use Rattle.listing.specs.Inner.{OwnForest}
use Rattle.listing.proofs.Refusals.{build_check}
use Rattle.listing.proofs.list_formula.Goals as goal

-- Where build counts, it has no cause of check's refusals ...
accepted : {f : Formula} {s s' : Standing} {k : ℕ} (answer : Answer ℕ) → answer ≡ Ok k → Builds 1 f s s' answer → NoneOf (check_order 1 f)
accepted {f} {s} {s'} answer is built =
    let all = (subst (Builds 1 f s s') is built).judged in
    (all.0, (all.1.0, (all.1.1.0, (all.1.1.1.0, (all.1.1.1.1.0, tt)))))

-- ... so that the formula is sound, and its rows are the formula's own forest.
ready : {f : Formula} {s s' : Standing} {k : ℕ} (answer : Answer ℕ) → answer ≡ Ok k → Builds 1 f s s' answer
    → SoundPrefix f.n f.prefix × SoundClauses f.clauses × Closed f.clauses × OwnForest f s'.rows.classes s'.rows.parents
unfolding read_as
ready {f} {s} {s'} answer is built =
    let none = accepted answer is built in
    let sound = sound_check {n = f.n} {es = f.prefix} {ls = f.clauses} none.1 in
    (sound, clauses_sound 1 f none, sound_closed 1 f none, (subst (Builds 1 f s s') is built).leaves.1.forest)

-- Where it refuses, check refuses so.
refused : {f : Formula} {s s' : Standing} {refusal : Refusal} (answer : Answer ℕ) → answer ≡ Err refusal → Builds 1 f s s' answer
    → Room 4096 s.rows.classes s.rows.parents s.rows.counts → FirstOf (check_order 1 f) (fault_number refusal.0) refusal.1
refused {f} {s} {s'} answer is built room = build_check f s _ _ room (subst (Builds 1 f s s') is built).judged

-- Where the formula of a text is accepted, its lines are those of the text.
listed : (text : List ℕ) (f : Formula) → IsRead text f → NoneOf (check_order 1 f) → (before after : Option (List ℕ)) (told : Option ℕ)
    → AllPrinted (Lists f) before after told → AllPrinted (Prints text) before after told
listed text f read none before after None all = all
listed text f read none before after (Some count) (lines, own, size, sent) = (lines, listing f read none own, size, sent)

pub print_refusal-requires : goal.print_refusal-requires
print_refusal-requires g c =
    let a = c.args in
    let f = formula_of a.n a.prefix.now a.clauses.now in
    let long = length-replicate {A = ℕ} 4096 0 in
    record {
      refused =
          not_accepted f c.requires.read
          (refused _ c.in-Err.is c.build-built.ensures.built (omega arith, omega arith, omega arith));
    }

pub list_forest-requires : goal.list_forest-requires
list_forest-requires g c = record { accepted = ready _ c.in-Ok.is c.build-built.ensures.built }

pub returns-in-Ok : goal.returns-in-Ok
returns-in-Ok g c =
    let a = c.args in
    let f = formula_of a.n a.prefix.now a.clauses.now in
    let none = accepted {f = f} _ c.in-Ok.is c.build-built.ensures.built in
    record { printed = listed _ f c.requires.read none _ _ _ c.list_forest.ensures.printed }
