-- What is written of one universal: the flag of a sole entry point alone tells its set, none is picked where no variable has a top, and the front
-- of its record is written after its set.
use Prim.Native.Nat.{ℕ, suc, ◌+◌, ◌-◌, ◌≤◌, ◌<◌}
use mathlib.Core.Path.{◌≡◌, refl, sym, ap, ap₂, ◌∙◌, subst}
use mathlib.Core.Bool.{Bool, false, not-eq-not}
use mathlib.Core.List.{List, [], ◌∷◌}
use mathlib.Core.Logic.{◌≢◌, ◌↔◌, ⊎_elim, by_cases}
use native.Mathlib.Decide.{ℕ_discrete}
use native.Mathlib.Numerals.{add-one}
use native.Mathlib.Omega.{arith}
use lib.IntN.{ℤ}
use lib.ListN.{length, get_or, set}
use lib.Seq.{sets, set_comm}
use Rattle.std.specs.Prelude.{Option, None, Some, Ok}
use Rattle.terms.specs.declared.Variable.{Variable}
use Rattle.terms.specs.declared.Scheme.{Scheme}
use Rattle.forest_theory.specs.Tables.{row}
use Rattle.forest_members.specs.declared.Asked.TheVariants.{Set}
use Rattle.forest_members.specs.InnerPicked.{pick, NoneUpto}
use Rattle.forest_members.proofs.Picked.{picked_none}
use Rattle.forest_climb.specs.InnerSearch.{Topless}
use Rattle.forest_entries.specs.InnerFlags.{Takes, Via, Entering}
use Rattle.sets_occurrences.specs.InnerThreads.{Together, EnteredBy}
use Rattle.sets_occurrences.specs.InnerSoleTops.{Is, SoleOf, top_number}
use Rattle.sets_subtrees.specs.InnerRuns.{only, having, Within}
use Rattle.sets_subtrees.proofs.Linked.{only_set, only_own}

-- The flag of the sole top tells of which numbers P holds.
pub sole_entering : {n : ℕ} {P : ℕ → Type 0} {tops : List ℕ} (top : ℕ) → ((e : ℕ) → Is top e ↔ P e) → Entering n P tops tops (only top)
sole_entering top sole =
    record {
      tells = λ e l. (
        λ t. let (q, some, _) = only_set top e t in (sole e).0 (q, some),
        λ p. let (q, some) = (sole e).1 p in ap (λ t. get_or (only t) e false) (sym q) ∙ only_own e some (omega arith),
      );
      same = λ y. refl;
    }

-- A sole entry point that may be there, by its number: none is 0, and no entry point is 0.
pub takes_some : (scheme : Scheme) (n : ℕ) (tops : List ℕ) (P : Bool → ℕ → Type 0) {e : ℕ} → Takes scheme (λ sign. Via n tops (P sign) e) → e ≢ 0
takes_some Scheme.Standard n tops P = ⊎_elim (λ t. t.some) (λ t. t.some)
takes_some Scheme.Strict n tops P = λ t. t.0.some

pub sole_is : (scheme : Scheme) (n : ℕ) (tops : List ℕ) (P : Bool → ℕ → Type 0) {top : Option Variable} (other : Option Variable) → top ≡ other
    → SoleOf (Ok top) (λ e. Takes scheme (λ sign. Via n tops (P sign) e)) → (e : ℕ) → Is (top_number other) e ↔ Takes scheme (λ sign. Via n tops (P sign) e)
sole_is scheme n tops P other is sole e = go other (subst (λ t. SoleOf (Ok t) (λ e. Takes scheme (λ sign. Via n tops (P sign) e))) is sole)
  where
    go : (t : Option Variable) → SoleOf (Ok t) (λ e. Takes scheme (λ sign. Via n tops (P sign) e)) → Is (top_number t) e ↔ Takes scheme (λ sign. Via n tops (P sign) e)
    go None sole = (λ i. absurd (i.1 i.0), λ p. absurd ((sole e).1 p))
    go (Some top) sole = (λ i. (sole e).0 i.0, λ p. ((sole e).1 p, takes_some scheme n tops P p))

-- No variable has the top that is none.
pub having_none : (n : ℕ) (tops : List ℕ) → having n tops 0 ≡ []
unfolding pick
having_none n tops =
    picked_none (pick Set n (only 0) tops) n (λ v low high. (not-eq-not {b = false}).0 (λ t. let (q, some, _) = only_set 0 (row n tops v) t in some q))

-- It is one of the variables, as all tops are.
pub sole_within : (scheme : Scheme) (n : ℕ) (tops : List ℕ) (P : Bool → ℕ → Type 0) (top : ℕ)
    → ((e : ℕ) → Is top e ↔ Takes scheme (λ sign. Via n tops (P sign) e)) → Within n tops → top ≤ n
sole_within scheme n tops P top sole within =
    by_cases (ℕ_discrete top 0) (λ z. omega arith)
    (λ some. let (v, is) = one scheme ((sole top).0 (refl, some)) in subst (λ e. e ≤ n) is (within v))
  where
    one : (scheme : Scheme) → Takes scheme (λ sign. Via n tops (P sign) top) → (v : ℕ) × (row n tops v ≡ top)
    one Scheme.Standard = ⊎_elim (λ t. (t.for, t.is)) (λ t. (t.for, t.is))
    one Scheme.Strict = λ t. (t.0.for, t.0.is)

-- Where no variable has a top, none is picked by it.
pub topless_none : (scheme : Scheme) (n : ℕ) (tops : List ℕ) (ls : List ℤ) (x : ℕ) (flags : List Bool) (from : ℕ)
    → EnteredBy scheme n tops ls x flags → Topless n tops from → NoneUpto (pick Set n flags tops) from
unfolding pick
topless_none scheme n tops ls x flags from f none v low high =
    ap (λ e. get_or flags e false) (none v low high) ∙ (not-eq-not {b = false}).0 (λ t. no_top scheme ((f.tells 0 (omega arith)).0 t))
  where
    no_top : (scheme : Scheme) → Takes scheme (λ sign. Via n tops (Together ls sign x) 0) → ⊥
    no_top Scheme.Standard = ⊎_elim (λ t. t.some refl) (λ t. t.some refl)
    no_top Scheme.Strict = λ t. t.0.some refl

-- A store in front of a run of stores.
set_front : (before : List ℕ) (at i a : ℕ) (list : List ℕ) → i < at → set (sets before at list) i a ≡ sets (set before i a) at list
set_front before at i a [] l = refl
set_front before at i a (b ∷ list) l =
    set_front (set before at b) (suc at) i a list (omega arith) ∙ ap (λ o. sets o (suc at) list) (set_comm before at i b a (λ q. omega arith))

-- The record of x, its set written first.
pub record_stored : (before : List ℕ) (at x : ℕ) (members : List ℕ) {end : ℕ} {mid out : List ℕ} → end ≡ at + 2 + length members
    → mid ≡ sets before (at + 2) members → out ≡ set (set mid at x) (at + 1) (end - (at + 2))
    → out ≡ sets before at (x ∷ length members ∷ members)
record_stored before at x members {end} size written stored =
    let k : end - (at + 2) ≡ length members = omega arith in
    stored ∙ ap₂ (λ (o : List ℕ) (j : ℕ). set (set o at x) (at + 1) j) written k
    ∙ ap (λ o. set o (at + 1) (length members)) (set_front before (at + 2) at x members (omega arith))
    ∙ set_front (set before at x) (at + 2) (at + 1) (length members) members (omega arith)
    ∙ ap₂ (λ i j. sets (set (set before at x) i (length members)) j members) (add-one at) (let q : at + 2 ≡ suc (suc at) = omega arith in q)
