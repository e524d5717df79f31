-- The pass over all universals: what is written or counted for one joins what was before, and there is room for it.
use Rattle.std.specs.Prelude.{Ok, Err}
use Rattle.terms.specs.Says.{Answer}
use Prim.Native.Nat.{ℕ, ◌+◌, ◌*◌, ◌≤◌, ◌<◌}
use mathlib.Core.Path.{◌≡◌, refl, sym, ap, ◌∙◌, subst₂}
use mathlib.Core.Bool.{Bool, true, false, cond}
use mathlib.Core.List.{List, [], ◌∷◌, ◌++◌}
use mathlib.Core.Logic.{inl, inr, ⊎_elim}
use native.Mathlib.Nat.{mul-le-mul_right}
use native.Mathlib.Omega.{arith}
use borrow.Author.Tests.{leb-true, leb-false}
use lib.Dec.{leb}
use lib.IntN.{ℤ}
use lib.ListN.{length, length-append}
use lib.Seq.{sets, length-sets}
use Rattle.terms.specs.Answers.{Filling}
use Rattle.terms.specs.Refusals.{FirstOf, None, NoneOf}
use Rattle.terms.proofs.Overwritten.{stored_overwritten}
use Rattle.terms.proofs.Verdicts.{at0_first, at0_none}
use Rattle.formula.specs.Causes.{ends_inside}
use Rattle.formula.specs.Lent.{Formula, formula_of}
use Rattle.formula_rules.specs.Rules.{check_order}
use Rattle.formula.specs.Meaning.{level}
use Rattle.forest_theory.specs.Reach.{Variables}
use Rattle.forest_theory.specs.Tables.{Table, lent, WellFormed}
use Rattle.terms.specs.Listed.{Listed}
use Rattle.forest_members.specs.declared.Asked.TheVariants.{Points, Set}
use Rattle.terms.specs.declared.Scheme.{Scheme}
use Rattle.forest_tables.specs.Formula.{variables, universal, SharesBy}
use Rattle.forest_tables.specs.Causes.{ForestCause}
use Rattle.forest_tables.specs.Lent.{Rows, rows}
use Rattle.forest.specs.Answers.{EntriesBy, MembersBy}
use Rattle.forest_climb.specs.InnerSearch.{TopRows}
use Rattle.forest_entries.specs.InnerFlags.{Takes, Via, Entering}
use Rattle.forest_members.specs.InnerPicked.{pick, picked}
use Rattle.sets.specs.Sets.{AllSetsBy, SetsTooLong}
use Rattle.sets.specs.InnerOrders.{behind_sets}
use Rattle.sets_occurrences.specs.InnerThreads.{Closed, Together, EnteredBy}
use Rattle.sets_record.specs.InnerPut.{PutSet, RoomFor}
use Rattle.sets.specs.InnerPassed.{SetsUpto, RoomUpto, TellsRoom, PutAll, Fills}
use Rattle.forest_entries.proofs.Flags.{via_as}
use Rattle.forest_members.proofs.Picked.{picked_listed}
use Rattle.forest.proofs.Entered.{of_within}
use Rattle.forest.proofs.Schemes.{scheme_points, over_enters}
use Rattle.sets_occurrences.proofs.Followed.{together_shares}
use Rattle.forest_tables.proofs.Agreeing.{lawful}
use Rattle.forest.proofs.Listings.{members_picked}
use Rattle.sets.proofs.Records.{records_one, records_most, records_set, records_other, put_more}

-- what is written is as long as what was there
pub put_length : (writing : Bool) (before list : List ℕ) → length (cond writing (sets before 0 list) before) ≡ length before
put_length true before list = length-sets before 0 list
put_length false before list = refl

-- what a scheme takes of the variables in a clause with x is what it takes of those that share one with it
takes_as : (scheme : Scheme) {P Q : Bool → Type 0} → ((sign : Bool) → P sign → Q sign) → Takes scheme P → Takes scheme Q
takes_as Scheme.Standard more = ⊎_elim (λ p. inl (more true p)) (λ p. inr (more false p))
takes_as Scheme.Strict more = λ p. (more true p.0, more false p.1)

module _ (scheme : Scheme) (n : ℕ) (es : List ℕ) (ls : List ℤ) (classes parents : List ℕ) where
  abbrev f : Formula
  f = formula_of n es ls

  abbrev r : Rows
  r = rows classes parents []

  abbrev X : Variables
  X = variables n es

  abbrev W : Table
  W = lent X classes parents

  abbrev R : ℕ → List ℕ → Type 0
  R = SetsUpto scheme n es ls classes parents

  abbrev S : ℕ → ℕ → Type 0
  S = MembersBy scheme f r

  pub sets_within : (x v : ℕ) → S x v → (1 ≤ v) × (v ≤ n)
  sets_within x v m = (lawful n es).within v m.existential

  -- the list stays small
  pub sets_small : n ≤ 4096 → (m : ℕ) (list : List ℕ) → m ≤ n → R m list → length list < 16785409
  sets_small few m list l all =
      let most = records_most (universal n es) S n sets_within m list all in
      let bound : m * (n + 2) ≤ 4096 * (n + 2) = mul-le-mul_right (n + 2) (omega arith) in
      omega arith

  -- The set of x by the scheme, and its entry points, by the tops over its level and the flags of those that it takes.
  module _ (few : n ≤ 4096) (closed : Closed ls) (formed : WellFormed X W) (x floor : ℕ) (tops : List ℕ) (flags : List Bool) (low : floor ≡ level es x)
      (tops_are : TopRows X W floor tops) (flagged : EnteredBy scheme n tops ls x flags) where
    -- what is in a clause together with x shares one with it, and the other way round
    shared : Entering n (λ e. Takes scheme (λ sign. Via n tops (SharesBy ls sign x) e)) tops tops flags
    shared =
        let there : (e : ℕ) → Takes scheme (λ sign. Via n tops (Together ls sign x) e) → Takes scheme (λ sign. Via n tops (SharesBy ls sign x) e) =
        λ e. takes_as scheme (λ sign. via_as (λ v. (together_shares ls sign x v closed).0)) in
        let back : (e : ℕ) → Takes scheme (λ sign. Via n tops (SharesBy ls sign x) e) → Takes scheme (λ sign. Via n tops (Together ls sign x) e) =
        λ e. takes_as scheme (λ sign. via_as (λ v. (together_shares ls sign x v closed).1)) in
        record { tells = λ e l. let t = flagged.tells e l in (λ q. there e (t.0 q), λ p. t.1 (back e p)); same = flagged.same }

    pub set_picked : Listed (S x) (picked (pick Set n flags tops) n)
    set_picked = members_picked f r x few scheme tops (over_enters f r x floor tops scheme formed low tops_are shared) formed

    pub points_picked : Listed (EntriesBy scheme f r x) (picked (pick Points n flags tops) n)
    unfolding pick lent
    points_picked =
        let (_, _, entered) = over_enters f r x floor tops scheme formed low tops_are shared in
        picked_listed (pick Points n flags tops) n (λ e o. of_within (lawful n es) formed (scheme_points f r x scheme e o))
        (λ e _ l. entered.tells e (omega arith))

  module _ (few : n ≤ 4096) (closed : Closed ls) (formed : WellFormed X W) (m x floor : ℕ) (tops : List ℕ) (writing : Bool) (before : List ℕ)
      {out : List ℕ} {end : ℕ} (is : x ≡ m + 1) (p : PutAll (R m) writing before out end) where
    -- A universal adds its record ...
    module _ (u : universal n es x ≡ true) (low : floor ≡ level es x) (rows : TopRows X W floor tops) where
      pub put_room : m < n → (writing ≡ true → RoomUpto R n (length before)) → RoomFor scheme n tops ls x end writing out
      put_room less room yes' flags f =
          let members = picked (pick Set n flags tops) n in
          let all = records_set (universal n es) S m p.0 p.1 x members is u (set_picked few closed formed x floor tops flags low rows f) in
          let fits = room yes' (m + 1) (p.0 ++ (x ∷ length members ∷ members)) (omega arith) all in
          let size = length-append p.0 (x ∷ length members ∷ members) in
          let long = ap length p.3 ∙ put_length writing before p.0 in
          let here = p.2 in
          omega arith

      pub put_next : {out' : List ℕ} {end' : ℕ} → PutSet scheme n tops ls x end writing out out' end' → PutAll (R (m + 1)) writing before out' end'
      put_next s =
          let members = picked (pick Set n s.flags tops) n in
          let set = set_picked few closed formed x floor tops s.flags low rows s.flagged in
          let all = records_set (universal n es) S m p.0 p.1 x members is u set in
          let size = length-append p.0 (x ∷ length members ∷ members) in
          let here = p.2 in
          let there = s.put.0 in
          (p.0 ++ (x ∷ length members ∷ members), all, omega arith, put_more writing before end p.0 (x ∷ length members ∷ members) here p.3 s.put.1)

  -- ... and any other variable nothing.
  pub put_other : (m x : ℕ) (writing : Bool) (before : List ℕ) {out : List ℕ} {end : ℕ} → x ≡ m + 1 → PutAll (R m) writing before out end
      → universal n es x ≡ false → PutAll (R (m + 1)) writing before out end
  put_other m x writing before is p u = (p.0, records_other (universal n es) S m p.0 p.1 x is u, p.2, p.3)

  -- At first there is nothing.
  pub put_none : (writing : Bool) (before : List ℕ) → PutAll (R 0) writing before before 0
  put_none true before = ([], refl, refl, refl)
  put_none false before = ([], refl, refl, refl)

-- Whether there is room for all sets, by a count of their entries.
pub room_told : (R : ℕ → List ℕ → Type 0) (n needed room : ℕ) → (needed ≤ room → RoomUpto R n room)
    → (room < needed → (list : List ℕ) × R n list × (room < length list)) → TellsRoom (leb needed room) R n room
room_told R n needed room fits long = told (leb needed room) (leb-true needed room) (leb-false needed room)
  where
    told : (b : Bool) → (b ≡ true → needed ≤ room) → (b ≡ false → room < needed) → TellsRoom b R n room
    told true low high = fits (low refl)
    told false low high = long (high refl)

-- What is written, or what there is no room for, as the call promises it.
pub fills_filling : (scheme : Scheme) (f : Formula) (r : Rows) (before after : List ℕ) → None (ForestCause f.n f.prefix r)
    → (a : Answer ℕ) → Fills (AllSetsBy scheme f r) before after a → Filling (behind_sets scheme f r before) (AllSetsBy scheme f r) before after a
fills_filling scheme f r before after none (Ok count) (list, is, size, room, stored) =
    let fits : SetsTooLong scheme f r before → ⊥ =
    λ long.
    let q = ap length (records_one (universal f.n f.prefix) (MembersBy scheme f r) f.n long.0 list long.1 is) in
    let l = long.2 in
    omega arith in
    ((none, (at0_none 14 fits, tt)), (list, is, size, stored ∙ stored_overwritten list before room))
fills_filling scheme f r before after none (Err refusal) (k, p, long, same) =
    let first : FirstOf (behind_sets scheme f r before) 14 0 = inr (none, inl (at0_first 14 (long.0, long.1, long.2))) in
    (subst₂ (FirstOf (behind_sets scheme f r before)) (sym k) (sym p) first, same)

-- The last clause of a formula that is accepted is closed.
pub sound_closed : (rule : ℕ) (f : Formula) → NoneOf (check_order rule f) → Closed f.clauses
sound_closed rule f none ends = none.1.1.1.1.0 11 (length f.clauses) (ends_inside refl refl ends)
