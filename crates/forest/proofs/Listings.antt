-- From flags to what a call that lists promises, of a formula that is accepted.
use Rattle.std.specs.Prelude.{Ok, Err}
use Rattle.terms.specs.Says.{Answer, gives, refuses, accepted}
use Prim.Native.Nat.{ℕ, ◌≤◌}
use mathlib.Core.Path.{refl, sym, ap, ◌∙◌, subst₂}
use mathlib.Core.Bool.{Bool, false}
use mathlib.Core.List.{List, [], ◌∷◌, ◌++◌}
use mathlib.Core.Logic.{inl}
use native.Mathlib.Omega.{arith}
use lib.ListN.{length, get_or}
use Rattle.terms.specs.Answers.{TooLong, Listing}
use Rattle.terms.specs.Listed.{Listed}
use Rattle.terms.specs.Refusals.{Causes, At0, FirstOf, NoneOf}
use Rattle.terms.specs.declared.Scheme.{Scheme}
use Rattle.terms.proofs.Listed.{listed_one}
use Rattle.terms.proofs.Overwritten.{stored_overwritten}
use Rattle.terms.proofs.Verdicts.{at0_first, at0_none, judges_later}
use Rattle.formula.specs.Lent.{Formula}
use Rattle.forest_theory.specs.Tables.{row, lent, WellFormed}
use Rattle.forest_theory.specs.Counts.{sum}
use Rattle.forest_theory.proofs.Counts.{count_most}
use Rattle.forest_tables.specs.Lent.{Rows, variables_of, forest_of}
use Rattle.forest_tables.proofs.Agreeing.{lawful, none_formed, none_counted}
use Rattle.forest_members.specs.declared.Asked.{Asked}
use Rattle.forest_members.specs.declared.Asked.TheVariants.{Points, Set}
use Rattle.forest_members.specs.InnerPicked.{pick, picked, Picks}
use Rattle.forest_members.proofs.Picked.{picked_listed}
use Rattle.forest.specs.InnerOrders.{behind_check}
use Rattle.forest.specs.Answers.{MembersBy, SizeBy}
use Rattle.forest.specs.InnerWanted.{Enters, Wanted}
use Rattle.forest.proofs.Entered.{of_within, members_of}
use Rattle.forest.proofs.Schemes.{scheme_points}

-- What is picked is what is listed, and there is room for it or not.
pub picks_listing : (order : List Causes) {P : ℕ → Type 0} (f : ℕ → Bool) (n : ℕ) (before after : List ℕ) → NoneOf order → Listed P (picked f n)
    → (r : Answer ℕ) → Picks f n before after r → Listing (order ++ (At0 14 (TooLong P before) ∷ [])) P before after r
picks_listing order {P} f n before after none listed (Ok count) picks =
    let fits : TooLong P before → ⊥ =
    λ long. let q = ap length (listed_one long.0 (picked f n) long.1 listed) in let l = long.2 in let room = picks.1 in omega arith in
    let all = judges_later {A = Unit {0}} order (At0 14 (TooLong P before) ∷ []) (gives tt) none (at0_none 14 fits, tt) in
    (all, (picked f n, listed, picks.0, picks.2 ∙ stored_overwritten (picked f n) before picks.1))
picks_listing order {P} f n before after none listed (Err refusal) picks =
    let last : FirstOf (At0 14 (TooLong P before) ∷ []) 14 0 = inl (at0_first 14 (picked f n, listed, picks.2)) in
    let first = judges_later {A = Unit {0}} order (At0 14 (TooLong P before) ∷ []) (refuses 14 0) none last in
    (subst₂ (FirstOf (order ++ (At0 14 (TooLong P before) ∷ []))) (sym picks.0) (sym picks.1) first, picks.3)

module _ (f : Formula) (r : Rows) (x : ℕ) (few : f.n ≤ 4096) (scheme : Scheme) {entered : List Bool} (tops : List ℕ)
    (enters : Enters scheme f r x tops entered accepted) where
  -- The set by a scheme is what is picked by the rows, where the entry points by it are flagged.
  pub members_picked : WellFormed (variables_of f) (forest_of f r) → Listed (MembersBy scheme f r x) (picked (pick Set f.n entered tops) f.n)
  unfolding pick lent
  members_picked formed =
      let (entries, rows, e) = enters in
      let law = lawful f.n f.prefix in
      let member = members_of law formed entries rows (scheme_points f r x scheme) entered (λ p l. e.tells p (omega arith)) in
      picked_listed (pick Set f.n entered tops) f.n (λ y m. law.within y m.existential)
      (λ y _ _. let q = e.same y in let m = member y in (λ t. m.0 (sym q ∙ t), λ k. q ∙ m.1 k))

  module _ (none : NoneOf (behind_check f.n f.prefix r x)) where
    -- What is picked by the flags is what is asked for.
    pub asked_listed : (asked : Asked) → Listed (Wanted scheme asked f r x) (picked (pick asked f.n entered tops) f.n)
    unfolding pick
    asked_listed Points =
        picked_listed (pick Points f.n entered tops) f.n (λ e o. of_within (lawful f.n f.prefix) (none_formed none.0) (scheme_points f r x scheme e o))
        (λ e _ l. enters.2.tells e (omega arith))
    asked_listed Set = members_picked (none_formed none.0)

    -- The sum of their counts is the size.
    pub entries_sized : SizeBy scheme f r x (sum (row f.n r.counts) (picked (λ v. get_or entered v false) f.n))
    unfolding pick
    entries_sized = (picked (λ v. get_or entered v false) f.n, asked_listed Points, refl)

-- No count is over the limit.
pub counts_small : (f : Formula) (r : Rows) (x : ℕ) → f.n ≤ 4096 → NoneOf (behind_check f.n f.prefix r x) → (v : ℕ) → row f.n r.counts v ≤ 4096
counts_small f r x few none v =
    let most = count_most (none_formed none.0) (lawful f.n f.prefix) (none_counted none.0) v in
    omega arith
