-- Flags of tops cleared one after the other: what the cleared ones had, and what the others still have, is what all had at first.
use Prim.Native.Nat.{ℕ, zero, suc, ◌+◌, ◌-◌, ◌≤◌, ◌<◌}
use mathlib.Core.Path.{◌≡◌, refl, sym, ap, ◌∙◌}
use mathlib.Core.Bool.{Bool, true, false, cond, not-eq-not}
use mathlib.Core.List.{List, [], ◌∷◌, ◌++◌, append-nil}
use mathlib.Core.Logic.{◌≢◌, ◌⊎◌, inl, inr, ⊎_elim, ◌↔◌, by_cases}
use native.Mathlib.Decide.{ℕ_discrete, dec_lt}
use native.Mathlib.Omega.{arith}
use lib.IntN.{ℤ}
use lib.ListN.{length, get_or, set, length-set, length-append, get_or-eq_default}
use lib.Seq.{get_or-set_same, get_or-set_other}
use Rattle.terms.specs.InnerLimits.{variable_rows}
use Rattle.terms.specs.Literals.{variable_of}
use Rattle.terms.specs.declared.Scheme.{Scheme}
use Rattle.terms.proofs.Common.{clash, by_test}
use Rattle.formula.specs.InnerLookup.{NextZero}
use Rattle.formula.specs.Tables.{literal_at}
use Rattle.forest_theory.specs.Tables.{row}
use Rattle.forest_tables.specs.Formula.{signed}
use Rattle.forest_members.specs.declared.Asked.TheVariants.{Set}
use Rattle.forest_members.specs.InnerPicked.{pick, picked}
use Rattle.forest_members.proofs.Picked.{picked_none}
use Rattle.forest_entries.specs.declared.Side.TheVariants.{Positive, Negative}
use Rattle.forest_entries.specs.declared.Signs.TheVariants.{Either}
use Rattle.forest_entries.specs.InnerFlags.{Has, By, side_by, Takes, Via}
use Rattle.forest_entries.proofs.Sides.{sign_of}
use Rattle.forest_entries.proofs.Flags.{flag_long, via_as, via_or}
use Rattle.sets_occurrences.specs.InnerThreads.{Together, EnteredBy, link_at, start_at}
use Rattle.sets_occurrences.proofs.Followed.{Tracing, trace_more}
use Rattle.sets_subtrees.specs.InnerRuns.{only}
use Rattle.sets_subtrees.proofs.Linked.{only_set, only_own}
use Rattle.sets_sizes.specs.InnerSizes.{under, Weighed, Drained, DrainedOne, flagged, bare}

-- One top is drained: its flag is off, and all others are as they were.
pub one_size : {lead : List ℕ} {top : ℕ} {old new : List Bool} {count : ℕ} → DrainedOne lead top old new count → length new ≡ length old
one_size {top = top} {old = old} (flagged t is has) = ap length is ∙ length-set old top false
one_size (bare t is none) = ap length is

pub one_off : {lead : List ℕ} {top : ℕ} {old new : List Bool} {count : ℕ} → DrainedOne lead top old new count
    → (e : ℕ) → (get_or new e false ≡ false) ↔ ((get_or old e false ≡ false) ⊎ (e ≡ top))
one_off {top = top} {old = old} (flagged q is has) e =
    let at = ap (λ flags. get_or flags e false) is in
    let own : get_or (set old top false) top false ≡ false = get_or-set_same old top false false (flag_long old top q) in
    by_cases (ℕ_discrete e top) (λ s. (λ _. inr s, λ _. at ∙ ap (λ k. get_or (set old top false) k false) s ∙ own))
    (λ other.
    let same = at ∙ get_or-set_other old top e false false other in
    (λ t. inl (sym same ∙ t), ⊎_elim (λ t. same ∙ t) (λ s. absurd (other s))))
one_off {old = old} (bare q is none) e =
    let at = ap (λ flags. get_or flags e false) is in
    (λ t. inl (sym at ∙ t), ⊎_elim (λ t. at ∙ t) (λ s. at ∙ ap (λ k. get_or old k false) s ∙ q))

-- Nothing is drained.
pub drained_none : {P : ℕ → Type 0} (old : List Bool) → ((e : ℕ) → P e → ⊥) → Drained P old old
drained_none old none = record { size = refl; off = λ e l. (inl, ⊎_elim (λ t. t) (λ p. absurd (none e p))) }

-- One entry more of a clause: its top is drained, if it has one.
module _ {n : ℕ} {tops : List ℕ} {P Q : ℕ → Type 0} {v top : ℕ} (more : (w : ℕ) → (P w ⊎ (w ≡ v)) ↔ Q w) (above : top ≡ row n tops v) where
  pub drained_next : {lead : List ℕ} {old mid new : List Bool} {count : ℕ} → get_or old 0 false ≡ false → Drained (Via n tops P) old mid
      → DrainedOne lead top mid new count → Drained (Via n tops Q) old new
  drained_next {old = old} {mid = mid} {new = new} zero-off f d = record { size = one_size d ∙ f.size; off = off }
    where
      off : (e : ℕ) → e < length old → (get_or new e false ≡ false) ↔ ((get_or old e false ≡ false) ⊎ Via n tops Q e)
      off e l =
          let one = one_off d e in
          let before = f.off e l in
          let there : e ≡ top → (get_or old e false ≡ false) ⊎ Via n tops Q e =
          λ s. by_cases (ℕ_discrete e 0) (λ z. inl (ap (λ k. get_or old k false) z ∙ zero-off))
          (λ some. inr (record { for = v; holds = (more v).0 (inr refl); is = sym above ∙ sym s; some = some })) in
          let back : Via n tops Q e → Via n tops P e ⊎ (e ≡ top) =
          λ t. ⊎_elim inl (λ o. inr (sym o.is ∙ ap (row n tops) o.holds ∙ sym above)) (via_or (via_as (λ w h. (more w).1 h) t)) in (
            λ t. ⊎_elim (λ m. ⊎_elim inl (λ h. inr (via_as (λ w p. (more w).0 (inl p)) h)) (before.0 m)) there (one.0 t),
            ⊎_elim (λ o. one.1 (inl (before.1 (inl o)))) (λ t. ⊎_elim (λ h. one.1 (inl (before.1 (inr h)))) (λ s. one.1 (inr s)) (back t)),
          )

-- How many are picked of one number more.
picked_length : (f : ℕ → Bool) (m : ℕ) (b : Bool) → f (suc m) ≡ b → length (picked f (suc m)) ≡ length (picked f m) + cond b 1 0
unfolding picked
picked_length f m true q = ap (λ b. length (picked f m ++ cond b (suc m ∷ []) [])) q ∙ length-append (picked f m) (suc m ∷ [])
picked_length f m false q =
    let none : length (picked f m) ≡ length (picked f m) + 0 = omega arith in
    ap (λ b. length (picked f m ++ cond b (suc m ∷ []) [])) q ∙ ap length (append-nil (picked f m)) ∙ none

-- Where each number that a third test picks is picked by one of two and not by the other, those two pick as many together.
picked_split : (f g h : ℕ → Bool) → ((v : ℕ) → ((f v ≡ true) × (g v ≡ false) × (h v ≡ true)) ⊎ ((f v ≡ false) × (g v ≡ h v)))
    → (m : ℕ) → length (picked f m) + length (picked g m) ≡ length (picked h m)
unfolding picked
picked_split f g h tells zero = refl
picked_split f g h tells (suc m) = ⊎_elim one other (tells (suc m)) (picked_split f g h tells m)
  where
    so_far : ℕ → Type 0
    so_far m = length (picked f m) + length (picked g m) ≡ length (picked h m)

    one : (f (suc m) ≡ true) × (g (suc m) ≡ false) × (h (suc m) ≡ true) → so_far m → so_far (suc m)
    one (p, q, r) before =
        let a = picked_length f m true p in
        let b = picked_length g m false q in
        let c = picked_length h m true r in
        omega arith

    other : (f (suc m) ≡ false) × (g (suc m) ≡ h (suc m)) → so_far m → so_far (suc m)
    other (p, q) before =
        let a = picked_length f m false p in
        by_test (h (suc m)) (λ t. let b = picked_length g m true (q ∙ t) in let c = picked_length h m true t in omega arith)
        (λ t. let b = picked_length g m false (q ∙ t) in let c = picked_length h m false t in omega arith)

-- A top that is drained takes what it has from what is under the flags.
pub drained_sum : (n : ℕ) (tops lead : List ℕ) {top : ℕ} {old new : List Bool} {count : ℕ} → n ≤ 4096 → Weighed n tops lead → top ≤ n
    → get_or old 0 false ≡ false → DrainedOne lead top old new count → count + under n tops new ≡ under n tops old
unfolding pick
drained_sum n tops lead {top} {old} {new} {count} few weighed low zero-off (flagged q is has) =
    let some : top ≢ 0 = λ z. clash (sym (ap (λ k. get_or old k false) z) ∙ q) zero-off in
    let own : get_or (set old top false) top false ≡ false = get_or-set_same old top false false (flag_long old top q) in
    let tells : (v : ℕ) → ((pick Set n (only top) tops v ≡ true) × (pick Set n (set old top false) tops v ≡ false) × (pick Set n old tops v ≡ true))
    ⊎ ((pick Set n (only top) tops v ≡ false) × (pick Set n (set old top false) tops v ≡ pick Set n old tops v)) =
    λ v. by_cases (ℕ_discrete (row n tops v) top)
    (λ s. inl (
      ap (λ k. get_or (only top) k false) s ∙ only_own top some (omega arith),
      ap (λ k. get_or (set old top false) k false) s ∙ own,
      ap (λ k. get_or old k false) s ∙ q,
    ))
    (λ other. inr ((not-eq-not {b = false}).0 (λ t. other (only_set top (row n tops v) t).0), get_or-set_other old top (row n tops v) false false other)) in
    let split = picked_split (pick Set n (only top) tops) (pick Set n (set old top false) tops) (pick Set n old tops) tells n in
    let same = ap (under n tops) is in
    let row_has = weighed top low in
    omega arith
drained_sum n tops lead few weighed low zero-off (bare q is none) = let same = ap (under n tops) is in omega arith

-- Where no flag is set, nothing is under them.
pub under_none : (n : ℕ) (tops : List ℕ) (flags : List Bool) → ((e : ℕ) → get_or flags e false ≡ false) → under n tops flags ≡ 0
unfolding pick
under_none n tops flags off = ap length (picked_none (pick Set n flags tops) n (λ v _ _. off (row n tops v)))

-- What a scheme takes is a top by some sign.
pub takes_either : (scheme : Scheme) (n : ℕ) (tops : List ℕ) (P : Bool → ℕ → Type 0) (e : ℕ) → Takes scheme (λ sign. Via n tops (P sign) e)
    → Via n tops (λ v. By Either (λ sign. P sign v)) e
takes_either Scheme.Standard n tops P e = ⊎_elim (via_as (λ v. inl)) (via_as (λ v. inr))
takes_either Scheme.Strict n tops P e = λ t. via_as (λ v. inl) t.0

-- The flags of entry points: none is set for 0.
pub entered_zero : (scheme : Scheme) (n : ℕ) (tops : List ℕ) (ls : List ℤ) (x : ℕ) (flags : List Bool) → EnteredBy scheme n tops ls x flags
    → get_or flags 0 false ≡ false
entered_zero scheme n tops ls x flags entered =
    (not-eq-not {b = false}).0 (λ t. (takes_either scheme n tops (λ sign. Together ls sign x) 0 ((entered.tells 0 (omega arith)).0 t)).some refl)

-- At the end of the chain every flag of an entry point is off, since it is a top of what is together with x in a clause.
pub drained_all : (scheme : Scheme) (n : ℕ) (tops : List ℕ) (ls : List ℤ) (x : ℕ) (old new : List Bool) → length old ≡ variable_rows → length new ≡ length old
    → EnteredBy scheme n tops ls x old
    → ((e : ℕ) → e < length old → (get_or new e false ≡ false) ↔ ((get_or old e false ≡ false) ⊎ Via n tops (λ v. By Either (λ sign. Together ls sign x v)) e))
    → (e : ℕ) → get_or new e false ≡ false
drained_all scheme n tops ls x old new size same entered off e =
    by_cases (dec_lt e (length old))
    (λ l. (off e l).1
    (by_test (get_or old e false) (λ t. inr (takes_either scheme n tops (λ sign. Together ls sign x) e ((entered.tells e (omega arith)).0 t))) inl))
    (λ l. get_or-eq_default new false {n = e} (omega arith))

-- An entry of the chain has one of the signs, whichever it is: all beside it is told.
pub trace_either : {n : ℕ} {tops : List ℕ} {ls : List ℤ} {next : List ℕ} {head : ℕ} {Asked Old New : ℕ → Type 0} {k : ℕ}
    → Tracing n tops ls next Either head Asked Old New k → k ≢ 0 → {after begin : ℕ} → after ≡ link_at next (k - 1) → begin ≡ start_at next (k - 1)
    → (New' : ℕ → Type 0) (z : ℕ) → NextZero ls begin z → ((e : ℕ) → Asked e → New' e ↔ (New e ⊎ Via n tops (Has ls begin z) e))
    → Tracing n tops ls next Either head Asked Old New' after
unfolding side_by
trace_either {n} {tops} {ls} {next} {head} {Asked} {Old} {New} {k} t some {after} low high New' z closes more = by (sign_of (literal_at ls (k - 1)))
  where
    by : (sign : Bool) × (literal_at ls (k - 1) ≡ signed sign (variable_of (literal_at ls (k - 1)))) → Tracing n tops ls next Either head Asked Old New' after
    by (true, is) = trace_more t some {z = literal_at ls (k - 1)} refl Positive is low high New' refl z closes more
    by (false, is) = trace_more t some {z = literal_at ls (k - 1)} refl Negative is low high New' refl z closes more
