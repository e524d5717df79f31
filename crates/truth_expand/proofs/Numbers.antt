-- The numbers of copies: which variables have one, and which variable a number is the copy of.
use Prim.Native.Nat.{ℕ, zero, suc, ◌+◌, ◌-◌, ◌≤◌, ◌<◌}
use mathlib.Core.Path.{◌≡◌, refl, sym, ◌∙◌, ap, subst}
use mathlib.Core.Bool.{Bool, cond}
use mathlib.Core.List.{List, [], ◌∷◌, Memᴰ}
use mathlib.Core.Logic.{◌≢◌, by_cases}
use native.Mathlib.Decide.{ℕ_discrete, dec_le}
use native.Mathlib.Omega.{arith}
use borrow.Author.Tests.{eq-eqb, ne_eqb, le-leb, lt-leb}
use lib.Dec.{eqb, leb}
use lib.ListN.{length, get_or, get_or-eq_default}
use Rattle.terms.specs.Listed.{Ascending}
use Rattle.forest_theory.proofs.Choice.{choice}
use Rattle.expand_clauses.specs.InnerCopies.{copy_from, copy_of}

at_member : (ms : List ℕ) (k : ℕ) → k < length ms → Memᴰ (get_or ms k 0) ms
at_member [] k l = absurd (omega arith)
at_member (m ∷ ms) zero l = Memᴰ.head refl
at_member (m ∷ ms) (suc k) l = Memᴰ.tail (at_member ms k (omega arith))

no_more : (next : ℕ) → next ≡ next + 0
no_more next = omega arith

-- The copy of the member at place k has the number next + k, and there is no other copy.
record Place (next : ℕ) (members : List ℕ) (v : ℕ) : Type 0 where
  place : ℕ
  within : place < length members
  member : get_or members place 0 ≡ v
  number : copy_from next members v ≡ next + place

copy_place : (next : ℕ) (members : List ℕ) (v : ℕ) → copy_from next members v ≢ 0 → Place next members v
unfolding copy_from
copy_place next [] v some = absurd (some refl)
copy_place next (m ∷ ms) v some = by_cases (ℕ_discrete m v)
    (λ q. record { place = 0; within = omega arith; member = q; number = pick (eq-eqb m v q) ∙ no_more next })
    (λ n. let f = pick (ne_eqb m v n) in
    let r = copy_place (suc next) ms v (λ z. some (f ∙ z)) in
    let e : suc next + r.place ≡ next + suc r.place = omega arith in
    record { place = suc r.place; within = (let l = r.within in omega arith); member = r.member; number = f ∙ r.number ∙ e })
  where
    pick : {b : Bool} → eqb m v ≡ b → cond (eqb m v) next (copy_from (suc next) ms v) ≡ cond b next (copy_from (suc next) ms v)
    pick q = ap (λ (b : Bool). cond b next (copy_from (suc next) ms v)) q

place_copy : (next : ℕ) (members : List ℕ) (k : ℕ) → Ascending members → k < length members → copy_from next members (get_or members k 0) ≡ next + k
unfolding copy_from
place_copy next [] k a l = absurd (omega arith)
place_copy next (m ∷ ms) zero a l = ap (λ (b : Bool). cond b next (copy_from (suc next) ms m)) (eq-eqb m m refl) ∙ no_more next
place_copy next (m ∷ ms) (suc k) a l =
    let over = a.0 (get_or ms k 0) (at_member ms k (omega arith)) in
    let e : suc next + k ≡ next + suc k = omega arith in
    ap (λ (b : Bool). cond b next (copy_from (suc next) ms (get_or ms k 0))) (ne_eqb m (get_or ms k 0) (λ q. omega arith))
    ∙ place_copy (suc next) ms k a.1 (omega arith) ∙ e

-- A member has a copy, and what has one is a member.
pub member_copy : {v : ℕ} (next : ℕ) {members : List ℕ} → next ≢ 0 → Memᴰ v members → copy_from next members v ≢ 0
unfolding copy_from
member_copy {v = v} next n (Memᴰ.head {x = m} {xs = ms} q) = rw (eq-eqb m v (sym q)) n
member_copy {v = v} next n (Memᴰ.tail {x = m} {xs = ms} i) =
    choice (λ (k : ℕ). k ≢ 0) (eqb m v) (λ t. n) (λ f. member_copy (suc next) (λ z. omega arith) i)

pub copy_member : (next : ℕ) (members : List ℕ) (v : ℕ) → copy_from next members v ≢ 0 → Memᴰ v members
copy_member next ms v some = let r = copy_place next ms v some in subst (λ (w : ℕ). Memᴰ w ms) r.member (at_member ms r.place r.within)

-- The original of a copy: the member at place w - (n + 1); 0 for what is no copy.
module _ (n : ℕ) (members : List ℕ) where
  unfoldable pub original_of : ℕ → ℕ
  original_of w = cond (leb w n) 0 (get_or members (w - suc n) 0)

  pub original_low : (w : ℕ) → w ≤ n → original_of w ≡ 0
  unfolding original_of
  original_low w l = rw (le-leb w n l)

  pub original_copy : (v : ℕ) → copy_of n members v ≢ 0 → original_of (copy_of n members v) ≡ v
  unfolding original_of
  original_copy v some =
      let r = copy_place (suc n) members v some in
      let q = r.number in
      let e : copy_of n members v - suc n ≡ r.place = omega arith in
      rw (lt-leb (copy_of n members v) n (omega arith)) (ap (λ (k : ℕ). get_or members k 0) e ∙ r.member)

  -- What has an original is the copy of it, within the new count.
  pub copy_original : (w : ℕ) → Ascending members → original_of w ≢ 0 → (copy_of n members (original_of w) ≡ w) × (n < w) × (w ≤ n + length members)
  unfolding original_of
  copy_original w a = go (dec_le w n)
    where
      inner : ¬ (w ≤ n) → get_or members (w - suc n) 0 ≢ 0 → (copy_of n members (get_or members (w - suc n) 0) ≡ w) × (n < w) × (w ≤ n + length members)
      inner l some = by_cases (dec_le (suc (w - suc n)) (length members))
          (λ k. let e : suc n + (w - suc n) ≡ w = omega arith in (place_copy (suc n) members (w - suc n) a k ∙ e, omega arith, omega arith))
          (λ k. absurd (some (get_or-eq_default members 0 {n = w - suc n} (omega arith))))

      go : Dec (w ≤ n) → cond (leb w n) 0 (get_or members (w - suc n) 0) ≢ 0
          → (copy_of n members (cond (leb w n) 0 (get_or members (w - suc n) 0)) ≡ w) × (n < w) × (w ≤ n + length members)
      go (yes l) = rw (le-leb w n l) (λ some. absurd (some refl))
      go (no l) = rw (lt-leb w n (omega arith)) (inner l)

  -- Where no member is 0, what has none is one of 1 to n, or past the new count.
  pub original_out : (w : ℕ) → ((v : ℕ) → Memᴰ v members → v ≢ 0) → original_of w ≡ 0 → n < w → n + length members < w
  unfolding original_of
  original_out w some z l = by_cases (dec_le w (n + length members))
      (λ k. absurd (some (get_or members (w - suc n) 0) (at_member members (w - suc n) (omega arith))
      (ap (λ (b : Bool). cond b 0 (get_or members (w - suc n) 0)) (sym (lt-leb w n l)) ∙ z)))
      (λ k. omega arith)
