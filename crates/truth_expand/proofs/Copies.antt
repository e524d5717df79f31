-- The copies of clauses, by membership.
use Prim.Native.Nat.{ℕ, zero, suc}
use mathlib.Core.Path.{◌≡◌, refl, sym, ◌∙◌, ap}
use mathlib.Core.Bool.{Bool, true, false, not, cond, ◌||◌, ◌&&◌, false≢true}
use mathlib.Core.List.{List, [], ◌∷◌, map, Memᴰ}
use mathlib.Core.Logic.{⊎_elim, ◌≢◌}
use native.Mathlib.Omega.{arith}
use borrow.Author.Tests.{eqb-true, eq-eqb, ne_eqb, not-true, not-false}
use lib.Dec.{eqb}
use lib.IntN.{ℤ, pos, negsuc, neg_ℤ}
use Rattle.terms.specs.Literals.{variable_of}
use Rattle.terms.proofs.Common.{clash}
use Rattle.formula.specs.Meaning.{always_true}
use Rattle.forest_theory.proofs.Choice.{choice, either, neither, both, or_right}
use Rattle.expand_clauses.specs.Expansion.{made_true, satisfied, has_x, without}
use Rattle.expand_clauses.specs.InnerCopies.{has_member, renamed, named, has_copy, copies}
use Rattle.truth.specs.Strategies.{literal_value}

-- the copy of a clause
abbrev pub clause_copy : Bool → ℕ → (ℕ → ℕ) → List ℤ → List ℤ
clause_copy value x copy c = map (named value copy) (without x c)

-- A literal as a copy names it: itself, or its variable's copy with its sign.
pub data Naming (copy : ℕ → ℕ) (value : Bool) (l m : ℤ) : Type 0 where
  same : m ≡ l → (value ≡ true → copy (variable_of l) ≡ 0) → Naming copy value l m
  new : value ≡ true → copy (variable_of l) ≢ 0 → variable_of m ≡ copy (variable_of l) → ((b : Bool) → literal_value m b ≡ literal_value l b)
      → Naming copy value l m

pub naming : (copy : ℕ → ℕ) (value : Bool) (l : ℤ) → Naming copy value l (named value copy l)
unfolding named renamed
naming copy false l = same refl (λ q. absurd (false≢true q))
naming copy true (pos v) = go (copy v) refl
  where
    go : (k : ℕ) → copy v ≡ k → Naming copy true (pos v) (cond (eqb (copy v) 0) (pos v) (pos (copy v)))
    go zero q = rw (eq-eqb (copy v) 0 q) (same refl (λ t. q))
    go (suc k) q = let n : copy v ≢ 0 = omega arith in rw (ne_eqb (copy v) 0 n) (new refl n refl (λ b. refl))
naming copy true (negsuc v) = go (copy (suc v)) refl
  where
    go : (k : ℕ) → copy (suc v) ≡ k → Naming copy true (negsuc v) (cond (eqb (copy (suc v)) 0) (negsuc v) (neg_ℤ (pos (copy (suc v)))))
    go zero q = rw (eq-eqb (copy (suc v)) 0 q) (same refl (λ t. q))
    go (suc k) q = let n : copy (suc v) ≢ 0 = omega arith in rw (ne_eqb (copy (suc v)) 0 n) (new refl n (rw q) (λ b. rw q))

-- The literals that x leaves are those of other variables.
module _ (x : ℕ) where
  pub without_member : (c : List ℤ) {l : ℤ} → Memᴰ l (without x c) → Memᴰ l c × (variable_of l ≢ x)
  unfolding without
  without_member [] m = absurd (mathlib.Core.List.Memᴰ.not-nil m)
  without_member (k ∷ c) {l} m =
      let later : Memᴰ l (without x c) → Memᴰ l (k ∷ c) × (variable_of l ≢ x) =
      λ i. let (j, n) = without_member c i in (mathlib.Core.List.Memᴰ.tail j, n) in
      choice (λ (d : List ℤ). Memᴰ l d → Memᴰ l (k ∷ c) × (variable_of l ≢ x)) (eqb (variable_of k) x) (λ t. later)
      (λ f i. ⊎_elim (λ q. (mathlib.Core.List.Memᴰ.head q, λ e. clash (eq-eqb (variable_of k) x (sym (ap variable_of q) ∙ e)) f)) later (mathlib.Core.List.Memᴰ.cases_cons i)) m

  pub member_without : {l : ℤ} {c : List ℤ} → variable_of l ≢ x → Memᴰ l c → Memᴰ l (without x c)
  unfolding without
  member_without n (mathlib.Core.List.Memᴰ.head {x = k} q) = rw (ne_eqb (variable_of k) x (λ e. n (ap variable_of q ∙ e))) (mathlib.Core.List.Memᴰ.head q)
  member_without {l = l} n (mathlib.Core.List.Memᴰ.tail {x = k} m) =
      choice (Memᴰ l) (eqb (variable_of k) x) (λ t. member_without n m) (λ f. mathlib.Core.List.Memᴰ.tail (member_without n m))

  -- A clause with no literal of x.
  pub no_x : {l : ℤ} {c : List ℤ} → has_x x c ≡ false → Memᴰ l c → variable_of l ≢ x
  unfolding has_x
  no_x f (mathlib.Core.List.Memᴰ.head {x = k} {xs = c} q) e =
      clash (ap (λ (t : Bool). t || has_x x c) (eq-eqb (variable_of k) x (sym (ap variable_of q) ∙ e))) f
  no_x f (mathlib.Core.List.Memᴰ.tail {x = k} {xs = c} m) e = no_x (neither (eqb (variable_of k) x) (has_x x c) f).1 m e

-- Where x has a value it satisfies a clause that has a literal of x which that value makes true, and no other.
module _ (value : Bool) (x : ℕ) where
  made : (l : ℤ) → made_true value x l ≡ true → (variable_of l ≡ x) × (literal_value l value ≡ true)
  unfolding made_true
  made (pos v) q = let (t, e) = both value (eqb v x) q in (eqb-true v x e, t)
  made (negsuc v) q = let (t, e) = both (not value) (eqb (suc v) x) q in (eqb-true (suc v) x e, t)

  make : (l : ℤ) → variable_of l ≡ x → literal_value l value ≡ true → made_true value x l ≡ true
  unfolding made_true
  make (pos v) e q = rw (q, eq-eqb v x e)
  make (negsuc v) e q = rw (q, eq-eqb (suc v) x e)

  pub satisfied_by : (c : List ℤ) → satisfied value x c ≡ true → (l : ℤ) × Memᴰ l c × (variable_of l ≡ x) × (literal_value l value ≡ true)
  unfolding satisfied
  satisfied_by [] q = absurd (false≢true q)
  satisfied_by (l ∷ c) q =
      ⊎_elim (λ here. let (e, t) = made l here in (l, mathlib.Core.List.Memᴰ.head refl, e, t))
      (λ later. let (k, i, e, t) = satisfied_by c later in (k, mathlib.Core.List.Memᴰ.tail i, e, t)) (either (made_true value x l) (satisfied value x c) q)

  pub by_satisfied : {l : ℤ} {c : List ℤ} → Memᴰ l c → variable_of l ≡ x → literal_value l value ≡ true → satisfied value x c ≡ true
  unfolding satisfied
  by_satisfied {l = l} (mathlib.Core.List.Memᴰ.head {x = k} {xs = c} q) e t =
      ap (λ (b : Bool). b || satisfied value x c) (ap (made_true value x) (sym q) ∙ make l e t)
  by_satisfied (mathlib.Core.List.Memᴰ.tail {x = k} {xs = c} m) e t = or_right (made_true value x k) (satisfied value x c) (by_satisfied m e t)

-- A clause with no member.
pub no_member : (copy : ℕ → ℕ) {l : ℤ} {c : List ℤ} → has_member copy c ≡ false → Memᴰ l c → copy (variable_of l) ≡ 0
unfolding has_member
no_member copy {l = l} f (mathlib.Core.List.Memᴰ.head {x = k} {xs = c} q) =
    ap (λ (m : ℤ). copy (variable_of m)) q
    ∙ eqb-true (copy (variable_of k)) 0 (not-false (eqb (copy (variable_of k)) 0) (neither (not (eqb (copy (variable_of k)) 0)) (has_member copy c) f).0)
no_member copy f (mathlib.Core.List.Memᴰ.tail {x = k} {xs = c} m) = no_member copy (neither (not (eqb (copy (variable_of k)) 0)) (has_member copy c) f).1 m

module _ (value : Bool) (x : ℕ) (copy : ℕ → ℕ) where
  -- A copy is that of a clause that has one, and every clause that has one has it there.
  pub copies_member : (cs : List (List ℤ)) {d : List ℤ} → Memᴰ d (copies value x copy cs)
      → (c : List ℤ) × Memᴰ c cs × (has_copy value x copy c ≡ true) × (d ≡ clause_copy value x copy c)
  unfolding copies
  copies_member [] m = absurd (mathlib.Core.List.Memᴰ.not-nil m)
  copies_member (c ∷ cs) {d} m =
      choice (λ (ds : List (List ℤ)). Memᴰ d ds → Found (c ∷ cs)) (has_copy value x copy c)
      (λ t i. ⊎_elim (λ q. (c, mathlib.Core.List.Memᴰ.head refl, t, q)) (λ j. later (copies_member cs j)) (mathlib.Core.List.Memᴰ.cases_cons i))
      (λ f i. later (copies_member cs i)) m
    where
      Found : List (List ℤ) → Type 0
      Found cs = (c : List ℤ) × Memᴰ c cs × (has_copy value x copy c ≡ true) × (d ≡ clause_copy value x copy c)

      later : Found cs → Found (c ∷ cs)
      later (a, i, t, q) = (a, mathlib.Core.List.Memᴰ.tail i, t, q)

  pub member_copies : {c : List ℤ} {cs : List (List ℤ)} → Memᴰ c cs → has_copy value x copy c ≡ true
      → Memᴰ (clause_copy value x copy c) (copies value x copy cs)
  unfolding copies
  member_copies {c = c} (mathlib.Core.List.Memᴰ.head {x = a} q) t =
      rw (sym (ap (has_copy value x copy) q) ∙ t) (mathlib.Core.List.Memᴰ.head (ap (λ (e : List ℤ). clause_copy value x copy e) q))
  member_copies {c = c} (mathlib.Core.List.Memᴰ.tail {x = a} m) t =
      choice (Memᴰ (clause_copy value x copy c)) (has_copy value x copy a) (λ h. mathlib.Core.List.Memᴰ.tail (member_copies m t))
      (λ h. member_copies m t)

  -- A clause with a copy is not satisfied.
  pub copy_open : (c : List ℤ) → has_copy value x copy c ≡ true → satisfied value x c ≡ false
  unfolding has_copy
  copy_open c t =
      let plain = not (always_true c) && not (satisfied value x c) in
      let first : plain ≡ true = (both plain (not value || (has_x x c || has_member copy c)) t).0 in
      not-true (satisfied value x c) (both (not (always_true c)) (not (satisfied value x c)) first).1

-- Which clauses have a first copy, and which a second.
pub first_copy : (x : ℕ) (copy : ℕ → ℕ) (c : List ℤ) → always_true c ≡ false → satisfied false x c ≡ false → has_copy false x copy c ≡ true
unfolding has_copy
first_copy x copy c a s = rw (a, s)

pub second_copy : (x : ℕ) (copy : ℕ → ℕ) (c : List ℤ) → always_true c ≡ false → satisfied true x c ≡ false → (has_x x c || has_member copy c) ≡ true
    → has_copy true x copy c ≡ true
unfolding has_copy
second_copy x copy c a s h = rw (a, s) h
