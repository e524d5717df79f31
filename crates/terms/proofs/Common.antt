-- Small laws that every crate leans on.
use Prim.Native.Nat.{ℕ, suc, ◌+◌, ◌<◌}
use mathlib.Core.Path.{◌≡◌, refl, sym, ap, ◌∙◌, subst}
use mathlib.Core.Bool.{Bool, true, false, true≢false}
use mathlib.Core.List.{List, [], ◌∷◌, ◌++◌}
use mathlib.Core.Logic.{⊎_elim}
use native.Mathlib.Nat.{eq-or-lt_of_le, le_of_suc-le-suc}
use native.Mathlib.Omega.{arith}
use borrow.Author.Count.{below_more}
use lib.ListN.{length, get_or, set}
use lib.Seq.{sets, get_or-set_same, get_or-set_other}

-- what holds of every number below i, and of i, holds below the next
pub below_suc : (P : ℕ → Type 0) (i : ℕ) → ((k : ℕ) → k < i → P k) → P i → (k : ℕ) → k < suc i → P k
below_suc P i all here k l = ⊎_elim (λ q. subst P (sym q) here) (λ lt. all k lt) (eq-or-lt_of_le (le_of_suc-le-suc l))

-- a test cannot come out both ways
pub clash : {b : Bool} → b ≡ true → b ≡ false → ⊥
clash yes' no' = true≢false (sym yes' ∙ no')

-- a test, with what it came out as
pub by_test : {P : Type 0} (b : Bool) → (b ≡ true → P) → (b ≡ false → P) → P
by_test true yes' no' = yes' refl
by_test false yes' no' = no' refl

-- a table that is x at every row below i is so below i + 1 once x is stored at i
pub filled_more : {A : Type 0} (rows : List A) (x d : A) (i : ℕ) → i < length rows → ((k : ℕ) → k < i → get_or rows k d ≡ x) → (k : ℕ) → k < i + 1
    → get_or (set rows i x) k d ≡ x
filled_more rows x d i l all =
    below_more (λ k. get_or (set rows i x) k d ≡ x) i (λ k lt. get_or-set_other rows i k x d (λ q. omega arith) ∙ all k lt) (get_or-set_same rows i x d l)

-- a run of stores, and then another
pub sets_append : {A : Type 0} (table : List A) (at : ℕ) (front back : List A)
    → sets table at (front ++ back) ≡ sets (sets table at front) (at + length front) back
sets_append table at [] back = let q : at ≡ at + 0 = omega arith in ap (λ (k : ℕ). sets table k back) q
sets_append table at (a ∷ front) back =
    let q : suc at + length front ≡ at + suc (length front) = omega arith in
    sets_append (set table at a) (suc at) front back ∙ ap (λ (k : ℕ). sets (sets (set table at a) (suc at) front) k back) q
