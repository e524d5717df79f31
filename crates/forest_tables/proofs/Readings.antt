-- Laws of lent rows and of the level table: what a row and a flag say by where v stands, and how what the level table says of rows is what the formula says.
use Prim.Native.Nat.{ℕ, zero, suc, ◌-◌, ◌≤◌, ◌<◌}
use mathlib.Core.Path.{◌≡◌, refl, sym, ap, ◌∙◌, subst}
use mathlib.Core.Bool.{Bool, true, false, cond, ◌&&◌}
use mathlib.Core.List.{List}
use mathlib.Core.Logic.{◌≢◌, by_cases}
use native.Mathlib.Decide.{ℕ_discrete, dec_le, dec_lt}
use native.Mathlib.Omega.{arith}
use borrow.Author.Tests.{lt-ltb, le-ltb, le-leb, lt-leb, leb-true}
use lib.Dec.{leb}
use lib.ListN.{length, get_or, set, replicate, length-replicate, get_or-replicate, get_or-eq_default}
use lib.Seq.{get_or-set_same, get_or-set_other}
use Rattle.terms.proofs.Common.{clash}
use Rattle.forest_theory.specs.Tables.{row}
use Rattle.forest_tables.specs.InnerRows.{Tells}

-- A row: 0 for no variable and for one over n, else what stands in its place.
pub row_none : (n : ℕ) (rows : List ℕ) (v : ℕ) → v ≡ 0 → row n rows v ≡ 0
unfolding row
row_none n rows v q = ap (row n rows) q

pub row_over : (n : ℕ) (rows : List ℕ) (v : ℕ) → n < v → row n rows v ≡ 0
unfolding row
row_over n rows zero l = refl
row_over n rows (suc v) l = ap (λ b. cond b (get_or rows v 0) 0) (le-ltb v n (omega arith))

pub row_at : (n : ℕ) (rows : List ℕ) (v : ℕ) → v ≢ 0 → v ≤ n → row n rows v ≡ get_or rows (v - 1) 0
unfolding row
row_at n rows zero some l = absurd (some refl)
row_at n rows (suc v) some l = let q : v ≡ suc v - 1 = omega arith in ap (λ b. cond b (get_or rows v 0) 0) (lt-ltb v n (omega arith)) ∙ ap (λ i. get_or rows i 0) q

-- A store into the row of a variable: its own row holds it, and every other stays.
pub row_stored : (n : ℕ) (rows : List ℕ) (v x : ℕ) → v ≢ 0 → v ≤ n → n ≤ length rows → row n (set rows (v - 1) x) v ≡ x
row_stored n rows v x some l long = row_at n (set rows (v - 1) x) v some l ∙ get_or-set_same rows (v - 1) x 0 (omega arith)

pub row_kept : (n : ℕ) (rows : List ℕ) (v x w : ℕ) → v ≢ 0 → w ≢ v → row n (set rows (v - 1) x) w ≡ row n rows w
row_kept n rows v x w some other = by_cases (ℕ_discrete w 0) (λ z. row_none n (set rows (v - 1) x) w z ∙ sym (row_none n rows w z))
    (λ named. by_cases (dec_le w n)
    (λ l. row_at n (set rows (v - 1) x) w named l ∙ get_or-set_other rows (v - 1) (w - 1) x 0 (λ q. other (omega arith))
    ∙ sym (row_at n rows w named l))
    (λ l. row_over n (set rows (v - 1) x) w (omega arith) ∙ sym (row_over n rows w (omega arith))))

-- The flag of a variable from 1 to n is as it stands in the table, and any other variable has none.
pub flag_none : (n v : ℕ) (b : Bool) → v ≡ 0 → (leb 1 v && leb v n && b) ≡ false
flag_none n v b q = ap (λ t. t && leb v n && b) (lt-leb 1 v (omega arith))

pub flag_over : (n v : ℕ) (b : Bool) → n < v → (leb 1 v && leb v n && b) ≡ false
flag_over n v b l = ap (λ t. t && leb v n && b) (le-leb 1 v (omega arith)) ∙ ap (λ t. t && b) (lt-leb v n l)

pub flag_in : (n v : ℕ) (b : Bool) → v ≢ 0 → v ≤ n → (leb 1 v && leb v n && b) ≡ b
flag_in n v b some l = ap (λ t. t && leb v n && b) (le-leb 1 v (omega arith)) ∙ ap (λ t. t && b) (le-leb v n l)

-- and a flag that is set is of a variable from 1 to n
pub flag_within : (n v : ℕ) (b : Bool) → (leb 1 v && leb v n && b) ≡ true → (1 ≤ v) × (v ≤ n) × (b ≡ true)
flag_within n v b = go (leb 1 v) (leb v n) (leb-true 1 v) (leb-true v n)
  where
    go : (s t : Bool) → (s ≡ true → 1 ≤ v) → (t ≡ true → v ≤ n) → (s && t && b) ≡ true → (1 ≤ v) × (v ≤ n) × (b ≡ true)
    go true true f g q = (f refl, g refl, q)
    go true false f g q = absurd (clash refl (sym q))
    go false true f g q = absurd (clash refl (sym q))
    go false false f g q = absurd (clash refl (sym q))

-- What a flag tells, once it is known.
pub told : {P : Type 0} (b : Bool) → b ≡ true → Tells b P → P
told {P} b q h = subst (λ b. Tells b P) q h

pub told_not : {P : Type 0} (b : Bool) → b ≡ false → Tells b P → P → ⊥
told_not {P} b q h = subst (λ b. Tells b P) q h

-- A flag tells of P what it tells of Q, where each follows from the other.
pub told_both : {P Q : Type 0} (b : Bool) → (P → Q) → (Q → P) → Tells b P → Tells b Q
told_both true there back h = there h
told_both false there back h = λ q. h (back q)

-- In a new table all rows are 0.
pub new_zero : (k v : ℕ) → get_or (replicate {A = ℕ} k 0) v 0 ≡ 0
new_zero k v =
    by_cases (dec_lt v k) (λ l. get_or-replicate {A = ℕ} k v 0 0 l)
    (λ l. get_or-eq_default (replicate {A = ℕ} k 0) 0 {n = v} (let q = length-replicate {A = ℕ} k 0 in omega arith))
