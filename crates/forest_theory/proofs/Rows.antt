-- Lent lists of rows: what is read of them, what well formed asks of them, and when two are one.
use Prim.Native.Nat.{ℕ, zero, suc, ◌-◌, ◌≤◌, ◌<◌}
use mathlib.Core.Path.{◌≡◌, refl, sym, ◌∙◌, ap}
use mathlib.Core.List.{List}
use mathlib.Core.Logic.{by_cases}
use native.Mathlib.Decide.{dec_lt}
use native.Mathlib.Omega.{arith}
use lib.ListN.{length, get_or}
use lib.Seq.{ext_get_or}
use borrow.Author.Tests.{lt-ltb, le-ltb}
use Rattle.forest_theory.specs.Reach.{Variables}
use Rattle.forest_theory.specs.Tables.{row, lent}
use Rattle.forest_theory.specs.Forest.{Forest}
use Rattle.forest_theory.proofs.Reach.{Symmetric}
use Rattle.forest_theory.proofs.Forest.{forest_one}

-- Inside 1 to n, row v - 1 is read.
row_suc : (n v : ℕ) (xs : List ℕ) → v < n → row n xs (suc v) ≡ get_or xs v 0
unfolding row
row_suc n v xs h = rw (lt-ltb v n h)

-- In the words of the table: row v - 1 for variable v.
pub row_at : (n v : ℕ) (xs : List ℕ) → 1 ≤ v → v ≤ n → row n xs v ≡ get_or xs (v - 1) 0
row_at n zero xs l h = absurd (omega arith)
row_at n (suc v) xs l h = let e : v ≡ suc v - 1 = omega arith in row_suc n v xs h ∙ ap (λ (i : ℕ). get_or xs i 0) e

-- Outside, 0.
pub row_out : (n v : ℕ) (xs : List ℕ) → (1 ≤ v → n < v) → row n xs v ≡ 0
unfolding row
row_out n zero xs h = refl
row_out n (suc v) xs h = rw (le-ltb v n (omega (arith, h (omega arith))))

-- Rows past n are not read.
pub row_same : (n v : ℕ) (xs ys : List ℕ) → ((i : ℕ) → i < n → get_or xs i 0 ≡ get_or ys i 0) → row n xs v ≡ row n ys v
row_same n zero xs ys h = row_out n 0 xs (λ l. absurd (omega arith)) ∙ sym (row_out n 0 ys (λ l. absurd (omega arith)))
row_same n (suc v) xs ys h = by_cases (dec_lt v n)
    (λ l. row_suc n v xs l ∙ h v l ∙ sym (row_suc n v ys l))
    (λ l. row_out n (suc v) xs (λ i. omega arith) ∙ sym (row_out n (suc v) ys (λ i. omega arith)))

-- Two lists of rows of one length that read alike, and are alike past n, are one.
pub rows_one : (n : ℕ) (xs ys : List ℕ) → length xs ≡ length ys → ((v : ℕ) → row n xs v ≡ row n ys v) → ((i : ℕ) → n ≤ i → get_or xs i 0 ≡ get_or ys i 0) → xs ≡ ys
rows_one n xs ys same rows rest = ext_get_or 0 xs ys same
    (λ i h. by_cases (dec_lt i n) (λ l. sym (row_suc n i xs l) ∙ rows (suc i) ∙ row_suc n i ys l) (λ l. rest i (omega arith)))

-- So lent rows that are the forest are settled, whatever stood in them before.
pub lent_one : {X : Variables} {J : ℕ → ℕ → Type 0} → Symmetric J → {cs ps cs' ps' : List ℕ}
    → Forest X J (lent X cs ps) → Forest X J (lent X cs' ps')
    → length cs ≡ length cs' → ((i : ℕ) → X.count ≤ i → get_or cs i 0 ≡ get_or cs' i 0)
    → length ps ≡ length ps' → ((i : ℕ) → X.count ≤ i → get_or ps i 0 ≡ get_or ps' i 0)
    → (cs ≡ cs') × (ps ≡ ps')
unfolding lent
lent_one {X} flip {cs} {ps} {cs'} {ps'} f g lc rc lp rp =
    (rows_one X.count cs cs' lc (λ v. (forest_one flip f g v).0) rc, rows_one X.count ps ps' lp (λ v. (forest_one flip f g v).1) rp)
