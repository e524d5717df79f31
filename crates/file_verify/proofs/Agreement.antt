-- The numbers that a record holds: in parts, and whether they are those of a list.
use Prim.Native.Nat.{ℕ, zero, suc, ◌+◌, ◌*◌}
use mathlib.Core.Path.{◌≡◌, refl, sym, ap, ap₂, ◌∙◌}
use mathlib.Core.Bool.{Bool}
use mathlib.Core.List.{List, ◌∷◌, ◌++◌}
use mathlib.Core.Logic.{◌↔◌, ◌≢◌}
use native.Mathlib.Omega.{arith}
use lib.ListN.{length, take, drop, length-append}
use lib.Seq.{take-append_seam, take_at, drop_at}
use Rattle.forest_tables.specs.InnerRows.{Tells}
use Rattle.forest_tables.proofs.Readings.{told_both}
use Rattle.file_format.specs.Numbers.{number_at, numbers_at}
use Rattle.file_format.specs.Places.{size_at, payload_at, third_at, count_in, HoldsNumbers}
use Rattle.file_layout.proofs.Spans.{numbers_length}
use Rattle.file_verify.specs.InnerVerified.{classes_in, parents_in, counts_in}

-- The rows of a file, as so many numbers from a place on.
pub rows_are : (file : List ℕ) (n p : ℕ) → n ≡ count_in file → p ≡ third_at file
    → (numbers_at 4 file (p + 6) n ≡ classes_in file) × (numbers_at 4 file (p + 6 + 4 * n) n ≡ parents_in file)
    × (numbers_at 4 file (p + 6 + 4 * n + 4 * n) n ≡ counts_in file)
unfolding classes_in parents_in counts_in
rows_are file n p is at = (
  λ i. numbers_at 4 file (at i + 6) (is i),
  λ i. numbers_at 4 file (at i + 6 + 4 * is i) (is i),
  λ i. numbers_at 4 file (at i + 6 + 4 * is i + 4 * is i) (is i),
)

-- Numbers in two parts.
numbers_append : (width : ℕ) (file : List ℕ) (p a b : ℕ)
    → numbers_at width file p (a + b) ≡ numbers_at width file p a ++ numbers_at width file (p + width * a) b
unfolding numbers_at
numbers_append width file p zero b =
    let q : p ≡ p + width * 0 = omega arith in
    let z : 0 + b ≡ b = omega arith in
    ap₂ (λ (k : ℕ) (m : ℕ). numbers_at width file k m) q z
numbers_append width file p (suc a) b =
    let s : suc a + b ≡ suc (a + b) = omega arith in
    let q : (p + width) + width * a ≡ p + width * suc a = omega arith in
    let rest = numbers_append width file (p + width) a b ∙ ap (λ (k : ℕ). numbers_at width file (p + width) a ++ numbers_at width file k b) q in
    ap (numbers_at width file p) s ∙ ap (λ (xs : List ℕ). number_at width file p ∷ xs) rest

-- Two lists in two parts, the first of one length, are one exactly if their parts are.
parts : (xs xs' ys ys' : List ℕ) → length xs ≡ length xs' → xs ++ ys ≡ xs' ++ ys' → (xs ≡ xs') × (ys ≡ ys')
parts xs xs' ys ys' l e = (
  sym (take_at xs ys (length xs') l) ∙ ap (take (length xs')) e ∙ take-append_seam xs' ys',
  sym (drop_at xs ys (length xs') l) ∙ ap (drop (length xs')) e ∙ drop_at xs' ys' (length xs') refl,
)

-- The numbers of three lists one after the other.
module _ (file : List ℕ) (p : ℕ) (cs ps ks : List ℕ) where
  abbrev one : List ℕ
  one = numbers_at 4 file p (length cs)

  abbrev two : List ℕ
  two = numbers_at 4 file (p + 4 * length cs) (length ps)

  abbrev last : List ℕ
  last = numbers_at 4 file (p + 4 * length cs + 4 * length ps) (length ks)

  pub record Three : Type 0 where
    pub classes : one ≡ cs
    pub parents : two ≡ ps
    pub counts : last ≡ ks

  in_three : numbers_at 4 file p (length (cs ++ (ps ++ ks))) ≡ one ++ (two ++ last)
  in_three =
      ap (numbers_at 4 file p) (length-append cs (ps ++ ks) ∙ ap (λ (k : ℕ). length cs + k) (length-append ps ks))
      ∙ numbers_append 4 file p (length cs) (length ps + length ks)
      ∙ ap (λ (xs : List ℕ). one ++ xs) (numbers_append 4 file (p + 4 * length cs) (length ps) (length ks))

  pub three : (numbers_at 4 file p (length (cs ++ (ps ++ ks))) ≡ cs ++ (ps ++ ks)) ↔ Three
  three = (there, back)
    where
      there : numbers_at 4 file p (length (cs ++ (ps ++ ks))) ≡ cs ++ (ps ++ ks) → Three
      there e =
          let (a, r) = parts one cs (two ++ last) (ps ++ ks) (numbers_length 4 file p (length cs)) (sym in_three ∙ e) in
          let (b, d) = parts two ps last ks (numbers_length 4 file (p + 4 * length cs) (length ps)) r in
          record { classes = a; parents = b; counts = d }

      back : Three → numbers_at 4 file p (length (cs ++ (ps ++ ks))) ≡ cs ++ (ps ++ ks)
      back t = in_three ∙ ap₂ (λ (a b : List ℕ). a ++ b) t.classes (ap₂ (λ (a b : List ℕ). a ++ b) t.parents t.counts)

-- Whether a record holds just some numbers: of another length it does not; of the right one it does if they agree.
module _ (width : ℕ) (file : List ℕ) {p q : ℕ} (at : q ≡ p) (xs : List ℕ) where
  pub other_size : {size : ℕ} → size ≡ size_at file q → size ≢ width * length xs → HoldsNumbers width file p xs → ⊥
  other_size is other h = other (is ∙ ap (size_at file) at ∙ h.size)

  pub holds_both : {size : ℕ} → size ≡ size_at file q → size ≡ width * length xs
      → (numbers_at width file (q + 6) (length xs) ≡ xs) ↔ HoldsNumbers width file p xs
  holds_both is same =
      let values : numbers_at width file (q + 6) (length xs) ≡ numbers_at width file (payload_at p) (length xs) =
      ap (λ (k : ℕ). numbers_at width file (k + 6) (length xs)) at in
      (λ e. record { size = sym (is ∙ ap (size_at file) at) ∙ same; values = sym values ∙ e }, λ h. values ∙ h.values)

-- So a record holds three lists one after the other exactly if the numbers of each agree.
pub three_length : (cs ps ks : List ℕ) → length (cs ++ (ps ++ ks)) ≡ length cs + length ps + length ks
three_length cs ps ks = let a = length-append cs (ps ++ ks) in let b = length-append ps ks in omega arith

pub three_holds : (file : List ℕ) {p q : ℕ} → q ≡ p → (cs ps ks : List ℕ) {size : ℕ} → size ≡ size_at file q
    → size ≡ 4 * (length cs + length ps + length ks) → HoldsNumbers 4 file p (cs ++ (ps ++ ks)) ↔ Three file (q + 6) cs ps ks
three_holds file {p} {q} at cs ps ks is same =
    let both = holds_both 4 file at (cs ++ (ps ++ ks)) is (same ∙ sym (ap (λ (k : ℕ). 4 * k) (three_length cs ps ks))) in
    let parted = three file (q + 6) cs ps ks in
    (λ h. parted.0 (both.1 h), λ t. both.0 (parted.1 t))

-- A flag that tells of a fact tells of one that is as good.
pub tells_iff : {P Q : Type 0} (b : Bool) → P ↔ Q → Tells b P → Tells b Q
tells_iff b same h = told_both b same.0 same.1 h
