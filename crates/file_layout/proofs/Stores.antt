-- Numbers of a file one after the other: stored in a table, or held against it, entry by entry.
use Rattle.std.proofs.Common.{◌≡◌, ℕ, zero, suc, ◌+◌, ◌*◌, ◌<◌, ◌≤◌, List, [], ◌∷◌, ◌++◌, map, length, get_or, take, drop, length-take-le, refl, sym, ap, ap₂, ◌∙◌, subst, arith}
use borrow.Author.Count.{below_more}
use lib.ListN.{set}
use lib.Seq.{sets, sets-eq, get_or-set_same, get_or-set_other}
use Rattle.file_format.specs.Numbers.{number_at, numbers_at}

-- where the first number stands, and those behind it
place_first : (width from : ℕ) → from ≡ from + width * 0
place_first width from = omega arith

place_more : (width from k : ℕ) → from + width * suc k ≡ from + width + width * k
place_more width from k = omega arith

-- each number by its index
pub number_there : (width : ℕ) (file : List ℕ) (from many i : ℕ) → i < many → get_or (numbers_at width file from many) i 0 ≡ number_at width file (from + width * i)
unfolding numbers_at
number_there width file from zero i l = absurd (omega arith)
number_there width file from (suc many) zero l = ap (number_at width file) (place_first width from)
number_there width file from (suc many) (suc i) l =
    number_there width file (from + width) many i (omega arith) ∙ ap (number_at width file) (sym (place_more width from i))

module _ {A : Type 0} (f : ℕ → A) (width : ℕ) (file : List ℕ) where
  -- a table that has at each index what f gives of the number there
  pub numbers_are : (from : ℕ) (xs : List A) → ((d : A) (k : ℕ) → k < length xs → get_or xs k d ≡ f (number_at width file (from + width * k)))
      → map f (numbers_at width file from (length xs)) ≡ xs
  unfolding numbers_at
  numbers_are from [] each = refl
  numbers_are from (x ∷ xs) each =
      let first = ap (λ (p : ℕ). f (number_at width file p)) (place_first width from) ∙ sym (each x 0 (omega arith)) in
      ap₂ (λ (y : A) (ys : List A). y ∷ ys) first
      (numbers_are (from + width) xs
      (λ d k l. each d (suc k) (omega arith) ∙ ap (λ (p : ℕ). f (number_at width file p)) (place_more width from k)))

  -- a table whose front is filled, entry by entry up to its end
  pub numbers_stored : (from many i : ℕ) (before front : List A) → many ≤ length before → length front ≡ length (take many before)
      → length (take many before) ≤ i → ((d : A) (k : ℕ) → k < i → get_or front k d ≡ f (number_at width file (from + width * k)))
      → front ++ drop many before ≡ sets before 0 (map f (numbers_at width file from many))
  numbers_stored from many i before front room same done each =
      let size : length front ≡ many = same ∙ length-take-le many before room in
      let is = numbers_are from front (λ d k l. each d k (omega arith)) in
      let end : length front ≡ 0 + length front = omega arith in
      rw (← size, is, sets-eq front before 0 (omega arith)) (ap (λ (k : ℕ). front ++ drop k before) end)

-- what holds of the entries below i holds of one more, which is stored at i
pub one_more : {A : Type 0} (P : ℕ → A → Type 0) (xs : List A) (i : ℕ) (y : A) → i < length xs → ((d : A) (k : ℕ) → k < i → P k (get_or xs k d)) → P i y
    → (d : A) (k : ℕ) → k < i + 1 → P k (get_or (set xs i y) k d)
one_more P xs i y more each here d =
    below_more (λ k. P k (get_or (set xs i y) k d)) i (λ k l. subst (P k) (sym (get_or-set_other xs i k y d (λ q. omega arith))) (each d k l))
    (subst (P i) (sym (get_or-set_same xs i y d more)) here)
