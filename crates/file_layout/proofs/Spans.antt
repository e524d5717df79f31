-- Where the records of a laid file stand, how long what they hold is, and that everything stays small.
use Prim.Native.Nat.{ℕ, zero, suc, ◌+◌, ◌-◌, ◌/◌, ◌≤◌}
use mathlib.Core.Path.{◌≡◌, refl, ap, ◌∙◌}
use mathlib.Core.List.{List}
use native.Mathlib.Omega.{arith}
use lib.Dec.{eqb}
use lib.ListN.{length, length-map}
use Rattle.file_format.specs.Numbers.{number_at, numbers_at, literal_of}
use Rattle.file_format.specs.Places.{size_at, kind_at, next_at, payload_at, second_at, third_at, fourth_at, has_sets, count_in, prefix_held, clauses_in}
use Rattle.file_format.specs.Layout.{sets_kind}
use Rattle.file_format.specs.Causes.{file_bytes}
use Rattle.file_layout.specs.InnerLaid.{Laid}
use Rattle.file_layout.proofs.Heads.{next_read}

-- The list of so many numbers from a place on is that long.
pub numbers_length : (width : ℕ) (file : List ℕ) (p many : ℕ) → length (numbers_at width file p many) ≡ many
unfolding numbers_at
numbers_length width file p zero = refl
numbers_length width file p (suc many) = ap suc (numbers_length width file (p + width) many)

module _ (file : List ℕ) where
  -- the places as they are reached
  pub second_is : second_at file ≡ next_at file 0
  unfolding second_at
  second_is = refl

  pub third_is : third_at file ≡ next_at file (second_at file)
  unfolding third_at
  third_is = refl

  pub fourth_is : fourth_at file ≡ next_at file (third_at file)
  unfolding fourth_at
  fourth_is = refl

  pub count_read : {n : ℕ} → n ≡ number_at 2 file 6 → n ≡ count_in file
  unfolding count_in
  count_read e = e

  pub sets_read : has_sets file ≡ eqb (kind_at file (fourth_at file)) sets_kind
  unfolding has_sets
  sets_read = refl

  -- how long prefix and clauses are
  pub prefix_length : length (prefix_held file) ≡ (size_at file 0 - 2) / 2
  unfolding prefix_held
  prefix_length = numbers_length 2 file 8 ((size_at file 0 - 2) / 2)

  pub clauses_length : length (clauses_in file) ≡ size_at file (second_at file) / 4
  unfolding clauses_in
  clauses_length =
      length-map (numbers_at 4 file (payload_at (second_at file)) (size_at file (second_at file) / 4)) literal_of
      ∙ numbers_length 4 file (payload_at (second_at file)) (size_at file (second_at file) / 4)

  -- One record behind the other, up to the end of the longest file.
  pub record Ends : Type 0 where
    pub first : second_at file ≡ 6 + size_at file 0
    pub second : third_at file ≡ second_at file + 6 + size_at file (second_at file)
    pub third : fourth_at file ≡ third_at file + 6 + size_at file (third_at file)
    pub fourth : fourth_at file + 6 + size_at file (fourth_at file) ≤ file_bytes

  pub laid_ends : Laid file → Ends
  laid_ends laid =
      let a = next_read file 0 in
      let e = next_read file (fourth_at file) in
      let l = laid.ends in
      record {
        first = second_is ∙ a;
        second = third_is ∙ next_read file (second_at file);
        third = fourth_is ∙ next_read file (third_at file);
        fourth = omega arith;
      }

  -- so that each of them begins within it
  pub laid_near : Laid file → (second_at file ≤ file_bytes) × (third_at file ≤ file_bytes) × (fourth_at file ≤ file_bytes)
  laid_near laid =
      let e = laid_ends laid in
      (omega (arith, e.second, e.third, e.fourth), omega (arith, e.third, e.fourth), omega (arith, e.fourth))
