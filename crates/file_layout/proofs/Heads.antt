-- The head of a record as the code reads it: kind and length.
use Prim.Native.Nat.{ℕ, ◌+◌}
use mathlib.Core.Path.{◌≡◌, refl}
use mathlib.Core.List.{List}
use Rattle.file_format.specs.Numbers.{number_at}
use Rattle.file_format.specs.Places.{size_at, kind_at, next_at}

module _ (file : List ℕ) (at : ℕ) where
  -- kind, length and the place behind, as they are read
  pub kind_read : {kind : ℕ} → kind ≡ number_at 2 file (at + 4) → kind ≡ kind_at file at
  unfolding kind_at
  kind_read e = e

  pub size_read : {size : ℕ} → size ≡ number_at 4 file at → size ≡ size_at file at
  unfolding size_at
  size_read e = e

  pub next_read : next_at file at ≡ at + 6 + size_at file at
  unfolding next_at
  next_read = refl
