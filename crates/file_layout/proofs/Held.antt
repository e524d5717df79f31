-- The prefix and the clauses of a file, as so many numbers from a place on.
use Prim.Native.Nat.{ℕ, ◌+◌}
use mathlib.Core.Path.{◌≡◌, ap}
use mathlib.Core.List.{List, map}
use lib.ListN.{length}
use Rattle.file_format.specs.Numbers.{numbers_at, literal_of}
use Rattle.file_format.specs.Places.{second_at, prefix_held, clauses_in}
use Rattle.file_layout.proofs.Spans.{prefix_length, clauses_length}

module _ (file : List ℕ) where
  pub prefix_is : numbers_at 2 file 8 (length (prefix_held file)) ≡ prefix_held file
  unfolding prefix_held
  prefix_is = ap (numbers_at 2 file 8) (prefix_length file)

  pub clauses_are : map literal_of (numbers_at 4 file (second_at file + 6) (length (clauses_in file))) ≡ clauses_in file
  unfolding clauses_in
  clauses_are = ap (λ (k : ℕ). map literal_of (numbers_at 4 file (second_at file + 6) k)) (clauses_length file)
