-- Clauses copied into a longer table, and a clause behind them.
use Prim.Native.Nat.{ℕ, ◌+◌, ◌≤◌}
use mathlib.Core.Path.{◌≡◌}
use mathlib.Core.List.{List, [], ◌∷◌, ◌++◌, append_assoc}
use native.Mathlib.Nat.{zero-add}
use native.Mathlib.Omega.{arith}
use lib.IntN.{ℤ, pos}
use lib.ListN.{length, drop, set, length-append, length-drop}
use borrow.Rule.Slice.PartMut.{put_mid}
use lib.Seq.{sets, sets-eq, drop-drop}
use Rattle.terms.proofs.Common.{sets_append}
use Rattle.grow.specs.Grown.{with_last}

-- The length of a clause table with a clause put last.
pub last_length : (ls clause : List ℤ) → length (with_last ls clause) ≡ length ls + length clause + 1
last_length ls clause =
    let all = length-append ls (clause ++ (pos 0 ∷ [])) in
    let rest = length-append clause (pos 0 ∷ []) in
    omega arith

-- What is copied into a part of a table is stored there.
put_stored : {A : Type 0} (xs table : List A) (at : ℕ) → at + length xs ≤ length table → put_mid at (length xs) table xs ≡ sets table at xs
put_stored xs table at room = rw (drop-drop, sets-eq xs table at room, append_assoc)

-- Clauses copied into the front of a table, a clause behind them and its 0.
pub put_behind : (table ls clause : List ℤ) → length (with_last ls clause) ≤ length table
    → set (put_mid (length ls) (length clause) (ls ++ drop (length ls) table) clause) (length ls + length clause) (pos 0) ≡ sets table 0 (with_last ls clause)
put_behind table ls clause room =
    let all = last_length ls clause in
    let front : ls ++ drop (length ls) table ≡ sets table 0 ls = rw (sets-eq ls table 0 (omega arith), zero-add (length ls)) in
    let back = put_stored clause (ls ++ drop (length ls) table) (length ls) (omega (arith, length-append {A = ℤ}, length-drop {A = ℤ})) in
    rw (
      back,
      front,
      sets_append table 0 ls (clause ++ (pos 0 ∷ [])),
      zero-add (length ls),
      sets_append (sets table 0 ls) (length ls) clause (pos 0 ∷ []),
    )
