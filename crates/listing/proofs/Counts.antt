-- Counting the lists of a table: one for each 0 that closes one.
use Prim.Native.Nat.{◌+◌}
use mathlib.Core.Path.{◌≡◌, refl, sym}
use mathlib.Core.Bool.{Bool, true, false, cond}
use mathlib.Core.List.{List, [], ◌∷◌}
use native.Mathlib.Numerals.{one-add}
use lib.ListN.{length}
use Rattle.std.specs.List.{count_by}
use Rattle.std.proofs.lemmas.List.Recursion.{is_count_by}
use Rattle.formula.specs.Tables.{cut, push}

push_length : {A : Type 0} (a : A) (lists : List (List A)) → length (push a lists) ≡ length lists
push_length a [] = refl
push_length a (list ∷ lists) = refl

pub cut_counted : {A : Type 0} (is_nought : A → Bool) (table : List A) → length (cut is_nought table) ≡ count_by is_nought table
unfolding cut
cut_counted {A} is_nought = is_count_by (λ (table : List A). length (cut is_nought table)) is_nought refl (λ a more. by_test (is_nought a) a (cut is_nought more))
  where
    by_test : (b : Bool) (a : A) (lists : List (List A)) → length (cond b ([] ∷ lists) (push a lists)) ≡ cond b (1 + length lists) (length lists)
    by_test true a lists = sym (one-add (length lists))
    by_test false a lists = push_length a lists
