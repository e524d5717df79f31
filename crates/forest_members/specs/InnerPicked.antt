-- Inner: the numbers that are picked by flags, and the list of them. What a reader must believe of the calls is in the definitions of `forest`.
use Rattle.std.specs.Prelude.{Ok, Err}
use Rattle.terms.specs.Says.{Answer, fault_number}
use Rattle.std.specs.Prelude.{ℕ, zero, suc, ◌≤◌, ◌<◌, ◌≡◌, Bool, false, cond, List, [], ◌∷◌, ◌++◌, length, get_or}
use Rattle.std.proofs.lemmas.List.Edits.{sets}
use Rattle.forest_theory.specs.Tables.{row}
use Rattle.forest_members.specs.declared.Asked.{Asked}
use Rattle.forest_members.specs.declared.Asked.TheVariants.{Points, Set}

-- whether v is listed: by its own flag if entry points are asked for, by the flag of its top if the set is
unfoldable pub pick : Asked → ℕ → List Bool → List ℕ → ℕ → Bool
pick Points n flags tops v = get_or flags v false
pick Set n flags tops v = get_or flags (row n tops v) false

-- the numbers 1 to m that are picked, ascending
unfoldable pub picked : (ℕ → Bool) → ℕ → List ℕ
picked f zero = []
picked f (suc m) = picked f m ++ cond (f (suc m)) (suc m ∷ []) []

-- none is picked up to a number
abbrev pub NoneUpto : (ℕ → Bool) → ℕ → Type 0
NoneUpto f from = (v : ℕ) → 1 ≤ v → v ≤ from → f v ≡ false

-- the picked numbers are written, ascending, or there is too little room for them
abbrev pub Picks : (ℕ → Bool) → ℕ → List ℕ → List ℕ → Answer ℕ → Type 0
Picks f n before after (Ok count) = (count ≡ length (picked f n)) × (length (picked f n) ≤ length before) × (after ≡ sets before 0 (picked f n))
Picks f n before after (Err refusal) = ((fault_number refusal.0) ≡ 14) × (refusal.1 ≡ 0) × (length before < length (picked f n)) × (after ≡ before)
