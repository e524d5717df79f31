-- Lent tables (rule 1.2, rule 1.3): their entries, the lists that they hold, each closed by a 0, and the places of a prefix.
use Rattle.std.specs.Prelude.{ℕ, zero, suc, ◌<◌, ◌-◌, ◌≡◌, Bool, true, false, cond, List, [], ◌∷◌, ◌≢◌, length, get_or, eqb, ℤ, pos}

-- entry e of a prefix, and of a clause table; 0 past the end
abbrev pub at : List ℕ → ℕ → ℕ
at es e = get_or es e 0

abbrev pub literal_at : List ℤ → ℕ → ℤ
literal_at ls e = get_or ls e (pos 0)

-- a table ends inside a list if it is not empty and its last entry is not 0
abbrev pub EndsInside : {A : Type 0} → A → List A → Type 0
EndsInside nought table = (0 < length table) × (get_or table (length table - 1) nought ≢ nought)

-- a in front of the first of the lists
abbrev pub push : {A : Type 0} → A → List (List A) → List (List A)
push a [] = []
push a (list ∷ lists) = (a ∷ list) ∷ lists

-- the lists that a table holds, in order, each without the 0 that closes it
unfoldable pub cut : {A : Type 0} → (A → Bool) → List A → List (List A)
cut is_nought [] = []
cut is_nought (a ∷ table) = cond (is_nought a) ([] ∷ cut is_nought table) (push a (cut is_nought table))

-- The places of a prefix. Entry e opens a block, as its mark, if it is the first entry or follows a 0;
-- any other entry is a variable or, if it is 0, closes the block.
abbrev pub opens : List ℕ → ℕ → Bool
opens es zero = true
opens es (suc e) = eqb (at es e) 0

abbrev pub MarkAt : List ℕ → ℕ → Type 0
MarkAt es e = (e < length es) × (opens es e ≡ true)

abbrev pub VariableAt : List ℕ → ℕ → Type 0
VariableAt es e = (e < length es) × (opens es e ≡ false) × (at es e ≢ 0)

abbrev pub CloseAt : List ℕ → ℕ → Type 0
CloseAt es e = (e < length es) × (opens es e ≡ false) × (at es e ≡ 0)

-- the number of marks before entry e
abbrev pub marks_before : List ℕ → ℕ → ℕ
marks_before es zero = 0
marks_before es (suc e) = cond (opens es e) (suc (marks_before es e)) (marks_before es e)

-- b is the mark before entry e that is nearest to it
abbrev pub NearestMark : List ℕ → ℕ → ℕ → Type 0
NearestMark es b e = (b < e) × (opens es b ≡ true) × ((c : ℕ) → b < c → c < e → opens es c ≡ false)
