-- The lines that the listing program prints, byte for byte (rule 16.2).
use Rattle.std.specs.Prelude.{ℕ, ◌≡◌, List, [], ◌∷◌, ◌++◌}
use Rattle.terms.specs.Answers.{InFront}
use Rattle.text_write.specs.Numbers.{decimal}

-- the words between the numbers, each with the spaces around it
abbrev pub VARS : List ℕ
VARS = 118 ∷ 97 ∷ 114 ∷ 115 ∷ 32 ∷ []

abbrev pub BLOCKS : List ℕ
BLOCKS = 32 ∷ 98 ∷ 108 ∷ 111 ∷ 99 ∷ 107 ∷ 115 ∷ 32 ∷ []

abbrev pub CLAUSES : List ℕ
CLAUSES = 32 ∷ 99 ∷ 108 ∷ 97 ∷ 117 ∷ 115 ∷ 101 ∷ 115 ∷ 32 ∷ []

abbrev pub LEVEL : List ℕ
LEVEL = 32 ∷ 108 ∷ 101 ∷ 118 ∷ 101 ∷ 108 ∷ 32 ∷ []

abbrev pub ENTRIES : List ℕ
ENTRIES = 32 ∷ 101 ∷ 110 ∷ 116 ∷ 114 ∷ 105 ∷ 101 ∷ 115 ∷ []

abbrev pub SET : List ℕ
SET = 32 ∷ 115 ∷ 101 ∷ 116 ∷ []

abbrev pub REFUSED : List ℕ
REFUSED = 114 ∷ 101 ∷ 102 ∷ 117 ∷ 115 ∷ 101 ∷ 100 ∷ 32 ∷ []

abbrev pub AT : List ℕ
AT = 32 ∷ 97 ∷ 116 ∷ 32 ∷ []

abbrev pub STRICT : List ℕ
STRICT = 32 ∷ 115 ∷ 116 ∷ 114 ∷ 105 ∷ 99 ∷ 116 ∷ []

abbrev pub END : List ℕ
END = 10 ∷ []

-- a list of numbers, each after a space; nothing where it is empty
unfoldable pub numbers : List ℕ → List ℕ
numbers [] = []
numbers (v ∷ vs) = 32 ∷ (decimal v ++ numbers vs)

-- `vars 9 blocks 5 clauses 5 strict`: the last word is the scheme of the lines that follow (rule 5.4)
unfoldable pub head_line : ℕ → ℕ → ℕ → List ℕ
head_line n blocks clauses = (VARS ++ decimal n) ++ (BLOCKS ++ decimal blocks) ++ (CLAUSES ++ decimal clauses) ++ (STRICT ++ END)

-- `3 level 2 entries 4 set 4 7 8`; with no entry point `3 level 2 entries set`
unfoldable pub universal_line : ℕ → ℕ → List ℕ → List ℕ → List ℕ
universal_line x level entries set = decimal x ++ (LEVEL ++ decimal level) ++ (ENTRIES ++ numbers entries) ++ (SET ++ numbers set) ++ END

-- `refused R at P`
unfoldable pub refused_line : ℕ → ℕ → List ℕ
refused_line number place = (REFUSED ++ decimal number) ++ (AT ++ decimal place) ++ END

-- A line stands in front in a buffer: the bytes up to its end are the line, and those behind it are as they were.
abbrev pub LineIn : List ℕ → List ℕ → List ℕ → ℕ → Type 0
LineIn line = InFront (λ (bytes : List ℕ). bytes ≡ line)
