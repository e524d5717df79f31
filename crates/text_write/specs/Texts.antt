-- The bytes that a text is made of, and how many it may have (rule 9.1; 15 of rule 8.1). A text is a list of bytes.
use Rattle.std.specs.Prelude.{ℕ, ◌<◌, List, length}

-- The bytes that the format names: LF, a space, `-`, `0`, from which the digits count, and the letters a, c, e, f, n, p.
abbrev pub LF : ℕ
LF = 10

abbrev pub SPACE : ℕ
SPACE = 32

abbrev pub MINUS : ℕ
MINUS = 45

abbrev pub ZERO : ℕ
ZERO = 48

abbrev pub LETTER-A : ℕ
LETTER-A = 97

abbrev pub LETTER-C : ℕ
LETTER-C = 99

abbrev pub LETTER-E : ℕ
LETTER-E = 101

abbrev pub LETTER-F : ℕ
LETTER-F = 102

abbrev pub LETTER-N : ℕ
LETTER-N = 110

abbrev pub LETTER-P : ℕ
LETTER-P = 112

-- The most bytes that a text may have.
abbrev pub TEXT-MOST : ℕ
TEXT-MOST = 65536

-- 15: the text, read or to be written, is longer than that.
pub data Overlong (text : List ℕ) : ℕ → ℕ → Type 0 where
  overlong : TEXT-MOST < length text → Overlong text 15 TEXT-MOST
