-- A line is of one kind: a clause line begins with a digit or `-`, and each other kind with a letter of its own. An empty line is of none.
use Prim.Native.Nat.{ℕ, ◌<◌, ◌≤◌}
use mathlib.Core.Path.{◌≡◌, refl, ap, subst}
use mathlib.Core.Bool.{◌&&◌}
use mathlib.Core.List.{List, [], ◌∷◌}
use native.Mathlib.Omega.{arith}
use borrow.Author.Tests.{leb-true}
use lib.Dec.{leb}
use lib.IntN.{ℤ}
use Rattle.text_words.specs.Words.{SPACE, MINUS, ZERO, LETTER-A, LETTER-C, LETTER-E, LETTER-P, onto, pieces, filled, words, Spells, LiteralWord}
use Rattle.text_words.specs.InnerNumbers.{NINE, all_digits}
use Rattle.text_words.specs.Words.{unsigned_word, negated_word, LiteralWords, closing, entry}
use Rattle.text_words.specs.InnerPlaces.{front, later}
use Rattle.text_words.proofs.Numbers.{both}
use Rattle.text_words.proofs.Lines.{front_later}
use Rattle.text_words.proofs.Spelled.{digits_read, spells_same}
use Rattle.text_lines.specs.Format.{CommentLine, comment, ProblemLine, p_cnf, QuantifierLine, e_line, a_line, ClauseLine, literals_line}

-- The first byte of a number, and of a literal, is no letter.
number_low : (b : ℕ) (bs : List ℕ) {v : ℕ} → Spells (b ∷ bs) v → b ≤ NINE
unfolding all_digits
number_low b bs s = leb-true b NINE (both (leb ZERO b) (leb b NINE) (both (leb ZERO b && leb b NINE) (all_digits bs) (digits_read s.digits).0).0).1

literal_low : {word : List ℕ} {z : ℤ} (b : ℕ) (bs : List ℕ) → LiteralWord word z → word ≡ b ∷ bs → b ≤ NINE
literal_low b bs (unsigned_word {v = v} s some) e = let t : Spells (b ∷ bs) v = subst (λ (x : List ℕ). Spells x v) e s in number_low b bs t
literal_low b bs (negated_word s some) e = let q : MINUS ≡ b = cc in omega arith

literals_low : {ws : List (List ℕ)} {es : List ℤ} (b : ℕ) (bs : List ℕ) (more : List (List ℕ)) → LiteralWords ws es → ws ≡ (b ∷ bs) ∷ more → b ≤ NINE
literals_low b bs more (closing {word} s) e = let q : word ≡ b ∷ bs = cc in number_low b bs (subst (λ (x : List ℕ). Spells x 0) q s)
literals_low b bs more (entry {word} l r) e = let q : word ≡ b ∷ bs = cc in literal_low b bs l q

-- So a line whose first word begins with a letter is no clause line.
pub lettered_clause : {line : List ℕ} (letter : ℕ) (bs : List ℕ) (more : List (List ℕ)) → words line ≡ (letter ∷ bs) ∷ more → NINE < letter → {cs : List ℤ}
    → ClauseLine line cs → ⊥
lettered_clause letter bs more begins high (literals_line r) = let low = literals_low letter bs more r begins in omega arith

-- The first word of a line that begins with c.
c_word : (bs : List ℕ) → words (LETTER-C ∷ bs) ≡ (LETTER-C ∷ front (pieces SPACE bs)) ∷ filled (later (pieces SPACE bs))
unfolding words pieces filled onto front later
c_word bs = ap (λ (ps : List (List ℕ)). filled (onto LETTER-C ps)) (front_later SPACE bs)

pub record CommentWords (line : List ℕ) : Type 0 where
  pub bytes : List ℕ
  pub more : List (List ℕ)
  pub begins : words line ≡ (LETTER-C ∷ bytes) ∷ more

pub comment_words : {line : List ℕ} → CommentLine line → CommentWords line
comment_words (comment {line} {bytes} is) =
    let w = c_word bytes in
    let q = ap words is in
    record { bytes = front (pieces SPACE bytes); more = filled (later (pieces SPACE bytes)); begins = cc }

-- Each kind and the others.
pub comment_clause : {line : List ℕ} {cs : List ℤ} → CommentLine line → ClauseLine line cs → ⊥
comment_clause c = let w = comment_words c in lettered_clause LETTER-C w.bytes w.more w.begins (omega arith)

pub comment_problem : {line : List ℕ} {n m : ℕ} → CommentLine line → ProblemLine line n m → ⊥
comment_problem c (p_cnf is a b) = let w = (comment_words c).begins in let no : LETTER-C ≡ LETTER-P = cc in omega arith

pub comment_quantifier : {line bs : List ℕ} → CommentLine line → QuantifierLine line bs → ⊥
comment_quantifier c (e_line is r) = let w = (comment_words c).begins in let no : LETTER-C ≡ LETTER-E = cc in omega arith
comment_quantifier c (a_line is r) = let w = (comment_words c).begins in let no : LETTER-C ≡ LETTER-A = cc in omega arith

pub problem_clause : {line : List ℕ} {n m : ℕ} {cs : List ℤ} → ProblemLine line n m → ClauseLine line cs → ⊥
problem_clause (p_cnf is a b) = lettered_clause LETTER-P [] _ is (omega arith)

pub quantifier_clause : {line bs : List ℕ} {cs : List ℤ} → QuantifierLine line bs → ClauseLine line cs → ⊥
quantifier_clause (e_line is r) = lettered_clause LETTER-E [] _ is (omega arith)
quantifier_clause (a_line is r) = lettered_clause LETTER-A [] _ is (omega arith)

pub quantifier_problem : {line bs : List ℕ} {n m : ℕ} → QuantifierLine line bs → ProblemLine line n m → ⊥
quantifier_problem (e_line is r) (p_cnf is' a b) = let no : LETTER-E ≡ LETTER-P = cc in omega arith
quantifier_problem (a_line is r) (p_cnf is' a b) = let no : LETTER-A ≡ LETTER-P = cc in omega arith

-- A problem line has one n and announces one number.
pub problem_same : {line : List ℕ} {n m n' m' : ℕ} → ProblemLine line n m → ProblemLine line n' m' → (n ≡ n') × (m ≡ m')
problem_same {n = n} {m = m} {n' = n'} {m' = m'} (p_cnf {number = a} {count = b} e n_is m-is) (p_cnf {number = x} {count = y} e' n-is' m-is') =
    let q : x ≡ a = cc in
    let r : y ≡ b = cc in
    (spells_same n_is (subst (λ (w : List ℕ). Spells w n') q n-is'), spells_same m-is (subst (λ (w : List ℕ). Spells w m') r m-is'))

-- The empty line is of no kind.
literals_some : {ws : List (List ℕ)} {es : List ℤ} → LiteralWords ws es → ws ≡ [] → ⊥
literals_some (closing s) e = let no : ◌≡◌ {A = ℕ} 0 1 = cc in omega arith
literals_some (entry l r) e = let no : ◌≡◌ {A = ℕ} 0 1 = cc in omega arith

pub empty_clause : {cs : List ℤ} → ClauseLine [] cs → ⊥
unfolding words pieces filled
empty_clause (literals_line r) = literals_some r refl

pub empty_problem : {n m : ℕ} → ProblemLine [] n m → ⊥
unfolding words pieces filled
empty_problem (p_cnf is a b) = let no : ◌≡◌ {A = ℕ} 0 1 = cc in omega arith
