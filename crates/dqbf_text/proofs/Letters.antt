-- The laws of list lines: what their words are, both ways (list_line, list_words), and that a line that begins with `d` is of no kind of QDIMACS.
use Prim.Native.Nat.{ℕ}
use mathlib.Core.Path.{◌≡◌, refl, sym, ap, ◌∙◌, subst}
use mathlib.Core.List.{List, [], ◌∷◌}
use mathlib.Core.Option.{some}
use native.Mathlib.Omega.{arith}
use lib.IntN.{ℤ}
use Rattle.text_lines.specs.declared.Stage.{Stage}
use Rattle.text_lines.specs.declared.Stage.TheVariants.{Body}
use Rattle.text_words.specs.Words.{LETTER-A, LETTER-C, LETTER-E, LETTER-P, words, VariableWord, VariableWords, closing, entry}
use Rattle.text_words.specs.InnerNumbers.{entries_of, variables}
use Rattle.text_words.proofs.Spelled.{variables_read, read_variables}
use Rattle.text_lines.specs.Format.{CommentLine, ProblemLine, p_cnf, QuantifierLine, e_line, a_line, ClauseLine}
use Rattle.text_lines.specs.InnerGrammar.{Line, a_block, a_clause, TooMany, too_many}
use Rattle.text_lines.proofs.Apart.{lettered_clause, comment_words}
use Rattle.dqbf_text.specs.Format.{LETTER-D, ListLine, d_line}

-- The numbers of a list line are two at least.
two_at_least : {ws : List (List ℕ)} {es : List ℕ} (line : List ℕ) (y next : ℕ) (others : List ℕ) → words line ≡ (LETTER-D ∷ []) ∷ ws → VariableWords ws es
    → es ≡ y ∷ next ∷ others → ListLine line (y ∷ next ∷ others)
two_at_least line y next others begins (closing s) e = let no : ◌≡◌ {A = ℕ} 0 1 = cc in let no : ⊥ = omega arith in absurd no
two_at_least line y next others begins (entry {word = word} {more = more} {a = a} {later = later} s r) e =
    let q : a ≡ y = cc in
    let w : later ≡ next ∷ others = cc in
    d_line begins (subst (VariableWord word) q s) (subst (VariableWords more) w r)

pub list_line : {line : List ℕ} {y next : ℕ} {others : List ℕ} {more : List (List ℕ)} → words line ≡ (LETTER-D ∷ []) ∷ more
    → entries_of variables more ≡ some (y ∷ next ∷ others) → ListLine line (y ∷ next ∷ others)
list_line {line} {y} {next} {others} begins r = two_at_least line y next others begins (read_variables r) refl

pub record ListWords (line l : List ℕ) : Type 0 where
  pub more : List (List ℕ)
  pub begins : words line ≡ (LETTER-D ∷ []) ∷ more
  pub y : ℕ
  pub next : ℕ
  pub others : List ℕ
  pub are : l ≡ y ∷ next ∷ others
  pub read : entries_of variables more ≡ some l

record OneAtLeast (es : List ℕ) : Type 0 where
  first : ℕ
  rest : List ℕ
  are : es ≡ first ∷ rest

one_at_least : {ws : List (List ℕ)} {es : List ℕ} → VariableWords ws es → OneAtLeast es
one_at_least (closing s) = record { first = 0; rest = []; are = refl }
one_at_least (entry {a = a} {later = later} s r) = record { first = a; rest = later; are = refl }

pub list_words : {line l : List ℕ} → ListLine line l → ListWords line l
list_words (d_line {word = word} {more = more} {y = y} begins s r) =
    let o = one_at_least r in
    record {
      more = word ∷ more;
      begins = begins;
      y = y;
      next = o.first;
      others = o.rest;
      are = ap (λ (us : List ℕ). y ∷ us) o.are;
      read = variables_read (entry s r);
    }

-- A line that begins with `d` is of no kind that may stand behind the problem line.
module _ {line : List ℕ} {more : List (List ℕ)} (begins : words line ≡ (LETTER-D ∷ []) ∷ more) where
  d_clause : {cs : List ℤ} → ClauseLine line cs → ⊥
  d_clause = lettered_clause LETTER-D [] more begins (omega arith)

  d_block : {bs : List ℕ} → QuantifierLine line bs → ⊥
  d_block (e_line q r) = let no : LETTER-D ≡ LETTER-E = cc in omega arith
  d_block (a_line q r) = let no : LETTER-D ≡ LETTER-A = cc in omega arith

  pub d_none : {n m k : ℕ} {t : Stage} {p : List ℕ} {c : List ℤ} → Line (Body n m k) line t p c → ⊥
  d_none (a_block z x) = d_block x
  d_none (a_clause h x) = d_clause x

  pub d_many : {s : Stage} → TooMany s line → ⊥
  d_many (too_many e x) = d_clause x

-- So a list line is of no other kind, and no clause line too many.
pub list_clause : {line l : List ℕ} {cs : List ℤ} → ListLine line l → ClauseLine line cs → ⊥
list_clause x c = d_clause (list_words x).begins c

pub list_block : {line l bs : List ℕ} → ListLine line l → QuantifierLine line bs → ⊥
list_block x q = d_block (list_words x).begins q

pub list_problem : {line l : List ℕ} {n m : ℕ} → ListLine line l → ProblemLine line n m → ⊥
list_problem x (p_cnf is a b) = let w = (list_words x).begins in let no : LETTER-D ≡ LETTER-P = cc in omega arith

pub list_comment : {line l : List ℕ} → ListLine line l → CommentLine line → ⊥
list_comment x c = let w = (list_words x).begins in let v = (comment_words c).begins in let no : LETTER-D ≡ LETTER-C = cc in omega arith

pub list_none : {line l : List ℕ} {n m k : ℕ} {t : Stage} {p : List ℕ} {c : List ℤ} → ListLine line l → Line (Body n m k) line t p c → ⊥
list_none x line = d_none (list_words x).begins line

-- A list line has one list.
pub list_same : {line l l' : List ℕ} → ListLine line l → ListLine line l' → l ≡ l'
list_same {l = l} {l' = l'} x x' =
    let a = list_words x in
    let b = list_words x' in
    let v = a.begins in
    let w = b.begins in
    let q : a.more ≡ b.more = cc in
    let s : some l ≡ some l' = sym a.read ∙ ap (entries_of variables) q ∙ b.read in
    cc
