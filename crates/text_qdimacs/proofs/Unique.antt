-- A text is the text of one n and two tables (text_same), since each line leads to one stage.
use Prim.Native.Nat.{ℕ}
use mathlib.Core.Path.{◌≡◌, refl, sym, ap, ap₂, ◌∙◌, subst}
use mathlib.Core.List.{List, [], ◌∷◌, ◌++◌, append_cancel_right}
use mathlib.Core.Option.{some}
use native.Mathlib.Omega.{arith}
use lib.IntN.{ℤ}
use Rattle.text_lines.specs.declared.Stage.{Stage}
use Rattle.text_lines.specs.declared.Stage.TheVariants.{Opening, Body}
use Rattle.text_words.specs.Words.{LETTER-A, LETTER-E}
use Rattle.text_words.specs.InnerNumbers.{entries_of, variables}
use Rattle.text_words.proofs.Spelled.{variables_read, literals_read}
use Rattle.text_lines.specs.Format.{QuantifierLine, e_line, a_line, ClauseLine, literals_line, TextOf}
use Rattle.text_lines.specs.InnerGrammar.{Line, a_comment, the_problem, a_block, a_clause, Lines, no_line, one_more, TooMany, too_many}
use Rattle.text_lines.proofs.Apart.{comment_problem, problem_same, quantifier_clause}
use Rattle.text_qdimacs.proofs.Paths.{Path, here, step, one_path}
use Rattle.text_qdimacs.proofs.Staged.{text_staged}

-- What each kind of line says is one thing.
block_same : {line bs bs' : List ℕ} → QuantifierLine line bs → QuantifierLine line bs' → bs ≡ bs'
block_same (e_line {entries = es} {more = a} e r) (e_line {entries = es'} {more = b} e' r') =
    let q : a ≡ b = cc in
    let s : some es ≡ some es' = sym (variables_read r) ∙ ap (entries_of variables) q ∙ variables_read r' in
    cc
block_same (e_line e r) (a_line e' r') = let no : LETTER-E ≡ LETTER-A = cc in let no : ⊥ = omega arith in absurd no
block_same (a_line e r) (e_line e' r') = let no : LETTER-A ≡ LETTER-E = cc in let no : ⊥ = omega arith in absurd no
block_same (a_line {entries = es} {more = a} e r) (a_line {entries = es'} {more = b} e' r') =
    let q : a ≡ b = cc in
    let s : some es ≡ some es' = sym (variables_read r) ∙ ap (entries_of variables) q ∙ variables_read r' in
    cc

clause_same : {line : List ℕ} {cs cs' : List ℤ} → ClauseLine line cs → ClauseLine line cs' → cs ≡ cs'
clause_same (literals_line r) (literals_line r') = let q = literals_read r in let q' = literals_read r' in cc

pub record OneWay (s s' : Stage) (p p' : List ℕ) (c c' : List ℤ) : Type 0 where
  pub stage : s ≡ s'
  pub prefix : p ≡ p'
  pub clauses : c ≡ c'

pub line_same : {s t t' : Stage} {l p p' : List ℕ} {c c' : List ℤ} → Line s l t p c → Line s l t' p' c' → OneWay t t' p p' c c'
line_same (a_comment x) (a_comment y) = record { stage = refl; prefix = refl; clauses = refl }
line_same (a_comment x) (the_problem y) = absurd (comment_problem x y)
line_same (the_problem x) (a_comment y) = absurd (comment_problem y x)
line_same (the_problem x) (the_problem y) =
    let q = problem_same x y in
    record { stage = ap₂ (λ (a b : ℕ). Body a b 0) q.0 q.1; prefix = refl; clauses = refl }
line_same (a_block z x) (a_block z' y) = record { stage = refl; prefix = block_same x y; clauses = refl }
line_same (a_block z x) (a_clause h y) = absurd (quantifier_clause x y)
line_same (a_clause h x) (a_block z y) = absurd (quantifier_clause y x)
line_same (a_clause h x) (a_clause h' y) = record { stage = refl; prefix = refl; clauses = clause_same x y }

-- What a line adds, and lines together.
abbrev Added : Type 0
Added = List ℕ × List ℤ

abbrev nothing : Added
nothing = ([], [])

abbrev together : Added → Added → Added
together a b = (a.0 ++ b.0, a.1 ++ b.1)

abbrev Leads : Stage → List ℕ → Stage → Added → Type 0
Leads s l t a = Line s l t a.0 a.1

path : {s t : Stage} {ls : List (List ℕ)} {P : List ℕ} {C : List ℤ} → Lines s ls t P C → Path nothing together Leads s ls t (P, C)
path no_line = here
path (one_more line more) = step line (path more)

leads_same : (s t t' : Stage) (l : List ℕ) (a a' : Added) → Leads s l t a → Leads s l t' a' → (t ≡ t') × (a ≡ a')
leads_same s t t' l a a' x y = let w = line_same x y in (w.stage, ap₂ (λ (p : List ℕ) (c : List ℤ). (p, c)) w.prefix w.clauses)

pub many_stuck : {s t : Stage} {l p : List ℕ} {c : List ℤ} → TooMany s l → Line s l t p c → ⊥
many_stuck (too_many e x) (a_block z y) = quantifier_clause y x
many_stuck (too_many e x) (a_clause h y) = omega arith

-- A text is the text of one n and two tables.
pub record SameTables (n n' : ℕ) (P P' : List ℕ) (C C' : List ℤ) : Type 0 where
  pub number : n ≡ n'
  pub prefix : P ≡ P'
  pub clauses : C ≡ C'

pub text_same : {text P P' : List ℕ} {C C' : List ℤ} {n n' : ℕ} → TextOf n P C text → TextOf n' P' C' text → SameTables n n' P P' C C'
text_same {P = P} {C = C} {n = n} {n' = n'} t t' =
    let a = text_staged t in
    let b = text_staged t' in
    let ls = append_cancel_right a.lines b.lines ([] ∷ []) (sym a.cut ∙ b.cut) in
    let o =
    one_path nothing together Leads leads_same
    (subst (λ (ls : List (List ℕ)). Path nothing together Leads Opening ls (Body n a.announced a.announced) (P, C)) ls (path a.follow))
    (path b.follow) in
    let s = o.0 in
    record { number = cc; prefix = ap (λ (a : Added). a.0) o.1; clauses = ap (λ (a : Added). a.1) o.1 }
