-- A text of QDIMACS is one of DQDIMACS without lists, and the other way round (plain_text); and a text without list lines has the same causes by both
-- (plain_fault).
use Prim.Native.Nat.{ℕ}
use mathlib.Core.Path.{◌≡◌, refl, sym, subst}
use mathlib.Core.List.{List, [], ◌∷◌, ◌++◌}
use mathlib.Core.Logic.{◌↔◌}
use native.Mathlib.Omega.{arith}
use lib.ListN.{length}
use lib.IntN.{ℤ}
use Rattle.text_words.specs.Words.{LF, pieces}
use Rattle.text_lines.specs.Format.{Some, Say, say_none, say_more, TextWith, TextOf, MayFollow, LineCause, unended_line, misplaced_line, no_problem_line}
use Rattle.text_lines.specs.Format.{clause_too_many, clauses_too_few}
use Rattle.text_lines.proofs.Several.{some_left, some_at}
use Rattle.dqbf_text.specs.Format.{ListLine, d_line, ListedText, IsList, ListedFollow, line_follows, list_follows}

-- Where list lines say nothing there is none.
no_lists : {ls : List (List ℕ)} {L : List ℕ} → Say ListLine ls L → L ≡ [] → ls ≡ []
no_lists say_none e = refl
no_lists (say_more {table = later} d more) e = absurd (list_some later d e)
  where
    list_some : {line l : List ℕ} (more : List ℕ) → ListLine line l → l ++ more ≡ [] → ⊥
    list_some more (d_line begins s r) e = let no : ◌≡◌ {A = ℕ} 0 1 = cc in omega arith

pub plain_text : (n : ℕ) (P : List ℕ) (C : List ℤ) (text : List ℕ) → TextOf n P C text ↔ ListedText n P [] C text
plain_text n P C text = (
  λ t.
      record {
        quantifiers = t.quantifiers;
        list_lines = [];
        clauses = t.clauses;
        lines = t.lines;
        quantifiers_say = t.quantifiers_say;
        lists_say = say_none;
        clauses_say = t.clauses_say;
      },
  λ t.
      record {
        quantifiers = t.quantifiers;
        clauses = t.clauses;
        lines =
            subst (λ (ls : List (List ℕ)). TextWith n (length t.clauses) (t.quantifiers ++ (ls ++ t.clauses)) text) (no_lists t.lists_say refl)
            t.lines;
        quantifiers_say = t.quantifiers_say;
        clauses_say = t.clauses_say;
      },
)

-- A line that is no list line, behind lines of which none is, may stand there by both formats, or by none.
module _ {before : List (List ℕ)} {line : List ℕ} where
  listed_follow : ¬ Some IsList before → MayFollow before line → ListedFollow before line
  listed_follow none may = line_follows may (λ q. none)

  plain_follow : ¬ IsList line → ListedFollow before line → MayFollow before line
  plain_follow none (line_follows may late) = may
  plain_follow none (list_follows i a z) = absurd (none i)

pub plain_fault : (text : List ℕ) → ¬ Some IsList (pieces LF text) → (number place : ℕ)
    → LineCause MayFollow text number place ↔ LineCause ListedFollow text number place
plain_fault text none number place = (to, from)
  where
    to : {k p : ℕ} → LineCause MayFollow text k p → LineCause ListedFollow text k p
    to (unended_line before line cut some) = unended_line before line cut some
    to (misplaced_line before line next after cut bad) =
        misplaced_line before line next after cut
        (λ may. bad (plain_follow (λ i. none (subst (Some IsList) (sym cut) (some_at before line (next ∷ after) i))) may))
    to (no_problem_line no_one) = no_problem_line no_one
    to (clause_too_many before line after cut i a c) = clause_too_many before line after cut i a c
    to (clauses_too_few a c h) = clauses_too_few a c h

    from : {k p : ℕ} → LineCause ListedFollow text k p → LineCause MayFollow text k p
    from (unended_line before line cut some) = unended_line before line cut some
    from (misplaced_line before line next after cut bad) =
        misplaced_line before line next after cut
        (λ may. bad (listed_follow (λ s. none (subst (Some IsList) (sym cut) (some_left (line ∷ next ∷ after) s))) may))
    from (no_problem_line no_one) = no_problem_line no_one
    from (clause_too_many before line after cut i a c) = clause_too_many before line after cut i a c
    from (clauses_too_few a c h) = clauses_too_few a c h
