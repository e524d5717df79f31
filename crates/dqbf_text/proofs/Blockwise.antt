-- The text that is written entry by entry is that of blocks, lists and clauses (text_is), for tables that a text can hold.
use Prim.Native.Nat.{ℕ}
use mathlib.Core.Path.{◌≡◌, refl, sym, ap, ap₂, ◌∙◌}
use mathlib.Core.Bool.{Bool, true, false}
use mathlib.Core.List.{List, [], ◌∷◌, ◌++◌, append_assoc, map, flatten}
use borrow.Author.Tests.{ne_eqb}
use lib.IntN.{ℤ}
use Rattle.formula.specs.Tables.{cut}
use Rattle.text_write.specs.Texts.{LF, SPACE, ZERO}
use Rattle.text_write.specs.Numbers.{decimal, digits_of}
use Rattle.text_write.specs.Written.{closed_line, problem_line}
use Rattle.text_write.specs.InnerText.{spaced, ended}
use Rattle.text_qdimacs.proofs.Holdable.{Holdable}
use Rattle.text_qdimacs.proofs.Blockwise.{count_is, prefix_lines, clause_lines_lem}
use Rattle.dqbf_lists.specs.Lists.{lists}
use Rattle.dqbf_lists.proofs.Listed.{lists_push}
use Rattle.dqbf_text.specs.Format.{LETTER-D}
use Rattle.dqbf_text.specs.Written.{list_line, listed_text_of}
use Rattle.dqbf_text.specs.InnerText.{lettered, list_text, listed_by_entries}
use Rattle.dqbf_text.proofs.Holdable.{Lists, no_list, list, list_end, member}

-- A number in its list.
pub member_text : (v : ℕ) (more : List ℕ) → (v ≡ 0 → ⊥) → list_text false (v ∷ more) ≡ SPACE ∷ (decimal v ++ list_text false more)
unfolding list_text lettered spaced ended
member_text v more some = rw (ne_eqb v 0 some)

-- The lines of lists, and the text of a table inside a list: the rest of its line, and the other lists.
abbrev list_lines : List (List ℕ) → List ℕ
list_lines ls = flatten (map list_line ls)

record ListRest (ds : List ℕ) : Type 0 where
  vs : List ℕ
  ls : List (List ℕ)
  is : lists ds ≡ vs ∷ ls
  text : list_text false ds ≡ SPACE ∷ (closed_line (map decimal vs) ++ list_lines ls)

abbrev ListsAre : Bool → List ℕ → Type 0
ListsAre true ds = list_text true ds ≡ list_lines (lists ds)
ListsAre false ds = ListRest ds

-- one more number in front
more_rest : (v : ℕ) (more : List ℕ) → (v ≡ 0 → ⊥) → ListRest more → ListRest (v ∷ more)
unfolding closed_line
more_rest v more some r =
    record {
      vs = v ∷ r.vs;
      ls = r.ls;
      is = lists_push v more r.vs r.ls some r.is;
      text =
          member_text v more some ∙ ap (λ (t : List ℕ). SPACE ∷ (decimal v ++ t)) r.text
          ∙ ap (λ (t : List ℕ). SPACE ∷ t) (sym (append_assoc (decimal v) (SPACE ∷ closed_line (map decimal r.vs)) (list_lines r.ls)));
    }

-- and the letter in front of the first
lettered_text : (v : ℕ) (more : List ℕ) → list_text true (v ∷ more) ≡ LETTER-D ∷ list_text false (v ∷ more)
unfolding list_text lettered
lettered_text v more = refl

lists_text : {first : Bool} {ds : List ℕ} → Lists first ds → ListsAre first ds
unfolding list_text lettered spaced ended decimal digits_of lists cut list_line closed_line flatten
lists_text no_list = refl
lists_text (list {y} {more} some small b) =
    let r = more_rest y more some (lists_text b) in
    lettered_text y more ∙ ap (λ (t : List ℕ). LETTER-D ∷ t) r.text ∙ sym (ap list_lines r.is)
lists_text (list_end {more} b) = record { vs = []; ls = lists more; is = refl; text = ap (λ (t : List ℕ). SPACE ∷ ZERO ∷ LF ∷ t) (lists_text b) }
lists_text (member {x} {more} some small b) = more_rest x more some (lists_text b)

list_lines_lem : {ds : List ℕ} → Lists true ds → list_text true ds ≡ list_lines (lists ds)
list_lines_lem d = lists_text d

-- The whole text, of tables that a text can hold: such are those that the check of lists accepts.
pub text_is : (n : ℕ) (prefix : List ℕ) (table : List ℤ) (ds : List ℕ) → Holdable n prefix table → Lists true ds
    → listed_by_entries n prefix table ds ≡ listed_text_of n prefix table ds
unfolding listed_by_entries listed_text_of
text_is n prefix table ds h d =
    ap₂ (λ (a b : List ℕ). a ++ b) (ap (problem_line n) (count_is table))
    (ap₂ (λ (a b : List ℕ). a ++ b) (prefix_lines h.blocks)
    (ap₂ (λ (a b : List ℕ). a ++ b) (list_lines_lem d) (clause_lines_lem h.all_clauses)))
