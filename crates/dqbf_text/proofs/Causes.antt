-- The fault at which the stages of a text stop is the first cause of 16 and 17 (first_cause), and a text of tables has none (no_cause).
use Prim.Native.Nat.{ℕ}
use mathlib.Core.Path.{◌≡◌, refl, sym, subst}
use mathlib.Core.Bool.{Bool, true, false, true≢false}
use mathlib.Core.List.{List, [], ◌∷◌, ◌++◌, append_assoc, append-nil}
use mathlib.Core.Logic.{◌⊎◌, inl, inr}
use lib.IntN.{ℤ}
use Rattle.terms.specs.Refusals.{First, None}
use Rattle.text_lines.specs.declared.Stage.{Stage}
use Rattle.text_lines.specs.declared.Stage.TheVariants.{Opening, Body}
use Rattle.text_lines.specs.Format.{Some, HowMany, IsQuantifier, IsClause, Announced, LineCause}
use Rattle.text_lines.specs.Format as plain
use Rattle.text_lines.specs.InnerGrammar.{Line, a_comment, the_problem, a_block, a_clause, TooMany, too_many}
use Rattle.text_lines.proofs.Several.{some_nowhere, some_left, some_at, some_split, count_still, count_nothing, nothing_counted}
use Rattle.text_lines.proofs.Apart.{comment_quantifier, quantifier_problem, quantifier_clause}
use Rattle.text_lines.proofs.FirstCause as found
use Rattle.text_qdimacs.proofs.Causes.{Known, known_none, known_more, behind_more, no_follow}
use Rattle.dqbf_text.specs.Format.{IsList, ListedText, ListedFollow, line_follows, list_follows}
use Rattle.dqbf_text.specs.InnerGrammar.{ListedLine, a_line, a_list, ListedLines, no_line, one_more, ListedFault, outside, unended, no_problem, many}
use Rattle.dqbf_text.specs.InnerGrammar.{few, ListedFaultByStages}
use Rattle.dqbf_text.proofs.Letters.{list_clause, list_block, list_problem, list_comment}
use Rattle.dqbf_text.proofs.Staged.{marked, text_staged}

-- What the flag says of the lines before: whether one is a list line.
abbrev Listed : Bool → List (List ℕ) → Type 0
Listed true before = Some IsList before
Listed false before = ¬ Some IsList before

listed_still : (b : Bool) (before : List (List ℕ)) (line : List ℕ) → ¬ IsList line → Listed b before → Listed b (before ++ (line ∷ []))
listed_still true before line other l = some_left (line ∷ []) l
listed_still false before line other l = λ s. go (some_split before line s)
  where
    go : Some IsList before ⊎ IsList line → ⊥
    go (inl t) = l t
    go (inr i) = other i

-- A line of QDIMACS is no list line, and is a quantifier line only if it adds to the prefix table.
plain_list : {s t : Stage} {line p : List ℕ} {c : List ℤ} → Line s line t p c → ¬ IsList line
plain_list (a_comment c) (_, l) = list_comment l c
plain_list (the_problem p) (_, l) = list_problem l p
plain_list (a_block z q) (_, l) = list_block l q
plain_list (a_clause h c) (_, l) = list_clause l c

adds_nothing : {s t : Stage} {line p : List ℕ} {c : List ℤ} → Line s line t p c → p ≡ [] → ¬ IsQuantifier line
adds_nothing (a_comment c) none (_, q) = comment_quantifier c q
adds_nothing (the_problem p) none (_, q) = quantifier_problem q p
adds_nothing (a_block z b) none q = marked b none
adds_nothing (a_clause h c) none (_, q) = quantifier_clause q c

-- so it may stand behind a list line only if it adds nothing there
unlisted : (b : Bool) {before : List (List ℕ)} {s t : Stage} {line p : List ℕ} {c : List ℤ} → Listed b before → (b ≡ true → p ≡ []) → Line s line t p c
    → IsQuantifier line → ¬ Some IsList before
unlisted true l bare x q = absurd (adds_nothing x (bare refl) q)
unlisted false l bare x q = l

pub clauses_follow : (before : List (List ℕ)) (line : List ℕ) → IsClause line → Announced before → ListedFollow before line
clauses_follow before line i a = line_follows (plain.clause_follows i a) (λ q s. quantifier_clause q.1 i.1)

abbrev Fine : List (List ℕ) → List ℕ → Type 0
Fine before line = found.Fine ListedFollow clauses_follow before line

abbrev AllFine : List (List ℕ) → List (List ℕ) → Type 0
AllFine before lines = found.AllFine ListedFollow clauses_follow before lines

-- A line that leads to a stage is fine.
listed_more : {b b' : Bool} {s t : Stage} {line p l : List ℕ} {c : List ℤ} (before : List (List ℕ)) → Known s before → Listed b before
    → ListedLine b s line b' t p l c → Fine before line × Known t (before ++ (line ∷ [])) × Listed b' (before ++ (line ∷ []))
listed_more {b = b} before known listed (a_line {line = line} bare x) =
    let (fine, next) = known_more before known x in
    ((line_follows fine.0 (unlisted b listed bare x), fine.1), next, listed_still b before line (plain_list x) listed)
listed_more before known listed (a_list {line = line} {l = l} {m = m} z x) = (
  (list_follows (l, x) (m, known.one) (count_nothing known.count z), λ m' i a q. list_clause x i.1),
  behind_more before line known (λ n m p. list_problem x p) (count_still known.count (λ i. list_clause x i.1)) known.few,
  some_at before line [] (l, x),
)

-- So are all that follow one another.
all_fine : {b b' : Bool} {s t : Stage} {lines : List (List ℕ)} {P L : List ℕ} {C : List ℤ} (before : List (List ℕ)) → Known s before → Listed b before
    → ListedLines b s lines b' t P L C → AllFine before lines × Known t (before ++ lines) × Listed b' (before ++ lines)
all_fine {b' = b'} {t = t} before known listed no_line =
    (tt, subst (Known t) (sym (append-nil before)) known, subst (Listed b') (sym (append-nil before)) listed)
all_fine {b' = b'} {t = t} before known listed (one_more {line = line} {lines = lines} step more) =
    let (fine, k, l) = listed_more before known listed step in
    let (each, known', listed') = all_fine (before ++ (line ∷ [])) k l more in
    let joined = append_assoc before (line ∷ []) lines in
    ((fine, each), subst (Known t) joined known', subst (Listed b') joined listed')

from_none : {b : Bool} {t : Stage} {lines : List (List ℕ)} {P L : List ℕ} {C : List ℤ} → ListedLines false Opening lines b t P L C
    → AllFine [] lines × Known t lines × Listed b lines
from_none follow = all_fine [] known_none some_nowhere follow

-- A line that leads nowhere, and is not one clause line too many, may not stand there.
bare_line : (b : Bool) {lines : List (List ℕ)} {s t : Stage} {line p : List ℕ} {c : List ℤ} → Listed b lines → (IsQuantifier line → ¬ Some IsList lines)
    → Line s line t p c → b ≡ true → p ≡ []
bare_line b l late (a_comment x) e = refl
bare_line b l late (the_problem x) e = refl
bare_line true l late (a_block {entries = entries} z q) e = absurd (late (entries, q) l)
bare_line false l late (a_block z q) e = absurd (true≢false (sym e))
bare_line b l late (a_clause h x) e = refl

no_listed_follow : (b : Bool) (s : Stage) (lines : List (List ℕ)) (line : List ℕ) → Known s lines → Listed b lines
    → ((then : Bool) (after : Stage) (p l : List ℕ) (c : List ℤ) → ListedLine b s line then after p l c → ⊥) → (TooMany s line → ⊥)
    → ¬ ListedFollow lines line
no_listed_follow b s lines line known listed none too (line_follows may late) =
    no_follow s lines line known (λ after p c x. none b after p [] c (a_line (bare_line b listed late x) x)) too may
no_listed_follow b Opening lines line known listed none too (list_follows i a z) = known.0 a
no_listed_follow b (Body n m k) lines line known listed none too (list_follows (l, x) a z) =
    none true (Body n m k) [] l [] (a_list (nothing_counted known.count z) x)

-- What the stages stop at is what fine lines stop at.
stop : {k : ℕ} {b : Bool} {s : Stage} {left : List (List ℕ)} (lines : List (List ℕ)) → Known s lines → Listed b lines → ListedFault k b s left
    → found.Stop ListedFollow clauses_follow lines left k
stop lines known listed (outside {listed = b} {stage = s} {line = line} none too) = found.misplaced (no_listed_follow b s lines line known listed none too)
stop lines known listed unended = found.unended
stop lines known listed no_problem = found.no_problem known.0
stop lines known listed (many (too_many {entries = entries} e c)) =
    found.one_too_many (entries, c) known.one (subst (HowMany IsClause lines) e known.count)
stop lines known listed (few h) = found.too_few known.one known.count h

pub first_cause : {text : List ℕ} {k p : ℕ} → ListedFaultByStages text k p → First (LineCause ListedFollow text) k p
first_cause {text} {k} f =
    let (each, known, listed) = from_none f.follow in
    subst (First (LineCause ListedFollow text) k) (sym f.at)
    (found.first_cause ListedFollow clauses_follow text f.lines each f.cut (stop f.lines known listed f.fault))

pub no_cause : {n : ℕ} {P L : List ℕ} {C : List ℤ} {text : List ℕ} → ListedText n P L C text → None (LineCause ListedFollow text)
no_cause {text = text} t =
    let staged = text_staged t in
    let (each, known, listed) = from_none staged.follow in
    found.no_cause ListedFollow clauses_follow text staged.lines each staged.cut known.one known.only known.count
