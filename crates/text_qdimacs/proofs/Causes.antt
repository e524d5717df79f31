-- The fault at which the stages of a text stop is the first cause of 16 and 17 (first_cause), and a text of tables has none (no_cause).
use Prim.Native.Nat.{ℕ, suc, ◌<◌, ◌≤◌}
use mathlib.Core.Path.{◌≡◌, sym, subst}
use mathlib.Core.List.{List, [], ◌∷◌, ◌++◌, append_assoc, append-nil}
use mathlib.Core.Logic.{◌⊎◌, inl, inr}
use native.Mathlib.Decide.{ℕ_discrete}
use native.Mathlib.Omega.{arith}
use lib.IntN.{ℤ}
use Rattle.terms.specs.Refusals.{First, None}
use Rattle.text_lines.specs.declared.Stage.{Stage}
use Rattle.text_lines.specs.declared.Stage.TheVariants.{Opening, Body}
use Rattle.text_lines.specs.Format.{ProblemLine, HowMany, count_none, TextOf, IsClause, Announce, Announced, MayFollow, comment_follows, problem_follows}
use Rattle.text_lines.specs.Format.{quantifier_follows, clause_follows, LineCause}
use Rattle.text_lines.specs.InnerGrammar.{Line, a_comment, the_problem, a_block, a_clause, Lines, no_line, one_more, TooMany, too_many, Fault, outside}
use Rattle.text_lines.specs.InnerGrammar.{unended, no_problem, many, few, FaultByStages}
use Rattle.text_lines.proofs.Several.{some_nowhere, some_left, some_at, some_split, count_last, count_still, count_same, count_nothing, nothing_counted}
use Rattle.text_lines.proofs.Apart.{comment_clause, comment_problem, problem_clause, problem_same, quantifier_clause, quantifier_problem}
use Rattle.text_lines.proofs.FirstCause as found
use Rattle.text_qdimacs.proofs.Staged.{text_staged}

-- What is known of the lines before a stage. Behind the problem line: one number is announced, and no more clause lines have stood.
pub record Behind (m k : ℕ) (before : List (List ℕ)) : Type 0 where
  pub one : Announce before m
  pub only : (m' : ℕ) → Announce before m' → m' ≡ m
  pub count : HowMany IsClause before k
  pub few : k ≤ m

abbrev pub Known : Stage → List (List ℕ) → Type 0
Known Opening before = (¬ Announced before) × HowMany IsClause before 0
Known (Body n m k) before = Behind m k before

pub known_none : Known Opening []
known_none = ((λ (m, s). some_nowhere s), count_none)

-- One more line that is no problem line announces nothing.
announce_still : (before : List (List ℕ)) (line : List ℕ) {m : ℕ} → ((n m : ℕ) → ProblemLine line n m → ⊥) → Announce (before ++ (line ∷ [])) m
    → Announce before m
announce_still before line {m} other a = go (some_split before line a)
  where
    go : Announce before m ⊎ ((n : ℕ) × ProblemLine line n m) → Announce before m
    go (inl b) = b
    go (inr p) = absurd (other p.0 m p.1)

pub behind_more : (before : List (List ℕ)) (line : List ℕ) {m k k' : ℕ} → Behind m k before → ((n m : ℕ) → ProblemLine line n m → ⊥)
    → HowMany IsClause (before ++ (line ∷ [])) k' → k' ≤ m → Behind m k' (before ++ (line ∷ []))
behind_more before line b other count low =
    record { one = some_left (line ∷ []) b.one; only = λ m' a. b.only m' (announce_still before line other a); count = count; few = low }

pub clauses_follow : (before : List (List ℕ)) (line : List ℕ) → IsClause line → Announced before → MayFollow before line
clauses_follow before line i a = clause_follows i a

abbrev Fine : List (List ℕ) → List ℕ → Type 0
Fine before line = found.Fine MayFollow clauses_follow before line

abbrev AllFine : List (List ℕ) → List (List ℕ) → Type 0
AllFine before lines = found.AllFine MayFollow clauses_follow before lines

-- A line that leads to a stage is fine.

pub known_more : {s t : Stage} {line p : List ℕ} {c : List ℤ} (before : List (List ℕ)) → Known s before → Line s line t p c
    → Fine before line × Known t (before ++ (line ∷ []))
known_more before known (a_comment {line} c) = let (none, count) = known in (
  (comment_follows c none, λ m i a q. none (m, a)),
  ((λ (m, a). none (m, announce_still before line (λ n m p. comment_problem c p) a)), count_still count (λ i. comment_clause c i.1)),
)
known_more before known (the_problem {line} {n} {m} p) = let (none, count) = known in (
  (problem_follows p none, λ m i a q. none (m, a)),
  record {
    one = some_at before line [] (n, p);
    only = λ m' a. only m' (some_split before line a);
    count = count_still count (λ i. problem_clause p i.1);
    few = omega arith;
  },
)
  where
    only : (m' : ℕ) → Announce before m' ⊎ ((n : ℕ) × ProblemLine line n m') → m' ≡ m
    only m' (inl a) = absurd (known.0 (m', a))
    only m' (inr q) = (problem_same q.1 p).1
known_more before b (a_block {line} {entries} {n} {m} z q) = (
  (quantifier_follows (entries, q) (m, b.one) (count_nothing b.count z), λ m i a x. quantifier_clause q i.1),
  behind_more before line b (λ n m p. quantifier_problem q p) (count_still b.count (λ i. quantifier_clause q i.1)) b.few,
)
known_more before b (a_clause {line} {entries} {n} {m} h c) = (
  (clause_follows (entries, c) (m, b.one), λ m' i a x. let y = b.only m' a in let w = count_same b.count x in omega arith),
  behind_more before line b (λ n m p. problem_clause p c) (count_last b.count (entries, c)) (omega arith),
)

-- So are all that follow one another.
all_fine : {s t : Stage} {lines : List (List ℕ)} {P : List ℕ} {C : List ℤ} (before : List (List ℕ)) → Known s before → Lines s lines t P C
    → AllFine before lines × Known t (before ++ lines)
all_fine {t = t} before known no_line = (tt, subst (Known t) (sym (append-nil before)) known)
all_fine {t = t} before known (one_more {line = line} {lines = lines} step more) =
    let (fine, next) = known_more before known step in
    let (each, end) = all_fine (before ++ (line ∷ [])) next more in
    ((fine, each), subst (Known t) (append_assoc before (line ∷ []) lines) end)

-- A line that leads nowhere, and is not one clause line too many, may not stand there.
pub no_follow : (s : Stage) (lines : List (List ℕ)) (line : List ℕ) → Known s lines
    → ((after : Stage) (p : List ℕ) (c : List ℤ) → Line s line after p c → ⊥) → (TooMany s line → ⊥) → ¬ MayFollow lines line
no_follow Opening lines line known none too (comment_follows c no_one) = none Opening [] [] (a_comment c)
no_follow Opening lines line known none too (problem_follows {n} {m} p no_one) = none (Body n m 0) [] [] (the_problem p)
no_follow Opening lines line known none too (quantifier_follows q a z) = known.0 a
no_follow Opening lines line known none too (clause_follows i a) = known.0 a
no_follow (Body n m k) lines line known none too (comment_follows c no_one) = no_one (m, known.one)
no_follow (Body n m k) lines line known none too (problem_follows p no_one) = no_one (m, known.one)
no_follow (Body n m k) lines line known none too (quantifier_follows (entries, q) a z) =
    none (Body n m k) entries [] (a_block (nothing_counted known.count z) q)
no_follow (Body n m k) lines line known none too (clause_follows (entries, c) a) = go (ℕ_discrete k m)
  where
    go : Dec (k ≡ m) → ⊥
    go (yes e) = too (too_many e c)
    go (no e) = let low = known.few in let less : k < m = omega arith in none (Body n m (suc k)) [] entries (a_clause less c)

-- What the stages stop at is what fine lines stop at.
stop : {k : ℕ} {s : Stage} {left : List (List ℕ)} (lines : List (List ℕ)) → Known s lines → Fault k s left → found.Stop MayFollow clauses_follow lines left k
stop lines known (outside {stage = s} {line = line} none too) = found.misplaced (no_follow s lines line known none too)
stop lines known unended = found.unended
stop lines known no_problem = found.no_problem known.0
stop lines known (many (too_many {entries = entries} e c)) = found.one_too_many (entries, c) known.one (subst (HowMany IsClause lines) e known.count)
stop lines known (few h) = found.too_few known.one known.count h

pub first_cause : {text : List ℕ} {k p : ℕ} → FaultByStages text k p → First (LineCause MayFollow text) k p
first_cause {text} {k} f =
    let (each, known) = all_fine [] known_none f.follow in
    subst (First (LineCause MayFollow text) k) (sym f.at)
    (found.first_cause MayFollow clauses_follow text f.lines each f.cut (stop f.lines known f.fault))

pub no_cause : {n : ℕ} {P : List ℕ} {C : List ℤ} {text : List ℕ} → TextOf n P C text → None (LineCause MayFollow text)
no_cause {text = text} t =
    let staged = text_staged t in
    let (each, known) = all_fine [] known_none staged.follow in
    found.no_cause MayFollow clauses_follow text staged.lines each staged.cut known.one known.only known.count
