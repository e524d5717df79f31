-- The first cause of 16 and 17 in a text whose first lines are within the rules (first_cause), and that a text which ends behind such lines, and as many
-- clause lines as announced, has none (no_cause): for any format in which a clause line may stand behind the problem line.
use Prim.Native.Nat.{ℕ, ◌<◌, ◌≤◌}
use mathlib.Core.Path.{◌≡◌, refl, sym, ap, ap₂, ◌∙◌, subst}
use mathlib.Core.List.{List, [], ◌∷◌, ◌++◌, append_assoc, append-nil}
use mathlib.Core.Logic.{◌⊎◌, inl, inr, ◌≢◌}
use native.Mathlib.Omega.{arith}
use lib.ListN.{length}
use Rattle.terms.specs.Refusals.{First, None}
use Rattle.text_words.specs.Words.{LF, pieces}
use Rattle.text_lines.specs.Format.{ProblemLine, HowMany, IsClause, Announce, Announced, place_after, LineCause, unended_line, misplaced_line}
use Rattle.text_lines.specs.Format.{no_problem_line, clause_too_many, clauses_too_few}
use Rattle.text_lines.proofs.Places.{pieces_place, place_append, place_few}
use Rattle.text_lines.proofs.Several.{some_left, some_split, count_still, count_same}
use Rattle.text_lines.proofs.Apart.{empty_clause, empty_problem}

-- A line of lines that are cut in two stands in the first part or in the second.
data Where (lines left before : List (List ℕ)) (line : List ℕ) (after : List (List ℕ)) : Type 0 where
  earlier : (mid : List (List ℕ)) → lines ≡ before ++ (line ∷ mid) → after ≡ mid ++ left → Where lines left before line after
  later_on : (mid : List (List ℕ)) → before ≡ lines ++ mid → left ≡ mid ++ (line ∷ after) → Where lines left before line after

find : (lines left before : List (List ℕ)) (line : List ℕ) (after : List (List ℕ)) → lines ++ left ≡ before ++ (line ∷ after)
    → Where lines left before line after
find [] left before line after e = later_on before refl e
find (l ∷ lines) left [] line after e =
    let q : l ≡ line = cc in let r : after ≡ lines ++ left = cc in earlier lines (ap (λ (x : List ℕ). x ∷ lines) q) r
find (l ∷ lines) left (b ∷ before) line after e =
    let q : l ≡ b = cc in
    let r : lines ++ left ≡ before ++ (line ∷ after) = cc in
    go q (find lines left before line after r)
  where
    go : l ≡ b → Where lines left before line after → Where (l ∷ lines) left (b ∷ before) line after
    go q (earlier mid x y) = earlier mid (ap₂ (λ (h : List ℕ) (t : List (List ℕ)). h ∷ t) q x) y
    go q (later_on mid x y) = later_on mid (ap₂ (λ (h : List ℕ) (t : List (List ℕ)). h ∷ t) (sym q) x) y

-- Behind the last LF stands the text's end.
at_end : (text : List ℕ) (lines : List (List ℕ)) → pieces LF text ≡ lines ++ ([] ∷ []) → place_after lines ≡ length text
at_end text lines cut =
    let a = pieces_place LF text in
    let b = ap place_after cut ∙ place_append lines ([] ∷ []) in
    omega arith

-- An empty line behind others announces nothing, and is no clause line.
announce_empty : (lines : List (List ℕ)) (m : ℕ) → Announce (lines ++ ([] ∷ [])) m → Announce lines m
announce_empty lines m a = go (some_split lines [] a)
  where
    go : Announce lines m ⊎ ((n : ℕ) × ProblemLine [] n m) → Announce lines m
    go (inl b) = b
    go (inr p) = absurd (empty_problem p.1)

count_empty : {lines : List (List ℕ)} {k : ℕ} → HowMany IsClause lines k → HowMany IsClause (lines ++ ([] ∷ [])) k
count_empty c = count_still c (λ i. empty_clause i.1)

module _ (Follows : List (List ℕ) → List ℕ → Type 0)
    (clauses_follow : (before : List (List ℕ)) (line : List ℕ) → IsClause line → Announced before → Follows before line) where
  -- A line is fine behind others: it may stand there, and is not one clause line too many. All of these lines are.
  abbrev pub Fine : List (List ℕ) → List ℕ → Type 0
  Fine before line = Follows before line × ((m : ℕ) → IsClause line → Announce before m → HowMany IsClause before m → ⊥)

  abbrev pub AllFine : List (List ℕ) → List (List ℕ) → Type 0
  AllFine before [] = Unit {0}
  AllFine before (line ∷ more) = Fine before line × AllFine (before ++ (line ∷ [])) more

  fine_at : (start before : List (List ℕ)) (line : List ℕ) (mid : List (List ℕ)) → AllFine start (before ++ (line ∷ mid)) → Fine (start ++ before) line
  fine_at start [] line mid a = subst (λ (b : List (List ℕ)). Fine b line) (sym (append-nil start)) a.0
  fine_at start (x ∷ before) line mid a =
      subst (λ (b : List (List ℕ)). Fine b line) (append_assoc start (x ∷ []) before) (fine_at (start ++ (x ∷ [])) before line mid a.1)

  -- Where a cause stands: at a line that is not fine or has no LF, or at the text's end.
  data Spot (text : List ℕ) (p : ℕ) : Type 0 where
    at_line : (before : List (List ℕ)) (line : List ℕ) (after : List (List ℕ)) → pieces LF text ≡ before ++ (line ∷ after) → p ≡ place_after before
        → (Fine before line → after ≢ [] → ⊥) → Spot text p
    at_length : p ≡ length text → Spot text p

  spot : {text : List ℕ} {k p : ℕ} → LineCause Follows text k p → Spot text p
  spot (unended_line before line cut some) = at_line before line [] cut refl (λ fine z. z refl)
  spot (misplaced_line before line next after cut bad) = at_line before line (next ∷ after) cut refl (λ fine z. bad fine.0)
  spot (no_problem_line none) = at_length refl
  spot (clause_too_many before line after {m} cut i a c) = at_line before line after cut refl (λ fine z. fine.1 m i a c)
  spot (clauses_too_few a c h) = at_length refl

  least : {text : List ℕ} {k p : ℕ} → LineCause Follows text k p → 16 ≤ k
  least (unended_line before line cut some) = omega arith
  least (misplaced_line before line next after cut bad) = omega arith
  least (no_problem_line none) = omega arith
  least (clause_too_many before line after cut i a c) = omega arith
  least (clauses_too_few a c h) = omega arith

  -- A text that begins with fine lines, and what is left of it.
  module _ (text : List ℕ) (lines : List (List ℕ)) (first : List ℕ) (others : List (List ℕ)) (cut : pieces LF text ≡ lines ++ (first ∷ others))
      (fine : AllFine [] lines) where
    -- a line that is not fine, or has no LF, stands in what is left
    record Left (before : List (List ℕ)) (line : List ℕ) (after : List (List ℕ)) : Type 0 where
      mid : List (List ℕ)
      before_is : before ≡ lines ++ mid
      left_is : first ∷ others ≡ mid ++ (line ∷ after)

    in_left : (before : List (List ℕ)) (line : List ℕ) (after : List (List ℕ)) → pieces LF text ≡ before ++ (line ∷ after)
        → (Fine before line → after ≢ [] → ⊥) → Left before line after
    in_left before line after e bad = go (find lines (first ∷ others) before line after (sym cut ∙ e))
      where
        behind : (mid : List (List ℕ)) → after ≡ mid ++ (first ∷ others) → after ≢ []
        behind [] q z = let no : ◌≡◌ {A = ℕ} 0 1 = cc in omega arith
        behind (x ∷ mid) q z = let no : ◌≡◌ {A = ℕ} 0 1 = cc in omega arith

        go : Where lines (first ∷ others) before line after → Left before line after
        go (earlier mid x y) = absurd (bad (fine_at [] before line mid (subst (AllFine []) x fine)) (behind mid y))
        go (later_on mid x y) = record { mid = mid; before_is = x; left_is = y }

    within : place_after lines ≤ length text
    within = place_few text lines (first ∷ others) cut (omega arith)

    leftmost : (k p : ℕ) → LineCause Follows text k p → place_after lines ≤ p
    leftmost k p c = go (spot c)
      where
        go : Spot text p → place_after lines ≤ p
        go (at_line before line after e at bad) =
            let l = in_left before line after e bad in
            let q = ap place_after l.before_is ∙ place_append lines l.mid in
            omega arith
        go (at_length at) = let q = within in omega arith

    -- at the first line that is left
    here_is : {before : List (List ℕ)} {line : List ℕ} {after : List (List ℕ)} → Left before line after → place_after before ≡ place_after lines
        → (before ≡ lines) × (first ≡ line) × (others ≡ after)
    here_is {before} {line} {after} l at = go l.mid l.before_is l.left_is
      where
        go : (mid : List (List ℕ)) → before ≡ lines ++ mid → first ∷ others ≡ mid ++ (line ∷ after)
            → (before ≡ lines) × (first ≡ line) × (others ≡ after)
        go [] x y = (x ∙ append-nil lines, cc, cc)
        go (b ∷ mid) x y = let q = ap place_after x ∙ place_append lines (b ∷ mid) in let no : ⊥ = omega arith in absurd no

    announced : {m : ℕ} → Announce lines m → Announce (pieces LF text) m
    announced {m} a = subst (λ (ls : List (List ℕ)). Announce ls m) (sym cut) (some_left (first ∷ others) a)

    -- No 16 stands there if a line before announces, and what is left is a clause line with its LF, or nothing.
    lowest : {m : ℕ} → Announce lines m → (IsClause first × (others ≢ [])) ⊎ ((first ≡ []) × (others ≡ [])) → (k p : ℕ) → LineCause Follows text k p
        → p ≡ place_after lines → 17 ≤ k
    lowest a what k p (unended_line before line e some) at =
        let (b, l, o) = here_is (in_left before line [] e (λ fine z. z refl)) at in
        absurd (go l o what)
      where
        go : first ≡ line → others ≡ [] → (IsClause first × (others ≢ [])) ⊎ ((first ≡ []) × (others ≡ [])) → ⊥
        go l o (inl (i, more)) = more o
        go l o (inr (f, z)) = some (sym l ∙ f)
    lowest {m} a what k p (misplaced_line before line next after e bad) at =
        let (b, l, o) = here_is (in_left before line (next ∷ after) e (λ fine z. bad fine.0)) at in
        absurd (go b l o what)
      where
        go : before ≡ lines → first ≡ line → others ≡ next ∷ after → (IsClause first × (others ≢ [])) ⊎ ((first ≡ []) × (others ≡ [])) → ⊥
        go b l o (inl (i, more)) =
            bad (clauses_follow before line (subst IsClause l i) (m, subst (λ (ls : List (List ℕ)). Announce ls m) (sym b) a))
        go b l o (inr (f, z)) = let no : ◌≡◌ {A = ℕ} 0 1 = cc in omega arith
    lowest {m} a what k p (no_problem_line none) at = absurd (none (m, announced a))
    lowest a what k p (clause_too_many before line after e i b c) at = omega arith
    lowest a what k p (clauses_too_few b c h) at = omega arith

  -- What fine lines stop at: a line that may not stand behind them, one without LF, no problem line, one clause line too many, too few of them.
  pub data Stop (lines : List (List ℕ)) : List (List ℕ) → ℕ → Type 0 where
    misplaced : {line next : List ℕ} {more : List (List ℕ)} → ¬ Follows lines line → Stop lines (line ∷ next ∷ more) 16
    unended : {byte : ℕ} {bytes : List ℕ} → Stop lines ((byte ∷ bytes) ∷ []) 16
    no_problem : ¬ Announced lines → Stop lines ([] ∷ []) 16
    one_too_many : {line next : List ℕ} {more : List (List ℕ)} {m : ℕ} → IsClause line → Announce lines m → HowMany IsClause lines m
        → Stop lines (line ∷ next ∷ more) 17
    too_few : {m k : ℕ} → Announce lines m → HowMany IsClause lines k → k < m → Stop lines ([] ∷ []) 17

  module _ (text : List ℕ) (lines : List (List ℕ)) (fine : AllFine [] lines) where
    -- That is the first cause.
    pub first_cause : {left : List (List ℕ)} {k : ℕ} → pieces LF text ≡ lines ++ left → Stop lines left k → First (LineCause Follows text) k (place_after lines)
    first_cause cut (misplaced {line} {next} {more} bad) =
        record {
          holds = misplaced_line lines line next more cut bad;
          leftmost = leftmost text lines line (next ∷ more) cut fine;
          lowest = λ k c. least c;
        }
    first_cause cut (unended {byte} {bytes}) =
        record {
          holds = unended_line lines (byte ∷ bytes) cut (λ e. let no : ◌≡◌ {A = ℕ} 0 1 = cc in omega arith);
          leftmost = leftmost text lines (byte ∷ bytes) [] cut fine;
          lowest = λ k c. least c;
        }
    first_cause cut (no_problem none) =
        record {
          holds =
              subst (LineCause Follows text 16) (sym (at_end text lines cut))
              (no_problem_line (λ (m, a). none (m, announce_empty lines m (subst (λ (ls : List (List ℕ)). Announce ls m) cut a))));
          leftmost = leftmost text lines [] [] cut fine;
          lowest = λ k c. least c;
        }
    first_cause cut (one_too_many {line} {next} {more} i a c) =
        record {
          holds = clause_too_many lines line (next ∷ more) cut i a c;
          leftmost = leftmost text lines line (next ∷ more) cut fine;
          lowest =
              λ k w. lowest text lines line (next ∷ more) cut fine a (inl (i, λ z. let no : ◌≡◌ {A = ℕ} 0 1 = cc in omega arith)) k (place_after lines) w refl;
        }
    first_cause cut (too_few {m} {k} a c h) =
        record {
          holds =
              subst (LineCause Follows text 17) (sym (at_end text lines cut))
              (clauses_too_few {m = m} {k = k} (announced text lines [] [] cut fine a)
              (subst (λ (ls : List (List ℕ)). HowMany IsClause ls k) (sym cut) (count_empty c)) h);
          leftmost = leftmost text lines [] [] cut fine;
          lowest = λ j w. lowest text lines [] [] cut fine a (inr (refl, refl)) j (place_after lines) w refl;
        }

    -- There is none where all lines are fine, and as many are clause lines as the one problem line announced.
    pub no_cause : {m : ℕ} → pieces LF text ≡ lines ++ ([] ∷ []) → Announce lines m → ((m' : ℕ) → Announce lines m' → m' ≡ m)
        → HowMany IsClause lines m → None (LineCause Follows text)
    no_cause {m} cut one only count = go
      where
        alone : (mid : List (List ℕ)) (line : List ℕ) (after : List (List ℕ)) → ◌≡◌ {A = List (List ℕ)} ([] ∷ []) (mid ++ (line ∷ after))
            → (line ≡ []) × (after ≡ [])
        alone [] line after q = (cc, cc)
        alone (x ∷ []) line after q = let no : ◌≡◌ {A = ℕ} 0 1 = cc in let no : ⊥ = omega arith in absurd no
        alone (x ∷ y ∷ mid) line after q = let no : ◌≡◌ {A = ℕ} 0 1 = cc in let no : ⊥ = omega arith in absurd no

        go : None (LineCause Follows text)
        go k p (unended_line before line e some) =
            let l = in_left text lines [] [] cut fine before line [] e (λ f z. z refl) in some (alone l.mid line [] l.left_is).0
        go k p (misplaced_line before line next after e bad) =
            let l = in_left text lines [] [] cut fine before line (next ∷ after) e (λ f z. bad f.0) in
            let q = (alone l.mid line (next ∷ after) l.left_is).1 in
            let no : ◌≡◌ {A = ℕ} 0 1 = cc in
            omega arith
        go k p (no_problem_line none) = none (m, announced text lines [] [] cut fine one)
        go k p (clause_too_many before line after {m = m'} e i a c) =
            let l = in_left text lines [] [] cut fine before line after e (λ f z. f.1 m' i a c) in
            empty_clause (subst IsClause (alone l.mid line after l.left_is).0 i).1
        go k p (clauses_too_few {m = m'} {k = j} a c h) =
            let x = only m' (announce_empty lines m' (subst (λ (ls : List (List ℕ)). Announce ls m') cut a)) in
            let y = count_same (count_empty count) (subst (λ (ls : List (List ℕ)). HowMany IsClause ls j) cut c) in
            omega arith
