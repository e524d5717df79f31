-- The laws of lines at a stage: what may stand there, what may not, and what is then wrong.
use Rattle.std.specs.Prelude.{None}
use Prim.Native.Nat.{ℕ, suc, ◌+◌, ◌<◌, ◌≤◌}
use mathlib.Core.Path.{◌≡◌, refl, sym, ap, ◌∙◌, subst}
use mathlib.Core.List.{List, [], ◌∷◌}
use mathlib.Core.Option.{none, some}
use native.Mathlib.Omega.{arith}
use native.Mathlib.Nat.{add-zero}
use lib.ListN.{length, get_or, drop, length-drop}
use lib.IntN.{ℤ}
use Rattle.text_lines.specs.declared.Stage.{Stage}
use Rattle.text_lines.specs.declared.Stage.TheVariants.{Opening, Body}
use Rattle.text_words.specs.Words.{LF, LETTER-A, LETTER-E, pieces}
use Rattle.text_words.specs.InnerNumbers.{entries_of, variables, literals}
use Rattle.text_lines.specs.Format.{CommentLine, ProblemLine, QuantifierLine, e_line, a_line, ClauseLine, literals_line}
use Rattle.text_lines.specs.InnerGrammar.{Line, a_comment, the_problem, a_block, a_clause, TooMany, too_many, Fault, outside, unended, many}
use Rattle.text_words.specs.InnerPlaces.{past, is_space, in_line, front, later, line_at, after_at, words_at, Passed, WholeRow, NoRow, unread, endless_row}
use Rattle.text_words.specs.InnerExpected.{Goes, SpeltIs}
use Rattle.text_lines.specs.InnerSteps.{NoOpening, no_opening, endless_line, MarkIs, MarkAt, e_mark, a_mark, WholeBlock, Went}
use Rattle.text_words.proofs.Lines.{Byte, byte, space, feed, letter, front_later, front_onto}
use Rattle.text_words.proofs.Spelled.{variables_read, read_variables, literals_read, read_literals}
use Rattle.text_words.proofs.Spelling.{spelt_unlike}
use Rattle.text_lines.proofs.Apart.{lettered_clause}

-- A last line without LF is not empty.
record Filled (xs : List ℕ) : Type 0 where
  first : ℕ
  rest : List ℕ
  is : front (pieces LF xs) ≡ first ∷ rest

filled_last : (xs : List ℕ) → 0 < length xs → later (pieces LF xs) ≡ [] → Filled xs
unfolding pieces later
filled_last [] h e = let no : ⊥ = omega arith in absurd no
filled_last (b ∷ bs) h e = go (byte b) e
  where
    go : Byte b → later (pieces LF (b ∷ bs)) ≡ [] → Filled (b ∷ bs)
    go (space s l) q = record { first = b; rest = front (pieces LF bs); is = rw l (front_onto b LF bs) }
    go (feed s l) q =
        let r : pieces LF bs ≡ [] = rw l at q in
        let f = front_later LF bs in
        let no : ◌≡◌ {A = ℕ} 0 1 = cc in
        let no : ⊥ = omega arith in
        absurd no
    go (letter s l) q = record { first = b; rest = front (pieces LF bs); is = rw l (front_onto b LF bs) }

-- What is left of a text at a place: a last line without LF, or the line that stands there and what follows it.
pub record LastLine (text : List ℕ) (at : ℕ) : Type 0 where
  pub byte : ℕ
  pub bytes : List ℕ
  pub is : pieces LF (drop at text) ≡ (byte ∷ bytes) ∷ []

module _ (text : List ℕ) (at : ℕ) where
  pub last_line : at < length text → after_at text at ≡ [] → LastLine text at
  last_line h e =
      let left = length-drop at text in
      let f = filled_last (drop at text) (omega arith) e in
      record {
        byte = f.first;
        bytes = f.rest;
        is = front_later LF (drop at text) ∙ ap (λ (l : List ℕ). l ∷ after_at text at) f.is ∙ ap (λ (ls : List (List ℕ)). (f.first ∷ f.rest) ∷ ls) e;
      }

  pub line_then : {left : List (List ℕ)} → after_at text at ≡ left → pieces LF (drop at text) ≡ line_at text at ∷ left
  line_then e = front_later LF (drop at text) ∙ ap (λ (ls : List (List ℕ)). line_at text at ∷ ls) e

  pub line_passed : (next : ℕ) → Passed text at next → pieces LF (drop at text) ≡ line_at text at ∷ line_at text next ∷ after_at text next
  line_passed next passed = line_then (passed.after ∙ front_later LF (drop next text))

module _ (stage : Stage) (text : List ℕ) (at : ℕ) where
  -- no LF
  fault_endless : at < length text → after_at text at ≡ [] → Fault 16 stage (pieces LF (drop at text))
  fault_endless h e = let l = last_line text at h e in subst (Fault 16 stage) (sym l.is) (unended {stage = stage} {byte = l.byte} {bytes = l.bytes})

  -- a line that may not stand there
  fault_outside : at < length text → ((after : Stage) (p : List ℕ) (c : List ℤ) → Line stage (line_at text at) after p c → ⊥)
      → (TooMany stage (line_at text at) → ⊥) → Fault 16 stage (pieces LF (drop at text))
  fault_outside h no_line no-many = go (after_at text at) refl
    where
      go : (ls : List (List ℕ)) → after_at text at ≡ ls → Fault 16 stage (pieces LF (drop at text))
      go [] e = fault_endless h e
      go (next ∷ more) e = subst (Fault 16 stage) (sym (line_then text at e)) (outside no_line no-many)

-- one clause line too many
pub fault_many : {stage : Stage} {text : List ℕ} {at next : ℕ} → Passed text at next → TooMany stage (line_at text at)
    → Fault 17 stage (pieces LF (drop at text))
fault_many {stage} {text} {at} {next} passed t = subst (Fault 17 stage) (sym (line_passed text at next passed)) (many t)

-- The opening: comments and the problem line.
no_opening_line : {line : List ℕ} → (CommentLine line → ⊥) → ((n m : ℕ) → ProblemLine line n m → ⊥) → (after : Stage) (p : List ℕ) (c : List ℤ)
    → Line Opening line after p c → ⊥
no_opening_line comments problems after p c (a_comment x) = comments x
no_opening_line comments problems after p c (the_problem {line} {n} {m} x) = problems n m x

no_many_opening : {line : List ℕ} (s : Stage) → s ≡ Opening → TooMany s line → ⊥
no_many_opening s e (too_many {line} {entries} {n} {m} {k} q x) = let no : ◌≡◌ {A = ℕ} 0 1 = cc in omega arith

outside_opening : (text : List ℕ) (at : ℕ) → at < length text → NoOpening text at → Fault 16 Opening (pieces LF (drop at text))
outside_opening text at h (no_opening comments problems) = fault_outside Opening text at h (no_opening_line comments problems) (no_many_opening Opening refl)
outside_opening text at h (endless_line e) = fault_endless Opening text at h e

pub fault_opening : {stage : Stage} {text : List ℕ} {at : ℕ} → stage ≡ Opening → at < length text → NoOpening text at
    → Fault 16 stage (pieces LF (drop at text))
fault_opening {text = text} {at = at} q h strange = subst (λ (s : Stage). Fault 16 s (pieces LF (drop at text))) (sym q) (outside_opening text at h strange)

module _ {text : List ℕ} {at entries literals' : ℕ} {before : List ℕ × List ℤ} (few-e : entries ≤ at) (few-l : literals' ≤ at) where
  -- a line that adds nothing
  went_bare : {stage stage' : Stage} {next : ℕ} → stage ≡ Opening → Line Opening (line_at text at) stage' [] [] → Passed text at next
      → Went stage text at entries literals' before before stage' next entries literals'
  went_bare {stage' = stage'} q line passed =
      let place = passed.place in
      record {
        p = [];
        c = [];
        line = subst (λ (s : Stage). Line s (line_at text at) stage' [] []) (sym q) line;
        passed = passed;
        entries_counted = sym (add-zero entries);
        literals_counted = sym (add-zero literals');
        prefix_stored = refl;
        clauses_stored = refl;
        few_entries = omega arith;
        few_literals = omega arith;
      }

  pub went_comment : {stage : Stage} {next : ℕ} → stage ≡ Opening → CommentLine (line_at text at) × Passed text at next
      → Went stage text at entries literals' before before Opening next entries literals'
  went_comment q o = went_bare q (a_comment o.0) o.1

  pub went_problem : {stage : Stage} {n m next : ℕ} → stage ≡ Opening → ProblemLine (line_at text at) n m × Passed text at next
      → Went stage text at entries literals' before before (Body n m 0) next entries literals'
  went_problem q o = went_bare q (the_problem o.0) o.1

-- A line that begins with a mark.
module _ {text : List ℕ} {at mark i : ℕ} (marked : MarkAt text at mark i) where
  mark_goes : (R : Type 0) → ((word : List ℕ) → Goes word text at i → R) → R
  mark_goes R f = go marked
    where
      go : MarkAt text at mark i → R
      go (e_mark e g) = f (LETTER-E ∷ []) g
      go (a_mark e g) = f (LETTER-A ∷ []) g

  pub mark_on : at < i
  mark_on = mark_goes (at < i) (λ word g. g.on)

  mark_after : after_at text at ≡ after_at text i
  mark_after = mark_goes (after_at text at ≡ after_at text i) (λ word g. g.after)

  mark_past : past in_line text at ≡ past in_line text i
  mark_past = mark_goes (past in_line text at ≡ past in_line text i) (λ word g. g.line)

  mark_passed : (next : ℕ) → Passed text i next → Passed text at next
  mark_passed next z = record { after = mark_after ∙ z.after; place = z.place ∙ sym (ap (λ (w : ℕ). w + 1) mark_past); within = z.within }

  marked_line : (es : List ℕ) → entries_of variables (words_at text i) ≡ some es → QuantifierLine (line_at text at) (mark ∷ es)
  marked_line es r = go marked
    where
      go : MarkAt text at mark i → QuantifierLine (line_at text at) (mark ∷ es)
      go (e_mark e g) = subst (λ (m : ℕ). QuantifierLine (line_at text at) (m ∷ es)) (sym e) (e_line g.first (read_variables r))
      go (a_mark e g) = subst (λ (m : ℕ). QuantifierLine (line_at text at) (m ∷ es)) (sym e) (a_line g.first (read_variables r))

  marked_clause : (cs : List ℤ) → ClauseLine (line_at text at) cs → ⊥
  marked_clause cs line = go marked
    where
      go : MarkAt text at mark i → ⊥
      go (e_mark e g) = lettered_clause LETTER-E [] (words_at text i) g.first (omega arith) line
      go (a_mark e g) = lettered_clause LETTER-A [] (words_at text i) g.first (omega arith) line

  marked_none : entries_of variables (words_at text i) ≡ none → (bs : List ℕ) → QuantifierLine (line_at text at) bs → ⊥
  marked_none r bs line = go line marked
    where
      differ : {word : List ℕ} {more : List (List ℕ)} {es : List ℕ} → Goes word text at i → words_at text at ≡ word ∷ more
          → entries_of variables more ≡ some es → ⊥
      differ {word} {more} {es} g q s =
          let f = g.first in
          let m : words_at text i ≡ more = cc in
          let o : entries_of variables (words_at text i) ≡ some es = ap (entries_of variables) m ∙ s in
          let no : ◌≡◌ {A = ℕ} 0 1 = cc in
          omega arith

      other : {a b : ℕ} {more : List (List ℕ)} → Goes (a ∷ []) text at i → words_at text at ≡ (b ∷ []) ∷ more → a ≡ b
      other g q = let f = g.first in cc

      go : {bs : List ℕ} → QuantifierLine (line_at text at) bs → MarkAt text at mark i → ⊥
      go (e_line q s) (e_mark e g) = differ g q (variables_read s)
      go (e_line q s) (a_mark e g) = let no : LETTER-A ≡ LETTER-E = other g q in omega arith
      go (a_line q s) (e_mark e g) = let no : LETTER-E ≡ LETTER-A = other g q in omega arith
      go (a_line q s) (a_mark e g) = differ g q (variables_read s)

-- A line that does not.
pub unmarked_none : (text : List ℕ) (at : ℕ) → SpeltIs (LETTER-E ∷ []) text at None → SpeltIs (LETTER-A ∷ []) text at None → (bs : List ℕ)
    → QuantifierLine (line_at text at) bs → ⊥
unmarked_none text at no-e no-a bs (e_line {line} {entries} {more} q r) = no-e more q
unmarked_none text at no-e no-a bs (a_line {line} {entries} {more} q r) = no-a more q

-- The body: quantifier lines and clause lines.
no_body_line : {line : List ℕ} {n m k : ℕ} → ((bs : List ℕ) → k ≡ 0 → QuantifierLine line bs → ⊥) → ((cs : List ℤ) → ClauseLine line cs → ⊥)
    → (after : Stage) (p : List ℕ) (c : List ℤ) → Line (Body n m k) line after p c → ⊥
no_body_line blocks clauses after p c (a_block {line} {entries} z x) = blocks entries z x
no_body_line blocks clauses after p c (a_clause {line} {entries} h x) = clauses entries x

no_many_line : {stage : Stage} {line : List ℕ} → ((cs : List ℤ) → ClauseLine line cs → ⊥) → TooMany stage line → ⊥
no_many_line clauses (too_many {line} {entries} e x) = clauses entries x

module _ {text : List ℕ} {at n m k : ℕ} (h : at < length text) where
  -- a marked line after a clause line, and one whose entries are none
  pub fault_marked : {mark i : ℕ} → MarkAt text at mark i → (k ≡ 0 → ⊥) → Fault 16 (Body n m k) (pieces LF (drop at text))
  fault_marked marked late =
      let clauses = marked_clause marked in
      fault_outside (Body n m k) text at h (no_body_line (λ bs z x. late z) clauses) (no_many_line clauses)

  pub fault_block : {mark i : ℕ} → MarkAt text at mark i → NoRow variables text i → Fault 16 (Body n m k) (pieces LF (drop at text))
  fault_block marked (unread r) =
      let clauses = marked_clause marked in
      fault_outside (Body n m k) text at h (no_body_line (λ bs z x. marked_none marked r bs x) clauses) (no_many_line clauses)
  fault_block marked (endless_row e) = fault_endless (Body n m k) text at h (mark_after marked ∙ e)

  -- no clause line and no mark
  pub fault_clause : ((bs : List ℕ) → QuantifierLine (line_at text at) bs → ⊥) → NoRow literals text at → Fault 16 (Body n m k) (pieces LF (drop at text))
  fault_clause blocks (unread r) =
      fault_outside (Body n m k) text at h (no_body_line (λ bs z x. blocks bs x) (no_clause r)) (no_many_line (no_clause r))
    where
      no_clause : entries_of literals (words_at text at) ≡ none → (cs : List ℤ) → ClauseLine (line_at text at) cs → ⊥
      no_clause e cs (literals_line q) = let r = literals_read q in let no : ◌≡◌ {A = ℕ} 0 1 = cc in omega arith
  fault_clause blocks (endless_row e) = fault_endless (Body n m k) text at h e

  module _ {entries lits : ℕ} {before after : List ℕ × List ℤ} (few-e : entries ≤ at) (few-l : lits ≤ at) where
    pub went_block : {mark i next count : ℕ} → MarkAt text at mark i → k ≡ 0 → WholeBlock mark text i entries before.0 after.0 next count
        → after.1 ≡ before.1 → Went (Body n m k) text at entries lits before after (Body n m k) next count lits
    went_block {mark} {i} {next} marked z w same =
        let place = w.passed.place in
        let on = mark_on marked in
        record {
          p = mark ∷ w.entries;
          c = [];
          line = a_block z (marked_line marked w.entries w.read);
          passed = mark_passed marked next w.passed;
          entries_counted = w.counted;
          literals_counted = sym (add-zero lits);
          prefix_stored = w.stored;
          clauses_stored = same;
          few_entries = w.few;
          few_literals = omega arith;
        }

    pub went_clause : {k' next count : ℕ} → k' ≡ suc k → k < m → WholeRow literals text at lits before.1 after.1 next count → after.0 ≡ before.0
        → Went (Body n m k) text at entries lits before after (Body n m k') next entries count
    went_clause one more w same =
        let place = w.passed.place in
        let line = a_clause more (literals_line (read_literals w.read)) in
        record {
          p = [];
          c = w.entries;
          line = subst (λ (j : ℕ). Line (Body n m k) (line_at text at) (Body n m j) [] w.entries) (sym one) line;
          passed = w.passed;
          entries_counted = sym (add-zero entries);
          literals_counted = w.counted;
          prefix_stored = same;
          clauses_stored = w.stored;
          few_entries = omega arith;
          few_literals = w.few;
        }

-- The first byte but spaces is neither mark.
pub unmarked : (text : List ℕ) (at start : ℕ) → start ≡ past is_space text at → (get_or text start 0 ≡ LETTER-E → ⊥) → (get_or text start 0 ≡ LETTER-A → ⊥)
    → MarkIs text at None
unmarked text at start is no-e no-a = (spelt_unlike text at LETTER-E (λ e. no-e (read ∙ e)), spelt_unlike text at LETTER-A (λ e. no-a (read ∙ e)))
  where
    read : get_or text start 0 ≡ get_or text (past is_space text at) 0
    read = ap (λ (n : ℕ). get_or text n 0) is
