-- The laws of the lines before the body: comments and the problem line.
use Rattle.std.specs.Prelude.{None}
use Prim.Native.Nat.{ℕ, suc, ◌+◌, ◌<◌, ◌≤◌}
use mathlib.Core.Path.{◌≡◌, refl, sym, ap, ◌∙◌}
use mathlib.Core.Bool.{false}
use mathlib.Core.List.{List, [], ◌∷◌}
use native.Mathlib.Omega.{arith}
use lib.Dec.{eqb}
use lib.ListN.{length, get_or, drop, length-drop}
use lib.Seq.{drop-cons, drop-drop}
use Rattle.text_words.specs.Words.{LF, LETTER-C, LETTER-F, LETTER-N, LETTER-P, pieces, words, Spells}
use Rattle.text_lines.specs.Format.{CommentLine, comment, ProblemLine, p_cnf}
use Rattle.text_words.specs.InnerPlaces.{leading, past, in_line, front, later, line_at, after_at, words_at, Passed, Open, words_left, no_feed}
use Rattle.text_words.specs.InnerExpected.{Goes, SpeltIs, Counts, CountedIs}
use Rattle.text_lines.specs.InnerSteps.{NoOpening, no_opening, endless_line, NoComment}
use Rattle.text_words.proofs.Spelled.{number_of_lem, spells}
use Rattle.text_words.proofs.Lines.{Byte, byte, space, feed, letter, front_onto, later_onto}

-- The line at a place, by its first byte.
first_byte : (b : ℕ) (bs : List ℕ) → eqb b LF ≡ false → front (pieces LF (b ∷ bs)) ≡ b ∷ front (pieces LF bs)
unfolding pieces
first_byte b bs l = rw l (front_onto b LF bs)

pub comment_line : (text : List ℕ) (at : ℕ) → at < length text → get_or text at 0 ≡ LETTER-C → CommentLine (line_at text at)
comment_line text at h e =
    comment
    (ap (λ (xs : List ℕ). front (pieces LF xs)) (drop-cons text at 0 h ∙ ap (λ (b : ℕ). b ∷ drop (suc at) text) e)
    ∙ first_byte LETTER-C (drop (suc at) text) refl)

pub no_comment_line : (text : List ℕ) (at : ℕ) → at < length text → (get_or text at 0 ≡ LETTER-C → ⊥) → NoComment text at
unfolding pieces front
no_comment_line text at h other (comment {line} {bytes} is) =
    go (byte (get_or text at 0)) (sym (ap (λ (xs : List ℕ). front (pieces LF xs)) (drop-cons text at 0 h)) ∙ is)
  where
    starts : eqb (get_or text at 0) LF ≡ false → front (pieces LF (get_or text at 0 ∷ drop (suc at) text)) ≡ LETTER-C ∷ bytes → ⊥
    starts l q = let f = first_byte (get_or text at 0) (drop (suc at) text) l in other cc

    go : Byte (get_or text at 0) → front (pieces LF (get_or text at 0 ∷ drop (suc at) text)) ≡ LETTER-C ∷ bytes → ⊥
    go (space s l) q = starts l q
    go (feed s l) q = let r : ◌≡◌ {A = List ℕ} [] (LETTER-C ∷ bytes) = rw l at q in let no : ◌≡◌ {A = ℕ} 0 1 = cc in omega arith
    go (letter s l) q = starts l q

-- The line's LF: the next line stands after it, if there is one.
fed : (xs : List ℕ) → leading in_line xs < length xs → later (pieces LF xs) ≡ pieces LF (drop (suc (leading in_line xs)) xs)
unfolding pieces leading later
fed [] h = let no : ⊥ = omega arith in absurd no
fed (b ∷ bs) h =
    elim (byte b) as (λ d. leading in_line (b ∷ bs) < suc (length bs) → later (pieces LF (b ∷ bs)) ≡ pieces LF (drop (leading in_line (b ∷ bs)) bs)) [
      | space s l ↦ rw l (λ k. later_onto b LF bs ∙ fed bs (omega arith))
      | feed s l ↦ rw l (λ k. refl)
      | letter s l ↦ rw l (λ k. later_onto b LF bs ∙ fed bs (omega arith))
    ] h

unfed : (xs : List ℕ) → length xs ≤ leading in_line xs → later (pieces LF xs) ≡ []
unfolding pieces leading later
unfed [] h = refl
unfed (b ∷ bs) h =
    elim (byte b) as (λ d. suc (length bs) ≤ leading in_line (b ∷ bs) → later (pieces LF (b ∷ bs)) ≡ []) [
      | space s l ↦ rw l (λ k. later_onto b LF bs ∙ unfed bs (omega arith))
      | feed s l ↦ rw l (λ k. let no : ⊥ = omega arith in absurd no)
      | letter s l ↦ rw l (λ k. later_onto b LF bs ∙ unfed bs (omega arith))
    ] h

module _ (text : List ℕ) (at : ℕ) where
  pub passed_line : past in_line text at < length text → Passed text at (past in_line text at + 1)
  passed_line h =
      let left = length-drop at text in
      let next : at + suc (leading in_line (drop at text)) ≡ past in_line text at + 1 = omega arith in
      record {
        after = fed (drop at text) (omega arith) ∙ ap (pieces LF) (drop-drop (suc (leading in_line (drop at text))) at text ∙ ap (λ (k : ℕ). drop k text) next);
        place = refl;
        within = omega arith;
      }

  pub unpassed_line : length text ≤ past in_line text at → after_at text at ≡ []
  unpassed_line h = let left = length-drop at text in unfed (drop at text) (omega arith)

-- The words of a problem line.
record ProblemWords (line : List ℕ) (n m : ℕ) : Type 0 where
  number : List ℕ
  count : List ℕ
  are : words line ≡ (LETTER-P ∷ []) ∷ (LETTER-C ∷ LETTER-N ∷ LETTER-F ∷ []) ∷ number ∷ count ∷ []
  number_is : Spells number n
  count_is : Spells count m

problem_words : {line : List ℕ} {n m : ℕ} → ProblemLine line n m → ProblemWords line n m
problem_words (p_cnf {line} {number} {count} e n_is m-is) = record { number = number; count = count; are = e; number_is = n_is; count_is = m-is }

abbrev pub p_word : List ℕ
p_word = LETTER-P ∷ []

abbrev pub cnf_word : List ℕ
cnf_word = LETTER-C ∷ LETTER-N ∷ LETTER-F ∷ []

-- The problem line word by word: where it is none, and where it ends.
module _ (text : List ℕ) (at : ℕ) (plain : NoComment text at) where
  pub no_p : SpeltIs p_word text at None → NoOpening text at
  no_p missing = no_opening plain (λ n m line. let q = problem_words line in missing (cnf_word ∷ q.number ∷ q.count ∷ []) q.are)

  module _ {i : ℕ} (p : Goes p_word text at i) where
    pub no_cnf : SpeltIs cnf_word text i None → NoOpening text at
    no_cnf missing =
        no_opening plain (λ n m line.
        let q = problem_words line in
        let a = q.are in
        let f = p.first in
        missing (q.number ∷ q.count ∷ []) cc)

    module _ {j : ℕ} (cnf : Goes cnf_word text i j) where
      -- what a problem line has after its first two words
      after_cnf : (n m : ℕ) → (line : ProblemLine (line_at text at) n m) → words_at text j ≡ (problem_words line).number ∷ (problem_words line).count ∷ []
      after_cnf n m line =
          let a = (problem_words line).are in
          let f = p.first in
          let g = cnf.first in
          cc

      pub no_number : CountedIs text j None → NoOpening text at
      no_number missing =
          no_opening plain (λ n m line.
          let q = problem_words line in
          missing q.number (q.count ∷ []) n (after_cnf n m line) (number_of_lem q.number_is))

      module _ {n k : ℕ} (number : Counts text j n k) where
        after_number : (n m : ℕ) → (line : ProblemLine (line_at text at) n m) → words_at text k ≡ (problem_words line).count ∷ []
        after_number n m line =
            let a = after_cnf n m line in
            let f = number.goes.first in
            cc

        pub no_count : CountedIs text k None → NoOpening text at
        no_count missing =
            no_opening plain (λ n m line.
            let q = problem_words line in
            missing q.count [] m (after_number n m line) (number_of_lem q.count_is))

        module _ {m l : ℕ} (count : Counts text k m l) where
          line_after : after_at text at ≡ after_at text l
          line_after = p.after ∙ cnf.after ∙ number.goes.after ∙ count.goes.after

          line_past : past in_line text at ≡ past in_line text l
          line_past = p.line ∙ cnf.line ∙ number.goes.line ∙ count.goes.line

          pub no_end : Open text l → NoOpening text at
          no_end (words_left left) =
              no_opening plain (λ n m line.
              let a = after_number n m line in
              let f = count.goes.first in
              let no : ◌≡◌ {A = ℕ} 0 1 = cc in
              omega arith)
          no_end (no_feed none) = endless_line (line_after ∙ none)

          pub problem_line : words_at text l ≡ [] → ProblemLine (line_at text at) n m
          problem_line none =
              let f = p.first in
              let g = cnf.first in
              let x = number.goes.first in
              let y = count.goes.first in
              p_cnf {line = line_at text at} {number = number.word} {count = count.word} (cc) (spells number.is) (spells count.is)

          pub problem_passed : (next : ℕ) → Passed text l next → Passed text at next
          problem_passed next z = record { after = line_after ∙ z.after; place = z.place ∙ sym (ap (λ (w : ℕ). w + 1) line_past); within = z.within }
