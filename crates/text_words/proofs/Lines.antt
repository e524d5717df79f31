-- The laws of lines and their words: what the word that stands next says of the words of the line.
use Prim.Native.Nat.{ℕ, zero, suc, ◌+◌, ◌<◌, ◌≤◌}
use mathlib.Core.Path.{◌≡◌, refl, sym, ap, ◌∙◌, subst, subst₂}
use mathlib.Core.Bool.{Bool, true, false, cond}
use mathlib.Core.List.{List, [], ◌∷◌}
use native.Mathlib.Omega.{arith}
use native.Mathlib.Nat.{zero-add, add-zero, suc-add, add_assoc}
use borrow.Author.Tests.{ltb-true, ltb-false, eqb-true, ne_eqb}
use lib.Dec.{eqb, ltb}
use lib.ListN.{length, take, drop, length-drop}
use lib.Seq.{slice, take-nil, drop-drop, length-take-le}
use Rattle.text_words.specs.declared.Word.{Word}
use Rattle.text_words.specs.declared.Word.TheVariants.{Found, End}
use Rattle.text_words.specs.InnerNumbers.{Number}
use Rattle.text_words.specs.Words.{LF, SPACE, onto, pieces, filled, words}
use Rattle.text_words.specs.InnerNumbers.{number_of}
use Rattle.text_words.specs.InnerPlaces.{leading, is_space, in_word, in_line, past, signed, bare, found_from, word_from, word_at, front, later, line_at, after_at}
use Rattle.text_words.specs.InnerPlaces.{words_at, Passed}
use Rattle.text_words.proofs.Leading.{leading_most}

-- A byte is a space, an LF or neither.
pub data Byte (b : ℕ) : Type 0 where
  space : eqb b SPACE ≡ true → eqb b LF ≡ false → Byte b
  feed : eqb b SPACE ≡ false → eqb b LF ≡ true → Byte b
  letter : eqb b SPACE ≡ false → eqb b LF ≡ false → Byte b

pub byte : (b : ℕ) → Byte b
byte b = go (eqb b SPACE) (eqb b LF) refl refl
  where
    go : (s l : Bool) → eqb b SPACE ≡ s → eqb b LF ≡ l → Byte b
    go true l s_is l_is = space s_is (ne_eqb b LF (λ h. let q = eqb-true b SPACE s_is in omega arith))
    go false true s_is l_is = feed s_is l_is
    go false false s_is l_is = letter s_is l_is

-- There is always a first piece.
pub front_later : (mark : ℕ) (xs : List ℕ) → pieces mark xs ≡ front (pieces mark xs) ∷ later (pieces mark xs)
unfolding pieces onto front later
front_later mark [] = refl
front_later mark (b ∷ bs) = go (eqb b mark) (pieces mark bs) (front_later mark bs)
  where
    go : (s : Bool) (ps : List (List ℕ)) → ps ≡ front ps ∷ later ps
        → cond s ([] ∷ ps) (onto b ps) ≡ front (cond s ([] ∷ ps) (onto b ps)) ∷ later (cond s ([] ∷ ps) (onto b ps))
    go true ps e = refl
    go false [] e = refl
    go false (p ∷ ps) e = refl

-- A byte in front of a piece.
pub front_onto : (b mark : ℕ) (xs : List ℕ) → front (onto b (pieces mark xs)) ≡ b ∷ front (pieces mark xs)
unfolding onto front
front_onto b mark xs = rw (front_later mark xs)

pub later_onto : (b mark : ℕ) (xs : List ℕ) → later (onto b (pieces mark xs)) ≡ later (pieces mark xs)
unfolding onto later
later_onto b mark xs = rw (front_later mark xs)

-- The bytes of a line are those before its LF.
pub line_length : (xs : List ℕ) → length (front (pieces LF xs)) ≡ leading in_line xs
unfolding pieces front leading
line_length [] = refl
line_length (b ∷ bs) =
    elim (byte b) as (λ d. length (front (pieces LF (b ∷ bs))) ≡ leading in_line (b ∷ bs)) [
      | space s l ↦ rw l (ap length (front_onto b LF bs) ∙ ap suc (line_length bs))
      | feed s l ↦ rw l
      | letter s l ↦ rw l (ap length (front_onto b LF bs) ∙ ap suc (line_length bs))
    ]

-- Bytes of a line that are passed, k of them: what follows the line is the same, and so is the line's end.
record Same (xs : List ℕ) (k : ℕ) : Type 0 where
  after : later (pieces LF xs) ≡ later (pieces LF (drop k xs))
  line : leading in_line xs ≡ k + leading in_line (drop k xs)

same_none : (xs : List ℕ) → Same xs 0
same_none xs = record { after = refl; line = sym (zero-add (leading in_line xs)) }

same_one : (b : ℕ) (bs : List ℕ) (k : ℕ) → eqb b LF ≡ false → Same bs k → Same (b ∷ bs) (suc k)
unfolding pieces leading
same_one b bs k l same =
    record {
      after = rw l (later_onto b LF bs ∙ same.after);
      line = rw l (ap suc same.line ∙ sym (suc-add k (leading in_line (drop k bs))));
    }

-- Spaces that lead: the words are the same.
record Gap (xs : List ℕ) (k : ℕ) : Type 0 where
  same : Same xs k
  words_same : words (front (pieces LF xs)) ≡ words (front (pieces LF (drop k xs)))

gap : (xs : List ℕ) → Gap xs (leading is_space xs)
unfolding pieces leading words filled
gap [] = record { same = same_none []; words_same = refl }
gap (b ∷ bs) =
    elim (byte b) as (λ d. Gap (b ∷ bs) (leading is_space (b ∷ bs))) [
      | space s l ↦
          rw s (record {
            same = same_one b bs (leading is_space bs) l (gap bs).same;
            words_same = rw l (ap words (front_onto b LF bs) ∙ rw s (gap bs).words_same);
          })
      | feed s l ↦ rw s (record { same = same_none (b ∷ bs); words_same = refl })
      | letter s l ↦ rw s (record { same = same_none (b ∷ bs); words_same = refl })
    ]

-- The bytes of a word: they are the first piece between spaces, and the words after it are those of what is left of the line.
record Run (xs : List ℕ) (k : ℕ) : Type 0 where
  same : Same xs k
  first : front (pieces SPACE (front (pieces LF xs))) ≡ take k xs
  rest : filled (later (pieces SPACE (front (pieces LF xs)))) ≡ words (front (pieces LF (drop k xs)))

run : (xs : List ℕ) → Run xs (leading in_word xs)
unfolding pieces leading words filled front later
run [] = record { same = same_none []; first = refl; rest = refl }
run (b ∷ bs) =
    elim (byte b) as (λ d. Run (b ∷ bs) (leading in_word (b ∷ bs))) [
      | space s l ↦
          rw s (record { same = same_none (b ∷ bs); first = rw l (rw (front_onto b LF bs) (rw s refl)); rest = rw l (rw (front_onto b LF bs) (rw s refl)) })
      | feed s l ↦ rw (s, l) (record { same = same_none (b ∷ bs); first = rw l refl; rest = rw l refl })
      | letter s l ↦
          rw (s, l) (record {
            same = same_one b bs (leading in_word bs) l (run bs).same;
            first = rw l (rw (front_onto b LF bs) (rw s (front_onto b SPACE (front (pieces LF bs)) ∙ ap (λ (w : List ℕ). b ∷ w) (run bs).first)));
            rest = rw l (rw (front_onto b LF bs) (rw s (ap filled (later_onto b SPACE (front (pieces LF bs))) ∙ (run bs).rest)));
          })
    ]

-- A word that is not empty is one of the words.
pub filled_some : (word : List ℕ) (more : List (List ℕ)) → 0 < length word → filled (word ∷ more) ≡ word ∷ filled more
unfolding filled
filled_some [] more h = let no : ⊥ = omega arith in absurd no
filled_some (b ∷ bs) more h = refl

-- After the spaces stands no space.
no_gap : (xs : List ℕ) → leading is_space (drop (leading is_space xs) xs) ≡ 0
unfolding leading
no_gap [] = refl
no_gap (b ∷ bs) =
    elim (byte b) as (λ d. leading is_space (drop (leading is_space (b ∷ bs)) (b ∷ bs)) ≡ 0)
    [ space s l ↦ rw s (no_gap bs) | feed s l ↦ rw s (rw s refl) | letter s l ↦ rw s (rw s refl) ]

-- Neither a space nor a word: the line's end.
record Ends (ys : List ℕ) : Type 0 where
  no_words : words (front (pieces LF ys)) ≡ []
  stop : leading in_line ys ≡ 0
  fed : 0 < length ys → later (pieces LF ys) ≡ pieces LF (drop 1 ys)
  over : length ys ≡ 0 → later (pieces LF ys) ≡ []

ends : (ys : List ℕ) → leading is_space ys ≡ 0 → leading in_word ys ≡ 0 → Ends ys
unfolding leading pieces front later words filled
ends [] g r = record { no_words = refl; stop = refl; fed = λ h. let no : ⊥ = omega arith in absurd no; over = λ h. refl }
ends (b ∷ bs) g r =
    elim (byte b) as (λ d. Ends (b ∷ bs)) [
      | space s l ↦ let no : ◌≡◌ {A = ℕ} (suc (leading is_space bs)) 0 = rw s at g in let no : ⊥ = omega arith in absurd no
      | feed s l ↦ record { no_words = rw l; stop = rw l; fed = λ h. rw l; over = λ h. let no : ⊥ = omega arith in absurd no }
      | letter s l ↦ let no : ◌≡◌ {A = ℕ} (suc (leading in_word bs)) 0 = rw (s, l) at r in let no : ⊥ = omega arith in absurd no
    ]

-- A part of a list by its ends, and by its start and its length.
slice_take : (f n : ℕ) (xs : List ℕ) → slice f (f + n) xs ≡ take n (drop f xs)
slice_take zero n xs = ap (λ (k : ℕ). take k xs) (zero-add n)
slice_take (suc f) n [] = rw (suc-add f n) (sym (take-nil n))
slice_take (suc f) n (x ∷ xs) = rw (suc-add f n) (slice_take f n xs)

-- At places of a text.
module _ (text : List ℕ) (at k : ℕ) (same : Same (drop at text) k) where
  after_at_lem : after_at text at ≡ after_at text (at + k)
  after_at_lem = same.after ∙ ap (λ (xs : List ℕ). later (pieces LF xs)) (drop-drop k at text)

  line_at_lem : past in_line text at ≡ past in_line text (at + k)
  line_at_lem =
      ap (λ (n : ℕ). at + n) (same.line ∙ ap (λ (xs : List ℕ). k + leading in_line xs) (drop-drop k at text))
      ∙ sym (add_assoc at k (leading in_line (drop (at + k) text)))

-- The word that stands next in a text: the first of the line's words.
pub record FoundIs (text : List ℕ) (at start end : ℕ) : Type 0 where
  pub first : words_at text at ≡ slice start end text ∷ words_at text end
  pub after : after_at text at ≡ after_at text end
  pub line : past in_line text at ≡ past in_line text end
  pub from : at ≤ start
  pub some : start < end
  pub within : end ≤ length text

-- No word stands next: the line has none left, and this is its end.
pub record EndIs (text : List ℕ) (at stop : ℕ) : Type 0 where
  pub none : words_at text at ≡ []
  pub line : stop ≡ past in_line text at
  pub from : at ≤ stop
  pub fed : stop < length text → Passed text at (stop + 1)
  pub over : length text ≤ stop → after_at text at ≡ []

module _ (text : List ℕ) (at : ℕ) where
  abbrev start : ℕ
  start = past is_space text at

  abbrev size : ℕ
  size = leading in_word (drop start text)

  gap_words : words_at text at ≡ words_at text start
  gap_words = (gap (drop at text)).words_same ∙ ap (λ (xs : List ℕ). words (front (pieces LF xs))) (drop-drop (leading is_space (drop at text)) at text)

  gap_after : after_at text at ≡ after_at text start
  gap_after = after_at_lem text at (leading is_space (drop at text)) (gap (drop at text)).same

  gap_line : past in_line text at ≡ past in_line text start
  gap_line = line_at_lem text at (leading is_space (drop at text)) (gap (drop at text)).same

  found_is : start < past in_word text start → FoundIs text at start (past in_word text start)
  unfolding words
  found_is h =
      let most = leading_most in_word (drop start text) in
      let left = length-drop start text in
      let long : length (take size (drop start text)) ≡ size = length-take-le size (drop start text) most in
      let r = run (drop start text) in
      record {
        first =
            gap_words ∙ ap filled (front_later SPACE (line_at text start))
            ∙ ap (λ (w : List ℕ). filled (w ∷ later (pieces SPACE (line_at text start)))) r.first
            ∙ filled_some (take size (drop start text)) (later (pieces SPACE (line_at text start))) (omega arith)
            ∙ ap (λ (w : List ℕ). w ∷ filled (later (pieces SPACE (line_at text start)))) (sym (slice_take start size text))
            ∙ ap (λ (ws : List (List ℕ)). slice start (start + size) text ∷ ws)
            (r.rest ∙ ap (λ (xs : List ℕ). words (front (pieces LF xs))) (drop-drop size start text));
        after = gap_after ∙ after_at_lem text start size r.same;
        line = gap_line ∙ line_at_lem text start size r.same;
        from = omega arith;
        some = h;
        within = omega arith;
      }

  end_is : past in_word text start ≤ start → EndIs text at start
  end_is h =
      let left = length-drop start text in
      let none_left : leading is_space (drop start text) ≡ 0 =
      sym (ap (leading is_space) (drop-drop (leading is_space (drop at text)) at text)) ∙ no_gap (drop at text) in
      let e = ends (drop start text) none_left (omega arith) in
      let line : start ≡ past in_line text at = sym (gap_line ∙ ap (λ (n : ℕ). start + n) e.stop ∙ add-zero start) in
      record {
        none = gap_words ∙ e.no_words;
        line = line;
        from = omega arith;
        fed =
            λ in-text.
            record {
              after = gap_after ∙ e.fed (omega arith) ∙ ap (pieces LF) (drop-drop 1 start text);
              place = ap (λ (n : ℕ). n + 1) line;
              within = omega arith;
            };
        over = λ past-text. gap_after ∙ e.over (omega arith);
      }

  -- what the word that was found says, and what the line's end does
  pub found_of : {s e : ℕ} {number : Number} {negative : Bool} {r : Word} → r ≡ word_at text at → r ≡ Found s e number negative → FoundIs text at s e
  unfolding word_at word_from
  found_of {s} {e} {number} {negative} w q = go (ltb start (past in_word text start)) refl (sym w ∙ q)
    where
      go : (t : Bool) → ltb start (past in_word text start) ≡ t
          → cond t (found_from text start (past in_word text start)) (End start) ≡ Found s e number negative → FoundIs text at s e
      go true t-is r =
          let p : start ≡ s = cc in
          let o : past in_word text start ≡ e = cc in
          subst₂ (λ (x y : ℕ). FoundIs text at x y) p o (found_is (ltb-true start (past in_word text start) t-is))
      go false t-is r = let no : ◌≡◌ {A = ℕ} 0 1 = cc in let no : ⊥ = omega arith in absurd no

  -- the number and the sign that come with a word are its own
  pub found_parts : {s e : ℕ} {number : Number} {negative : Bool} {r : Word} → r ≡ word_at text at → r ≡ Found s e number negative
      → (number_of (bare (slice s e text)) ≡ number) × (signed (slice s e text) ≡ negative)
  unfolding word_at word_from
  found_parts {s} {e} {number} {negative} w q = go (ltb start (past in_word text start)) (sym w ∙ q)
    where
      go : (t : Bool) → cond t (found_from text start (past in_word text start)) (End start) ≡ Found s e number negative
          → (number_of (bare (slice s e text)) ≡ number) × (signed (slice s e text) ≡ negative)
      go true r =
          let p : start ≡ s = cc in
          let o : past in_word text start ≡ e = cc in
          let n : number_of (bare (slice start (past in_word text start) text)) ≡ number = cc in
          let m : signed (slice start (past in_word text start) text) ≡ negative = cc in
          subst₂ (λ (x y : ℕ). (number_of (bare (slice x y text)) ≡ number) × (signed (slice x y text) ≡ negative)) p o (n, m)
      go false r = let no : ◌≡◌ {A = ℕ} 0 1 = cc in let no : ⊥ = omega arith in absurd no

  pub end_of : {s : ℕ} {r : Word} → r ≡ word_at text at → r ≡ End s → EndIs text at s
  unfolding word_at word_from
  end_of {s} w q = go (ltb start (past in_word text start)) refl (sym w ∙ q)
    where
      go : (t : Bool) → ltb start (past in_word text start) ≡ t → cond t (found_from text start (past in_word text start)) (End start) ≡ End s → EndIs text at s
      go true t-is r = let no : ◌≡◌ {A = ℕ} 0 1 = cc in let no : ⊥ = omega arith in absurd no
      go false t-is r =
          let p : start ≡ s = cc in
          subst (λ (x : ℕ). EndIs text at x) p (end_is (ltb-false start (past in_word text start) t-is))
