-- The laws of a word that is looked for: by its length and by its bytes.
use Rattle.std.specs.Prelude.{None}
use Prim.Native.Nat.{ℕ, suc, ◌+◌, ◌-◌, ◌<◌}
use mathlib.Core.Path.{◌≡◌, refl, sym, ap, ◌∙◌}
use mathlib.Core.Bool.{Bool, true, false, cond}
use mathlib.Core.List.{List, [], ◌∷◌}
use native.Mathlib.Nat.{add-zero}
use native.Mathlib.Omega.{arith}
use lib.Dec.{ltb}
use lib.ListN.{length, get_or, take}
use lib.Seq.{slice, slice_empty, slice-cons, length-slice, get_or-drop, get_or-take}
use Rattle.text_words.specs.declared.Word.TheVariants.{End}
use Rattle.text_words.specs.InnerPlaces.{words_at, past, is_space, in_word, found_from, word_at, word_from}
use Rattle.text_words.specs.InnerExpected.{Goes, SpeltIs}
use Rattle.text_words.proofs.Lines.{FoundIs, EndIs, found_of, end_of}

-- no word is left
pub spelt_end : {text : List ℕ} {at stop : ℕ} → EndIs text at stop → (word : List ℕ) (more : List (List ℕ)) → words_at text at ≡ word ∷ more → ⊥
spelt_end e word more q = let none = e.none in let no : ◌≡◌ {A = ℕ} 0 1 = cc in omega arith

module _ {text : List ℕ} {at start end : ℕ} (found : FoundIs text at start end) where
  -- the word that stands next is the one found
  pub goes : (word : List ℕ) → slice start end text ≡ word → Goes word text at end
  goes word is =
      record {
        first = found.first ∙ ap (λ (w : List ℕ). w ∷ words_at text end) is;
        after = found.after;
        line = found.line;
        on = let f = found.from in let s = found.some in omega arith;
        within = found.within;
      }

  pub only : (word : List ℕ) (more : List (List ℕ)) → words_at text at ≡ word ∷ more → slice start end text ≡ word
  only word more q = let first = found.first in cc

  -- of another length
  pub spelt_long : (word : List ℕ) → (end - start ≡ length word → ⊥) → SpeltIs word text at None
  spelt_long word differs more q = differs (sym (length-slice start end text found.within) ∙ ap length (only word more q))

  -- with another byte
  pub spelt_other : (word : List ℕ) (i : ℕ) → start + i < end → (get_or text (start + i) 0 ≡ get_or word i 0 → ⊥) → SpeltIs word text at None
  spelt_other word i h differs more q =
      differs (sym (get_or-drop start (take end text) i 0 ∙ get_or-take end text (start + i) 0 h) ∙ ap (λ (w : List ℕ). get_or w i 0) (only word more q))

  -- one letter, and three
  pub spelt_one : (a : ℕ) → end - start ≡ 1 → get_or text start 0 ≡ a → slice start end text ≡ a ∷ []
  spelt_one a size is =
      let s = found.some in
      let last : end ≡ suc start = omega arith in
      slice-cons start end text 0 found.some found.within ∙ ap (λ (k : ℕ). get_or text start 0 ∷ slice (suc start) k text) last
      ∙ ap (λ (w : List ℕ). get_or text start 0 ∷ w) (slice_empty (suc start) text) ∙ ap (λ (b : ℕ). b ∷ []) is

  pub spelt_three : (a b d : ℕ) → end - start ≡ 3 → get_or text start 0 ≡ a → get_or text (start + 1) 0 ≡ b → get_or text (start + 2) 0 ≡ d
      → slice start end text ≡ a ∷ b ∷ d ∷ []
  spelt_three a b d size first second third =
      let s = found.some in
      let w = found.within in
      let last : end ≡ suc (suc (suc start)) = omega arith in
      let one : start + 1 ≡ suc start = omega arith in
      let two : start + 2 ≡ suc (suc start) = omega arith in
      slice-cons start end text 0 (omega arith) w
      ∙ ap (λ (x : List ℕ). get_or text start 0 ∷ x) (slice-cons (suc start) end text 0 (omega arith) w)
      ∙ ap (λ (x : List ℕ). get_or text start 0 ∷ get_or text (suc start) 0 ∷ x) (slice-cons (suc (suc start)) end text 0 (omega arith) w)
      ∙ ap (λ (k : ℕ). get_or text start 0 ∷ get_or text (suc start) 0 ∷ get_or text (suc (suc start)) 0 ∷ slice (suc (suc (suc start))) k text) last
      ∙ ap (λ (x : List ℕ). get_or text start 0 ∷ get_or text (suc start) 0 ∷ get_or text (suc (suc start)) 0 ∷ x) (slice_empty (suc (suc (suc start))) text)
      ∙ ap (λ (x : ℕ). x ∷ get_or text (suc start) 0 ∷ get_or text (suc (suc start)) 0 ∷ []) first
      ∙ ap (λ (x : ℕ). a ∷ x ∷ get_or text (suc (suc start)) 0 ∷ []) (ap (λ (k : ℕ). get_or text k 0) (sym one) ∙ second)
      ∙ ap (λ (x : ℕ). a ∷ b ∷ x ∷ []) (ap (λ (k : ℕ). get_or text k 0) (sym two) ∙ third)

-- the first byte but spaces is another
pub spelt_unlike : (text : List ℕ) (at letter : ℕ) → (get_or text (past is_space text at) 0 ≡ letter → ⊥) → SpeltIs (letter ∷ []) text at None
unfolding word_at word_from
spelt_unlike text at letter differs = go (ltb start stop) refl
  where
    start : ℕ
    start = past is_space text at

    stop : ℕ
    stop = past in_word text start

    go : (t : Bool) → ltb start stop ≡ t → SpeltIs (letter ∷ []) text at None
    go true is =
        let f = found_of text at refl (ap (λ (t : Bool). cond t (found_from text start stop) (End start)) is) in
        spelt_other f (letter ∷ []) 0 (let more = f.some in omega arith) (λ e. differs (sym (ap (λ (n : ℕ). get_or text n 0) (add-zero start)) ∙ e))
    go false is = spelt_end (end_of text at refl (ap (λ (t : Bool). cond t (found_from text start stop) (End start)) is)) (letter ∷ [])
