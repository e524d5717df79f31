-- The prefix of the result as it is written from the left: what is still to be written at each entry, that all of it is the expanded prefix, and where the pass stands.
use Prim.Native.Nat.{ℕ, zero, suc, ◌+◌, ◌*◌, ◌≤◌, ◌<◌}
use mathlib.Core.Path.{◌≡◌, refl, sym, ap, ◌∙◌}
use mathlib.Core.Bool.{Bool, true, false, cond}
use mathlib.Core.List.{List, [], ◌∷◌, ◌++◌, map, append_assoc}
use mathlib.Core.Logic.{◌≢◌}
use native.Mathlib.Decide.{ℕ_discrete}
use native.Mathlib.Numerals.{add-one}
use native.Mathlib.Omega.{arith}
use borrow.Author.Tests.{eq-eqb, ne_eqb}
use lib.Dec.{eqb}
use lib.ListN.{length, drop, drop_of_length-le, length-append}
use lib.Seq.{drop-cons}
use Rattle.std.specs.Prelude.{Option, None, Some}
use Rattle.formula.specs.InnerLevels.{SoundPrefix}
use Rattle.formula.specs.Meaning.{blocks}
use Rattle.formula.specs.Tables.{at, cut, push}
use Rattle.formula_rules.specs.Joined.{in_front, joined_blocks, table_of}
use Rattle.formula_rules.specs.InnerWriting.{closing}
use Rattle.formula_rules.proofs.Scanned.{mark_some}
use Rattle.formula_rules.proofs.Passing.{Passes, no_more, begin, go_on, close_block, name, passes}
use Rattle.terms.proofs.Common.{by_test}
use Rattle.formula_rules.proofs.Rest.{laid, laid_new, laid_same, blocks_cons}
use Rattle.formula_rules.proofs.Agreement.{also_accepted}
use Rattle.expand_clauses.specs.InnerCopies.{with_copy, placed, expanded_block, expanded_prefix}
use Rattle.expand_clauses.specs.InnerCopied.{Stored}
use Rattle.expand.specs.InnerWriting.{beginning}
use Rattle.expand_clauses.proofs.Storing.{stored_as, Onward, onward_as, onward_all, onward_more}
use Rattle.expand.proofs.Blocking.{closing_most, begin_none, begin_new}

module _ (x : ℕ) (copy : ℕ → ℕ) where
  -- What is still to be written for what is left of a prefix: by the mark of the block that is read, where one is, and by the mark of the block that is not
  -- closed yet, 0 if there is none.
  unfoldable pub left : Option ℕ → ℕ → List ℕ → List ℕ
  left block last [] = closing last
  left None last (entry ∷ more) = left (Some entry) last more
  left (Some mark) last (entry ∷ more) =
      cond (eqb entry 0) (left None last more)
      (cond (eqb entry x) (left (Some mark) last more) (beginning mark last ++ (with_copy copy entry ++ left (Some mark) mark more)))

  abbrev expanded : List (List ℕ) → List (List ℕ)
  expanded bs = joined_blocks (map (expanded_block x copy) bs)

  -- Behind its own mark a block goes on.
  laid_own : (mark : ℕ) (variables : List ℕ) (joined : List (List ℕ)) → mark ≢ 0 → laid mark (in_front (mark ∷ variables) joined) ≡ variables ++ laid mark joined
  unfolding in_front
  laid_own mark [] joined some = refl
  laid_own mark (v ∷ variables) joined some = laid_same mark v variables joined some

  -- a variable with its copy begins with the variable
  copy_tail : (v : ℕ) → (more : List ℕ) × (with_copy copy v ≡ v ∷ more)
  unfolding with_copy
  copy_tail v = by_test (eqb (copy v) 0) (λ t. ([], ap (λ b. cond b (v ∷ []) (v ∷ copy v ∷ [])) t)) (λ f. (copy v ∷ [], ap (λ b. cond b (v ∷ []) (v ∷ copy v ∷ [])) f))

  -- A variable that stays, in front of what is written of its block behind it.
  laid_variable : (mark last v : ℕ) (variables : List ℕ) (joined : List (List ℕ)) → mark ≢ 0
      → beginning mark last ++ (with_copy copy v ++ (variables ++ laid mark joined)) ≡ laid last (in_front (mark ∷ (with_copy copy v ++ variables)) joined)
  laid_variable mark last v variables joined some = go (ℕ_discrete mark last)
    where
      whole : with_copy copy v ++ (variables ++ laid mark joined) ≡ (with_copy copy v ++ variables) ++ laid mark joined
      whole = sym (append_assoc (with_copy copy v) variables (laid mark joined))

      go : Dec (mark ≡ last) → beginning mark last ++ (with_copy copy v ++ (variables ++ laid mark joined)) ≡ laid last (in_front (mark ∷ (with_copy copy v ++ variables)) joined)
      go (yes q) =
          ap (λ (r : List ℕ). r ++ (with_copy copy v ++ (variables ++ laid mark joined))) (begin_none mark last q) ∙ whole
          ∙ sym (laid_own mark (with_copy copy v ++ variables) joined some) ∙ ap (λ (l : ℕ). laid l (in_front (mark ∷ (with_copy copy v ++ variables)) joined)) q
      go (no other) =
          let (tail, is) = copy_tail v in
          ap (λ (r : List ℕ). r ++ (with_copy copy v ++ (variables ++ laid mark joined))) (begin_new mark last other)
          ∙ append_assoc (closing last) (mark ∷ []) (with_copy copy v ++ (variables ++ laid mark joined))
          ∙ ap (λ (r : List ℕ). closing last ++ (mark ∷ r)) (whole ∙ ap (λ (r : List ℕ). (r ++ variables) ++ laid mark joined) is)
          ∙ sym (ap (λ (r : List ℕ). laid last (in_front (mark ∷ (r ++ variables)) joined)) is ∙ laid_new last mark v (tail ++ variables) joined some other)

  -- Inside a block the first of what is left are its variables.
  record Inside (es : List ℕ) : Type 0 where
    variables : List ℕ
    later : List (List ℕ)
    is : blocks es ≡ variables ∷ later
    written : (mark last : ℕ) → mark ≢ 0 → left (Some mark) last es ≡ laid last (in_front (mark ∷ placed x copy variables) (expanded later))

  abbrev Left : Bool → List ℕ → Type 0
  Left true es = (last : ℕ) → left None last es ≡ laid last (expanded (blocks es))
  Left false es = Inside es

  named : (v : ℕ) (more : List ℕ) → v ≢ 0 → Inside more → Inside (v ∷ more)
  unfolding left placed
  named v more some s =
      record {
        variables = v ∷ s.variables;
        later = s.later;
        is = blocks_cons v more some ∙ ap (push v) s.is;
        written = λ mark last m.
            ap (λ b. cond b (left None last more) (cond (eqb v x) (left (Some mark) last more) (beginning mark last ++ (with_copy copy v ++ left (Some mark) mark more)))) (ne_eqb v 0 some)
            ∙ by_test (eqb v x) (gone mark last m) (stays mark last m);
      }
    where
      gone : (mark last : ℕ) → mark ≢ 0 → eqb v x ≡ true → cond (eqb v x) (left (Some mark) last more)
          (beginning mark last ++ (with_copy copy v ++ left (Some mark) mark more)) ≡ laid last
          (in_front (mark ∷ cond (eqb v x) (placed x copy s.variables) (with_copy copy v ++ placed x copy s.variables)) (expanded s.later))
      gone mark last m t =
          ap (λ b. cond b (left (Some mark) last more) (beginning mark last ++ (with_copy copy v ++ left (Some mark) mark more))) t ∙ s.written mark last m
          ∙ sym (ap (λ b. laid last (in_front (mark ∷ cond b (placed x copy s.variables) (with_copy copy v ++ placed x copy s.variables)) (expanded s.later))) t)

      stays : (mark last : ℕ) → mark ≢ 0 → eqb v x ≡ false → cond (eqb v x) (left (Some mark) last more)
          (beginning mark last ++ (with_copy copy v ++ left (Some mark) mark more)) ≡ laid last
          (in_front (mark ∷ cond (eqb v x) (placed x copy s.variables) (with_copy copy v ++ placed x copy s.variables)) (expanded s.later))
      stays mark last m f =
          ap (λ b. cond b (left (Some mark) last more) (beginning mark last ++ (with_copy copy v ++ left (Some mark) mark more))) f
          ∙ ap (λ (r : List ℕ). beginning mark last ++ (with_copy copy v ++ r)) (s.written mark mark m ∙ laid_own mark (placed x copy s.variables) (expanded s.later) m)
          ∙ laid_variable mark last v (placed x copy s.variables) (expanded s.later) m
          ∙ sym (ap (λ b. laid last (in_front (mark ∷ cond b (placed x copy s.variables) (with_copy copy v ++ placed x copy s.variables)) (expanded s.later))) f)

  opened : (m : ℕ) (more : List ℕ) → m ≢ 0 → Inside more → Left true (m ∷ more)
  unfolding left joined_blocks expanded_block
  opened m more some s =
      λ last. s.written m last some ∙ sym (ap (λ (bs : List (List ℕ)). laid last (expanded bs)) (blocks_cons m more some ∙ ap (push m) s.is))

  left_is : {n : ℕ} {opening : Bool} {last count : ℕ} {names es : List ℕ} → Passes n opening last count names es → Left opening es
  unfolding left laid joined_blocks blocks cut table_of closing expanded_block in_front placed
  left_is no_more = ending
    where
      ending : (last : ℕ) → closing last ≡ laid last []
      ending zero = refl
      ending (suc last) = refl
  left_is (begin {mark} {more = more} good new few d) = opened mark more (mark_some mark good) (left_is d)
  left_is (go_on {mark} {more = more} good old d) = opened mark more (mark_some mark good) (left_is d)
  left_is (close_block {more = more} d) = record { variables = []; later = blocks more; is = refl; written = λ mark last m. left_is d last }
  left_is (name {v} {more = more} some low new d) = named v more some (left_is d)

  -- So for a whole prefix.
  pub left_expanded : {n : ℕ} {es : List ℕ} → SoundPrefix n es → left None 0 es ≡ expanded_prefix x copy es
  unfolding expanded_prefix laid
  left_expanded sound = left_is (passes (also_accepted sound.few sound.faultless)) 0

-- the parts of a block are at most two entries each
begin_most : (mark last : ℕ) → length (beginning mark last) ≤ 2
begin_most mark last = go (ℕ_discrete mark last)
  where
    go : Dec (mark ≡ last) → length (beginning mark last) ≤ 2
    go (yes q) = omega (arith, ap length (begin_none mark last q))
    go (no other) = omega (arith, ap length (begin_new mark last other), length-append (closing last) (mark ∷ []), closing_most last)

copy_most : (copy : ℕ → ℕ) (v : ℕ) → length (with_copy copy v) ≤ 2
unfolding with_copy
copy_most copy v = by (eqb (copy v) 0)
  where
    by : (b : Bool) → length (cond b (v ∷ []) (v ∷ copy v ∷ [])) ≤ 2
    by true = omega arith
    by false = omega arith

-- The entries before i are passed, and what they give is stored.
pub record Laid (x : ℕ) (copy : ℕ → ℕ) (es out₀ : List ℕ) (i : ℕ) (block : Option ℕ) (last : ℕ) (out : List ℕ) (count : ℕ) : Type 0 where
  pub within : i ≤ length es
  pub few : count ≤ 4 * i
  pub on : Onward (left x copy None 0 es) out₀ 0 (left x copy block last (drop i es)) out count

module _ {x : ℕ} {copy : ℕ → ℕ} {es out₀ : List ℕ} {i : ℕ} {block : Option ℕ} {last : ℕ} {out : List ℕ} {count : ℕ} (s : Laid x copy es out₀ i block last out count) where
  module _ (more : i < length es) where
    here : {block' : Option ℕ} → block ≡ block' → left x copy block last (drop i es) ≡ left x copy block' last (at es i ∷ drop (suc i) es)
    here is = λ j. left x copy (is j) last (drop-cons es i 0 more j)

    pub laid_mark : block ≡ None → Laid x copy es out₀ (i + 1) (Some (at es i)) last out count
    unfolding left
    laid_mark none = rw (add-one i) record { within = more; few = omega (arith, s.few); on = onward_as s.on (here none) }

    module _ {mark : ℕ} (is : block ≡ Some mark) where
      inside : left x copy block last (drop i es) ≡ cond (eqb (at es i) 0) (left x copy None last (drop (suc i) es))
          (cond (eqb (at es i) x) (left x copy (Some mark) last (drop (suc i) es))
          (beginning mark last ++ (with_copy copy (at es i) ++ left x copy (Some mark) mark (drop (suc i) es))))
      unfolding left
      inside = here is

      pub laid_close : at es i ≡ 0 → Laid x copy es out₀ (i + 1) None last out count
      laid_close z =
          rw (add-one i)
          record {
            within = more;
            few = omega (arith, s.few);
            on = onward_as s.on
                (inside ∙ ap (λ b. cond b (left x copy None last (drop (suc i) es))
                (cond (eqb (at es i) x) (left x copy (Some mark) last (drop (suc i) es))
                (beginning mark last ++ (with_copy copy (at es i) ++ left x copy (Some mark) mark (drop (suc i) es))))) (eq-eqb (at es i) 0 z));
          }

      module _ (some : at es i ≢ 0) where
        variable : left x copy block last (drop i es) ≡ cond (eqb (at es i) x) (left x copy (Some mark) last (drop (suc i) es))
            (beginning mark last ++ (with_copy copy (at es i) ++ left x copy (Some mark) mark (drop (suc i) es)))
        variable =
            inside ∙ ap (λ b. cond b (left x copy None last (drop (suc i) es))
            (cond (eqb (at es i) x) (left x copy (Some mark) last (drop (suc i) es))
            (beginning mark last ++ (with_copy copy (at es i) ++ left x copy (Some mark) mark (drop (suc i) es))))) (ne_eqb (at es i) 0 some)

        pub laid_x : at es i ≡ x → Laid x copy es out₀ (i + 1) (Some mark) last out count
        laid_x q =
            rw (add-one i)
            record {
              within = more;
              few = omega (arith, s.few);
              on = onward_as s.on
                  (variable ∙ ap (λ b. cond b (left x copy (Some mark) last (drop (suc i) es))
                  (beginning mark last ++ (with_copy copy (at es i) ++ left x copy (Some mark) mark (drop (suc i) es)))) (eq-eqb (at es i) x q));
            }

        -- The block begins where it has not, and the variable follows with its copy.
        module _ {mid : List ℕ} {k : ℕ} (begun : Stored (beginning mark last) out mid count k) where
          pub begun_few : k ≤ 4 * i + 2
          begun_few = omega (arith, begun.count, begin_most mark last, s.few)

          pub laid_variable_on : {out' : List ℕ} {count' v : ℕ} → v ≡ at es i → at es i ≢ x → Stored (with_copy copy v) mid out' k count'
              → Laid x copy es out₀ (i + 1) (Some mark) mark out' count'
          laid_variable_on {out'} {count'} same other stored =
              let placed' = stored_as (ap (with_copy copy) same) stored in
              rw (add-one i)
              record {
                within = more;
                few = omega (arith, placed'.count, copy_most copy (at es i), begun_few);
                on = onward_more (with_copy copy (at es i)) (left x copy (Some mark) mark (drop (suc i) es))
                    (onward_more (beginning mark last) (with_copy copy (at es i) ++ left x copy (Some mark) mark (drop (suc i) es))
                    (onward_as s.on (variable ∙ ap (λ b. cond b (left x copy (Some mark) last (drop (suc i) es))
                    (beginning mark last ++ (with_copy copy (at es i) ++ left x copy (Some mark) mark (drop (suc i) es)))) (ne_eqb (at es i) x other)))
                    begun) placed';
              }

  -- At the end the last block is closed, and the expanded prefix stands in front.
  pub laid_all : {n : ℕ} {out' : List ℕ} {end : ℕ} → SoundPrefix n es → length es ≤ i → Stored (closing last) out out' count end → Stored (expanded_prefix x copy es) out₀ out' 0 end
  unfolding left
  laid_all sound done closed = stored_as (left_expanded x copy sound) (onward_all (onward_as s.on (ap (left x copy block last) (drop_of_length-le es done))) closed)
