-- What is in a block: the pass that flags it, and that every universal is.
use Prim.Native.Nat.{ℕ, ◌<◌, ◌+◌}
use mathlib.Core.Path.{◌≡◌, sym, ◌∙◌}
use mathlib.Core.Bool.{Bool, true, false}
use mathlib.Core.List.{List}
use mathlib.Core.Logic.{⊎_elim, ◌≢◌}
use native.Mathlib.Numerals.{add-one}
use native.Mathlib.Omega.{arith}
use borrow.Author.Tests.{eq-eqb, ne_eqb}
use lib.ListN.{length, set}
use Rattle.terms.proofs.Common.{clash}
use Rattle.formula.specs.Tables.{at, opens}
use Rattle.formula.specs.Meaning.{is_universal}
use Rattle.formula.specs.InnerLevels.{SoundPrefix}
use Rattle.formula.proofs.InBlocks.{place_of, block_of}
use Rattle.formula.proofs.Levelling.{mark_there, variable_small}
use Rattle.formula.proofs.Named.{Named, named_skip, named_more}
use Rattle.dqbf_lists.specs.Lists.{Bound}

-- The flags tell what is named before entry i.
pub record Placing (es : List ℕ) (i : ℕ) (opening : Bool) (placed : List Bool) : Type 0 where
  pub opening_is : opening ≡ opens es i
  pub naming : Named es i placed

module _ {n : ℕ} {es : List ℕ} (sound : SoundPrefix n es) {i : ℕ} {opening : Bool} {placed : List Bool} (s : Placing es i opening placed)
    (more : i < length es) where
  pub place_mark : opening ≡ true → Placing es (i + 1) false placed
  place_mark open' =
      let here = sym s.opening_is ∙ open' in
      rw (add-one i)
      record {
        opening_is = sym (ne_eqb (at es i) 0 (mark_there sound i more here));
        naming = named_skip s.naming (λ var. clash here var.1);
      }

  pub place_close : opening ≡ false → at es i ≡ 0 → Placing es (i + 1) true placed
  place_close shut none =
      rw (add-one i)
      record { opening_is = sym (eq-eqb (at es i) 0 none); naming = named_skip s.naming (λ var. var.2 none) }

  -- a variable of an accepted prefix has a row
  pub place_small : opening ≡ false → at es i ≢ 0 → at es i < 4097
  place_small shut some = variable_small sound i more (sym s.opening_is ∙ shut) some

  pub place_variable : opening ≡ false → at es i ≢ 0 → Placing es (i + 1) opening (set placed (at es i) true)
  place_variable shut some =
      let small = place_small shut some in
      rw (add-one i)
      record {
        opening_is = shut ∙ sym (ne_eqb (at es i) 0 some);
        naming = named_more s.naming (more, sym s.opening_is ∙ shut, some) (omega arith);
      }

-- A universal is in a block, and so at a place of it.
pub universal_named : (es : List ℕ) (v : ℕ) → is_universal es v ≡ true → Bound es v
universal_named es v u =
    ⊎_elim (λ b. let (e, there, is, marks) = place_of es b.1 in (e, there, is)) (λ none. absurd (clash u none.2)) (block_of es v)
