-- An accepted prefix names each variable once, and only variables 1 to n: by what is left of it, entry by entry.
use Prim.Native.Nat.{ℕ, ◌≤◌}
use mathlib.Core.Path.{◌≡◌, refl, sym, ◌∙◌, ap}
use mathlib.Core.Bool.{Bool, true, false, cond}
use mathlib.Core.List.Memᴰ
use mathlib.Core.List.{List, [], ◌∷◌, ◌++◌, Memᴰ}
use mathlib.Core.Logic.{⊎_elim, ◌≢◌, by_cases}
use native.Mathlib.Decide.{ℕ_discrete}
use native.Mathlib.Omega.{arith}
use borrow.Author.Tests.{eq-eqb, ne_eqb}
use Rattle.terms.proofs.Common.{clash}
use Rattle.formula.specs.InnerLevels.{SoundPrefix}
use Rattle.formula.specs.Meaning.{has, blocks}
use Rattle.formula.specs.Tables.{cut, push}
use Rattle.formula_rules.proofs.Agreement.{also_accepted}
use Rattle.formula_rules.proofs.Passing.{Passes, no_more, begin, go_on, close_block, name, passes}
use Rattle.formula_rules.proofs.Rest.{blocks_cons}
use Rattle.formula_rules.proofs.Scanned.{mark_some}
use Rattle.truth.specs.Game.{Distinct}
use Rattle.truth_expand.proofs.Order.{order}

-- What is named: each once, one of 1 to n, and none of those that were named before.
pub record NamedOnce (n : ℕ) (before vs : List ℕ) : Type 0 where
  pub once : Distinct vs
  pub within : (v : ℕ) → Memᴰ v vs → (1 ≤ v) × (v ≤ n)
  pub fresh : (v : ℕ) → Memᴰ v vs → has before v ≡ false

-- What is left inside a block: the rest of the block, and then the others.
record Inside (n : ℕ) (before es : List ℕ) : Type 0 where
  block : List ℕ
  others : List (List ℕ)
  is : blocks es ≡ block ∷ others
  named : NamedOnce n before (block ++ order others)

abbrev Left : Bool → ℕ → List ℕ → List ℕ → Type 0
Left true n before es = NamedOnce n before (order (blocks es))
Left false n before es = Inside n before es

opened : {n : ℕ} {before more : List ℕ} (mark : ℕ) → mark ≢ 0 → Inside n before more → Left true n before (mark ∷ more)
unfolding order
opened {more = more} mark some s =
    let q : blocks (mark ∷ more) ≡ (mark ∷ s.block) ∷ s.others = blocks_cons mark more some ∙ ap (push mark) s.is in rw q s.named

not_before : (v w : ℕ) (before : List ℕ) → has (v ∷ before) w ≡ false → (w ≢ v) × (has before w ≡ false)
not_before v w before f = by_cases (ℕ_discrete v w)
    (λ q. absurd (clash (ap (λ (b : Bool). cond b true (has before w)) (eq-eqb v w q)) f))
    (λ k. ((λ q. k (sym q)), sym (ap (λ (b : Bool). cond b true (has before w)) (ne_eqb v w k)) ∙ f))

left_named : {n : ℕ} {opening : Bool} {last count : ℕ} {before es : List ℕ} → Passes n opening last count before es → Left opening n before es
unfolding blocks cut order
left_named no_more = record { once = tt; within = λ v i. absurd (Memᴰ.not-nil i); fresh = λ v i. absurd (Memᴰ.not-nil i) }
left_named (begin {mark} good new few d) = opened mark (mark_some mark good) (left_named d)
left_named (go_on {mark} good old d) = opened mark (mark_some mark good) (left_named d)
left_named (close_block {more = more} d) = record { block = []; others = blocks more; is = refl; named = left_named d }
left_named (name {v} {names = before} {more = more} some low new d) =
    let s = left_named d in
    let k = s.named in
    record {
      block = v ∷ s.block;
      others = s.others;
      is = blocks_cons v more some ∙ ap (push v) s.is;
      named = record {
        once = (λ i. (not_before v v before (k.fresh v i)).0 refl, k.once);
        within = λ w i. ⊎_elim (λ q. (omega arith, omega arith)) (k.within w) (Memᴰ.cases_cons i);
        fresh = λ w i. ⊎_elim (λ q. ap (has before) q ∙ new) (λ j. (not_before v w before (k.fresh w j)).1) (Memᴰ.cases_cons i);
      };
    }

pub named_once : {n : ℕ} {es : List ℕ} → SoundPrefix n es → NamedOnce n [] (order (blocks es))
named_once sound = left_named (passes (also_accepted sound.few sound.faultless))
