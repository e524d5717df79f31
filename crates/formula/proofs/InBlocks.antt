-- Level and quantifier by InBlock: in an accepted prefix the level of a variable is the number of the one block that it is in, and its quantifier that
-- block's; a variable in no block is free, and not universal.
use Prim.Native.Nat.{ℕ, zero, suc, ◌+◌}
use mathlib.Core.Path.{◌≡◌, refl, sym, ap, subst, ◌∙◌}
use mathlib.Core.Bool.{Bool, true, false, cond}
use mathlib.Core.List.{List, [], ◌∷◌}
use mathlib.Core.Logic.{◌⊎◌, inl, inr, by_cases}
use native.Mathlib.Decide.{ℕ_discrete, dec_le}
use native.Mathlib.Omega.{arith}
use lib.Dec.{eqb}
use lib.ListN.{get_or}
use Rattle.terms.proofs.Common.{clash}
use Rattle.formula.specs.Meaning.{blocks, mark_of, has, names, InBlock, number_from, universal_of, level, is_universal}
use Rattle.formula.specs.InnerLevels.{free_level}
use Rattle.formula.specs.InnerLevels.{SoundPrefix}
use Rattle.formula.proofs.Blocked.{Place, block_place, Once, named_once}

-- a block that names v is its mark and then variables with v among them
split : (block : List ℕ) (v : ℕ) → names block v ≡ true → (variables : List ℕ) × (block ≡ mark_of block ∷ variables) × (has variables v ≡ true)
split [] v t = absurd (clash t refl)
split (mark ∷ variables) v t = (variables, refl, t)

in_names : {bs : List (List ℕ)} {v k m : ℕ} (b : InBlock bs v k m) → (names (get_or bs b.before []) v ≡ true) × (mark_of (get_or bs b.before []) ≡ m)
in_names {bs} {v} {k} {m} b = (ap (λ (l : List ℕ). names l v) b.block ∙ b.named, ap mark_of b.block)

-- A variable of block k has a place with k marks before it.
pub place_of : (es : List ℕ) {v k m : ℕ} → InBlock (blocks es) v k m → Place es v k
place_of es {v} b = subst (λ (k : ℕ). Place es v k) (sym b.number) (block_place es v b.before (in_names b).0)

-- What the two recursions find: the first block that names v, or that none does.
pub data Found (bs : List (List ℕ)) (k free v found : ℕ) (universal : Bool) : Type 0 where
  in_one : (j : ℕ) → names (get_or bs j []) v ≡ true → found ≡ k + j → universal ≡ eqb (mark_of (get_or bs j [])) 2 → Found bs k free v found universal
  in_none : ((j : ℕ) → names (get_or bs j []) v ≡ false) → found ≡ free → universal ≡ false → Found bs k free v found universal

pub finds : (bs : List (List ℕ)) (k free v : ℕ) → Found bs k free v (number_from k bs free v) (universal_of bs v)
finds [] k free v = in_none (λ j. refl) refl refl
finds (block ∷ later) k free v = go (finds later (suc k) free v) (names block v) refl
  where
    go : {l : ℕ} {u : Bool} → Found later (suc k) free v l u → (b : Bool) → names block v ≡ b
        → Found (block ∷ later) k free v (cond b k l) (cond b (eqb (mark_of block) 2) u)
    go rest true t = in_one 0 t (omega arith) refl
    go (in_one j t l u) false f = in_one (suc j) t (let q : suc k + j ≡ k + suc j = omega arith in l ∙ q) u
    go (in_none none l u) false f = in_none each l u
      where
        each : (j : ℕ) → names (get_or (block ∷ later) j []) v ≡ false
        each zero = f
        each (suc j) = none j

-- two blocks that name v are one
same_block : (bs : List (List ℕ)) (v i j : ℕ) → Once bs v → names (get_or bs i []) v ≡ true → names (get_or bs j []) v ≡ true → i ≡ j
same_block bs v i j once a b =
    by_cases (ℕ_discrete i j) (λ q. q)
    (λ other. absurd (by_cases (dec_le i j) (λ l. once i j (omega arith) a b) (λ l. once j i (omega arith) b a)))

module _ {n : ℕ} {es : List ℕ} (sound : SoundPrefix n es) (v : ℕ) where
  pub of_block : {k m : ℕ} → InBlock (blocks es) v k m → (level es v ≡ k) × (is_universal es v ≡ eqb m 2)
  unfolding level is_universal free_level
  of_block {k} {m} b = go (finds (blocks es) 1 (free_level es) v)
    where
      go : {l : ℕ} {u : Bool} → Found (blocks es) 1 (free_level es) v l u → (l ≡ k) × (u ≡ eqb m 2)
      go (in_one j t l u) =
          let (named, mark) = in_names b in
          let same : j ≡ b.before = same_block (blocks es) v j b.before (named_once sound v) t named in
          let number = b.number in
          (omega arith, u ∙ ap (λ (i : ℕ). eqb (mark_of (get_or (blocks es) i [])) 2) same ∙ ap (λ (m : ℕ). eqb m 2) mark)
      go (in_none none l u) = absurd (clash (in_names b).0 (none b.before))

-- And back, of any prefix: v is in the block of its level, whose mark tells its quantifier; or it is in none, and free.
pub block_of : (es : List ℕ) (v : ℕ) → ((m : ℕ) × InBlock (blocks es) v (level es v) m × (is_universal es v ≡ eqb m 2))
    ⊎ (((k m : ℕ) → InBlock (blocks es) v k m → ⊥) × (level es v ≡ free_level es) × (is_universal es v ≡ false))
unfolding level is_universal free_level
block_of es v = go (finds (blocks es) 1 (free_level es) v)
  where
    go : {l : ℕ} {u : Bool} → Found (blocks es) 1 (free_level es) v l u → ((m : ℕ) × InBlock (blocks es) v l m × (u ≡ eqb m 2))
        ⊎ (((k m : ℕ) → InBlock (blocks es) v k m → ⊥) × (l ≡ free_level es) × (u ≡ false))
    go (in_one j t l u) =
        let (variables, is, named) = split (get_or (blocks es) j []) v t in
        let one : 1 + j ≡ suc j = omega arith in
        inl (mark_of (get_or (blocks es) j []), record { before = j; number = l ∙ one; variables = variables; block = is; named = named }, u)
    go (in_none none l u) = inr (λ k m b. clash (in_names b).0 (none b.before), l, u)
