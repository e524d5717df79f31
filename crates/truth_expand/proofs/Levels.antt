-- Levels and quantifiers by the order in which a prefix names its variables, none twice. Here alone it is looked at how they are defined.
use Prim.Native.Nat.{ℕ, suc, ◌≤◌, ◌<◌}
use mathlib.Core.Path.{◌≡◌, refl, sym, ◌∙◌, ap}
use mathlib.Core.Bool.{Bool, true, false, cond}
use mathlib.Core.List.{List, [], ◌∷◌, Memᴰ}
use mathlib.Core.Logic.{⊎_elim, ◌≢◌, by_cases}
use native.Mathlib.Decide.{ℕ_discrete}
use native.Mathlib.Omega.{arith}
use borrow.Author.Tests.{eq-eqb, ne_eqb}
use lib.Dec.{eqb}
use lib.ListN.{drop}
use Rattle.terms.proofs.Common.{clash}
use Rattle.formula.specs.Meaning.{blocks, has, names, mark_of, number_from, first_mark, universal_of, level, is_universal}
use Rattle.formula.specs.InnerLevels.{free_level}
use Rattle.forest_theory.proofs.Choice.{choice}
use Rattle.truth.specs.Game.{Earlier, Distinct}
use Rattle.truth.proofs.Decisions.{member?}
use Rattle.truth.proofs.Playing.{earlier_first, earlier_second, one_first}
use Rattle.truth_expand.proofs.Order.{order, Marked, mine, further, marked_in, distinct_apart, distinct_right, Parts, left, across, right, parts}

-- Whether a block names v.
has_in : {v : ℕ} {ws : List ℕ} → Memᴰ v ws → has ws v ≡ true
has_in {v} (mathlib.Core.List.Memᴰ.head {x = w} {xs = ws} q) = ap (λ (b : Bool). cond b true (has ws v)) (eq-eqb w v (sym q))
has_in {v} (mathlib.Core.List.Memᴰ.tail {x = w} {xs = ws} i) = choice (λ (b : Bool). b ≡ true) (eqb w v) (λ t. refl) (λ f. has_in i)

has_out : {v : ℕ} (ws : List ℕ) → (Memᴰ v ws → ⊥) → has ws v ≡ false
has_out [] n = refl
has_out {v} (w ∷ ws) n =
    ap (λ (b : Bool). cond b true (has ws v)) (ne_eqb w v (λ q. n (mathlib.Core.List.Memᴰ.head (sym q)))) ∙ has_out ws (λ i. n (mathlib.Core.List.Memᴰ.tail i))

names_in : {v : ℕ} (b : List ℕ) → Memᴰ v (drop 1 b) → names b v ≡ true
names_in [] i = absurd (mathlib.Core.List.Memᴰ.not-nil i)
names_in (m ∷ b) i = has_in i

names_out : {v : ℕ} (b : List ℕ) → (Memᴰ v (drop 1 b) → ⊥) → names b v ≡ false
names_out [] n = refl
names_out (m ∷ b) n = has_out b n

-- The number of a variable's block and its quantifier: for one that the first block names, for one that it does not name, and for one that none names.
module _ (b : List ℕ) (bs : List (List ℕ)) (v : ℕ) where
  number_here : (number free : ℕ) → Memᴰ v (drop 1 b) → number_from number (b ∷ bs) free v ≡ number
  number_here number free i = ap (λ (t : Bool). cond t number (number_from (suc number) bs free v)) (names_in b i)

  number_later : (number free : ℕ) → (Memᴰ v (drop 1 b) → ⊥) → number_from number (b ∷ bs) free v ≡ number_from (suc number) bs free v
  number_later number free n = ap (λ (t : Bool). cond t number (number_from (suc number) bs free v)) (names_out b n)

  quantifier_here : Memᴰ v (drop 1 b) → universal_of (b ∷ bs) v ≡ eqb (mark_of b) 2
  quantifier_here i = ap (λ (t : Bool). cond t (eqb (mark_of b) 2) (universal_of bs v)) (names_in b i)

  quantifier_later : (Memᴰ v (drop 1 b) → ⊥) → universal_of (b ∷ bs) v ≡ universal_of bs v
  quantifier_later n = ap (λ (t : Bool). cond t (eqb (mark_of b) 2) (universal_of bs v)) (names_out b n)

number_none : (bs : List (List ℕ)) (number free v : ℕ) → (Memᴰ v (order bs) → ⊥) → number_from number bs free v ≡ free
unfolding order
number_none [] number free v n = refl
number_none (b ∷ bs) number free v n =
    number_later b bs v number free (λ i. n (mathlib.Core.List.Memᴰ.append_left (order bs) i))
    ∙ number_none bs (suc number) free v (λ i. n (mathlib.Core.List.Memᴰ.append_right (drop 1 b) i))

quantifier_none : (bs : List (List ℕ)) (v : ℕ) → (Memᴰ v (order bs) → ⊥) → universal_of bs v ≡ false
unfolding order
quantifier_none [] v n = refl
quantifier_none (b ∷ bs) v n =
    quantifier_later b bs v (λ i. n (mathlib.Core.List.Memᴰ.append_left (order bs) i)) ∙ quantifier_none bs v (λ i. n (mathlib.Core.List.Memᴰ.append_right (drop 1 b) i))

-- A named variable has at least the number of the first block.
number_least : (bs : List (List ℕ)) (number free v : ℕ) → Distinct (order bs) → Memᴰ v (order bs) → number ≤ number_from number bs free v
unfolding order
number_least [] number free v d i = absurd (mathlib.Core.List.Memᴰ.not-nil i)
number_least (b ∷ bs) number free v d i = ⊎_elim
    (λ j. let here = number_here b bs v number free j in omega arith)
    (λ j. let more = number_least bs (suc number) free v (distinct_right (drop 1 b) (order bs) d) j in
    let same = number_later b bs v number free (λ h. distinct_apart (drop 1 b) d h j) in omega arith)
    (mathlib.Core.List.Memᴰ.append_cases (drop 1 b) i)

-- Of two that are named in this order, with different quantifiers, the first is of a lesser level.
earlier_less : {a c : ℕ} (bs : List (List ℕ)) (number free : ℕ) → Distinct (order bs) → Earlier a c (order bs)
    → universal_of bs a ≢ universal_of bs c → number_from number bs free a < number_from number bs free c
unfolding order
earlier_less [] number free d e n = absurd (mathlib.Core.List.Memᴰ.not-nil (earlier_second e))
earlier_less {a} {c} (b ∷ bs) number free d e n = go (parts (drop 1 b) e) (earlier_less bs (suc number) free (distinct_right (drop 1 b) (order bs) d))
  where
    here : {v : ℕ} → Memᴰ v (drop 1 b) → Memᴰ v (order bs) → ⊥
    here = distinct_apart (drop 1 b) d

    go : Parts a c (drop 1 b) (order bs)
        → (Earlier a c (order bs) → universal_of bs a ≢ universal_of bs c → number_from (suc number) bs free a < number_from (suc number) bs free c)
        → number_from number (b ∷ bs) free a < number_from number (b ∷ bs) free c
    go (left i j) on = absurd (n (quantifier_here b bs a i ∙ sym (quantifier_here b bs c j)))
    go (across i j) on =
        let p = number_here b bs a number free i in
        let q = number_later b bs c number free (λ h. here h j) in
        let more = number_least bs (suc number) free c (distinct_right (drop 1 b) (order bs) d) j in
        omega arith
    go (right r) on =
        let none_a : Memᴰ a (drop 1 b) → ⊥ = λ h. here h (earlier_first r) in
        let none_c : Memᴰ c (drop 1 b) → ⊥ = λ h. here h (earlier_second r) in
        let p = number_later b bs a number free none_a in
        let q = number_later b bs c number free none_c in
        let less = on r (λ same. n (quantifier_later b bs a none_a ∙ same ∙ sym (quantifier_later b bs c none_c))) in
        omega arith

-- What is named with a mark has its quantifier.
marked_quantifier : {m v : ℕ} (bs : List (List ℕ)) → Distinct (order bs) → Marked m v bs → universal_of bs v ≡ eqb m 2
unfolding order
marked_quantifier [] d k = absurd (mathlib.Core.List.Memᴰ.not-nil (marked_in k))
marked_quantifier {m} {v} (b ∷ bs) d (mine q i) = quantifier_here b bs v i ∙ ap (λ (k : ℕ). eqb k 2) q
marked_quantifier {m} {v} (b ∷ bs) d (further k) =
    quantifier_later b bs v (λ h. distinct_apart (drop 1 b) d h (marked_in k)) ∙ marked_quantifier bs (distinct_right (drop 1 b) (order bs) d) k

-- The same of a prefix.
module _ (es : List ℕ) (once : Distinct (order (blocks es))) where
  pub earlier_level : {a c : ℕ} → Earlier a c (order (blocks es)) → is_universal es a ≢ is_universal es c → level es a < level es c
  unfolding level is_universal free_level
  earlier_level e n = earlier_less (blocks es) 1 (free_level es) once e n

  pub level_earlier : {a c : ℕ} → Memᴰ a (order (blocks es)) → Memᴰ c (order (blocks es)) → is_universal es a ≢ is_universal es c
      → level es a < level es c → Earlier a c (order (blocks es))
  level_earlier i j n l =
      ⊎_elim (λ e. e) (λ e. let k = earlier_level e (λ q. n (sym q)) in absurd (omega arith)) (one_first (λ q. n (ap (is_universal es) q)) i j)

  pub marked_universal : {m v : ℕ} → Marked m v (blocks es) → is_universal es v ≡ eqb m 2
  unfolding is_universal
  marked_universal k = marked_quantifier (blocks es) once k

  pub unnamed_universal : {v : ℕ} → (Memᴰ v (order (blocks es)) → ⊥) → is_universal es v ≡ false
  unfolding is_universal
  unnamed_universal {v} n = quantifier_none (blocks es) v n

  -- A universal is named, and so is what stands behind one.
  pub universal_named : {v : ℕ} → is_universal es v ≡ true → Memᴰ v (order (blocks es))
  universal_named {v} u = by_cases (member? ℕ_discrete v (order (blocks es))) (λ i. i) (λ n. absurd (clash u (unnamed_universal n)))

  pub behind_named : (z : ℕ) {v : ℕ} → is_universal es z ≡ true → level es z < level es v → Memᴰ v (order (blocks es))
  unfolding level free_level
  behind_named z {v} u l = by_cases (member? ℕ_discrete v (order (blocks es))) (λ i. i)
      (λ n. let least = number_least (blocks es) 1 (free_level es) z once (universal_named u) in
      let free = number_none (blocks es) 1 (free_level es) v n in
      let few = most (eqb (first_mark (blocks es)) 1) in absurd (omega arith))
    where
      most : (b : Bool) → cond b 1 0 ≤ 1
      most true = omega arith
      most false = omega arith
