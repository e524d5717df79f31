-- For all x there is a y with x equal to y: x is 1, y is 2, and the clauses are "x or not y" and "not x or y". Settled by computing the two games.
use Prim.Native.Nat.{ℕ, suc}
use mathlib.Core.Path.{◌≡◌, refl, sym}
use mathlib.Core.Bool.{Bool, true, false, false≢true}
use mathlib.Core.List.Memᴰ
use mathlib.Core.List.{List, [], ◌∷◌, Memᴰ}
use native.Mathlib.Omega.{arith}
use lib.Dec.{eqb}
use lib.IntN.{ℤ, pos, negsuc}
use Rattle.terms.specs.Literals.{variable_of}
use Rattle.truth.specs.Strategies.{True}
use Rattle.truth.specs.Game.{put, Earlier, now, after, Distinct, Closed}
use Rattle.truth.proofs.Decisions.{each_of, none_of}
use Rattle.truth.proofs.Narrowing.{widen}
use Rattle.truth.proofs.Playing.{game_strategy, strategy_game}
use Rattle.truth.proofs.Computing.{satisfies, satisfies_all, tried, won, won_tells}

-- 2 is existential, and every other number is universal
abbrev pub second : ℕ → Bool
second v = eqb v 2

abbrev pub equal : List (List ℤ)
equal = (pos 1 ∷ negsuc 1 ∷ []) ∷ (negsuc 0 ∷ pos 2 ∷ []) ∷ []

closed : (turns : List ℕ) → Memᴰ 1 turns → Memᴰ 2 turns → Closed equal turns
closed turns one two =
    each_of (λ (clause : List ℤ). (l : ℤ) → Memᴰ l clause → Memᴰ (variable_of l) turns) (both (pos 1) (negsuc 1) one two)
    (each_of (λ (clause : List ℤ). (l : ℤ) → Memᴰ l clause → Memᴰ (variable_of l) turns) (both (negsuc 0) (pos 2) one two)
    (none_of (λ (clause : List ℤ). (l : ℤ) → Memᴰ l clause → Memᴰ (variable_of l) turns)))
  where
    both : (k m : ℤ) → Memᴰ (variable_of k) turns → Memᴰ (variable_of m) turns → (l : ℤ) → Memᴰ l (k ∷ m ∷ []) → Memᴰ (variable_of l) turns
    both k m p q =
        each_of (λ (l : ℤ). Memᴰ (variable_of l) turns) p
        (each_of (λ (l : ℤ). Memᴰ (variable_of l) turns) q (none_of (λ (l : ℤ). Memᴰ (variable_of l) turns)))

-- y may depend on x: the game in which x has its turn first is won.
pub seen : True second (λ x y. (x ≡ 1) × (y ≡ 2)) equal
unfolding satisfies satisfies_all tried won put
seen = widen only (game_strategy second equal turns (λ v. false) (closed turns (Memᴰ.head refl) (Memᴰ.tail (Memᴰ.head refl)))
    ((won_tells second equal turns (λ v. false)).0 refl))
  where
    turns : List ℕ
    turns = 1 ∷ 2 ∷ []

    only : (x y : ℕ) → second x ≡ false → second y ≡ true → Earlier x y (1 ∷ 2 ∷ []) → (x ≡ 1) × (y ≡ 2)
    only x y f e (now q m) = (sym q, Memᴰ.eq_of_singleton m)
    only x y f e (after (now q m)) = absurd (Memᴰ.not-nil m)
    only x y f e (after (after m)) = elim m [ ]

-- y may depend on nothing: not even the game in which y has its turn first would be won.
pub unseen : True second (λ x y. ⊥) equal → ⊥
unfolding satisfies satisfies_all tried won put
unseen t = false≢true ((won_tells second equal turns (λ v. false)).1
    (strategy_game second equal turns (closed turns (Memᴰ.tail (Memᴰ.head refl)) (Memᴰ.head refl)) (widen (λ x y f e m. absurd m) t) (λ v. false) distinct))
  where
    turns : List ℕ
    turns = 2 ∷ 1 ∷ []

    distinct : Distinct turns
    distinct = (λ m. let q : suc 1 ≡ 1 = Memᴰ.eq_of_singleton m in omega arith, (Memᴰ.not-nil, tt))
