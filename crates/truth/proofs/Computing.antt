-- Whether the game is won is computed by trying both values at each turn, so that a small formula is settled by computing.
use Prim.Native.Nat.{ℕ}
use mathlib.Core.Path.{◌≡◌, refl, sym, ap, ◌∙◌}
use mathlib.Core.Bool.{Bool, true, false, ◌||◌, ◌&&◌, false≢true}
use mathlib.Core.List.Memᴰ
use mathlib.Core.List.{List, [], ◌∷◌, Memᴰ}
use mathlib.Core.Logic.{⊎_elim, ◌↔◌}
use lib.IntN.{ℤ}
use Rattle.forest_theory.proofs.Choice.{either, both, or_right}
use Rattle.formula_rules.proofs.Accepted.{both_true}
use Rattle.truth.specs.Strategies.{Assignment, Satisfied, AllSatisfied}
use Rattle.truth.specs.Game.{put, Turn, Game}
use Rattle.truth.proofs.Literals.{value_in}

-- A clause, and all of a list.
unfoldable pub satisfies : Assignment → List ℤ → Bool
satisfies a [] = false
satisfies a (l ∷ ls) = value_in a l || satisfies a ls

satisfies_tells : (a : Assignment) (clause : List ℤ) → (satisfies a clause ≡ true) ↔ Satisfied a clause
unfolding satisfies
satisfies_tells a clause = (there clause, λ s. back clause s.member s.holds)
  where
    there : (clause : List ℤ) → satisfies a clause ≡ true → Satisfied a clause
    there [] t = absurd (false≢true t)
    there (l ∷ ls) t = ⊎_elim (λ h. record { literal = l; member = Memᴰ.head refl; holds = h })
        (λ h. let s = there ls h in record { literal = s.literal; member = Memᴰ.tail s.member; holds = s.holds })
        (either (value_in a l) (satisfies a ls) t)

    back : (clause : List ℤ) {l : ℤ} → Memᴰ l clause → value_in a l ≡ true → satisfies a clause ≡ true
    back [] m h = absurd (Memᴰ.not-nil m)
    back (k ∷ ls) m h = ⊎_elim (λ q. ap (λ (b : Bool). b || satisfies a ls) (ap (value_in a) (sym q) ∙ h))
        (λ i. or_right (value_in a k) (satisfies a ls) (back ls i h)) (Memᴰ.cases_cons m)

unfoldable pub satisfies_all : Assignment → List (List ℤ) → Bool
satisfies_all a [] = true
satisfies_all a (clause ∷ clauses) = satisfies a clause && satisfies_all a clauses

all_tells : (a : Assignment) (clauses : List (List ℤ)) → (satisfies_all a clauses ≡ true) ↔ AllSatisfied a clauses
unfolding satisfies_all
all_tells a [] = (λ t clause m. absurd (Memᴰ.not-nil m), λ all. refl)
all_tells a (first ∷ clauses) = (
  λ t clause m. let (here, later) = both (satisfies a first) (satisfies_all a clauses) t in
      ⊎_elim (λ q. rw q ((satisfies_tells a first).0 here)) ((all_tells a clauses).0 later clause) (Memᴰ.cases_cons m),
  λ all. both_true ((satisfies_tells a first).1 (all first (Memᴰ.head refl)))
      ((all_tells a clauses).1 (λ clause m. all clause (Memᴰ.tail m))),
)

-- One turn, by what the rest comes to with either value.
unfoldable pub tried : Bool → Bool → Bool → Bool
tried true low high = low || high
tried false low high = low && high

tried_tells : (e low high : Bool) (rest : Bool → Type 0) → ((low ≡ true) ↔ rest false) → ((high ≡ true) ↔ rest true) → (tried e low high ≡ true) ↔ Turn e rest
unfolding tried
tried_tells true low high rest l h = (λ t. ⊎_elim (λ p. (false, l.0 p)) (λ p. (true, h.0 p)) (either low high t), λ r. by r.0 r.1)
  where
    by : (value : Bool) → rest value → (low || high) ≡ true
    by false r = ap (λ (b : Bool). b || high) (l.1 r)
    by true r = or_right low high (h.1 r)
tried_tells false low high rest l h = (λ t. by t, λ r. both_true (l.1 (r false)) (h.1 (r true)))
  where
    by : (low && high) ≡ true → (value : Bool) → rest value
    by t false = l.0 (both low high t).0
    by t true = h.0 (both low high t).1

-- The game.
unfoldable pub won : (ℕ → Bool) → List (List ℤ) → List ℕ → Assignment → Bool
won ex clauses [] a = satisfies_all a clauses
won ex clauses (v ∷ later) a = tried (ex v) (won ex clauses later (put v false a)) (won ex clauses later (put v true a))

pub won_tells : (ex : ℕ → Bool) (clauses : List (List ℤ)) (turns : List ℕ) (a : Assignment) → (won ex clauses turns a ≡ true) ↔ Game ex clauses turns a
unfolding won
won_tells ex clauses [] a = all_tells a clauses
won_tells ex clauses (v ∷ later) a =
    tried_tells (ex v) (won ex clauses later (put v false a)) (won ex clauses later (put v true a)) (λ b. Game ex clauses later (put v b a))
    (won_tells ex clauses later (put v false a)) (won_tells ex clauses later (put v true a))
