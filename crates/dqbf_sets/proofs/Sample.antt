-- A small formula by hand: a 1 2, d 3 1, d 4 2, clauses {1 3} {3 4}. Of 1 the set has 3, whose list has 1, and not 4, whose list has not.
use Prim.Native.Nat.{ℕ, zero, suc}
use mathlib.Core.Path.{◌≡◌, refl, subst}
use mathlib.Core.List.Memᴰ
use mathlib.Core.List.{List, [], ◌∷◌, Memᴰ}
use mathlib.Core.Logic.{◌⊎◌, inl, inr, ⊎_elim}
use native.Mathlib.Omega.{arith}
use lib.IntN.{ℤ, pos}
use Rattle.formula.specs.Lent.{Formula, formula_of}
use Rattle.formula.specs.Tables.{cut, at}
use Rattle.formula.specs.Meaning.{blocks, clauses, opposite, denied, always_true, connected, is_universal, is_existential}
use Rattle.formula.specs.InnerLevels.{free_level}
use Rattle.forest_theory.specs.Reach.{here, step}
use Rattle.forest_tables.specs.Formula.{joined, Shares}
use Rattle.dqbf_lists.specs.Lists.{lists, Given, ListHas}
use Rattle.dqbf_sets.specs.Depends.{DependsOn}

abbrev es : List ℕ
es = 2 ∷ 1 ∷ 2 ∷ 0 ∷ []

abbrev ds : List ℕ
ds = 3 ∷ 1 ∷ 0 ∷ 4 ∷ 2 ∷ 0 ∷ []

abbrev ls : List ℤ
ls = pos 1 ∷ pos 3 ∷ pos 0 ∷ pos 3 ∷ pos 4 ∷ pos 0 ∷ []

abbrev formula : Formula
formula = formula_of 4 es ls

has_3 : ListHas 4 es ds 1 3
unfolding blocks free_level is_universal is_existential lists cut
has_3 =
    let given : Given ds 1 3 = record { universals = 1 ∷ []; listed = Memᴰ.head refl; has_x = Memᴰ.head refl } in
    record { existential = refl; listed = inr given }

shares_3 : Shares ls 1 3
unfolding joined clauses cut opposite denied always_true connected
shares_3 =
    record { clause = 1 ∷ 3 ∷ []; listed = Memᴰ.head refl; left = Memᴰ.head refl; right = Memᴰ.tail (Memᴰ.head refl) }

no_block : (e : ℕ) → at es e ≡ 4 → ⊥
no_block zero q = omega arith
no_block (suc zero) q = omega arith
no_block (suc (suc zero)) q = omega arith
no_block (suc (suc (suc zero))) q = omega arith
no_block (suc (suc (suc (suc e)))) q = omega arith

-- the list of 4 is 2
not_given_4 : Given ds 1 4 → ⊥
unfolding lists cut
not_given_4 g = ⊎_elim (λ q. let no : ◌≡◌ {A = ℕ} 4 3 = cc in omega arith) (λ m. second (Memᴰ.cases_cons m)) (Memᴰ.cases_cons g.listed)
  where
    second : (4 ∷ g.universals ≡ 4 ∷ 2 ∷ []) ⊎ Memᴰ (4 ∷ g.universals) [] → ⊥
    second (inl q) =
        let us : g.universals ≡ 2 ∷ [] = cc in
        let no : ◌≡◌ {A = ℕ} 1 2 = Memᴰ.eq_of_singleton (subst (Memᴰ 1) us g.has_x) in
        omega arith
    second (inr m) = Memᴰ.not-nil m

pub record Sampled : Type 0 where
  pub depends_3 : DependsOn formula ds 1 3
  pub not_4 : DependsOn formula ds 1 4 → ⊥

pub sampled : Sampled
sampled =
    record {
      depends_3 = record { listed = has_3; reached = step here shares_3 has_3 };
      not_4 = λ d. ⊎_elim (λ b. no_block b.0.0 b.0.2) not_given_4 d.listed.listed;
    }
