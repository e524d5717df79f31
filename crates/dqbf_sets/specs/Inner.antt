-- What the inner functions promise that find the set of a universal by dependency lists. What a reader must believe of the call is in Depends and Answers.
use Rattle.std.specs.Prelude.{ℕ, ◌≤◌, ◌<◌, ◌≡◌, Bool, true, List, [], ◌∷◌, ◌++◌, ◌⊎◌, ◌≢◌, ℤ, get_or, Ok, Err}
use Rattle.terms.specs.Says.{Answer, Verdict}
use Rattle.terms.specs.Answers.{Listing}
use Rattle.terms.specs.Limits.{most_variables}
use Rattle.terms.specs.Refusals.{Causes}
use Rattle.terms.specs.declared.Scheme.{Scheme}
use Rattle.formula.specs.Lent.{Formula}
use Rattle.forest_theory.specs.Reach.{Reach}
use Rattle.forest_theory.specs.Tables.{row}
use Rattle.forest_tables.specs.Formula.{Shares}
use Rattle.forest_tables.specs.InnerTabled.{existential_in}
use Rattle.forest.specs.Causes.{AskedCause, OutputCause}
use Rattle.dqbf_lists.specs.Lists.{ListHas}
use Rattle.dqbf_lists.specs.Inner.{GivenAt}
use Rattle.dqbf_lists.specs.Causes.{ListCause}
use Rattle.dqbf_sets.specs.Depends.{DependsOnBy}

-- what is looked for behind the formula, where its prefix is read as es: lists from the left, 13
abbrev pub behind_formula : ℕ → List ℕ → List ℕ → ℕ → List Causes
behind_formula n es ds x = ListCause n es ds ∷ AskedCause n es x ∷ []

-- what the call promises of an accepted formula: the set of x by a scheme, with the lists, 13 and 14 left to refuse
abbrev pub SetBehind : Scheme → Formula → List ℕ → ℕ → List ℕ → List ℕ → Answer ℕ → Type 0
SetBehind scheme f ds x before =
    Listing (behind_formula f.n f.prefix ds x ++ (OutputCause (DependsOnBy scheme f ds x) before ∷ [])) (DependsOnBy scheme f ds x) before

-- a row is 1 where P holds of v, and 0 where it does not
abbrev pub Told : (ℕ → Type 0) → ℕ → ℕ → Type 0
Told P v r = ((r ≡ 1) × P v) ⊎ ((r ≡ 0) × (P v → ⊥))

abbrev pub ToldRows : (ℕ → Type 0) → ℕ → List ℕ → Type 0
ToldRows P n rows = (v : ℕ) → Told P v (row n rows v)

-- by the level table v is an existential deeper than the level `floor`
abbrev pub Over : ℕ → List ℕ → List Bool → ℕ → ℕ → Type 0
Over n levels universals floor v = (existential_in n universals v ≡ true) × (floor < get_or levels v 0)

-- rows to which the existentials are added whose own lists have x
abbrev pub WithGiven : List ℕ → ℕ → ℕ → List ℕ → List ℕ → Type 0
WithGiven ds x n old new = (v : ℕ) → ((row n new v ≡ 1) × GivenAt ds x v) ⊎ ((row n new v ≡ row n old v) × (GivenAt ds x v → ⊥))

-- where nothing is refused the rows tell whose list has x
abbrev pub OpensRows : ℕ → List ℕ → List ℕ → ℕ → List ℕ → Verdict → Type 0
OpensRows n es ds x rows (Ok _) = ToldRows (ListHas n es ds x) n rows
OpensRows n es ds x rows (Err refusal) = Unit {0}

-- every row is 1 or 0
abbrev pub Flat : ℕ → List ℕ → Type 0
Flat n rows = (v : ℕ) → (row n rows v ≡ 1) ⊎ (row n rows v ≡ 0)

-- The rows name classes of the variables of which E holds, and no other has one: two are in one class exactly if one is reached from the other.
pub record Classed (n : ℕ) (E : ℕ → Type 0) (ls : List ℤ) (rows : List ℕ) : Type 0 where
  pub small : (v : ℕ) → row n rows v ≤ most_variables
  pub there : (w v : ℕ) → row n rows w ≡ row n rows v → row n rows v ≢ 0 → E w × Reach (Shares ls) E w v
  pub back : (w v : ℕ) → E w → Reach (Shares ls) E w v → (row n rows w ≡ row n rows v) × (row n rows v ≢ 0)
