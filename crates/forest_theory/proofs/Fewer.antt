-- Classes under more joins: none is new, so that a clause added leaves at most as many; and without clauses there are as many as existentials.
use Prim.Native.Nat.{ℕ, ◌≤◌}
use mathlib.Core.Path.{◌≡◌}
use mathlib.Core.Bool.{true}
use mathlib.Core.List.{List, [], ◌∷◌, ◌++◌}
use native.Mathlib.Nat.{le_antisymm}
use Rattle.forest_theory.specs.Reach.{Variables, Joined, here}
use Rattle.forest_theory.specs.InnerVariables.{Lawful}
use Rattle.forest_theory.specs.Tables.{Table, WellFormed, joins}
use Rattle.forest_theory.specs.Forest.{Names, Forest}
use Rattle.forest_theory.specs.InnerGrowth.{before}
use Rattle.forest_theory.specs.Counts.{how_many, names_itself}
use Rattle.forest_theory.proofs.Reach.{reach_along, joined_added}
use Rattle.forest_theory.proofs.Joins.{represents_itself}
use Rattle.forest_theory.proofs.Forest.{class_names, represents_forest}
use Rattle.forest_theory.proofs.Growth.{reach_none}
use Rattle.forest_theory.proofs.Numbered.{how_many_less}
use Rattle.forest_theory.proofs.Counts.{names_class}

module _ {X : Variables} where
  -- What names its class under more joins does so under fewer: with fewer joins, its class is part of that class.
  names_before : {J K : ℕ → ℕ → Type 0} {v : ℕ} → ((a b : ℕ) → J a b → K a b) → Names X K v v → Names X J v v
  names_before {J} {K} {v} more n =
      let m = n.member in
      record {
        member = record { left = m.left; right = m.right; block = m.block; reached = here };
        lowest = λ u o. n.lowest u (record { left = o.left; right = o.right; block = o.block; reached = reach_along more o.reached });
      }

  -- So a class name of the forest of more joins is one of the forest of fewer ...
  pub names_fall : {J K : ℕ → ℕ → Type 0} {W W' : Table} → ((a b : ℕ) → J a b → K a b) → Forest X J W → Forest X K W'
      → (v : ℕ) → names_itself X W' v ≡ true → names_itself X W v ≡ true
  names_fall more f g v t = names_class.1 ((class_names f.class).0 (names_before more ((class_names g.class).1 (names_class.0 t))))

  -- ... and there are no more of them: when a list gets longer ...
  pub fewer_longer : {cs : List (List ℕ)} (C : List ℕ) {W W' : Table} → Forest X (Joined cs) W → Forest X (Joined (cs ++ (C ∷ []))) W'
      → (n : ℕ) → how_many (names_itself X W') n ≤ how_many (names_itself X W) n
  fewer_longer C f g n = how_many_less (names_fall (λ a b j. (joined_added a b).1 (before j)) f g) n

  -- ... and when a clause is added to a table, wherever it comes from.
  pub fewer_added : (C : List ℕ) {W W' : Table} → Lawful X → WellFormed X W → Forest X (Joined (joins X W ++ (C ∷ []))) W'
      → (n : ℕ) → how_many (names_itself X W') n ≤ how_many (names_itself X W) n
  fewer_added C lawful formed g n = fewer_longer C (represents_forest (represents_itself lawful formed)) g n

-- A class name is existential, so there are at most as many as existentials ...
pub fewer_names : (X : Variables) (W : Table) (n : ℕ) → how_many (names_itself X W) n ≤ how_many X.ex n
fewer_names X W n = how_many_less (λ v t. (names_class.0 t).existential) n

-- ... and as many in the forest of no clause.
pub none_names : {X : Variables} {W : Table} → Forest X (Joined []) W → (n : ℕ) → how_many (names_itself X W) n ≡ how_many X.ex n
none_names {X} {W} f n = le_antisymm (fewer_names X W n)
    (how_many_less (λ v e. names_class.1 (record { existential = e; itself = reach_none (f.class v e).member.reached })) n)
