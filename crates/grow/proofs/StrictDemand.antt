-- Demand 3, second sentence, for strict sets and strict entry points; its premise speaks of the old standard set.
use Rattle.std.specs.Prelude.{Ok}
use Prim.Native.Nat.{ℕ}
use mathlib.Core.Path.{◌≡◌, sym, subst}
use mathlib.Core.Bool.{Bool, true}
use mathlib.Core.List.{List}
use mathlib.Core.Logic.Iff
use mathlib.Core.Logic.{◌↔◌}
use lib.IntN.{ℤ}
use Rattle.formula.specs.Lent.{Formula, formula_of}
use Rattle.formula.specs.Meaning.{connected}
use Rattle.formula_rules.specs.Rules.{read_as, read_by}
use Rattle.terms.specs.declared.Scheme.TheVariants.{Strict}
use Rattle.forest_tables.specs.Formula.{variables, universal, Shares, SharesBy}
use Rattle.forest.specs.Answers.{EntriesBy, MembersBy, DependsBy}
use Rattle.forest_tables.proofs.Agreeing.{lawful}
use Rattle.forest.proofs.Demands.{universal_alone}
use Rattle.forest_entries.proofs.Sides.{shares_some}
use Rattle.forest.proofs.Strict.{shares_last}
use Rattle.forest_theory.specs.Reach.{Variables, Joined, StrictlyDepends}
use Rattle.forest_theory.specs.Growth.{LeavesAlone}
use Rattle.forest_theory.proofs.Strict.{strict_members, strict_stays, strict_entries_stay}
use Rattle.grow.specs.Grown.{Standing, Builds, Adds, with_last}
use Rattle.grow.proofs.Appended.{clauses_last, joined_last}
use Rattle.grow.proofs.Demand3.{extends, accepted, first, added_forest}

-- A prefix as a rule reads it, with n.
module _ (rule n : ℕ) (es : List ℕ) where
  abbrev read : List ℕ
  read = read_as rule es

  abbrev X : Variables
  X = variables n read

  -- the formula of a clause table, and as the rule reads it
  abbrev with : List ℤ → Formula
  with ls = formula_of n es ls

  abbrev as_read : List ℤ → Formula
  as_read ls = read_by rule (with ls)

  module _ {ls clause : List ℤ} {s s' s'' : Standing} {k m : ℕ}
      (built : Builds rule (with ls) s s' (Ok k)) (added : Adds rule n es s' clause s'' (Ok m)) {x : ℕ} (alone : LeavesAlone X (Shares ls) (connected clause) x) where
    starts : (sign : Bool) (z : ℕ) → SharesBy ls sign x z → Shares ls x z
    starts sign z = shares_some sign

    -- What shares a clause with a literal of x stays, since the clause has no x.
    same : (sign : Bool) (z : ℕ) → SharesBy ls sign x z ↔ SharesBy (with_last ls clause) sign x z
    same = shares_last clause (clauses_last (accepted rule n es built added) (first rule n es built added)) alone.itself

    -- Where the clause has neither x nor any variable of its standard set, what depends on x strictly stays ...
    pub adding_strictly : {y : ℕ} → DependsBy Strict (as_read ls) x y ↔ DependsBy Strict (as_read (with_last ls clause)) x y
    adding_strictly {y} =
        subst (λ (ds : List (List ℕ)). StrictlyDepends X (SharesBy ls) (Shares ls) x y ↔ StrictlyDepends X (SharesBy (with_last ls clause)) (Joined ds) x y)
        (sym (joined_last (accepted rule n es built added) (first rule n es built added))) (strict_stays alone starts same)

    module _ (u : universal n read x ≡ true) where
      -- ... so does its strict set, by the tables and clauses before and after ...
      pub adding_strict_set : {y : ℕ} → MembersBy Strict (as_read ls) s'.rows x y ↔ MembersBy Strict (as_read (with_last ls clause)) s''.rows x y
      adding_strict_set =
          let is = universal_alone n read x u in
          Iff.trans (Iff.symm (strict_members (lawful n read) built.leaves.1.forest is))
          (Iff.trans adding_strictly (strict_members (lawful n read) (added_forest rule n es built added) is))

      -- ... and so do its strict entry points.
      pub adding_strict_entries : {e : ℕ} → EntriesBy Strict (as_read ls) s'.rows x e ↔ EntriesBy Strict (as_read (with_last ls clause)) s''.rows x e
      adding_strict_entries =
          strict_entries_stay alone starts same (lawful n read)
          built.leaves.1.forest (extends rule n es (connected clause) built.leaves.1.forest added.leaves.1.forest) (universal_alone n read x u)
