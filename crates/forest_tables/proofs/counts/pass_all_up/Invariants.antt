-- The rows count what lies within each class by way of those that are named from entry i on (`Within`): going back through the prefix, each name
-- adds the count of its class to that of its parent, which stands in a lesser block and so further to the left.
use Prim.Native.Nat.{ℕ}
use mathlib.Core.List.{List}
use Rattle.formula.proofs.Ordered.{NamedFrom}
use Rattle.forest_theory.specs.Tables.{lent}
use Rattle.forest_theory.specs.InnerPassing.{WithinBy}
use Rattle.forest_tables.specs.Formula.{variables}
use Rattle.forest_tables.specs.InnerCounting.{Counting, FormedBy, MembersTo}
use Rattle.forest_tables.proofs.counts.pass_all_up.Given as goal

abbrev pub Within : ℕ → List ℕ → List ℕ → List ℕ → ℕ → List ℕ → Type 0
Within n es classes parents i = Counting (WithinBy (variables n es) (lent (variables n es) classes parents) (NamedFrom es i))

-- so for any classes with these parents that the table began with
abbrev pub AllWithin : ℕ → List ℕ → List ℕ → List ℕ → ℕ → List ℕ → Type 0
AllWithin n es parents before i table =
    (classes : List ℕ) → FormedBy n es classes parents → MembersTo n es classes parents n before → Within n es classes parents i table

abbrev pub invariant-loop-i : goal.invariant-loop-i
invariant-loop-i l = AllWithin l.n l.prefix l.parents l.initial.counts l.i l.counts
