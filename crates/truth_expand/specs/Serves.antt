-- What is asked of a list of members for expanding x by it (rule 12.1) to keep a formula's truth (rule 19.4).
use Rattle.std.specs.Prelude.{ℕ, ◌≡◌, true}
use mathlib.Core.List.{List, Memᴰ}
use Rattle.terms.specs.Listed.{Ascending}
use Rattle.formula.specs.Lent.{Formula}
use Rattle.formula.specs.Meaning.{is_existential}
use Rattle.truth_formula.specs.Holds.{MayDepend, Holds, HoldsWithinAt}

-- Members serve for x: they ascend, each is an existential that may depend on x, and the formula, if it holds, does so with x narrowed to them.
pub record Serves (f : Formula) (x : ℕ) (members : List ℕ) : Type 0 where
  pub ascending : Ascending members
  pub existential : (y : ℕ) → Memᴰ y members → is_existential f.n f.prefix y ≡ true
  pub may_depend : (y : ℕ) → Memᴰ y members → MayDepend f x y
  pub narrowed : Holds f → HoldsWithinAt x (λ y. Memᴰ y members) f
