-- What the check of a formula with dependency lists promises (rule 8.2, rule 13.1).
use Rattle.std.specs.Prelude.{ℕ, List}
use Rattle.terms.specs.Refusals.{Judged}
use Rattle.terms.specs.Says.{Verdict}
use Rattle.formula.specs.Lent.{Formula}
use Rattle.dqbf_lists.specs.Causes.{check_lists_order}

-- the verdict is that of the first cause in its order, under the rule
abbrev pub ListsChecked : ℕ → Formula → List ℕ → Verdict → Type 0
ListsChecked rule f ds = Judged (check_lists_order rule f ds)
