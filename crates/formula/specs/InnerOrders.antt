-- Inner: the orders of a prefix, and of a formula, with no reading rule. What a reader must believe are the orders of the calls.
use Rattle.std.specs.Prelude.{ℕ, List, [], ◌∷◌, length, ℤ}
use Rattle.terms.specs.Refusals.{Causes}
use Rattle.formula.specs.Causes.{VariableCount, LengthCause, PrefixCause, ClauseCause}

-- the order of a prefix alone, beside which so many clause entries are lent: 1, 2, prefix from the left
abbrev pub prefix_order : ℕ → List ℕ → ℕ → List Causes
prefix_order n es entries = VariableCount n ∷ LengthCause es entries ∷ PrefixCause n es ∷ []

-- the order of check: 1, 2, prefix from the left, clause literals from the left
abbrev pub check_order : ℕ → List ℕ → List ℤ → List Causes
check_order n es ls = VariableCount n ∷ LengthCause es (length ls) ∷ PrefixCause n es ∷ ClauseCause n ls ∷ []
