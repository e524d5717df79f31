-- The causes of refusals 25 and 26, and of 2 and 11 for a table of lists (rule 8.1), and the order of the check that takes lists (rule 8.2).
use Rattle.std.specs.Prelude.{ℕ, ◌<◌, ◌≡◌, false, List, [], ◌∷◌, ◌⊎◌, length}
use Rattle.terms.specs.Refusals.{Causes, At0}
use Rattle.formula.specs.Tables.{at, MarkAt, VariableAt, EndsInside}
use Rattle.formula.specs.Causes.{VariableCount, PrefixLong, ClausesLong, ClauseCause}
use Rattle.formula.specs.Lent.{Formula}
use Rattle.forest_tables.specs.Formula.{universal}
use Rattle.formula_rules.specs.Rules.{read_as, RuleCause, PrefixCauseBy}
use Rattle.dqbf_lists.specs.Lists.{list_entries, OneList, Bound}

-- 2: table of lists over 16,384 entries
abbrev pub ListsLong : ℕ → Type 0
ListsLong entries = list_entries < entries

-- 2, for a formula and a table of lists of so many entries: one of its three tables is too long
abbrev pub ListedLengthCause : Formula → ℕ → Causes
ListedLengthCause f entries = At0 2 (PrefixLong f.prefix ⊎ (ClausesLong (length f.clauses) ⊎ ListsLong entries))

-- 25, 26 and 11, from the left
pub data ListCause (n : ℕ) (es ds : List ℕ) (number e : ℕ) : Type 0 where
  -- 25: y out of range
  outside : number ≡ 25 → MarkAt ds e → (at ds e ≡ 0) ⊎ (n < at ds e) → ListCause n es ds number e
  -- 25: y already placed, in a block or with a list before
  in_block : number ≡ 25 → MarkAt ds e → Bound es (at ds e) → ListCause n es ds number e
  listed_before : (b : ℕ) → number ≡ 25 → MarkAt ds e → b < e → MarkAt ds b → at ds b ≡ at ds e → ListCause n es ds number e
  -- 26: an x that is not a universal
  no_universal : number ≡ 26 → VariableAt ds e → universal n es (at ds e) ≡ false → ListCause n es ds number e
  -- 26: an x that comes twice in its list
  twice : (b : ℕ) → number ≡ 26 → VariableAt ds e → OneList ds b e → VariableAt ds b → at ds b ≡ at ds e → ListCause n es ds number e
  -- 11: table of lists ends inside a list; place its length
  ends_inside : number ≡ 11 → e ≡ length ds → EndsInside 0 ds → ListCause n es ds number e

-- the order of the check that takes lists: 23, 1, 2, prefix from the left, clause literals from the left, lists from the left by the prefix as the
-- rule reads it
abbrev pub check_lists_order : ℕ → Formula → List ℕ → List Causes
check_lists_order rule f ds =
    RuleCause rule ∷ VariableCount f.n ∷ ListedLengthCause f (length ds) ∷ PrefixCauseBy rule f.n f.prefix
    ∷ ClauseCause f.n f.clauses ∷ ListCause f.n (read_as rule f.prefix) ds ∷ []
