-- The two reading rules for prefixes (rule 6.1, rule 6.2): the prefix as each reads it, its causes of refusal, with places in the prefix as lent
-- (rule 6.4), and the order of a call that takes a rule number (rule 8.2).
use Rattle.std.specs.Prelude.{ℕ, suc, ◌<◌, ◌≡◌, Bool, true, false, cond, List, [], ◌∷◌, ◌≢◌, eqb, length, take}
use Rattle.terms.specs.Limits.{most_blocks}
use Rattle.terms.specs.Refusals.{Causes, At0}
use Rattle.formula.specs.Meaning.{blocks, mark_of}
use Rattle.formula.specs.Tables.{at, MarkAt, VariableAt, EndsInside}
use Rattle.formula.specs.Causes.{VariableCount, LengthCause, PrefixCause, ClauseCause}
use Rattle.formula.specs.Lent.{Formula, formula_of}
use Rattle.formula_rules.specs.Joined.{joined_blocks, joined_prefix}

-- The blocks of a prefix by a rule: rule 1 takes them as they are cut, rule 2 drops and joins. Levels and quantifiers are those of these blocks.
unfoldable pub blocks_by : ℕ → List ℕ → List (List ℕ)
blocks_by rule es = cond (eqb rule 2) (joined_blocks (blocks es)) (blocks es)

-- The table that carries them, for definitions and functions that take a prefix: its blocks are those by the rule, so that levels and quantifiers by
-- this table are those of blocks_by (proofs/Blocks).
unfoldable pub read_as : ℕ → List ℕ → List ℕ
read_as rule es = cond (eqb rule 2) (joined_prefix es) es

-- the blocks before entry e, dropped and joined
abbrev pub joined_before : List ℕ → ℕ → List (List ℕ)
joined_before es e = joined_blocks (blocks (take e es))

-- the mark of the last of some blocks, 0 where there is none
abbrev pub end_mark : List (List ℕ) → ℕ
end_mark [] = 0
end_mark (block ∷ []) = mark_of block
end_mark (block ∷ next ∷ later) = end_mark (next ∷ later)

-- The mark at entry e begins a block, once empty ones are dropped and neighbours joined: 0 does not directly follow it, and the last block before
-- has another mark.
pub record BlockBegins (es : List ℕ) (e : ℕ) : Type 0 where
  pub full : suc e < length es → at es (suc e) ≢ 0
  pub another : end_mark (joined_before es e) ≢ at es e

-- 3 to 8 under rule 2, from the left; 5 and 9 are not given (rule 8.1)
pub data JoinedCause (n : ℕ) (es : List ℕ) (number e : ℕ) : Type 0 where
  -- 3: prefix ends inside a block; place its length
  ends_inside : number ≡ 3 → e ≡ length es → EndsInside 0 es → JoinedCause n es number e
  -- 4: mark not 1 or 2
  no_mark : number ≡ 4 → MarkAt es e → at es e ≢ 1 → at es e ≢ 2 → JoinedCause n es number e
  -- 6: mark of a 65th block, counted after dropping and joining
  too_many_blocks : number ≡ 6 → MarkAt es e → BlockBegins es e → length (joined_before es e) ≡ most_blocks → JoinedCause n es number e
  -- 7: prefix variable outside 1 to n
  outside : number ≡ 7 → VariableAt es e → n < at es e → JoinedCause n es number e
  -- 8: variable named before
  named_before : (b : ℕ) → number ≡ 8 → VariableAt es e → b < e → VariableAt es b → at es b ≡ at es e → JoinedCause n es number e

-- the causes in a prefix by the rule: those above where the rule joins, else those of the prefix as it stands
abbrev pub causes_if : Bool → ℕ → List ℕ → Causes
causes_if false n es = PrefixCause n es
causes_if true n es = JoinedCause n es

abbrev pub PrefixCauseBy : ℕ → ℕ → List ℕ → Causes
PrefixCauseBy rule n es = causes_if (eqb rule 2) n es

-- 23: rule number neither 1 nor 2
abbrev pub NoRule : ℕ → Type 0
NoRule rule = (rule ≢ 1) × (rule ≢ 2)

abbrev pub RuleCause : ℕ → Causes
RuleCause rule = At0 23 (NoRule rule)

-- the order of a prefix alone under a rule, beside which so many clause entries are lent: 23 before all others, 1, 2, prefix from the left
abbrev pub ruled_prefix : ℕ → ℕ → List ℕ → ℕ → List Causes
ruled_prefix rule n es entries = RuleCause rule ∷ VariableCount n ∷ LengthCause es entries ∷ PrefixCauseBy rule n es ∷ []

-- a formula as a rule reads it: its prefix as the rule reads that, and all else as it is lent
abbrev pub read_by : ℕ → Formula → Formula
read_by rule f = formula_of f.n (read_as rule f.prefix) f.clauses

-- the order of check under a rule: 23, 1, 2, prefix from the left, clause literals from the left
abbrev pub check_order : ℕ → Formula → List Causes
check_order rule f =
    RuleCause rule ∷ VariableCount f.n ∷ LengthCause f.prefix (length f.clauses) ∷ PrefixCauseBy rule f.n f.prefix
    ∷ ClauseCause f.n f.clauses ∷ []
