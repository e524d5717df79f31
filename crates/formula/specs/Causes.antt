-- The causes of refusals 1 to 11, and of 13 for a clause number, line by line as the table of rule 8.1 has them, and the orders in which check and
-- the clause call look for them (rule 8.2).
use Rattle.std.specs.Prelude.{ℕ, suc, ◌<◌, ◌≤◌, ◌≡◌, List, [], ◌∷◌, ◌⊎◌, ◌≢◌, length, ℤ, pos}
use Rattle.terms.specs.Limits.{most_variables, most_blocks, prefix_entries, clause_entries}
use Rattle.terms.specs.Literals.{variable_of}
use Rattle.terms.specs.Refusals.{Causes, At0}
use Rattle.formula.specs.Meaning.{clauses}
use Rattle.formula.specs.Tables.{at, literal_at, MarkAt, VariableAt, CloseAt, NearestMark, marks_before, EndsInside}

-- 1: n over 4,096 (rule 1.1)
abbrev pub VariableCount : ℕ → Causes
VariableCount n = At0 1 (most_variables < n)

-- 2: prefix over 8,192 entries; clause table over 16,384
abbrev pub PrefixLong : List ℕ → Type 0
PrefixLong es = prefix_entries < length es

abbrev pub ClausesLong : ℕ → Type 0
ClausesLong entries = clause_entries < entries

-- so of what is lent to a call: a prefix, and beside it so many clause entries, 0 where the call takes none; or a clause table alone
abbrev pub LengthCause : List ℕ → ℕ → Causes
LengthCause es entries = At0 2 (PrefixLong es ⊎ ClausesLong entries)

abbrev pub ClausesLengthCause : List ℤ → Causes
ClausesLengthCause ls = At0 2 (ClausesLong (length ls))

-- 3 to 9, from the left
pub data PrefixCause (n : ℕ) (es : List ℕ) (number e : ℕ) : Type 0 where
  -- 3: prefix ends inside a block; place its length
  ends_inside : number ≡ 3 → e ≡ length es → EndsInside 0 es → PrefixCause n es number e
  -- 4: mark not 1 or 2
  no_mark : number ≡ 4 → MarkAt es e → at es e ≢ 1 → at es e ≢ 2 → PrefixCause n es number e
  -- 5: mark equals the block before
  same_mark : (b : ℕ) → number ≡ 5 → MarkAt es e → NearestMark es b e → at es b ≡ at es e → PrefixCause n es number e
  -- 6: mark of a 65th block
  too_many_blocks : number ≡ 6 → MarkAt es e → marks_before es e ≡ most_blocks → PrefixCause n es number e
  -- 7: prefix variable outside 1 to n
  outside : number ≡ 7 → VariableAt es e → n < at es e → PrefixCause n es number e
  -- 8: variable named before
  named_before : (b : ℕ) → number ≡ 8 → VariableAt es e → b < e → VariableAt es b → at es b ≡ at es e → PrefixCause n es number e
  -- 9: 0 directly after a mark
  empty_block : (b : ℕ) → number ≡ 9 → e ≡ suc b → MarkAt es b → CloseAt es e → PrefixCause n es number e

-- 10 and 11, from the left
pub data ClauseCause (n : ℕ) (ls : List ℤ) (number e : ℕ) : Type 0 where
  -- 10: literal's variable outside 1 to n (a 0 closes a clause)
  outside : number ≡ 10 → e < length ls → literal_at ls e ≢ pos 0 → n < variable_of (literal_at ls e) → ClauseCause n ls number e
  -- 11: clause table ends inside a clause; place its length
  ends_inside : number ≡ 11 → e ≡ length ls → EndsInside (pos 0) ls → ClauseCause n ls number e

-- 13: clause number not below the count
abbrev pub NumberCause : List ℤ → ℕ → Causes
NumberCause ls asked = At0 13 (length (clauses ls) ≤ asked)

-- the order of the clause call: 1, 2, clause literals from the left, 13
abbrev pub clause_order : ℕ → List ℤ → ℕ → List Causes
clause_order n ls asked = VariableCount n ∷ ClausesLengthCause ls ∷ ClauseCause n ls ∷ NumberCause ls asked ∷ []
