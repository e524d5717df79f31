-- Inner: how the scan of a prefix judges one mark, and one variable, and what that of a clause table finds. Nobody needs to believe this: the
-- causes stand in Causes, and a proof ties the two.
use Rattle.std.specs.Prelude.{ℕ, ◌+◌, ◌≤◌, ◌<◌, ◌≡◌, Bool, true, false, List, ◌⊎◌, ◌≢◌, ℤ, length, get_or, set}
use Rattle.std.specs.Prelude.{Ok, Err}
use Rattle.terms.specs.Says.{Answer}
use Rattle.terms.specs.Limits.{most_blocks}
use Rattle.terms.specs.Literals.{variable_of}
use Rattle.formula.specs.Tables.{at, literal_at}

-- 1 existential, 2 universal
abbrev pub IsMark : ℕ → Type 0
IsMark entry = (entry ≡ 1) ⊎ (entry ≡ 2)

-- The number of what is wrong with an entry as the mark of the next block, or 0: `before` is the mark of the block before, 0 if there is none, and
-- `count` blocks stand already.
pub data MarkFault (entry before count number : ℕ) : Type 0 where
  fine : number ≡ 0 → IsMark entry → entry ≢ before → count ≢ most_blocks → MarkFault entry before count number
  no_mark : number ≡ 4 → entry ≢ 1 → entry ≢ 2 → MarkFault entry before count number
  same_mark : number ≡ 5 → IsMark entry → entry ≡ before → MarkFault entry before count number
  too_many : number ≡ 6 → IsMark entry → entry ≢ before → count ≡ most_blocks → MarkFault entry before count number

-- The number of what is wrong with an entry as the next variable of a block, or 0: then it is named beside those that are.
pub data NameFault (n entry : ℕ) (named named' : List Bool) (number : ℕ) : Type 0 where
  fresh : number ≡ 0 → entry ≤ n → get_or named entry false ≡ false → named' ≡ set named entry true → NameFault n entry named named' number
  outside : number ≡ 7 → n < entry → NameFault n entry named named' number
  named_before : number ≡ 8 → entry ≤ n → get_or named entry false ≡ true → NameFault n entry named named' number

-- From entry `start` to `end` stand variables, and nothing is wrong with them: the table names all of them afterwards.
pub data NamedTo (n : ℕ) (es : List ℕ) (start : ℕ) (named : List Bool) : ℕ → List Bool → Type 0 where
  no_name : NamedTo n es start named start named
  one_name : (e : ℕ) {seen named' : List Bool} → NamedTo n es start named e seen → e < length es → at es e ≢ 0
      → NameFault n (at es e) seen named' 0 → NamedTo n es start named (e + 1) named'

-- How the variables from entry `start` on end: at the 0 that closes their block, at one with which something is wrong, or with the prefix.
pub data NamesEnd (n : ℕ) (es : List ℕ) (start : ℕ) (named named' : List Bool) (end fault : ℕ) : Type 0 where
  closed : fault ≡ 0 → NamedTo n es start named end named' → end < length es → at es end ≡ 0 → NamesEnd n es start named named' end fault
  faulty : (seen : List Bool) → fault ≢ 0 → NamedTo n es start named end seen → end < length es → at es end ≢ 0
      → NameFault n (at es end) seen named' fault → NamesEnd n es start named named' end fault
  unclosed : fault ≡ 0 → NamedTo n es start named end named' → end ≡ length es → NamesEnd n es start named named' end fault

-- the entry where a scan ended: at which it stopped, or at which something is wrong
abbrev pub ended : Answer ℕ → ℕ
ended (Ok end) = end
ended (Err refusal) = refusal.1

-- no entry before i has a variable over n
abbrev pub AllUpto : ℕ → List ℤ → ℕ → Type 0
AllUpto n ls i = (e : ℕ) → e < i → variable_of (literal_at ls e) ≤ n

-- entry e is the first with a variable over n, or the end of the table if there is none
pub record FirstOver (n : ℕ) (ls : List ℤ) (e : ℕ) : Type 0 where
  pub within : e ≤ length ls
  pub low : AllUpto n ls e
  pub over : e < length ls → n < variable_of (literal_at ls e)
