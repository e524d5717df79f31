-- The text of a formula with lists entry by entry, as the writer makes it: for tables that the check of lists accepts it is the text of Written
-- (proofs/Blockwise).
use Rattle.std.specs.Prelude.{ℕ, ◌≤◌, Bool, true, false, List, [], ◌∷◌, ◌++◌, eqb, ℤ, length}
use Rattle.dqbf_lists.specs.Lists.{list_entries}
use Rattle.text_write.specs.Numbers.{decimal}
use Rattle.text_write.specs.Written.{problem_line}
use Rattle.text_write.specs.InnerText.{spaced, ended, prefix_text, clause_text, clause_count}
use Rattle.text_write.specs.InnerBytes.{SmallEntries, Writable}
use Rattle.dqbf_text.specs.Format.{LETTER-D}

-- The letter in front of the first number of a list.
unfoldable pub lettered : Bool → List ℕ → List ℕ
lettered true text = LETTER-D ∷ text
lettered false text = text

-- The lines of the table of lists, from the first entry of a list on, or from a later one.
unfoldable pub list_text : Bool → List ℕ → List ℕ
list_text first [] = []
list_text first (entry ∷ more) = lettered first (spaced false (decimal entry ++ ended (eqb entry 0) (list_text (eqb entry 0) more)))

-- The problem line, the prefix, the lists and the clauses.
unfoldable pub listed_by_entries : ℕ → List ℕ → List ℤ → List ℕ → List ℕ
listed_by_entries n prefix clauses lists = problem_line n (clause_count clauses) ++ (prefix_text true prefix ++ (list_text true lists ++ clause_text true clauses))

-- What is asked of tables that are written: beside what a formula's are, that the lists are no longer than they may be, and their numbers have at most
-- five digits.
abbrev pub WritableLists : ℕ → List ℕ → List ℤ → List ℕ → Type 0
WritableLists n prefix clauses lists = Writable n prefix clauses × (length lists ≤ list_entries) × SmallEntries lists

-- The bytes of one entry of the table of lists, at the beginning of a list or after it.
unfoldable pub list_bytes : Bool → ℕ → List ℕ
list_bytes first entry = lettered first (spaced false (decimal entry ++ ended (eqb entry 0) []))
