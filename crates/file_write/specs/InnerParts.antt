-- The parts of a file as they are written one after the other, which only proofs rest on.
use Rattle.terms.specs.Says.{Answer}
use Rattle.std.specs.Prelude.{ℕ, ◌+◌, ◌*◌, ◌<◌, ◌≤◌, ◌≡◌, false, List, [], ◌∷◌, ◌++◌, length}
use Rattle.terms.specs.Answers.{Filling}
use Rattle.terms.specs.Limits.{most_variables, prefix_entries, clause_entries}
use Rattle.terms.specs.Refusals.{At0}
use Rattle.formula.specs.Lent.{Formula}
use Rattle.forest_tables.specs.Lent.{Rows}
use Rattle.file_format.specs.Layout.{prefix_record, clauses_record, rows_record, closing_record, FileWith}
use Rattle.file_format.specs.InnerOrders.{behind_store}
use Rattle.file_bytes.specs.InnerParts.{closing}

-- the records of the formula
unfoldable pub formula_part : Formula → List ℕ
formula_part f = prefix_record f.n f.prefix ++ clauses_record f.clauses

-- all records but the last, and the whole file
unfoldable pub front_of : Formula → Rows → List ℕ
front_of f r = formula_part f ++ rows_record r.classes r.parents r.counts

unfoldable pub whole_of : Formula → Rows → List ℕ
whole_of f r = front_of f r ++ closing_record (closing (front_of f r))

-- how many bytes the whole file has, by its prefix entries, literals, and rows of each table
abbrev pub size_of : ℕ → ℕ → ℕ → ℕ
size_of entries literals rows = 2 * entries + 4 * literals + 12 * rows + 28

-- What is to be written is within the limits, and the three tables have as many rows.
pub record Small (f : Formula) (r : Rows) : Type 0 where
  pub entries : length f.prefix ≤ prefix_entries
  pub literals : length f.clauses ≤ clause_entries
  pub few : length r.classes ≤ most_variables
  pub parents_many : length r.parents ≡ length r.classes
  pub counts_many : length r.counts ≡ length r.classes

-- What writing a whole file promises: 14 where it does not fit, and else its bytes in front.
abbrev pub StoresWhole : List ℕ → List ℕ → List ℕ → Answer ℕ → Type 0
StoresWhole whole before = Filling (At0 14 (length before < length whole) ∷ []) (λ (file : List ℕ). file ≡ whole) before

-- What writing promises of an accepted formula whose prefix is read as `read`: only 19 and 14 are left to refuse.
abbrev pub StoresRead : Formula → List ℕ → List ℕ → List ℕ → Answer ℕ → Type 0
StoresRead f read before = Filling (behind_store f read before) (FileWith false f read) before
