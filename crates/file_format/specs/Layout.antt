-- The records of a file (rule 10.1, rule 10.2), and the file of a formula (rule 10.3, rule 10.4). A record is its payload length in four bytes, its kind
-- in two, and the payload.
use Rattle.std.specs.Prelude.{◌≡◌, ℕ, ◌%◌, ◌<◌, Bool, true, false, List, [], ◌∷◌, ◌++◌, map, length, ℤ}
use Rattle.terms.specs.declared.Scheme.TheVariants.{Standard}
use Rattle.formula.specs.Lent.{Formula, formula_of}
use Rattle.forest_theory.specs.Tables.{row}
use Rattle.forest_theory.specs.Forest.{Forest}
use Rattle.forest_theory.specs.Counts.{Counted}
use Rattle.forest_tables.specs.Formula.{universal, Shares}
use Rattle.forest_tables.specs.Lent.{Rows, variables_of, forest_of}
use Rattle.forest.specs.Answers.{DependsBy}
use Rattle.sets.specs.Sets.{Records}
use Rattle.formula_rules.specs.Rules.{read_as}
use Rattle.file_format.specs.Numbers.{number_bytes, bytes_of, literal_number, word_sum}

-- the kinds
abbrev pub prefix_kind : ℕ
prefix_kind = 1

abbrev pub clauses_kind : ℕ
clauses_kind = 2

abbrev pub rows_kind : ℕ
rows_kind = 3

abbrev pub sets_kind : ℕ
sets_kind = 4

abbrev pub closing_kind : ℕ
closing_kind = 65535

-- the bytes of a record of a kind, with a payload
unfoldable pub record_bytes : ℕ → List ℕ → List ℕ
record_bytes kind payload = number_bytes 4 (length payload) ++ (number_bytes 2 kind ++ payload)

-- The rows of a formula's forest: class names, parents and counts, n of each.
pub record ForestRows (f : Formula) (r : Rows) : Type 0 where
  pub classes_many : length r.classes ≡ f.n
  pub parents_many : length r.parents ≡ f.n
  pub counts_many : length r.counts ≡ f.n
  pub forest : Forest (variables_of f) (Shares f.clauses) (forest_of f r)
  pub counted : Counted (variables_of f) (forest_of f r) (row f.n r.counts)

-- The standard sets of a formula: for each universal ascending its number, the count of its set and its set ascending.
abbrev pub StandardSets : Formula → List ℕ → Type 0
StandardSets f = Records (universal f.n f.prefix) (DependsBy Standard f) f.n

-- kind 1: n, then the prefix, two bytes a number
unfoldable pub prefix_record : ℕ → List ℕ → List ℕ
prefix_record n es = record_bytes prefix_kind (bytes_of 2 (n ∷ es))

-- kind 2: the clauses, four bytes a literal
unfoldable pub clauses_record : List ℤ → List ℕ
clauses_record ls = record_bytes clauses_kind (bytes_of 4 (map literal_number ls))

-- kind 3: class names, parents and counts, four bytes a number
unfoldable pub rows_record : List ℕ → List ℕ → List ℕ → List ℕ
rows_record classes parents counts = record_bytes rows_kind (bytes_of 4 (classes ++ (parents ++ counts)))

-- kind 4, which may be absent: the sets, two bytes a number, if they are there
abbrev pub SetsRecord : Bool → Formula → List ℕ → Type 0
SetsRecord true f bytes = (sets : List ℕ) × StandardSets f sets × (bytes ≡ record_bytes sets_kind (bytes_of 2 sets))
SetsRecord false f bytes = bytes ≡ []

-- kind 65,535: a two-byte word
unfoldable pub closing_record : ℕ → List ℕ
closing_record word = record_bytes closing_kind (number_bytes 2 word)

-- the words sum to zero when the sum is let wrap
abbrev pub SumsToZero : List ℕ → Type 0
SumsToZero file = word_sum file % 65536 ≡ 0

-- A file of a formula whose prefix is read as `read`, with its sets or without: the records in the order of their kinds, of which the last has the word
-- that closes the sum. The prefix is kept as it is lent (rule 6.4); rows and sets are those of the prefix as it is read.
pub record FileWith (there : Bool) (f : Formula) (read file : List ℕ) : Type 0 where
  pub rows : Rows
  pub right : ForestRows (formula_of f.n read f.clauses) rows
  pub sets_record : List ℕ
  pub sets_are : SetsRecord there (formula_of f.n read f.clauses) sets_record
  pub word : ℕ
  pub word_fits : word < 65536
  pub bytes : file ≡ prefix_record f.n f.prefix
      ++ (clauses_record f.clauses ++ (rows_record rows.classes rows.parents rows.counts ++ (sets_record ++ closing_record word)))
  pub sum : SumsToZero file

-- The file that is written under a reading rule: it has no kind 4 (rule 10.4).
abbrev pub FileOf : ℕ → Formula → List ℕ → Type 0
FileOf rule f = FileWith false f (read_as rule f.prefix)
