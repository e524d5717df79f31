-- What writing (rule 10.4) and reading (rule 10.5) a file promise, each under a reading rule, and a file without its sets (rule 10.7).
use Rattle.terms.specs.declared.Loaded.{Loaded}
use Rattle.std.specs.Prelude.{◌≡◌, ℕ, Bool, true, false, List, ◌++◌, length}
use Rattle.terms.specs.Says.{loaded_said, Answer}
use Rattle.terms.specs.Answers.{Settles, Filling}
use Rattle.terms.specs.Overwritten.{overwritten}
use Rattle.terms.specs.Refusals.{Causes}
use Rattle.formula.specs.Lent.{Formula}
use Rattle.formula_rules.specs.Rules.{read_by}
use Rattle.forest_tables.specs.Lent.{Rows, rows}
use Rattle.file_format.specs.Layout.{sets_kind, record_bytes, closing_record, SumsToZero, FileOf}
use Rattle.file_format.specs.Places.{fourth_at, formula_held, has_sets}
use Rattle.file_format.specs.Causes.{Lent, lent_tables, RightRows, load_order, store_order}

-- What writing promises: the file of the formula stands in front in the lent table, nothing past it is changed, and the count is its length; or
-- nothing is changed at all.
abbrev pub Stores : ℕ → Formula → List ℕ → List ℕ → Answer ℕ → Type 0
Stores rule f before = Filling (store_order rule f before) (FileOf rule f) before

-- the lent tables with a formula and rows stored in front
abbrev pub stored_in : Lent → Formula → Rows → Lent
stored_in lent f r =
    lent_tables (overwritten f.prefix lent.prefix) (overwritten f.clauses lent.clauses)
    (rows (overwritten r.classes lent.rows.classes) (overwritten r.parents lent.rows.parents) (overwritten r.counts lent.rows.counts))

-- What reading leaves: the formula that the file holds, and the rows of the formula as it is read, stand in front in the lent tables, and nothing past
-- them is changed.
pub record FilledFrom (read : Formula) (file : List ℕ) (lent lent' : Lent) : Type 0 where
  pub rows : Rows
  pub right : RightRows read file rows
  pub left : lent' ≡ stored_in lent (formula_held file) rows

-- What a call answers that reads a file into lent tables: n, how many entries the prefix and the clause table of the file have, and whether sets were
-- there; or nothing is changed.
abbrev pub Loading : List Causes → Formula → List ℕ → Lent → Lent → Answer Loaded → Type 0
Loading order read file lent lent' answer =
    Settles order (λ (held : ℕ × ℕ × ℕ × Bool). (held.0 ≡ (formula_held file).n) × (held.1 ≡ length (formula_held file).prefix)
    × (held.2 ≡ length (formula_held file).clauses) × (held.3 ≡ has_sets file) × FilledFrom read file lent lent') (lent' ≡ lent) (loaded_said answer)

-- What reading promises.
abbrev pub Loads : ℕ → List ℕ → Lent → Lent → Answer Loaded → Type 0
Loads rule file lent = Loading (load_order rule file lent) (read_by rule (formula_held file)) file lent

-- A file without its kind 4, by whether it has one: the record goes, the closing word is refitted, and nothing else changes; or it stays as it is.
pub data WithoutSets (file : List ℕ) : Bool → List ℕ → Type 0 where
  as_it_is : {without : List ℕ} → without ≡ file → WithoutSets file false without
  refitted : {without : List ℕ} (head sets : List ℕ) (word word' : ℕ) → length head ≡ fourth_at file
      → file ≡ head ++ (record_bytes sets_kind sets ++ closing_record word) → without ≡ head ++ closing_record word' → SumsToZero without
      → WithoutSets file true without
