-- A formula has one forest, one list of sets and so, by one reading of its prefix, one file.
use Rattle.std.proofs.Common.{◌≡◌, ℕ, ◌+◌, ◌%◌, ◌<◌, ◌≤◌, false, List, ◌++◌, length, get_or, sym, ap, ◌∙◌, subst, arith}
use lib.ListN.{get_or-eq_default}
use Rattle.terms.specs.declared.Scheme.TheVariants.{Standard}
use Rattle.formula.specs.Lent.{Formula, formula_of}
use Rattle.forest_theory.specs.Tables.{Table, row, lent}
use Rattle.forest_theory.specs.Counts.{Counted}
use Rattle.forest_theory.proofs.Reach.{joined_sym}
use Rattle.forest_theory.proofs.Rows.{rows_one, lent_one}
use Rattle.forest_theory.proofs.Growth.{forest_is}
use Rattle.forest_theory.proofs.Counts.{counts_one}
use Rattle.forest_tables.specs.Formula.{universal, joined}
use Rattle.forest_tables.specs.Lent.{Rows, rows, variables_of}
use Rattle.forest_tables.proofs.Agreeing.{lawful}
use Rattle.forest.specs.Answers.{DependsBy}
use Rattle.sets.proofs.Records.{records_one}
use Rattle.file_format.specs.Numbers.{word_sum}
use Rattle.file_format.specs.Layout.{prefix_record, clauses_record, rows_record, closing_record, ForestRows, StandardSets, FileWith}
use Rattle.file_format.proofs.Short.{plain_bytes}
use Rattle.file_format.proofs.WordSums.{sum_append, closing_sum}
use Rattle.file_format.proofs.Lengths.{prefix_length, clauses_length, rows_length}

-- rows past n of tables with n rows read alike
past_alike : {n : ℕ} (rows rows' : List ℕ) → length rows ≡ n → length rows' ≡ n → (i : ℕ) → n ≤ i → get_or rows i 0 ≡ get_or rows' i 0
past_alike rows rows' q q' i h = get_or-eq_default rows 0 (omega arith) ∙ sym (get_or-eq_default rows' 0 (omega arith))

module _ (f : Formula) where
  pub rows_unique : {r r' : Rows} → ForestRows f r → ForestRows f r' → r ≡ r'
  rows_unique {r} {r'} a b = λ i. rows (same.0 i) (same.1 i) (counts i)
    where
      same : (r.classes ≡ r'.classes) × (r.parents ≡ r'.parents)
      same = lent_one (joined_sym {cs = joined f.clauses}) a.forest b.forest
          (a.classes_many ∙ sym b.classes_many) (past_alike r.classes r'.classes a.classes_many b.classes_many)
          (a.parents_many ∙ sym b.parents_many) (past_alike r.parents r'.parents a.parents_many b.parents_many)

      alike : (v : ℕ) → row f.n r.counts v ≡ row f.n r'.counts v
      alike =
          counts_one ((forest_is (lawful f.n f.prefix)).0 b.forest).formed
          (subst (λ (W : Table). Counted (variables_of f) W (row f.n r.counts)) (λ i. lent (variables_of f) (same.0 i) (same.1 i)) a.counted)
          b.counted

      counts : r.counts ≡ r'.counts
      counts = rows_one f.n r.counts r'.counts (a.counts_many ∙ sym b.counts_many) alike
          (past_alike r.counts r'.counts a.counts_many b.counts_many)

  pub sets_unique : (list other : List ℕ) → StandardSets f list → StandardSets f other → list ≡ other
  sets_unique list other = records_one (universal f.n f.prefix) (DependsBy Standard f) f.n list other

  -- all records, by what they hold
  abbrev whole : Rows → ℕ → List ℕ
  whole r word =
      prefix_record f.n f.prefix ++ (clauses_record f.clauses ++ (rows_record r.classes r.parents r.counts ++ closing_record word))

  -- no byte of a record is left over, so that the words of a file are those of its records
  module _ (r : Rows) where
    abbrev front : ℕ
    front =
        word_sum (prefix_record f.n f.prefix) + (word_sum (clauses_record f.clauses) + word_sum (rows_record r.classes r.parents r.counts))

    file_sum : (word : ℕ) → word < 65536 → word_sum (whole r word) ≡ front + (65537 + word)
    file_sum word fits =
        let rs = rows_record r.classes r.parents r.counts in
        let p = prefix_length f.n f.prefix in
        let c = clauses_length f.clauses in
        let l = rows_length r.classes r.parents r.counts in
        let a = sum_append (prefix_record f.n f.prefix) (clauses_record f.clauses ++ (rs ++ closing_record word)) (omega arith) in
        let b = sum_append (clauses_record f.clauses) (rs ++ closing_record word) (omega arith) in
        let d = sum_append rs (closing_record word) (omega arith) in
        let e = closing_sum word fits in
        omega arith

    -- the word that closes the sum is one
    word_unique : {file file' : List ℕ} (word word' : ℕ) → word < 65536 → word' < 65536 → file ≡ whole r word → file' ≡ whole r word'
        → word_sum file % 65536 ≡ 0 → word_sum file' % 65536 ≡ 0 → word ≡ word'
    word_unique word word' fits fits' is is' sum sum' =
        let a = ap word_sum is ∙ file_sum word fits in
        let b = ap word_sum is' ∙ file_sum word' fits' in
        omega arith

-- By one reading of its prefix a formula has one file.
pub file_unique : (f : Formula) (read : List ℕ) (file file' : List ℕ) → FileWith false f read file → FileWith false f read file' → file ≡ file'
file_unique f read file file' a b =
    let r = rows_unique (formula_of f.n read f.clauses) a.right b.right in
    let same : whole f a.rows a.word ≡ whole f b.rows a.word = λ i. whole f (r i) a.word in
    let word = word_unique f b.rows a.word b.word a.word_fits b.word_fits (plain_bytes a ∙ same) (plain_bytes b) a.sum
    b.sum in
    plain_bytes a ∙ same ∙ ap (whole f b.rows) word ∙ sym (plain_bytes b)
