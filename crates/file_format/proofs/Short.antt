-- The file of a formula that a rule accepts has at most 131,100 bytes: writing never gives 19 (rule 8.4). Where it is written, it stands in front in the
-- lent table.
use Rattle.std.specs.Prelude.{Ok}
use Rattle.std.proofs.Common.{◌≡◌, ℕ, ◌+◌, ◌≤◌, false, List, ◌++◌, length, take, drop, sym, ap, ◌∙◌, arith, length-append, take_at}
use lib.Seq.{sets, sets-eq}
use Rattle.terms.specs.Limits.{most_variables, prefix_entries, clause_entries}
use Rattle.formula.specs.Lent.{Formula}
use Rattle.file_format.specs.Layout.{prefix_record, clauses_record, rows_record, closing_record, FileWith, FileOf}
use Rattle.file_format.specs.Causes.{FileTooLarge}
use Rattle.file_format.specs.Promises.{Stores}
use Rattle.file_format.proofs.Lengths.{prefix_length, clauses_length, rows_length, closing_length}

-- a formula within the limits (`limits` of formula_rules/proofs/Orders, where a rule accepts it)
abbrev pub Within : Formula → Type 0
Within f = (f.n ≤ most_variables) × (length f.prefix ≤ prefix_entries) × (length f.clauses ≤ clause_entries)

-- the bytes of a file without sets: kind 4 is absent
pub plain_bytes : {f : Formula} {read file : List ℕ} (g : FileWith false f read file)
    → file ≡ prefix_record f.n f.prefix
    ++ (clauses_record f.clauses ++ (rows_record g.rows.classes g.rows.parents g.rows.counts ++ closing_record g.word))
plain_bytes {f} g =
    g.bytes
    ∙ ap (λ (sets_record : List ℕ). prefix_record f.n f.prefix
    ++ (clauses_record f.clauses ++ (rows_record g.rows.classes g.rows.parents g.rows.counts ++ (sets_record ++ closing_record g.word)))) g.sets_are

module _ (f : Formula) (read : List ℕ) (within : Within f) where
  pub file_short : (file : List ℕ) → FileWith false f read file → length file ≤ 131100
  file_short file g =
      let (few, entries, literals) = within in
      let r = g.rows in
      let rows = rows_record r.classes r.parents r.counts in
      let last = closing_record g.word in
      let a = ap length (plain_bytes g) ∙ length-append (prefix_record f.n f.prefix) (clauses_record f.clauses ++ (rows ++ last)) in
      let b = length-append (clauses_record f.clauses) (rows ++ last) in
      let c = length-append rows last in
      let p = prefix_length f.n f.prefix in
      let k = clauses_length f.clauses in
      let l = rows_length r.classes r.parents r.counts in
      let e = closing_length g.word in
      omega (arith, g.right.classes_many, g.right.parents_many, g.right.counts_many)

  pub never_too_large : FileTooLarge f read → ⊥
  never_too_large (file, g, over) = let short = file_short file g in omega arith

-- What was stored in front of a table is what stands there.
pub take_stored : {A : Type 0} (table xs : List A) (count : ℕ) → count ≡ length xs → length xs ≤ length table → take count (sets table 0 xs) ≡ xs
take_stored table xs count many room = ap (take count) (sets-eq xs table 0 (omega arith)) ∙ take_at xs (drop (0 + length xs) table) count (sym many)

pub in_front_lem : (rule : ℕ) (f : Formula) (before after : List ℕ) (count : ℕ) → Stores rule f before after (Ok count)
    → (file : List ℕ) × FileOf rule f file × (take count after ≡ file)
in_front_lem rule f before after count (none, (file, g, size, stored)) =
    (file, g, ap (take count) stored ∙ take_at file (drop (length file) before) count (sym size))
