-- How long the parts of a file are.
use Prim.Native.Nat.{ℕ, ◌+◌, ◌*◌, ◌≤◌}
use mathlib.Core.Path.{◌≡◌}
use native.Mathlib.Omega.{arith}
use lib.ListN.{length, length-append}
use Rattle.formula.specs.Lent.{Formula}
use Rattle.forest_tables.specs.Lent.{Rows}
use Rattle.file_format.specs.Layout.{prefix_record, clauses_record, rows_record, closing_record}
use Rattle.file_format.proofs.Lengths.{prefix_length, clauses_length, rows_length, closing_length}
use Rattle.file_bytes.specs.InnerParts.{closing}
use Rattle.file_write.specs.InnerParts.{formula_part, front_of, whole_of, size_of, Small}

pub formula_length : (f : Formula) → length (formula_part f) ≡ 14 + 2 * length f.prefix + 4 * length f.clauses
unfolding formula_part
formula_length f =
    let l = length-append (prefix_record f.n f.prefix) (clauses_record f.clauses) in
    let a = prefix_length f.n f.prefix in
    let b = clauses_length f.clauses in
    omega arith

module _ (f : Formula) (r : Rows) where
  abbrev pub size : ℕ
  size = size_of (length f.prefix) (length f.clauses) (length r.classes)

  -- the front is what the records of the formula and the one of its rows take
  pub front_parts : length (front_of f r) ≡ length (formula_part f) + length (rows_record r.classes r.parents r.counts)
  unfolding front_of
  front_parts = length-append (formula_part f) (rows_record r.classes r.parents r.counts)

  module _ (small : Small f r) where
    -- a file of tables within the limits is small
    pub size_most : size ≤ 131100
    size_most = omega (arith, small.entries, small.literals, small.few)

    -- the size of the front is that of the file less its last record
    pub front_length : length (front_of f r) + 8 ≡ size
    front_length = omega (arith, front_parts, formula_length f, rows_length r.classes r.parents r.counts, small.parents_many, small.counts_many)

    pub whole_length : length (whole_of f r) ≡ size
    unfolding whole_of
    whole_length =
        let l = length-append (front_of f r) (closing_record (closing (front_of f r))) in
        let a = front_length in
        let e = closing_length (closing (front_of f r)) in
        omega arith
