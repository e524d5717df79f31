-- The file put together from its records as they are stored one after the other.
use Prim.Native.Nat.{ℕ, ◌≤◌}
use mathlib.Core.Path.{◌≡◌, ap}
use mathlib.Core.List.{List, ◌++◌}
use native.Mathlib.Omega.{arith}
use lib.ListN.{length, take}
use Rattle.formula.specs.Lent.{Formula}
use Rattle.forest_tables.specs.Lent.{Rows}
use Rattle.text_write.specs.InnerBytes.{Wrote}
use Rattle.text_write.proofs.Stores.{wrote_more}
use Rattle.file_format.specs.Layout.{prefix_record, clauses_record, rows_record, closing_record}
use Rattle.file_bytes.specs.InnerParts.{closing}
use Rattle.file_bytes.proofs.Composed.{wrote_as, front_stored}
use Rattle.file_write.specs.InnerParts.{formula_part, front_of, whole_of}

-- The records of the formula.
pub formula_wrote : (f : Formula) {before mid after : List ℕ} {at start next : ℕ} → Wrote (prefix_record f.n f.prefix) before mid at start
    → Wrote (clauses_record f.clauses) mid after start next → Wrote (formula_part f) before after at next
unfolding formula_part
formula_wrote f = wrote_more

-- The whole file: what stands in front when the last record is written are the others, so that its word closes their sum.
pub whole_wrote : (f : Formula) (r : Rows) {before mid mid' after : List ℕ} {start last next : ℕ} → length (front_of f r) ≤ length before
    → Wrote (formula_part f) before mid 0 start → Wrote (rows_record r.classes r.parents r.counts) mid mid' start last
    → Wrote (closing_record (closing (take last mid'))) mid' after last next → Wrote (whole_of f r) before after 0 next
unfolding whole_of front_of
whole_wrote f r {mid' = mid'} {last = last} room a b c =
    let front = formula_part f ++ rows_record r.classes r.parents r.counts in
    let w = wrote_more a b in
    let is : take last mid' ≡ front = front_stored w (omega arith) in
    wrote_as (ap (λ (xs : List ℕ). front ++ closing_record (closing xs)) is) (wrote_more w c)
