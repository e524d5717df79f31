-- What is built are the rows of the formula's forest, in tables that have more rows than it needs; the first n of each are written, and with them the
-- file of the formula.
use Prim.Native.Nat.{ℕ}
use mathlib.Core.Path.{◌≡◌, sym, ◌∙◌}
use native.Mathlib.Omega.{arith}
use lib.ListN.{length, length-replicate}
use Rattle.formula.specs.Lent.{Formula, formula_of}
use Rattle.forest_tables.specs.Lent.{Rows, rows}
use Rattle.file_format.specs.Layout.{ForestRows}
use Rattle.file_format.proofs.Taken.{taken, rows_taken}
use Rattle.file_write.specs.InnerParts.{Small}
use Rattle.file_write.proofs.Filed.{of_formula}
use Rattle.file_write.proofs.store_read.Goals as goal

pub returns : goal.returns
returns c =
    let a = c.args in
    let (sound, clauses, short) = c.requires.sound in
    let lent : Formula = formula_of a.n a.prefix.now a.clauses.now in
    let as_read : Formula = formula_of a.n a.read.now a.clauses.now in
    let left = c.build_sound.new in
    let built : Rows = rows left.classes left.parents left.counts in
    let front : Rows = taken a.n built in
    let grown = c.build_sound.ensures.rows in
    let counted = c.build_sound.ensures.counts in
    let full = length-replicate {A = ℕ} 4096 0 in
    let l : length built.classes ≡ 4096 = grown.past.0.size ∙ full in
    let l' : length built.parents ≡ 4096 = grown.past.1.size ∙ full in
    let l'' : length built.counts ≡ 4096 = counted.past.size ∙ full in
    let right : ForestRows as_read front =
    rows_taken as_read built (omega (arith, l, sound.few)) (omega (arith, l', sound.few)) (omega (arith, l'', sound.few)) grown.forest counted.counted in
    let small : Small lent front = record {
      entries = short;
      literals = clauses.short;
      few = omega (arith, right.classes_many, sound.few);
      parents_many = right.parents_many ∙ sym right.classes_many;
      counts_many = right.counts_many ∙ sym right.classes_many;
    } in
    record { stored = of_formula lent front small a.read.now sound.few right a.file.now c.store_file.new.file c.store_file.result c.store_file.ensures.stored }
