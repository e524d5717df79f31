-- What is built are the rows of the formula's forest, in tables that have more rows than it needs: the first n of each are held against the file.
use Prim.Native.Nat.{ℕ}
use mathlib.Core.Path.{sym, ◌∙◌}
use native.Mathlib.Omega.{arith}
use lib.ListN.{length-replicate}
use Rattle.formula.specs.Lent.{formula_of}
use Rattle.forest_tables.specs.Lent.{Rows, rows}
use Rattle.file_format.specs.Layout.{ForestRows}
use Rattle.file_format.proofs.Taken.{taken, rows_taken}
use Rattle.file_verify.proofs.contents.forest_verdict.Goals as goal
use Rattle.file_verify.proofs.contents.forest_verdict.Goals.{After-build_sound}

-- the rows that are built
abbrev built : After-build_sound → Rows
built c = let left = c.build_sound.new in rows left.classes left.parents left.counts

-- Their first n are those of the forest.
right : (c : After-build_sound) → ForestRows (formula_of c.args.n c.args.prefix.now c.args.clauses.now) (taken c.args.n (built c))
right c =
    let grown = c.build_sound.ensures.rows in
    let counted = c.build_sound.ensures.counts in
    let full = length-replicate {A = ℕ} 4096 0 in
    let a = grown.past.0.size ∙ full in
    let b = grown.past.1.size ∙ full in
    let d = counted.past.size ∙ full in
    let few = c.requires.sound.1.0.few in
    rows_taken (formula_of c.args.n c.args.prefix.now c.args.clauses.now) (built c) (omega arith) (omega arith) (omega arith) grown.forest counted.counted

pub slice_bounds-rows_verdict-end : goal.slice_bounds-rows_verdict-end
slice_bounds-rows_verdict-end c = sym (right (goal.at.slice_bounds-rows_verdict-end c).After-build_sound).classes_many

pub slice_bounds-rows_verdict-end-2 : goal.slice_bounds-rows_verdict-end-2
slice_bounds-rows_verdict-end-2 c = sym (right (goal.at.slice_bounds-rows_verdict-end-2 c).After-build_sound).parents_many

pub slice_bounds-rows_verdict-end-3 : goal.slice_bounds-rows_verdict-end-3
slice_bounds-rows_verdict-end-3 c = sym (right (goal.at.slice_bounds-rows_verdict-end-3 c).After-build_sound).counts_many

pub rows_verdict-requires : goal.rows_verdict-requires
rows_verdict-requires c = record { sound = c.requires.sound; rows = right (goal.at.rows_verdict-requires c).After-build_sound }
