-- Both tables are filled from where the numbers of the prefix and the literals stand, as many as were counted; that is what the file has
-- (prefix_is, clauses_are).
use Prim.Native.Nat.{ℕ, ◌+◌}
use mathlib.Core.Path.{refl, ap, ap₂, ◌∙◌}
use mathlib.Core.List.{map}
use mathlib.Core.Logic.{inl, inr}
use native.Mathlib.Omega.{arith}
use Rattle.std.proofs.Common.{of_calls}
use lib.Seq.{sets}
use Rattle.file_format.specs.Numbers.{numbers_at, literal_of}
use Rattle.file_layout.proofs.Held.{prefix_is, clauses_are}
use Rattle.file_layout.proofs.Spans.{laid_ends, laid_near, prefix_length, clauses_length}
use Rattle.file_layout.proofs.decoding.fill_formula.Goals as goal

pub fill_numbers-requires : goal.fill_numbers-requires
fill_numbers-requires c =
    let file = c.args.file.now in
    let ends = laid_ends file c.requires.room.0 in
    let many = c.prefix_entries-entries.ensures in
    let size = prefix_length file in
    let room = c.requires.room.1 in
    record { room = (inl refl, omega (arith, ends.first, ends.second, ends.third, ends.fourth), omega arith) }

pub overflow_add-second : goal.overflow_add-second
overflow_add-second c = omega (arith, c.second_at-second.ensures.found, (laid_near c.args.file.now c.requires.room.0).0)

pub fill_entries-requires : goal.fill_entries-requires
fill_entries-requires c =
    let file = c.args.file.now in
    let ends = laid_ends file c.requires.room.0 in
    let is = c.second_at-second.ensures in
    let many = c.clause_entries-literals.ensures in
    let size = clauses_length file in
    record {
      room = (inr refl, omega (arith, ends.second, ends.third, ends.fourth), omega (arith, c.requires.room.2));
      callable = search of_calls;
    }

pub returns : goal.returns
returns c =
    let a = c.args in
    let file = a.file.now in
    let entries = ap (numbers_at 2 file 8) c.prefix_entries-entries.ensures.counted ∙ prefix_is file in
    let literals =
    ap₂ (λ (p : ℕ) (k : ℕ). map literal_of (numbers_at 4 file (p + 6) k)) c.second_at-second.ensures.found
    c.clause_entries-literals.ensures.counted ∙ clauses_are file in
    record {
      prefix = c.fill_numbers.ensures.stored ∙ ap (sets a.prefix.now 0) entries;
      clauses = c.fill_entries.ensures.stored literal_of (λ x y post. search of_calls) ∙ ap (sets a.clauses.now 0) literals;
    }
