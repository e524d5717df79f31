-- The lent tables of a file that is verified: one of them is too short, or all are filled.
use Rattle.std.specs.Prelude.{Ok}
use Rattle.terms.specs.declared.Loaded.{Loaded}
use Prim.Native.Nat.{ℕ, ◌+◌, ◌*◌, ◌≤◌}
use mathlib.Core.Path.{◌≡◌, refl, sym, subst}
use mathlib.Core.List.{List}
use mathlib.Core.Logic.{inl, inr, ⊎_elim, by_cases}
use native.Mathlib.Decide.{dec_lt}
use native.Mathlib.Omega.{arith}
use lib.ListN.{length}
use lib.Seq.{sets}
use Rattle.terms.specs.Overwritten.{overwritten}
use Rattle.terms.proofs.Overwritten.{stored_overwritten}
use Rattle.terms.proofs.Verdicts.{at0_none}
use Rattle.formula.specs.Lent.{Formula}
use Rattle.forest_tables.specs.Lent.{rows}
use Rattle.file_format.specs.Numbers.{numbers_at}
use Rattle.file_format.specs.Places.{payload_at, third_at, count_in, prefix_held, clauses_in, formula_held}
use Rattle.file_format.specs.Causes.{Lent, lent_tables, NoFileRoom, Roomy}
use Rattle.file_format.specs.Promises.{stored_in}
use Rattle.file_verify.specs.InnerVerified.{classes_in, parents_in, counts_in, rows_held}
use Rattle.file_layout.proofs.Spans.{numbers_length}
use Rattle.file_read.specs.Inner.{said_of, LoadsRight}

pub no_room : (f : Formula) (lent : Lent) → (Roomy f lent → ⊥) → NoFileRoom f lent
no_room f lent full =
    by_cases (dec_lt (length lent.prefix) (length f.prefix)) (λ l. inl l) (λ a.
    by_cases (dec_lt (length lent.clauses) (length f.clauses)) (λ l. inr (inl l)) (λ b.
    by_cases (dec_lt (length lent.rows.classes) f.n) (λ l. inr (inr (inl l))) (λ d.
    by_cases (dec_lt (length lent.rows.parents) f.n) (λ l. inr (inr (inr (inl l)))) (λ e.
    by_cases (dec_lt (length lent.rows.counts) f.n) (λ l. inr (inr (inr (inr l)))) (λ g.
    absurd (full (omega arith, omega arith, omega arith, omega arith, omega arith)))))))

roomy_none : (f : Formula) (lent : Lent) → Roomy f lent → NoFileRoom f lent → ⊥
roomy_none f lent (a, b, d, e, g) =
    ⊎_elim (λ l. omega arith) (⊎_elim (λ l. omega arith) (⊎_elim (λ l. omega arith) (⊎_elim (λ l. omega arith) (λ l. omega arith))))

-- What is stored row after row in each table stands in front there, for there is room.
pub stored_in_lem : (file : List ℕ) (lent : Lent) → Roomy (formula_held file) lent
    → lent_tables (sets lent.prefix 0 (prefix_held file)) (sets lent.clauses 0 (clauses_in file))
    (rows (sets lent.rows.classes 0 (classes_in file)) (sets lent.rows.parents 0 (parents_in file)) (sets lent.rows.counts 0 (counts_in file)))
    ≡ stored_in lent (formula_held file) (rows_held file)
unfolding classes_in parents_in counts_in
stored_in_lem file lent (prefix, clauses, classes, parents, counts) =
    let n = count_in file in
    let from = payload_at (third_at file) in
    let stored : (at : ℕ) (table : List ℕ) → n ≤ length table → sets table 0 (numbers_at 4 file at n) ≡ overwritten (numbers_at 4 file at n) table =
    λ at table room. let many = numbers_length 4 file at n in stored_overwritten (numbers_at 4 file at n) table (omega arith) in
    λ i.
    lent_tables (stored_overwritten (prefix_held file) lent.prefix prefix i) (stored_overwritten (clauses_in file) lent.clauses clauses i)
    (rows (stored from lent.rows.classes classes i) (stored (from + 4 * n) lent.rows.parents parents i)
    (stored (from + 4 * n + 4 * n) lent.rows.counts counts i))

pub loads_filled : (file : List ℕ) (lent lent' : Lent) (held : Loaded) → Roomy (formula_held file) lent
    → lent' ≡ stored_in lent (formula_held file) (rows_held file) → held ≡ said_of file → LoadsRight file lent lent' (Ok held)
loads_filled file lent lent' held room left is =
    subst (λ (h : Loaded). LoadsRight file lent lent' (Ok h)) (sym is) (λ read right.
    let clear = at0_none 14 (roomy_none (formula_held file) lent room) in
    ((clear, tt), (refl, refl, refl, refl, record { rows = rows_held file; right = right; left = left })))
