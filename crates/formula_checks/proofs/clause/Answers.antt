-- Where nothing is refused the clause is found, for 13 has no cause, and the part from its first entry to its 0 is the clause, and stands there; else the
-- part is empty.
use Prim.Native.Nat.{ℕ, ◌+◌, ◌*◌}
use mathlib.Core.Path.{◌≡◌, refl, ap, subst}
use mathlib.Core.List.{List}
use native.Mathlib.Omega.{arith}
use lib.IntN.{ℤ}
use denote.Ref.{Bor}
use borrow.Rule.Slice.Shared.{by_size}
use Rattle.terms.specs.Refusals.{Judged}
use Rattle.formula.specs.Causes.{clause_order}
use Rattle.formula.specs.InnerLookup.{Stands}
use Rattle.formula.specs.Clause.{accepted, refused}
use Rattle.formula_checks.proofs.clause.Goals as goal

-- the part from an entry on stands behind the entries before it
abbrev place : Bor (List ℤ) → ℕ → ℕ × ℕ
place table offset = (table.ref_ptr.0, offset)

stands : (table : Bor (List ℤ)) (start : ℕ) {entry : ℕ} → start ≡ entry → place table (by_size 4 start table.ref_ptr.1) ≡ place table (table.ref_ptr.1 + 4 * entry)
stands table start {entry} is = let q : by_size 4 start table.ref_ptr.1 ≡ table.ref_ptr.1 + 4 * entry = omega (arith, is) in ap (place table) q

pub offset_bounds-clauses-span : goal.offset_bounds-clauses-span
unfolding Stands
offset_bounds-clauses-span c =
    let from = c.in-Some.ensures.stands.0 in
    let to = c.in-Some.ensures.stands.1 in
    let size = c.well_formed.1.0.1 in
    omega arith

pub slice_bounds-result-count : goal.slice_bounds-result-count
unfolding Stands
slice_bounds-result-count c = c.in-Some.ensures.stands.0

pub slice_bounds-result-start : goal.slice_bounds-result-start
unfolding Stands
slice_bounds-result-start c = c.in-Some.ensures.stands.0

pub slice_bounds-result-end : goal.slice_bounds-result-end
unfolding Stands
slice_bounds-result-end c = c.in-Some.ensures.stands.1

pub returns-in-Some : goal.returns-in-Some
unfolding Stands
returns-in-Some c =
    let found = c.in-Some.ensures.stands in
    record { part = accepted c.in-Ok.ensures.judged found.3 (stands c.args.clauses _ found.4) }

pub returns-in-None : goal.returns-in-None
unfolding Stands
returns-in-None c = record { part = absurd (c.in-Ok.ensures.judged.1.1.1.0 13 0 (refl, refl, c.in-None.ensures.stands)) }

pub returns-in-Err : goal.returns-in-Err
returns-in-Err c = record { part = refused _ _ c.in-Err.ensures.judged refl (stands c.args.clauses 0 refl) }
