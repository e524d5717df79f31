-- The tables hold the formula of the file in front, so that what is judged of it is judged of that.
use Prim.Native.Nat.{ℕ}
use mathlib.Core.Path.{sym, ap, ◌∙◌, subst}
use native.Mathlib.Omega.{arith}
use lib.IntN.{pos}
use lib.ListN.{take, replicate, length-replicate}
use lib.Seq.{length-take-le}
use Rattle.formula.specs.Lent.{Formula, formula_of}
use Rattle.file_format.specs.Places.{prefix_held, clauses_in}
use Rattle.file_format.proofs.Short.{take_stored}
use Rattle.file_verify.specs.InnerVerified.{Judges}
use Rattle.file_verify.proofs.contents.read_verdict.Goals as goal

pub slice_bounds-formula_verdict-end : goal.slice_bounds-formula_verdict-end
slice_bounds-formula_verdict-end c =
    let size = c.fill_formula.auto.prefix ∙ length-replicate {A = ℕ} 8192 0 in
    sym (length-take-le c.args.entries c.fill_formula.new.prefix (omega (arith, size, c.requires.limits.0)))

pub slice_bounds-formula_verdict-end-2 : goal.slice_bounds-formula_verdict-end-2
slice_bounds-formula_verdict-end-2 c =
    let size = c.fill_formula.auto.clauses ∙ length-replicate 16384 (pos 0) in
    sym (length-take-le c.args.literals c.fill_formula.new.clauses (omega (arith, size, c.requires.limits.1)))

pub returns : goal.returns
returns c =
    let a = c.args in
    let file = a.file.now in
    let (_, count, entries, literals) = c.requires.held in
    let (few, few') = c.requires.limits in
    let full = length-replicate {A = ℕ} 8192 0 in
    let full' = length-replicate 16384 (pos 0) in
    let es = ap (take a.entries) c.fill_formula.ensures.prefix ∙ take_stored (replicate 8192 0) (prefix_held file) a.entries entries (omega arith) in
    let ls = ap (take a.literals) c.fill_formula.ensures.clauses
    ∙ take_stored (replicate 16384 (pos 0)) (clauses_in file) a.literals literals (omega arith) in
    record {
      judged = subst (λ (f : Formula). Judges a.rule f file c.formula_verdict.result) (λ i. formula_of (count i) (es i) (ls i))
          c.formula_verdict.ensures.judged;
    }
