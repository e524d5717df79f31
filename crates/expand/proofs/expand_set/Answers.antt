-- The set is within the variables, so that the sum and the copies fit; what is filled by the numbered copies is the expanded formula.
use Rattle.std.proofs.Common.{ℕ, ◌+◌, ◌≤◌, arith, length}
use mathlib.Core.Path.{fun_ext, subst}
use Rattle.std.proofs.lemmas.List.{length-replicate}
use Rattle.terms.specs.Limits.{most_variables}
use Rattle.terms.specs.InnerLimits.{variable_rows}
use Rattle.formula.specs.Lent.{Formula, formula_of}
use Rattle.forest_tables.proofs.Readings.{new_zero}
use Rattle.expand.specs.Promise.{result_tables}
use Rattle.expand.specs.InnerWriting.{expanded_with, Fits}
use Rattle.expand.proofs.Outcome.{expanded_same, few_members, low_members, right_copies, expand_filled}
use Rattle.expand.proofs.expand_set.Goals as goal

-- no more members than variables, and no more of these than the limit
pub overflow_cast-count : goal.overflow_cast-count
overflow_cast-count c =
    let a = c.args in
    let less : length a.members.now ≤ a.n = few_members (formula_of a.n a.prefix.now a.clauses.now) a.x.0 c.requires.sound.0 c.requires.set in
    let low : a.n ≤ most_variables = c.requires.sound.0.few in
    omega arith

pub overflow_add-count : goal.overflow_add-count
overflow_add-count c =
    let a = c.args in
    let less : length a.members.now ≤ a.n = few_members (formula_of a.n a.prefix.now a.clauses.now) a.x.0 c.requires.sound.0 c.requires.set in
    let low : a.n ≤ most_variables = c.requires.sound.0.few in
    omega arith

pub number-requires : goal.number-requires
number-requires c =
    let a = c.args in
    let f = formula_of a.n a.prefix.now a.clauses.now in
    let sound = c.requires.sound.0 in
    let less : length a.members.now ≤ a.n = few_members f a.x.0 sound c.requires.set in
    let low : a.n ≤ most_variables = sound.few in
    record {
      few = (low, omega arith, low_members f a.x.0 sound c.requires.set);
      blank = (length-replicate {A = ℕ} variable_rows 0, new_zero variable_rows);
    }

pub fill-requires : goal.fill-requires
fill-requires c =
    let a = c.args in
    let f = formula_of a.n a.prefix.now a.clauses.now in
    let sound = c.requires.sound.0 in
    record { sound = ((a.n, sound), c.requires.sound.1, right_copies f a.x.0 sound c.requires.set c.number.ensures.numbered) }

pub returns : goal.returns
returns c =
    let a = c.args in
    let f = formula_of a.n a.prefix.now a.clauses.now in
    let count = a.n + length a.members.now in
    let out = result_tables a.out_prefix.now a.out_clauses.now in
    let out' = result_tables c.fill.new.out_prefix c.fill.new.out_clauses in
    let told = c.fill.result in
    let Filled : (ℕ → ℕ) → Type 0 = λ copy. Fits (expanded_with count a.x.0 copy f) out out' told in
    record {
      expanded = expand_filled f a.x.0 c.requires.set out out' (λ over. omega (arith, c.if-count-gt-MOST.false)) told
          (subst (λ (g : Formula). Fits g out out' told) (expanded_same a.x.0 a.members.now f)
          (subst Filled (fun_ext c.number.ensures.numbered.1) c.fill.ensures.fits));
    }
