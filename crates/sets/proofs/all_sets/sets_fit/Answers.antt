-- All sets take at most n records of n members each (records_most). Where there is room for less, a pass that writes nothing counts them, and what
-- comes up to any number is no longer than the whole (records_room).
use Prim.Native.Nat.{ℕ, ◌+◌, ◌*◌, ◌≤◌}
use mathlib.Core.Path.{refl, ap}
use native.Mathlib.Nat.{mul-le-mul_right}
use native.Mathlib.Omega.{arith}
use lib.ListN.{length}
use Rattle.terms.proofs.Common.{clash}
use mathlib.Core.List.{[]}
use Rattle.formula.specs.Lent.{formula_of}
use Rattle.forest_tables.specs.Formula.{universal}
use Rattle.forest_tables.specs.Lent.{rows}
use Rattle.forest.specs.Answers.{MembersBy}
use Rattle.sets.proofs.AllSets.{sets_within, room_told}
use Rattle.sets.proofs.Records.{records_most, records_room}
use Rattle.sets.proofs.all_sets.sets_fit.Goals as goal

pub overflow_mul-count : goal.overflow_mul-count
overflow_mul-count c =
    let n = c.args.pass.n in
    let few = c.requires.ready.sound.few in
    let bound : n * (n + 2) ≤ 4096 * (n + 2) = mul-le-mul_right (n + 2) few in
    omega arith

pub returns-then-count-out : goal.returns-then-count-out
returns-then-count-out c =
    let Members : ℕ → ℕ → Type 0 = let a = c.args in
    MembersBy a.pass.scheme (formula_of a.pass.n a.prefix.now a.clauses.now) (rows a.classes.now a.parents.now []) in
    let a = c.args in
    let n = a.pass.n in
    let enough = c.if-count-out.true in
    let within = sets_within a.pass.scheme n a.prefix.now a.clauses.now a.classes.now a.parents.now in
    record {
      told = λ m list l r.
          let most = records_most (universal n a.prefix.now) Members n within m list r in
          let bound : m * (n + 2) ≤ n * (n + 2) = mul-le-mul_right (n + 2) l in
          omega arith;
      kept = refl;
    }

pub pass_sets-needed-requires : goal.pass_sets-needed-requires
pass_sets-needed-requires c =
    record {
      ready = c.requires.ready;
      room = λ q. absurd (clash q refl);
    }

pub returns : goal.returns
returns c =
    let Members : ℕ → ℕ → Type 0 = let a = c.args in
    MembersBy a.pass.scheme (formula_of a.pass.n a.prefix.now a.clauses.now) (rows a.classes.now a.parents.now []) in
    let a = c.args in
    let n = a.pass.n in
    let (list, r, size, same) = c.pass_sets-needed.ensures.put in
    let long = ap length same in
    record {
      told = rw same (room_told _ n c.pass_sets-needed.result (length a.out.now)
          (λ fits. records_room (universal n a.prefix.now) Members n (length a.out.now) list r (omega arith))
          (λ less. (list, r, omega arith)));
      kept = same;
    }
