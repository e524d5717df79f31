use Prim.Native.Nat.{ℕ, ◌+◌, ◌-◌, ◌≤◌, ◌<◌}
use mathlib.Core.Path.{◌≡◌, ◌∙◌}
use mathlib.Core.Bool.{Bool}
use mathlib.Core.List.{List}
use mathlib.Core.Logic.{◌≢◌}
use native.Mathlib.Omega.{arith}
use lib.IntN.{ℤ}
use lib.ListN.{length, get_or, set, length-set}
use lib.Seq.{get_or-set_other}
use Rattle.formula.specs.Tables.{at as row_at}
use Rattle.path_check.specs.InnerWalk.{StandsFrom}
use Rattle.path_check.proofs.Beginning.{begin_from}
use Rattle.path_explain.specs.InnerWays.{Ready}
use Rattle.path_explain.proofs.Writing.{writing_more, way_there, onward_some, onward_next, clause_begins}
use Rattle.path_explain.proofs.ways.write_way.Goals as goal
use Rattle.path_explain.proofs.ways.write_way.Goals.{In-loop-i}

-- The clause that comes is one of the table, begins where its row says, and is as far as clauses are to be written.
record Comes (ls : List ℤ) (begins dists : List ℕ) (clause far : ℕ) : Type 0 where
  within : clause < length begins
  end : ℕ
  stands : StandsFrom ls clause (get_or begins clause 0 - 1) end
  row : get_or begins clause 0 ≢ 0
  is : row_at dists clause ≡ far

comes : (c : In-loop-i) (flags : List Bool) (y : ℕ) (dists : List ℕ)
    → Ready c.args.clauses.now c.args.begins.now flags y dists c.args.rows.now c.args.nearest.now c.args.first c.args.count
    → Comes c.args.clauses.now c.args.begins.now dists c.loop-i.clause (c.args.count - c.loop-i.i)
comes c flags y dists ready =
    let less = c.loop-i-test.true in
    let clause = c.loop-i.clause in
    let (far, _, _) = (c.loop-i.invariant.writing flags y dists ready).comes less in
    let (known, there) = clause_begins flags ready.laid ready.measured clause (omega arith) in
    let room = ready.laid.rows.room in
    let (end, f) = begin_from (ready.laid.rows.rows clause known) there in
    record { within = omega arith; end = end; stands = f; row = there; is = omega arith }

-- Behind what is written nothing is changed.
behind : (c : In-loop-i) (e : ℕ) → c.loop-i.i + 1 ≤ e → row_at (set c.loop-i.out c.loop-i.i c.loop-i.clause) e ≡ row_at c.args.out.now e
behind c e l = get_or-set_other c.loop-i.out c.loop-i.i e c.loop-i.clause 0 (λ same. omega arith) ∙ c.loop-i.invariant.behind e (omega arith)

pub bounds-begins-clause : goal.bounds-begins-clause
bounds-begins-clause c = let (flags, y, dists, ready) = c.requires.ready.0 in (comes (goal.at.bounds-begins-clause c).In-loop-i flags y dists ready).within

pub overflow_sub-start : goal.overflow_sub-start
overflow_sub-start c =
    let (flags, y, dists, ready) = c.requires.ready.0 in
    omega (arith, (comes (goal.at.overflow_sub-start c).In-loop-i flags y dists ready).row)

-- Where none is nearer the clause was the last.
pub returns-in_default : goal.returns-in_default
returns-in_default c =
    let start = (goal.at.returns-in_default c).In-loop-i in
    let inv = c.loop-i.invariant in
    let less = c.loop-i-test.true in
    let room = c.requires.ready.1 in
    record {
      written = λ flags y dists ready.
          let here = comes start flags y dists ready in
          let none : 1 < c.args.count - c.loop-i.i → ⊥ =
          λ more. onward_some flags ready.measured ready.near here.stands here.is more (c.in_default.ensures.lowest here.end here.stands.next) in
          way_there (writing_more (inv.writing flags y dists ready) less (omega arith) 0 (λ far more. absurd (none more))) (omega arith) c.args.out.now
          (length-set c.loop-i.out c.loop-i.i c.loop-i.clause ∙ c.loop-i.auto.out) room (behind start);
    }

pub loop-i-preserved : goal.loop-i-preserved
loop-i-preserved c =
    let start = (goal.at.loop-i-preserved c).In-loop-i in
    let inv = c.loop-i.invariant in
    record {
      behind = behind start;
      writing = λ flags y dists ready.
          let here = comes start flags y dists ready in
          writing_more (inv.writing flags y dists ready) c.loop-i-test.true (omega (arith, c.requires.ready.1)) c.in-Some.nearer
          (λ far more. onward_next flags ready.measured ready.near here.stands here.is (c.in-Some.ensures.lowest here.end here.stands.next));
    }

pub returns : goal.returns
returns c =
    let inv = c.loop-i.invariant in
    record {
      written = λ flags y dists ready.
          way_there (inv.writing flags y dists ready) (omega (arith, c.loop-i-test.false)) c.args.out.now c.loop-i.auto.out c.requires.ready.1 inv.behind;
    }
