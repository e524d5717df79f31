use Prim.Native.Nat.{ℕ, ◌≤◌}
use mathlib.Core.Path.{◌≡◌, sym, ◌∙◌}
use mathlib.Core.Bool.{true, false}
use native.Mathlib.Omega.{arith}
use lib.ListN.{length, get_or, length-replicate}
use Rattle.forest_tables.specs.Formula.{variables, universal}
use Rattle.forest_tables.specs.InnerTabled.{universal_in}
use Rattle.forest_tables.proofs.Agreeing.{lawful, level_agrees, universal_agrees}
use Rattle.forest_tables.proofs.Readings.{flag_within}
use Rattle.formula.specs.Lent.{formula_of}
use Rattle.formula.proofs.Ordered.{marks_within, level_most}
use Rattle.sets_occurrences.specs.InnerThreads.{Tied}
use Rattle.sets_subtrees.proofs.Linked.{floored_none}
use Rattle.listing_lines.specs.Inner.{line_bytes}
use Rattle.listing.proofs.Printed.{line_sent}
use Rattle.listing.proofs.Lines.{passed_none, passed_more, passed_other, passed_few, passed_all}
use Rattle.listing.proofs.list_tied.Goals as goal

pub loop-passed-init : goal.loop-passed-init
loop-passed-init g c =
    let a = c.args in
    let ready = c.requires.ready in
    let is = c.new.ensures.holds in
    let low : (v : ℕ) → (variables a.n a.prefix.now).ex v ≡ true → (variables a.n a.prefix.now).lev v ≤ c.new.result.0 =
    λ v ex.
    let own = level_agrees ready.sound ready.table v ((lawful a.n a.prefix.now).within v ex).1 in
    omega (arith, c.type_inv.levels v) in
    let none = floored_none a.n a.prefix.now a.classes.now a.parents.now c.new.result.0 (omega arith) low in
    record {
      passed = passed_none (formula_of a.n a.prefix.now a.clauses.now) _;
      floored = none;
      whole = length-replicate {A = ℕ} line_bytes 0;
    }

pub line_of-end-requires-clause-tied : goal.line_of-end-requires-clause-tied
unfolding universal_in
line_of-end-requires-clause-tied g c =
    let a = c.args in
    let ready = c.requires.ready in
    let few = ready.sound.few in
    let short = ready.sound.short in
    let heads = ready.heads in
    let x = c.new-x.result.0 in
    let u : universal_in a.n a.universals.now x ≡ true = sym c.universal_at.ensures.told ∙ c.if-not-universal_at.false in
    let (_, most, flag) = flag_within a.n x (get_or a.universals.now x false) u in
    let level = c.refloor-floor.ensures.own.0 in
    let shallow = level_most ready.sound x (omega arith) in
    let blocks = marks_within a.prefix.now (length a.prefix.now) in
    let tied : Tied a.clauses.now a.first.now a.next.now x =
    record { heads = omega arith; links = ready.links; universals = a.universals.now; threaded = ready.threaded; universal = flag } in
    (few, most, omega arith, ready.closed, tied)

pub line_of-end-requires-clause-own : goal.line_of-end-requires-clause-own
line_of-end-requires-clause-own g c =
    let a = c.args in
    let ready = c.requires.ready in
    let x = c.new-x.result.0 in
    let u : universal_in a.n a.universals.now x ≡ true = sym c.universal_at.ensures.told ∙ c.if-not-universal_at.false in
    record {
      classes = a.classes.now;
      parents = a.parents.now;
      own = c.requires.own;
      universal_is = sym (universal_agrees ready.sound ready.table x) ∙ u;
      low = c.refloor-floor.ensures.own.0;
      rows = c.refloor-floor.ensures.floored.over.rows;
    }

pub overflow_add-lines : goal.overflow_add-lines
overflow_add-lines g c =
    let count = passed_few c.loop-passed.invariant.passed in
    let less = c.loop-passed-test.true in
    let few = c.requires.ready.sound.few in
    omega arith

pub loop-passed-preserved : goal.loop-passed-preserved
loop-passed-preserved g c =
    let ready = c.requires.ready in
    let less = c.loop-passed-test.true in
    let x = c.new-x.result.0 in
    let u : universal c.args.n c.args.prefix.now x ≡ true =
    sym (universal_agrees ready.sound ready.table x) ∙ sym c.universal_at.ensures.told ∙ c.if-not-universal_at.false in
    let (line, own, size, left) = c.line_of-end.ensures.stored in
    let sent = line_sent _ _ line _ size left c.in_ok-print.ensures.written in
    record {
      passed = passed_more c.loop-passed.invariant.passed less c.new-x.ensures.holds u line own _ sent;
      floored = c.refloor-floor.ensures.floored;
      whole = c.line_of-end.auto.line ∙ c.loop-passed.invariant.whole;
    }

pub loop-passed-preserved-then-not-universal_at : goal.loop-passed-preserved-then-not-universal_at
loop-passed-preserved-then-not-universal_at g c =
    let ready = c.requires.ready in
    let i = c.loop-passed.invariant in
    let x = c.new-x.result.0 in
    let u : universal c.args.n c.args.prefix.now x ≡ false =
    sym (universal_agrees ready.sound ready.table x) ∙ sym c.universal_at.ensures.told ∙ c.if-not-universal_at.true in
    record { passed = passed_other i.passed c.loop-passed-test.true c.new-x.ensures.holds u; floored = i.floored; whole = i.whole }

pub returns : goal.returns
returns g c = record { printed = passed_all c.loop-passed.invariant.passed c.loop-passed-test.false }
