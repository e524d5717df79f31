use Prim.Native.Nat.{ℕ, ◌+◌, ◌<◌}
use mathlib.Core.Path.{refl, sym}
use mathlib.Core.Bool.{Bool, true, false}
use mathlib.Core.List.{List}
use mathlib.Core.Logic.{inl}
use native.Mathlib.Omega.{arith}
use lib.ListN.{length}
use Rattle.terms.proofs.Faults.{some_number}
use Rattle.terms.proofs.Verdicts.{handed_on}
use Rattle.formula.specs.Tables.{at}
use Rattle.formula.specs.InnerScan.{MarkFault}
use Rattle.formula.proofs.Scanned.{Scanned, scan_none, scan_mark, fault_at_mark, ends_from, block_fault, block_unclosed, block_empty, block_closed}
use Rattle.formula.proofs.Scanned.{none_in_prefix}
use Rattle.formula_checks.proofs.prefix.check_prefix.Goals as goal

pub loop-i-init : goal.loop-i-init
loop-i-init c = scan_none c.args.n c.args.prefix.now

pub returns-in-Some : goal.returns-in-Some
returns-in-Some c =
    let s = c.loop-i.invariant in
    record {
      judged = inl (fault_at_mark s c.loop-i-test.true _ (sym s.opening_is) c.in-Some.ensures.fault (some_number c.in-Some.fault));
    }

pub overflow_add-blocks : goal.overflow_add-blocks
overflow_add-blocks c =
    let few = c.loop-i.invariant.few in
    omega arith

-- The mark is scanned, and the variables behind it are next.
marked : {n : ℕ} {es : List ℕ} {i mark blocks : ℕ} {named : List Bool} (s : Scanned n es i true false mark blocks named) → i < length es
    → MarkFault (at es i) mark blocks 0 → Scanned n es (i + 1) false true (at es i) (blocks + 1) named
marked s more fine = scan_mark s more (sym s.opening_is) fine refl

pub name_variables-requires : goal.name_variables-requires
name_variables-requires c =
    let s = marked c.loop-i.invariant c.loop-i-test.true c.in_default.ensures.fault in
    record { few = c.requires.few; rows = s.naming.size; within = s.within }

pub returns-in_err-end : goal.returns-in_err-end
returns-in_err-end c =
    rw (handed_on c.from_residual.result c.from_residual.ensures.1)
    record {
      judged = inl (block_fault c.requires.few (marked c.loop-i.invariant c.loop-i-test.true c.in_default.ensures.fault) c.in_err-end.ensures.ends
          (some_number c.in_err-end.field-0.0.0));
    }

pub returns-then-prefix-end : goal.returns-then-prefix-end
returns-then-prefix-end c =
    record {
      judged = inl (block_unclosed c.requires.few (marked c.loop-i.invariant c.loop-i-test.true c.in_default.ensures.fault) c.in_ok-end.ensures.ends refl
          c.if-prefix-end.true);
    }

pub returns-then-end-start : goal.returns-then-end-start
returns-then-end-start c =
    record {
      judged = inl (block_empty c.requires.few (marked c.loop-i.invariant c.loop-i-test.true c.in_default.ensures.fault) c.in_ok-end.ensures.ends refl
          c.if-prefix-end.false refl c.if-end-start.true);
    }

pub loop-i-smaller : goal.loop-i-smaller
loop-i-smaller c =
    let from = ends_from c.in_ok-end.ensures.ends in
    let more = c.if-prefix-end.false in
    omega arith

pub loop-i-preserved : goal.loop-i-preserved
loop-i-preserved c =
    block_closed c.requires.few (marked c.loop-i.invariant c.loop-i-test.true c.in_default.ensures.fault) c.in_ok-end.ensures.ends refl
    c.if-prefix-end.false c.if-end-start.false

pub returns : goal.returns
returns c = record { judged = (none_in_prefix c.loop-i.invariant c.loop-i-test.false refl, tt) }
