use Prim.Native.Nat.{ℕ, ◌+◌, ◌<◌}
use mathlib.Core.Path.{◌≡◌, sym, refl}
use mathlib.Core.Bool.{Bool, true, false, cond}
use mathlib.Core.List.{List}
use mathlib.Core.Logic.{inl}
use native.Mathlib.Omega.{arith}
use lib.ListN.{length}
use Rattle.terms.proofs.Faults.{some_number}
use Rattle.terms.proofs.Verdicts.{handed_on}
use Rattle.formula.specs.Tables.{at}
use Rattle.formula.proofs.Scanned.{ends_from}
use Rattle.formula_rules.specs.InnerScan.{begins_after}
use Rattle.formula_rules.specs.InnerWriting.{MarkFault}
use Rattle.formula_rules.proofs.Scanned.{Scanned, scan_none, scan_mark, fault_at_mark, block_fault, block_unclosed, block_closed, settled, none_in_prefix}
use Rattle.formula_rules.proofs.judging.joined_verdict.Goals as goal

-- The mark is scanned, and the variables behind it are next.
marked : {n : ℕ} {es : List ℕ} {i last blocks : ℕ} {named : List Bool} {new : Bool} (s : Scanned n es i true last blocks named) → i < length es
    → new ≡ begins_after es i last → MarkFault (at es i) new blocks 0
    → Scanned n es (i + 1) false (cond new (at es i) last) (cond new (blocks + 1) blocks) named
marked {new = new} s more told good = scan_mark s more new (sym s.opening_is) told good refl

pub loop-i-init : goal.loop-i-init
loop-i-init c = scan_none c.args.n c.args.prefix.now

pub returns-in-Some : goal.returns-in-Some
returns-in-Some c =
    let s = c.loop-i.invariant in
    record {
      judged = inl (fault_at_mark s c.loop-i-test.true _ (sym s.opening_is) c.begins_after-new.ensures.told c.in-Some.ensures.fault (some_number c.in-Some.fault));
    }

pub name_variables-requires : goal.name_variables-requires
name_variables-requires c =
    let s = marked c.loop-i.invariant c.loop-i-test.true c.begins_after-new.ensures.told c.in_default.ensures.fault in
    record { few = c.requires.few; rows = s.naming.size; within = s.within }

pub returns-in_err-end : goal.returns-in_err-end
returns-in_err-end c =
    let s = marked c.loop-i.invariant c.loop-i-test.true c.begins_after-new.ensures.told c.in_default.ensures.fault in
    rw (handed_on c.from_residual.result c.from_residual.ensures.1)
    record { judged = inl (block_fault c.requires.few s c.in_err-end.ensures.ends (some_number c.in_err-end.field-0.0.0)) }

pub returns-then-prefix-end : goal.returns-then-prefix-end
returns-then-prefix-end c =
    let s = marked c.loop-i.invariant c.loop-i-test.true c.begins_after-new.ensures.told c.in_default.ensures.fault in
    record { judged = inl (block_unclosed c.requires.few s c.in_ok-end.ensures.ends refl c.if-prefix-end.true) }

pub overflow_add-blocks : goal.overflow_add-blocks
overflow_add-blocks c =
    let few = c.loop-i.invariant.few in
    omega arith

pub loop-i-smaller-then-new : goal.loop-i-smaller-then-new
loop-i-smaller-then-new c =
    let from = ends_from c.in_ok-end.ensures.ends in
    let more = c.if-prefix-end.false in
    omega arith

pub loop-i-smaller : goal.loop-i-smaller
loop-i-smaller c =
    let from = ends_from c.in_ok-end.ensures.ends in
    let more = c.if-prefix-end.false in
    omega arith

-- The scan at the next block, by whether this one began.
pub loop-i-preserved-then-new : goal.loop-i-preserved-then-new
loop-i-preserved-then-new c =
    let l = c.loop-i in
    let s = marked l.invariant c.loop-i-test.true c.begins_after-new.ensures.told c.in_default.ensures.fault in
    settled (at c.args.prefix.now l.i) l.last l.blocks true c.if-new.true
    (block_closed c.requires.few s c.in_ok-end.ensures.ends refl c.if-prefix-end.false)

pub loop-i-preserved : goal.loop-i-preserved
loop-i-preserved c =
    let l = c.loop-i in
    let s = marked l.invariant c.loop-i-test.true c.begins_after-new.ensures.told c.in_default.ensures.fault in
    settled (at c.args.prefix.now l.i) l.last l.blocks false c.if-new.false
    (block_closed c.requires.few s c.in_ok-end.ensures.ends refl c.if-prefix-end.false)

pub returns : goal.returns
returns c = record { judged = (none_in_prefix c.loop-i.invariant c.loop-i-test.false refl, tt) }
