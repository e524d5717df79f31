use Prim.Native.Nat.{ℕ, ◌+◌}
use mathlib.Core.Path.{refl, sym}
use mathlib.Core.Bool.{true, false}
use mathlib.Core.Logic.{inl}
use lib.ListN.{length-replicate, set}
use Rattle.formula.specs.Tables.{at}
use Rattle.formula.proofs.Named.{unnamed}
use Rattle.forest_tables.proofs.Readings.{new_zero}
use Rattle.dqbf_lists.proofs.Checked.{Checked, check_none, check_open, fault_open, list_unclosed, list_fault, list_closed, none_in_lists}
use Rattle.dqbf_lists.proofs.checking.check_lists.Goals.{Else-not-may_open}
use Rattle.dqbf_lists.proofs.checking.check_lists.Goals as goal

pub place_blocks-requires-clause-blank : goal.place_blocks-requires-clause-blank
place_blocks-requires-clause-blank c = unnamed 4097

pub loop-i-init : goal.loop-i-init
loop-i-init c =
    let a = c.args in
    check_none a.n a.prefix.now a.lists.now _ _ c.place_blocks.ensures.placed (length-replicate {A = ℕ} 4097 0) (new_zero 4097)

pub returns-then-not-may_open : goal.returns-then-not-may_open
returns-then-not-may_open c = record { judged = inl (fault_open c.loop-i.invariant c.loop-i-test.true refl c.if-not-may_open.ensures.told) }

-- An entry that may open a list is placed.
opened : (c : Else-not-may_open)
    → let a = c.args in
    Checked a.n a.prefix.now a.lists.now (c.loop-i.i + 1) false (set c.loop-i.placed (at a.lists.now c.loop-i.i) true) c.loop-i.last
opened c = check_open c.loop-i.invariant c.loop-i-test.true refl c.if-not-may_open.ensures.told c.requires.sound.few

pub returns-then-lists-end : goal.returns-then-lists-end
returns-then-lists-end c =
    let s = opened (goal.at.returns-then-lists-end c).Else-not-may_open in
    record {
      judged = inl (list_unclosed c.requires.sound.few c.requires.universals c.loop-i.i s (sym c.loop-i.invariant.opening_is)
          c.pass_universals-end.ensures.passes c.if-lists-end.true);
    }

pub returns-then-lists-end-ne0 : goal.returns-then-lists-end-ne0
returns-then-lists-end-ne0 c =
    let s = opened (goal.at.returns-then-lists-end-ne0 c).Else-not-may_open in
    record {
      judged = inl (list_fault c.requires.sound.few c.requires.universals c.loop-i.i s (sym c.loop-i.invariant.opening_is)
          c.pass_universals-end.ensures.passes c.if-lists-end.false c.if-lists-end-ne0.true);
    }

pub loop-i-preserved : goal.loop-i-preserved
loop-i-preserved c =
    list_closed c.requires.sound.few c.requires.universals c.loop-i.i (opened (goal.at.loop-i-preserved c).Else-not-may_open)
    (sym c.loop-i.invariant.opening_is) c.pass_universals-end.ensures.passes c.if-lists-end.false c.if-lists-end-ne0.false

pub returns : goal.returns
returns c = record { judged = (none_in_lists c.loop-i.invariant c.loop-i-test.false refl, tt) }
