use Prim.Native.Nat.{ℕ, ◌+◌, ◌-◌}
use mathlib.Core.Path.{◌≡◌, sym, ap, ◌∙◌, subst}
use native.Mathlib.Omega.{arith}
use Rattle.formula.specs.Tables.{at}
use Rattle.formula.proofs.Levelling.{variable_small}
use Rattle.forest_theory.specs.Tables.{row}
use Rattle.forest_tables.specs.InnerCounting.{passed_up}
use Rattle.forest_tables.proofs.Counting.{passing_most, passing_none, passing_over, passing_up, passing_all, parent_small}
use Rattle.forest_tables.proofs.counts.pass_all_up.Invariants.{Within, AllWithin}
use Rattle.forest_tables.proofs.counts.pass_all_up.Goals as goal
use Rattle.forest_tables.proofs.counts.pass_all_up.Goals.{In-loop-i}

-- What the rows count before entry i - 1 is looked at.
back : (c : In-loop-i) → let a = c.args in
    let l = c.loop-i in
    AllWithin a.n a.prefix.now a.parents.now a.counts.now (l.i - 1 + 1) l.counts
back c classes formed k =
    let a = c.args in
    let l = c.loop-i in
    let q : l.i ≡ l.i - 1 + 1 = omega arith in
    subst (λ (e : ℕ). Within a.n a.prefix.now classes a.parents.now e l.counts) q (l.invariant classes formed k)

pub loop-i-init : goal.loop-i-init
loop-i-init c classes formed k =
    let a = c.args in
    passing_none a.n a.prefix.now classes a.parents.now formed c.requires.sound (omega arith) k

pub pass_up-requires : goal.pass_up-requires
pass_up-requires c =
    let a = c.args in
    let es = a.prefix.now in
    let sound = c.requires.sound in
    let (classes, formed, k) = c.requires.members in
    let size = k.size in
    let (within, shut, some) = c.if-names_at.ensures.tells in
    let small = variable_small sound (c.loop-i.i - 1) within shut some in
    let up = parent_small a.n es classes a.parents.now formed sound c.new.result.0 sound.few in
    let new = c.new.ensures in
    let few = sound.few in
    record {
      own = omega arith;
      parent = omega arith;
      small = λ v. omega (arith, passing_most a.n es classes a.parents.now formed sound (c.loop-i.invariant classes formed k) v);
    }

pub loop-i-preserved-then-names_at : goal.loop-i-preserved-then-names_at
loop-i-preserved-then-names_at c classes formed k =
    let a = c.args in
    let es = a.prefix.now in
    let ps = a.parents.now in
    let sound = c.requires.sound in
    let named : c.new.result.0 ≡ at es (c.loop-i.i - 1) = c.new.ensures.holds in
    let stored = c.pass_up.ensures.passed ∙ ap (λ (w : ℕ). passed_up (row a.n ps w) w c.loop-i.counts) named in
    subst (Within a.n es classes ps (c.loop-i.i - 1)) (sym stored)
    (passing_up a.n es classes ps formed sound c.if-names_at.ensures.tells sound.few
    (back (goal.at.loop-i-preserved-then-names_at c).In-loop-i classes formed k))

pub loop-i-preserved : goal.loop-i-preserved
loop-i-preserved c classes formed k =
    let a = c.args in
    passing_over a.n a.prefix.now classes a.parents.now formed c.requires.sound c.if-names_at.ensures.tells
    (back (goal.at.loop-i-preserved c).In-loop-i classes formed k)

pub returns : goal.returns
returns c =
    let a = c.args in
    let l = c.loop-i in
    let none : l.i ≡ 0 = omega arith in
    record {
      counted = λ classes formed k. passing_all a.n a.prefix.now classes a.parents.now formed c.requires.sound
          (subst (λ (e : ℕ). Within a.n a.prefix.now classes a.parents.now e l.counts) none (l.invariant classes formed k));
    }
