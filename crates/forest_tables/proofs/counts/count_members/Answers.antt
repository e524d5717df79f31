use Prim.Native.Nat.{ℕ, ◌+◌, ◌-◌, ◌<◌}
use mathlib.Core.Path.{◌≡◌, sym, ap, ◌∙◌, subst}
use native.Mathlib.Omega.{arith}
use lib.ListN.{length}
use Rattle.forest_theory.specs.Tables.{row}
use Rattle.forest_tables.specs.InnerCounting.{ForClasses, MembersTo}
use Rattle.forest_tables.proofs.Counting.{class_small, members_none, members_over, members_more, members_most}
use Rattle.forest_tables.proofs.counts.count_members.Goals as goal
use Rattle.forest_tables.proofs.counts.count_members.Goals.{After-row_of-class, Joined-class-ne0, then-class-ne0, else-class-ne0}

-- The class of v has a row.
small : (c : After-row_of-class) → c.row_of-class.result.0 < length c.loop-v.counts
small c =
    let a = c.args in
    let (es, parents, formed) = c.requires.formed in
    let few = c.requires.few in
    let size = c.requires.size in
    omega (arith, class_small a.n es a.classes.now parents formed c.new.result.0 few, c.row_of-class.ensures.read, c.loop-v.auto.counts)

-- What is counted behind v.
step : (c : Joined-class-ne0) → ForClasses c.args.n c.args.classes.now (λ es parents. MembersTo c.args.n es c.args.classes.now parents c.loop-v.v c.if-class-ne0.counts)
step c es parents formed =
    let a = c.args in
    let members = c.loop-v.invariant.members es parents formed in
    let is = c.row_of-class.ensures.read ∙ ap (row a.n a.classes.now) c.new.ensures.holds in
    let some = c.loop-v.auto.v in
    elim c.if-class-ne0.branch [
      | then-class-ne0 w ↦ rw w.counts-is (members_more a.n es a.classes.now parents formed c.requires.few some is w.if-class-ne0.true members)
      | else-class-ne0 w ↦ rw w.counts-is (members_over a.n es a.classes.now parents formed some (sym is ∙ w.if-class-ne0.false) members)
    ]

pub loop-v-init : goal.loop-v-init
loop-v-init c =
    let a = c.args in
    let r = c.requires in
    record { most = omega arith; members = λ es parents formed. members_none a.n es a.classes.now parents formed r.size r.zeros }

pub bounds-counts-class : goal.bounds-counts-class
bounds-counts-class c = small (goal.at.bounds-counts-class c).After-row_of-class

pub overflow_add-counts : goal.overflow_add-counts
overflow_add-counts c =
    let a = c.args in
    let few = c.requires.few in
    let (es, parents, formed) = c.requires.formed in
    let most = members_most a.n es a.classes.now parents formed (c.loop-v.invariant.members es parents formed) c.row_of-class.result.0 in
    omega arith

pub bounds-counts-class-then-class-ne0 : goal.bounds-counts-class-then-class-ne0
bounds-counts-class-then-class-ne0 c = small (goal.at.bounds-counts-class-then-class-ne0 c).After-row_of-class

pub loop-v-preserved : goal.loop-v-preserved
loop-v-preserved c =
    let q : c.loop-v.v + 1 - 1 ≡ c.loop-v.v = omega arith in
    record {
      most = omega arith;
      members = rw q (step (goal.at.loop-v-preserved c).Joined-class-ne0);
    }

pub returns : goal.returns
returns c =
    let a = c.args in
    let most = c.loop-v.invariant.most in
    let all : c.loop-v.v - 1 ≡ a.n = omega arith in
    record {
      members = λ es parents formed. subst (λ (m : ℕ). MembersTo a.n es a.classes.now parents m c.loop-v.counts) all
          (c.loop-v.invariant.members es parents formed);
    }

pub returns-after-class-ne0 : goal.returns-after-class-ne0
returns-after-class-ne0 c =
    let a = c.args in
    let all : c.loop-v.v ≡ a.n = omega arith in
    record {
      members = λ es parents formed. subst (λ (m : ℕ). MembersTo a.n es a.classes.now parents m c.if-class-ne0.counts) all
          (step (goal.at.returns-after-class-ne0 c).Joined-class-ne0 es parents formed);
    }
