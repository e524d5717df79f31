-- A record of another size does not have the rows; one of the right size has them if each of the three tables agrees with its part of the payload.
use Prim.Native.Nat.{ℕ, ◌+◌, ◌*◌, ◌<◌}
use mathlib.Core.Path.{refl, ap, ◌∙◌}
use mathlib.Core.List.{◌++◌}
use mathlib.Core.Logic.{◌↔◌, inr}
use native.Mathlib.Omega.{arith}
use lib.ListN.{length}
use Rattle.forest_tables.proofs.Readings.{told_both}
use Rattle.file_format.specs.Places.{third_at, HoldsNumbers}
use Rattle.file_layout.proofs.Spans.{laid_ends}
use Rattle.file_verify.proofs.Agreement.{Three, other_size, three_length, three_holds}
use Rattle.file_verify.proofs.contents.rows_hold.Goals as goal
use Rattle.file_verify.proofs.contents.rows_hold.Goals.{After-third_at-third, Else-size-classes}

-- Every place that is read is near enough.
near : (c : After-third_at-third)
    → c.third_at-third.result + 6 + 4 * length c.args.classes.now + 4 * length c.args.parents.now + 4 * length c.args.counts.now < 4294967294
near c =
    let ends = laid_ends c.args.file.now c.requires.small.0 in
    omega (arith, c.third_at-third.ensures.found, ends.third, ends.fourth, c.requires.small.1, c.requires.small.2, c.requires.small.3)

-- A record of the right size has the rows where its three parts agree.
parts : (c : Else-size-classes)
    → HoldsNumbers 4 c.args.file.now (third_at c.args.file.now) (c.args.classes.now ++ (c.args.parents.now ++ c.args.counts.now))
    ↔ Three c.args.file.now (c.third_at-third.result + 6) c.args.classes.now c.args.parents.now c.args.counts.now
parts c =
    let a = c.args in
    three_holds a.file.now c.third_at-third.ensures.found a.classes.now a.parents.now a.counts.now c.size_at-size.ensures.read c.if-size-classes.false

pub size_at-size-requires : goal.size_at-size-requires
size_at-size-requires c = record { near = omega (arith, near (goal.at.size_at-size-requires c).After-third_at-third) }

pub returns-then-size-classes : goal.returns-then-size-classes
returns-then-size-classes c =
    let a = c.args in
    let many = three_length a.classes.now a.parents.now a.counts.now in
    record {
      told = other_size 4 a.file.now c.third_at-third.ensures.found (a.classes.now ++ (a.parents.now ++ a.counts.now)) c.size_at-size.ensures.read
          (λ e. c.if-size-classes.true (e ∙ ap (λ (k : ℕ). 4 * k) many));
    }

pub overflow_add-first : goal.overflow_add-first
overflow_add-first c = omega (arith, near (goal.at.overflow_add-first c).After-third_at-third)

pub same_numbers-requires : goal.same_numbers-requires
same_numbers-requires c = record { near = (inr refl, omega (arith, near (goal.at.same_numbers-requires c).After-third_at-third)) }

pub returns-then-not-same_numbers : goal.returns-then-not-same_numbers
returns-then-not-same_numbers c =
    let both = parts (goal.at.returns-then-not-same_numbers c).Else-size-classes in
    record { told = λ h. c.if-not-same_numbers.ensures.told (both.0 h).classes }

pub overflow_add-second : goal.overflow_add-second
overflow_add-second c = omega (arith, near (goal.at.overflow_add-second c).After-third_at-third)

pub same_numbers-requires-2 : goal.same_numbers-requires-2
same_numbers-requires-2 c = record { near = (inr refl, omega (arith, near (goal.at.same_numbers-requires-2 c).After-third_at-third)) }

pub returns-then-not-same_numbers-2 : goal.returns-then-not-same_numbers-2
returns-then-not-same_numbers-2 c =
    let both = parts (goal.at.returns-then-not-same_numbers-2 c).Else-size-classes in
    record { told = λ h. c.if-not-same_numbers-2.ensures.told (both.0 h).parents }

pub overflow_add-second-2 : goal.overflow_add-second-2
overflow_add-second-2 c = omega (arith, near (goal.at.overflow_add-second-2 c).After-third_at-third)

pub same_numbers-requires-3 : goal.same_numbers-requires-3
same_numbers-requires-3 c = record { near = (inr refl, omega (arith, near (goal.at.same_numbers-requires-3 c).After-third_at-third)) }

pub returns : goal.returns
returns c =
    let both = parts (goal.at.returns c).Else-size-classes in
    let classes = c.if-not-same_numbers.ensures.told in
    let parents = c.if-not-same_numbers-2.ensures.told in
    record {
      told = told_both c.same_numbers-3.result (λ k. both.1 (record { classes = classes; parents = parents; counts = k })) (λ h. (both.0 h).counts)
          c.same_numbers-3.ensures.told;
    }
