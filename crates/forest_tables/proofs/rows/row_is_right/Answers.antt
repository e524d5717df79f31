-- One case for each way out: the rows of a universal are right exactly if both are 0 (universal_says), those of an existential exactly if its class
-- row is, and where it has a parent its parent row too (made, parent_says); one that is its own class name has a right class row (own_name).
use mathlib.Core.Path.{◌≡◌, sym, ◌∙◌}
use mathlib.Core.Bool.{true, false}
use mathlib.Core.List.{[]}
use mathlib.Core.Logic.{◌≢◌}
use Rattle.forest_theory.specs.Tables.{lent, ClassRow}
use Rattle.forest_tables.specs.InnerTabled.{existential_in, tabled}
use Rattle.forest_tables.specs.InnerRows.{rows_of, RightParent, RightRow}
use Rattle.forest_tables.proofs.Readings.{told_both}
use Rattle.forest_tables.proofs.Formed.{class_own, class_alone, existential_right, universal_right, universal_class, row_parent}
use Rattle.forest_tables.proofs.rows.row_is_right.Goals as goal
use Rattle.forest_tables.proofs.rows.row_is_right.Goals.{After-existential_at}

-- the claims about v, once its rows are read
abbrev Right : After-existential_at → Type 0
Right c = let a = c.args in RightRow a.n a.levels.now a.universals.now a.classes.now a.parents.now a.v.0

abbrev Class : After-existential_at → Type 0
Class c = let a = c.args in ClassRow (tabled a.n a.levels.now a.universals.now) (rows_of a.n a.classes.now a.parents.now) a.v.0

abbrev Parent : After-existential_at → Type 0
Parent c = let a = c.args in RightParent a.n a.levels.now a.universals.now a.classes.now a.parents.now a.v.0

-- the flag of v
abbrev Exists : After-existential_at → Type 0
Exists c = existential_in c.args.n c.args.universals.now c.args.v.0 ≡ true

universal_says : (c : After-existential_at) → existential_in c.args.n c.args.universals.now c.args.v.0 ≡ false → Right c
    → (c.row_of-class.result.0 ≡ 0) × (c.row_of-parent.result.0 ≡ 0)
universal_says c =
    let a = c.args in
    universal_class a.n a.levels.now a.universals.now a.classes.now a.parents.now a.v.0 c.row_of-class.result.0 c.row_of-parent.result.0
    c.row_of-class.ensures.read c.row_of-parent.ensures.read

made : (c : After-existential_at) → Exists c → Class c → (c.row_of-parent.result.0 ≢ 0 → Parent c) → Right c
made c =
    let a = c.args in
    existential_right a.n a.levels.now a.universals.now a.classes.now a.parents.now a.v.0 c.row_of-class.result.0 c.row_of-parent.result.0
    c.row_of-class.ensures.read c.row_of-parent.ensures.read

parent_says : (c : After-existential_at) → c.row_of-parent.result.0 ≢ 0 → Right c → Parent c
parent_says c =
    let a = c.args in
    row_parent a.n a.levels.now a.universals.now a.classes.now a.parents.now a.v.0 c.row_of-class.result.0 c.row_of-parent.result.0
    c.row_of-class.ensures.read c.row_of-parent.ensures.read

own_name : (c : After-existential_at) → Exists c → c.row_of-class.result.0 ≡ c.args.v.0 → Class c
own_name c exists same =
    let a = c.args in
    class_own a.n a.levels.now a.universals.now a.classes.now a.parents.now a.v.0 c.row_of-class.result.0 c.row_of-class.ensures.read same exists

pub returns-then-class-ne0 : goal.returns-then-class-ne0
returns-then-class-ne0 c =
    let e = (goal.at.returns-then-class-ne0 c).After-existential_at in
    let un = sym c.existential_at.ensures.told ∙ c.if-not-existential_at.true in
    record { tells = λ r. c.if-class-ne0.true (universal_says e un r).0 }

pub returns-then-parent-ne0 : goal.returns-then-parent-ne0
returns-then-parent-ne0 c =
    let e = (goal.at.returns-then-parent-ne0 c).After-existential_at in
    let un = sym c.existential_at.ensures.told ∙ c.if-not-existential_at.true in
    record { tells = λ r. c.if-parent-ne0.true (universal_says e un r).1 }

pub returns-then-not-existential_at : goal.returns-then-not-existential_at
returns-then-not-existential_at c =
    let a = c.args in
    record {
      tells = universal_right a.n a.levels.now a.universals.now a.classes.now a.parents.now a.v.0 c.row_of-class.result.0
          c.row_of-parent.result.0 c.row_of-class.ensures.read c.row_of-parent.ensures.read
          (sym c.existential_at.ensures.told ∙ c.if-not-existential_at.true) c.if-class-ne0.false c.if-parent-ne0.false;
    }

pub returns-then-parent-ne0-2 : goal.returns-then-parent-ne0-2
unfolding lent
returns-then-parent-ne0-2 c =
    let e = (goal.at.returns-then-parent-ne0-2 c).After-existential_at in
    record { tells = λ r. c.if-class-v.true (c.row_of-class.ensures.read ∙ (parent_says e c.if-parent-ne0-2.true r).child.itself) }

pub returns-then-class-v : goal.returns-then-class-v
returns-then-class-v c =
    let e = (goal.at.returns-then-class-v c).After-existential_at in
    let a = c.args in
    let exists = sym c.existential_at.ensures.told ∙ c.if-not-existential_at.false in
    record {
      tells = told_both c.class_is_right.result
          (λ class. made e exists (class_alone a.n a.levels.now a.universals.now a.classes.now [] a.parents.now class) (λ some. absurd (some c.if-parent-ne0-2.false)))
          (λ r. class_alone a.n a.levels.now a.universals.now a.classes.now a.parents.now [] (r.class exists)) c.class_is_right.ensures.tells;
    }

pub returns-then-parent-eq0 : goal.returns-then-parent-eq0
returns-then-parent-eq0 c =
    let e = (goal.at.returns-then-parent-eq0 c).After-existential_at in
    let exists = sym c.existential_at.ensures.told ∙ c.if-not-existential_at.false in
    record { tells = made e exists (own_name e exists c.if-class-v.false) (λ some. absurd (some c.if-parent-eq0.true)) }

pub returns : goal.returns
returns c =
    let e = (goal.at.returns c).After-existential_at in
    let exists = sym c.existential_at.ensures.told ∙ c.if-not-existential_at.false in
    record {
      tells = told_both c.parent_is_right.result (λ parent. made e exists (own_name e exists c.if-class-v.false) (λ _. parent))
          (parent_says e c.if-parent-eq0.false) c.parent_is_right.ensures.tells;
    }
