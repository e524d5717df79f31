-- The two tests are what is left of a right parent row (parent_right), and each that fails refutes one part (parent_name, parent_block).
use native.Mathlib.Omega.{arith}
use Rattle.forest_tables.proofs.Readings.{told, told_not}
use Rattle.forest_tables.proofs.Formed.{parent_right, parent_name, parent_block}
use Rattle.forest_tables.proofs.rows.parent_is_right.Goals as goal

pub returns-then-not-names_class : goal.returns-then-not-names_class
returns-then-not-names_class c =
    let names = c.names_class in
    let a = c.args in
    let name = parent_name a.n a.levels.now a.universals.now a.classes.now a.parents.now a.v.0 c.row_of-parent.result.0 in
    record { tells = λ r. told_not names.result (c.if-not-names_class.true) names.ensures.tells (name c.row_of-parent.ensures.read r) }

pub returns-then-own-block : goal.returns-then-own-block
returns-then-own-block c =
    let a = c.args in
    let less = parent_block a.n a.levels.now a.universals.now a.classes.now a.parents.now a.v.0 c.row_of-parent.result.0 in
    let over = c.if-own-block.true in
    record {
      tells = λ r. omega (
        arith,
        less c.level_at-block.result.0 c.level_at-own.result.0 c.row_of-parent.ensures.read c.level_at-block.ensures.read
            c.level_at-own.ensures.read r,
      );
    }

pub returns : goal.returns
returns c =
    let names = c.names_class in
    let a = c.args in
    record {
      tells = parent_right a.n a.levels.now a.universals.now a.classes.now a.parents.now a.v.0 c.row_of-parent.result.0
          c.level_at-block.result.0 c.level_at-own.result.0 c.row_of-parent.ensures.read c.requires.name
          (told names.result (c.if-not-names_class.false) names.ensures.tells) c.level_at-block.ensures.read c.level_at-own.ensures.read
          c.if-own-block.false;
    }
