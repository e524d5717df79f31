-- The three tests are the three parts of a right class row (class_right), and each that fails refutes one (class_most, class_name, class_block).
use mathlib.Core.List.{[]}
use native.Mathlib.Omega.{arith}
use Rattle.forest_tables.proofs.Readings.{told, told_not}
use Rattle.forest_tables.proofs.Formed.{class_right, class_most, class_name, class_block}
use Rattle.forest_tables.proofs.rows.class_is_right.Goals as goal

pub returns-then-v-class : goal.returns-then-v-class
returns-then-v-class c =
    let a = c.args in
    let most = class_most a.n a.levels.now a.universals.now a.classes.now [] a.v.0 c.row_of-class.result.0 in
    let over = c.if-v-class.true in
    record { tells = λ r. omega (arith, most c.row_of-class.ensures.read r) }

pub returns-then-not-names_class : goal.returns-then-not-names_class
returns-then-not-names_class c =
    let names = c.names_class in
    let a = c.args in
    let name = class_name a.n a.levels.now a.universals.now a.classes.now [] a.v.0 c.row_of-class.result.0 in
    record { tells = λ r. told_not names.result (c.if-not-names_class.true) names.ensures.tells (name c.row_of-class.ensures.read r) }

pub returns-then-block-own : goal.returns-then-block-own
returns-then-block-own c =
    let a = c.args in
    record {
      tells = λ r. c.if-block-own.true (class_block a.n a.levels.now a.universals.now a.classes.now [] a.v.0 c.row_of-class.result.0
          c.level_at-block.result.0 c.level_at-own.result.0 c.row_of-class.ensures.read c.level_at-block.ensures.read
          c.level_at-own.ensures.read r);
    }

pub returns : goal.returns
returns c =
    let names = c.names_class in
    let a = c.args in
    record {
      tells = class_right a.n a.levels.now a.universals.now a.classes.now [] a.v.0 c.row_of-class.result.0
          c.level_at-block.result.0 c.level_at-own.result.0 c.row_of-class.ensures.read c.if-v-class.false
          (told names.result (c.if-not-names_class.false) names.ensures.tells) c.level_at-block.ensures.read c.level_at-own.ensures.read
          c.if-block-own.false;
    }
