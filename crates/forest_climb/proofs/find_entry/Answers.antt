-- Where y is existential and deeper than x, its class stands in y's block, so that the climb from there ends at the entry point (searched_entry).
use mathlib.Core.Path.{◌≡◌, sym, ap, ◌∙◌, subst}
use native.Mathlib.Omega.{arith}
use lib.ListN.{get_or}
use Rattle.forest_theory.specs.Tables.{lent, EntryPoint}
use Rattle.forest_tables.specs.InnerTabled.{tabled}
use Rattle.forest_tables.specs.InnerRows.{rows_of}
use Rattle.forest_climb.proofs.Climbing.{formed_falls, formed_block, searched_rows, searched_entry}
use Rattle.forest_climb.proofs.find_entry.Goals as goal

pub climb-requires : goal.climb-requires
climb-requires c =
    let a = c.args in
    let existential = c.existential_at in
    let ex = sym existential.ensures.told ∙ c.if-not-existential_at.false in
    let block = formed_block a.n a.levels.now a.universals.now a.classes.now a.parents.now c.requires.formed a.y.0 ex in
    let own : get_or a.levels.now c.row_of-own.result.0 0 ≡ get_or a.levels.now a.y.0 0 =
    ap (λ d. get_or a.levels.now d 0) c.row_of-own.ensures.read ∙ block in
    let deep = c.level_at-deep.ensures in
    let over = c.if-deep-floor.false in
    record {
      falling = (
        formed_falls a.n a.levels.now a.universals.now a.classes.now a.parents.now c.requires.formed,
        omega arith,
        omega (arith, c.type_inv.levels c.row_of-own.result.0),
      );
    }

pub returns : goal.returns
unfolding lent
returns c =
    let a = c.args in
    let formed = c.requires in
    let existential = c.existential_at in
    let ex = sym existential.ensures.told ∙ c.if-not-existential_at.false in
    let floor = c.level_at-floor.ensures in
    let deep = c.level_at-deep.ensures in
    let over = c.if-deep-floor.false in
    let (k, sum, found) = c.climb.ensures.climbed in
    let same : k ≡ c.climb.result.rises = omega arith in
    let X = tabled a.n a.levels.now a.universals.now in
    let W = rows_of a.n a.classes.now a.parents.now in
    let searched = searched_rows a.n a.levels.now a.universals.now a.classes.now a.parents.now formed.formed found in
    let entry = searched_entry formed.formed c.level_at-floor.result.0 c.row_of-own.result.0 floor.read c.row_of-own.ensures.read searched in
    record { found = (record { existential = ex; deep = omega arith }, subst (λ r. EntryPoint X W a.x.0 a.y.0 c.climb.result.class.0 r) same entry) }
