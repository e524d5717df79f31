-- What the blocks open and what the lists open is together whose list has x (rows_open).
use native.Mathlib.Omega.{arith}
use Rattle.forest_tables.proofs.Agreeing.{universal_within}
use Rattle.dqbf_sets.proofs.Opened.{rows_open}
use Rattle.dqbf_sets.proofs.opening.open_for.Goals as goal

pub open_blocks-requires : goal.open_blocks-requires
open_blocks-requires c =
    let pre = c.requires in
    let few = pre.sound.0.few in
    let size = pre.rows in
    record { room = omega arith }

pub open_lists-requires : goal.open_lists-requires
open_lists-requires c =
    let (some, low, _) = universal_within c.args.n c.args.prefix.now c.args.x.0 c.requires.universal in
    let few = c.requires.sound.0.few in
    let size = c.requires.rows in
    let same = c.open_blocks.auto.rows in
    record {
      listed = c.requires.listed;
      some = λ z. omega arith;
      room = (few, omega arith);
    }

pub returns : goal.returns
returns c =
    let (sound, table) = c.requires.sound in
    record {
      told = rows_open sound table c.requires.listed c.requires.universal c.level_at-floor.result.0 c.open_blocks.new.rows
          c.open_lists.new.rows c.level_at-floor.ensures.read c.open_blocks.ensures.told c.open_lists.ensures.opened;
    }
