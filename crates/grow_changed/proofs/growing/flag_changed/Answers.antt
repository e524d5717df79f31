-- Both tables have the sizes of all sets, so that the rows that differ tell which sets change (flags_grow).
use Prim.Native.Nat.{ℕ}
use native.Mathlib.Omega.{arith}
use lib.ListN.{length-replicate}
use Rattle.forest_tables.proofs.Readings.{new_zero}
use Rattle.grow_changed.proofs.Copying.{last_length}
use Rattle.grow_changed.proofs.Telling.{none_sound, none_closed, flags_grow}
use Rattle.grow_changed.proofs.growing.flag_changed.Goals as goal

pub fill_sizes-requires : goal.fill_sizes-requires
fill_sizes-requires c =
    let (sound, fit) = c.requires.sound in
    let (formed, _) = c.requires.formed in
    let a = c.args in
    let short = fit.short in
    let all = last_length a.clauses.now a.clause.now in
    record {
      sound = (sound, none_sound fit.sound sound.few (omega arith), none_closed fit.sound);
      formed = formed;
      zero = (length-replicate {A = ℕ} 4097 0, new_zero 4097);
    }

pub grown_sizes-requires : goal.grown_sizes-requires
grown_sizes-requires c =
    let (sound, fit) = c.requires.sound in
    let (formed, _) = c.requires.formed in
    record {
      sound = (sound, fit);
      formed = formed;
      zero = (length-replicate {A = ℕ} 4097 0, new_zero 4097);
    }

pub returns : goal.returns
returns c =
    let a = c.args in
    let (_, fit) = c.requires.sound in
    let (formed, _) = c.requires.formed in
    record {
      flagged = flags_grow a.scheme a.n a.prefix.now a.clauses.now a.classes.now a.parents.now a.clause.now fit formed
          c.fill_sizes.new.sizes c.grown_sizes.new.sizes c.fill_sizes.ensures.sized
          c.grown_sizes.ensures.sized c.flag_other.new.flags c.flag_other.ensures.flagged;
    }
