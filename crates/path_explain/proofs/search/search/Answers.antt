use Prim.Native.Nat.{ℕ}
use mathlib.Core.Path.{refl, sym, subst}
use native.Mathlib.Omega.{arith}
use lib.ListN.{length-replicate, replicate}
use Rattle.formula.specs.Tables.{at}
use Rattle.path_explain.specs.InnerTies.{Holds}
use Rattle.path_explain.specs.InnerSearch.{Room}
use Rattle.path_explain.proofs.Flagging.{flag_row}
use Rattle.path_explain.proofs.Queue.{room_more}
use Rattle.path_explain.proofs.Searches.{kept_at, search_row, search_start, shift_search, next_search}
use Rattle.path_explain.proofs.Tying.{tied_chain, tied_holds}
use Rattle.path_explain.proofs.search.search.Goals as goal

pub loop-head-init : goal.loop-head-init
loop-head-init c =
    let y = c.args.y.0 in
    let less = flag_row c.args.flags.now y c.requires.flagged.1 in
    let size = c.requires.flagged.0 in
    let (dists, rows, full) = c.requires.cleared in
    let wide = rows.length_is in
    let queue = length-replicate {A = ℕ} 4097 0 in
    let room : Room c.args.rows.now (replicate {A = ℕ} 4097 0) 0 = record { row_size = wide; queue_size = queue; full = omega arith } in
    record {
      searching = (1, search_start c.args.dists.now c.args.rows.now (replicate {A = ℕ} 4097 0) c.requires.flagged.1 dists.zero_is rows.zero_is (omega arith) (omega arith));
      room = room_more room {v = y} (omega arith) (rows.zero_is y) (λ e. omega arith);
    }

pub follow-tail-requires-clause-tied : goal.follow-tail-requires-clause-tied
follow-tail-requires-clause-tied c =
    let (laid, tied) = c.requires.tied in
    (laid, tied_chain tied laid.sound.short (at c.loop-head.queue c.loop-head.head), c.requires.flagged.0)

pub loop-head-preserved : goal.loop-head-preserved
loop-head-preserved c =
    let l = c.loop-head-test.true in
    let head = c.loop-head.head in
    let v = at c.loop-head.queue head in
    let (d, s) = c.loop-head.invariant.searching in
    let (e, t, is) = shift_search s l in
    let tied = c.requires.tied.1 in
    let followed = c.follow-tail.ensures in
    let kept = followed.room.1 in
    let more = kept.tail_kept in
    let searched = followed.searched _ head (search_row (sym is) t) l refl (λ p o. (tied.sound v p o).is) in
    record {
      searching = (
        _,
        next_search searched (omega arith) (kept_at kept head l (t.filled head l))
            (λ k h. let (p, o, q) = tied_holds tied k v (subst (Holds c.args.clauses.now k) (kept.queue_kept head l) h) in followed.entered p k o q),
      );
      room = followed.room.0;
    }
