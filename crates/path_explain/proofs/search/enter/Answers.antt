-- A clause that has a distance is left alone; any other gets one, and its variables are pushed (enter_search).
use Prim.Native.Nat.{◌-◌, ◌<◌}
use mathlib.Core.Path.{◌≡◌, subst}
use mathlib.Core.Logic.{◌≢◌}
use native.Mathlib.Numerals.{add-one}
use native.Mathlib.Omega.{arith}
use lib.ListN.{length}
use Rattle.formula.specs.Meaning.{clauses}
use Rattle.formula.specs.Tables.{at}
use Rattle.path_check.proofs.Beginning.{begin_plain, begin_from, from_has}
use Rattle.path_explain.specs.InnerTies.{Holds, Plain}
use Rattle.path_explain.specs.InnerSearch.{Flag}
use Rattle.path_explain.proofs.Queue.{pushed_same, pushed_row}
use Rattle.path_explain.proofs.Searches.{kept_none, enter_own, enter_kept, enter_search}
use Rattle.path_explain.proofs.search.enter.Goals as goal

pub returns-then-dists-number-ne0 : goal.returns-then-dists-number-ne0
returns-then-dists-number-ne0 c =
    let dists = c.args.dists.now in
    record {
      room = (c.requires.room.0, kept_none dists c.args.rows.now c.args.queue.now c.args.tail);
      entered = λ k q. let e : c.args.owner - 1 ≡ k = omega arith in subst (λ j. at dists j ≢ 0) e c.if-dists-number-ne0.true;
      searched = λ y head k s _ _ _ _. s;
    }

pub overflow_sub-start : goal.overflow_sub-start
overflow_sub-start c =
    let owned : (let a = c.args in
    Plain a.clauses.now (a.owner - 1) × (a.owner - 1 < length (clauses a.clauses.now))) = let a = c.args in
    let (k, q, plain, less) = c.requires.owner in
    let e : k ≡ a.owner - 1 = omega arith in
    subst (λ j. Plain a.clauses.now j × (j < length (clauses a.clauses.now))) e (plain, less) in
    let (plain, less) = owned in let some = begin_plain (c.requires.laid.0.rows.rows (c.args.owner - 1) less) plain in omega arith

pub overflow_cast-start : goal.overflow_cast-start
overflow_cast-start c = record { fits = omega (arith, c.type_inv.begins (c.args.owner - 1)) }

pub returns : goal.returns
returns c =
    let owned : (let a = c.args in
    Plain a.clauses.now (a.owner - 1) × (a.owner - 1 < length (clauses a.clauses.now))) = let a = c.args in
    let (k, q, plain, less) = c.requires.owner in
    let e : k ≡ a.owner - 1 = omega arith in
    subst (λ j. Plain a.clauses.now j × (j < length (clauses a.clauses.now))) e (plain, less) in
    let row = c.args.row in
    let (plain, less) = owned in
    let ls = c.args.clauses.now in
    let dists = c.args.dists.now in
    let number = c.args.owner - 1 in
    let room = c.requires.room in
    let some = room.2 in
    let laid = c.requires.laid.0 in
    let few = laid.rows.few in
    let begin = laid.rows.rows number less in
    let (end, f) = begin_from begin (begin_plain begin plain) in
    let has = from_has f in
    let pushed = pushed_same {P' = λ v. Holds ls number v × Flag c.args.flags.now v} (λ v h. ((plain, (has v).1 h.0), h.1)) (λ v h. ((has v).0 h.0.1, h.1))
    (c.push.ensures.pushed end f.next) in
    let size = room.1 in
    let less' : number < length dists = omega arith in
    record {
      room = (c.push.ensures.room, enter_kept dists number row c.if-dists-number-ne0.false pushed);
      entered = λ k q. enter_own dists number row k less' some (omega arith);
      searched = λ y head k s q l is h. let e : k ≡ number = omega arith in
          enter_search s c.if-dists-number-ne0.false less' l is (subst (λ j. Holds ls j (at c.args.queue.now head)) e h) (pushed_row (add-one row) pushed);
    }
