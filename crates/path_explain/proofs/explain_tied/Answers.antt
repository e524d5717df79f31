-- The distances are right (Measured), so that what is read off them is the first of the shortest ways (path_first).
use Prim.Native.Nat.{ℕ}
use mathlib.Core.Path.{◌≡◌, refl, sym, ◌∙◌}
use mathlib.Core.List.{List}
use native.Mathlib.Omega.{arith}
use lib.IntN.{ℤ}
use lib.ListN.{length, length-replicate}
use Rattle.std.proofs.Common.{rules}
use Rattle.terms.specs.Limits.{clause_entries}
use Rattle.formula.specs.Tables.{at}
use Rattle.forest_tables.proofs.Readings.{new_zero}
use Rattle.forest_entries.specs.declared.Signs.{Signs}
use Rattle.path_explain.specs.Ways.{Opens}
use Rattle.path_explain.specs.InnerTies.{Plain, Tied}
use Rattle.path_explain.specs.InnerWays.{Best, OpensBefore, Ready}
use Rattle.path_explain.proofs.Answers.{listed-none, listed-long, listed-way}
use Rattle.path_explain.proofs.Choosing.{best_same, nearest_same}
use Rattle.path_explain.proofs.Distances.{no_way, some_shortest, path_first, best_some}
use Rattle.path_explain.proofs.Queue.{zeros_new}
use Rattle.path_explain.proofs.Tying.{tied_owners, holds_exactly, opens_exactly}
use Rattle.path_explain.proofs.explain_tied.Goals as goal
use Rattle.path_explain.proofs.explain_tied.Goals.{After-fill_nearest}

-- all that is known where the way is written
ready : (c : After-fill_nearest) → Ready c.args.clauses.now c.args.begins.now c.args.flags.now c.args.y.0 c.search.new.dists c.search.new.rows
    c.fill_nearest.new.nearest c.in-Some.begin (at c.search.new.dists c.in-Some.begin)
ready c =
    let (laid, tied) = c.requires.tied in
    record {
      laid = laid;
      measured = c.search.ensures.measured.0;
      size = c.search.auto.rows ∙ length-replicate {A = ℕ} 4097 0;
      near = nearest_same (λ v k. (holds_exactly tied v k).0) (λ v k. (holds_exactly tied v k).1) c.fill_nearest.ensures.nearest;
      far = refl;
    }

-- the best clause, of those with which a way may begin
begun : {ls : List ℤ} {first next dists : List ℕ} {owner : ℕ} → Tied ls first next → (signs : Signs) (x : ℕ) → Best (OpensBefore ls next signs x (length ls)) dists owner
    → Best (λ k. Plain ls k × Opens signs ls x k) dists owner
begun tied signs x best = best_same best (λ k. (opens_exactly tied signs x k).0) (λ k. (opens_exactly tied signs x k).1)

pub write_way-requires : goal.write_way-requires
write_way-requires c =
    let r = ready (goal.at.write_way-requires c).After-fill_nearest in
    record { ready = ((c.args.flags.now, c.args.y.0, c.search.new.dists, r), omega (arith, c.if-out-count.false)) }

pub returns : goal.returns
returns c =
    record {
      explained = λ X deep.
          let signs = c.args.signs in
          let best = begun c.requires.tied.1 signs c.args.x.0 c.in-Some.ensures.best.0 in
          let (path, size, steps, written) = c.write_way.ensures.written c.args.flags.now c.args.y.0 c.search.new.dists (ready (goal.at.returns c).After-fill_nearest) in
          let some = best_some best c.in-Some.begin refl in
          let room = c.if-out-count.false in
          let first = path_first c.args.clauses.now signs deep c.search.ensures.measured.0 best refl steps (omega arith) in
          let count : c.from.result ≡ at c.search.new.dists c.in-Some.begin = search rules in
          listed-way c.args.out.now _ path _ first (count ∙ sym size) (omega arith) written;
    }

pub search-requires : goal.search-requires
search-requires c =
    record {
      tied = c.requires.tied;
      flagged = (c.requires.flagged.0, c.requires.flagged.1);
      cleared = (
        record { length_is = length-replicate {A = ℕ} clause_entries 0; zero_is = new_zero clause_entries },
        record { length_is = length-replicate {A = ℕ} 4097 0; zero_is = new_zero 4097 },
        zeros_new 4097,
      );
    }

pub first_clause-requires : goal.first_clause-requires
first_clause-requires c = record { owned = (tied_owners c.requires.tied.1 c.requires.tied.0, c.search.auto.dists ∙ length-replicate {A = ℕ} clause_entries 0, c.requires.flagged.2) }

pub returns-in_default : goal.returns-in_default
returns-in_default c =
    record {
      explained = λ X deep.
          let signs = c.args.signs in
          let best = begun c.requires.tied.1 signs c.args.x.0 c.in_default.ensures.best.0 in
          listed-none c.args.out.now (no_way c.args.clauses.now signs deep c.search.ensures.measured.0 best refl);
    }

pub overflow_cast-count-2 : goal.overflow_cast-count-2
overflow_cast-count-2 c = let small = c.search.ensures.measured.1 c.in-Some.begin in record { fits = omega arith }

pub returns-then-out-count : goal.returns-then-out-count
returns-then-out-count c =
    record {
      explained = λ X deep.
          let signs = c.args.signs in
          let over = c.if-out-count.true in
          let best = begun c.requires.tied.1 signs c.args.x.0 c.in-Some.ensures.best.0 in
          let (path, shortest, size) = some_shortest c.args.clauses.now signs deep c.search.ensures.measured.0 best c.in-Some.begin refl in
          listed-long c.args.out.now path shortest (omega arith);
    }

pub fill_nearest-requires : goal.fill_nearest-requires
fill_nearest-requires c =
    let (laid, tied) = c.requires.tied in
    record {
      owned = (
        laid.sound,
        tied_owners tied laid,
        c.search.auto.dists ∙ length-replicate {A = ℕ} clause_entries 0,
        c.search.ensures.measured.1,
        c.search.auto.rows ∙ length-replicate {A = ℕ} 4097 0,
        record { length_is = length-replicate {A = ℕ} 4097 0; zero_is = new_zero 4097 },
      );
    }
