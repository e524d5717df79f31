-- The front of the table holds the clauses with the clause last (front_put), which are sound and closed.
use mathlib.Core.Path.{◌≡◌, sym, subst}
use mathlib.Core.List.{List}
use Prim.Native.Nat.{◌-◌}
use native.Mathlib.Omega.{arith}
use lib.IntN.{ℤ, pos}
use lib.ListN.{length-replicate, replicate, take, drop}
use Rattle.formula.specs.InnerLookup.{SoundClauses}
use Rattle.grow.specs.Grown.{with_last}
use Rattle.grow.proofs.Accepted.{added_rows}
use Rattle.sets_occurrences.specs.InnerThreads.{Closed}
use Rattle.grow_changed.specs.InnerChanged.{SizesWith}
use Rattle.grow_changed.proofs.Telling.{last_sound, last_closed, front_put}
use Rattle.grow_changed.proofs.growing.grown_sizes.Goals as goal

pub sizes_with-requires : goal.sizes_with-requires
sizes_with-requires c =
    let front : (let a = c.args in
    take (c.put_last-end.result - 0) (drop 0 c.put_last-end.new.longer) ≡ with_last a.clauses.now a.clause.now) = let a = c.args in
    let (size, put) = c.put_last-end.ensures.put in
    let long = length-replicate {A = ℤ} 16384 (pos 0) in
    let short = c.requires.sound.1.short in
    front_put (replicate 16384 (pos 0)) (with_last a.clauses.now a.clause.now) put size (omega arith) in
    let (sound, fit) = c.requires.sound in
    let formed = c.requires.formed in
    let zero = c.requires.zero in
    let few = sound.few in
    let is = sym front in
    record {
      sound = (sound, subst SoundClauses is (last_sound fit few), subst Closed is (last_closed fit), added_rows few fit.admitted);
      formed = formed;
      zero = zero;
    }

pub returns : goal.returns
returns c =
    let front : (let a = c.args in
    take (c.put_last-end.result - 0) (drop 0 c.put_last-end.new.longer) ≡ with_last a.clauses.now a.clause.now) = let a = c.args in
    let (size, put) = c.put_last-end.ensures.put in
    let long = length-replicate {A = ℤ} 16384 (pos 0) in
    let short = c.requires.sound.1.short in
    front_put (replicate 16384 (pos 0)) (with_last a.clauses.now a.clause.now) put size (omega arith) in
    let a = c.args in
    record {
      sized = subst (λ (ls : List ℤ). SizesWith a.scheme a.n a.prefix.now ls a.classes.now a.parents.now a.clause.now
          c.sizes_with.new.sizes) front c.sizes_with.ensures.sized;
    }
