-- What the check of the asked clause refuses is told so; where it accepts, the clause is there, so that the lookup finds it, and its place and length
-- fit.
use Prim.Native.Nat.{◌<◌, ◌≤◌, ◌-◌}
use mathlib.Core.Path.{◌≡◌, refl, sym, ap, ◌∙◌}
use native.Mathlib.Omega.{arith}
use lib.ListN.{length, take, drop, length-drop}
use lib.Seq.{length-take-le}
use Rattle.formula.specs.Causes.{clause_order}
use Rattle.formula.specs.InnerLookup.{Stands}
use Rattle.snowcoddle.proofs.Places.{small_clause}
use Rattle.snowcoddle.proofs.Telling.{tell_accepted, tell_refused}
use Rattle.snowcoddle.proofs.snow_clause.Goals as goal
use Rattle.snowcoddle.proofs.snow_clause.Goals.{In-Some}

pub overflow_cast-place : goal.overflow_cast-place
overflow_cast-place c = let a = c.args in record { fits = small_clause a.n a.clauses.now a.asked _ _ c.in-Err.ensures.judged }

-- The clauses that are accepted are within their limit.
within : (c : In-Some) → length c.args.clauses.now ≤ 16384
within c =
    let over : ¬ (16384 < length c.args.clauses.now) = λ l. c.in-Ok.ensures.judged.1.0 2 0 (refl, refl, l) in
    omega arith

pub overflow_cast-start : goal.overflow_cast-start
unfolding Stands
overflow_cast-start c =
    let from = c.in-Some.ensures.stands.0 in
    let to = c.in-Some.ensures.stands.1 in
    let few = within (goal.at.overflow_cast-start c).In-Some in
    omega arith

pub overflow_sub-len : goal.overflow_sub-len
unfolding Stands
overflow_sub-len c = c.in-Some.ensures.stands.0

pub overflow_cast-len : goal.overflow_cast-len
unfolding Stands
overflow_cast-len c =
    let from = c.in-Some.ensures.stands.0 in
    let to = c.in-Some.ensures.stands.1 in
    let few = within (goal.at.overflow_cast-len c).In-Some in
    omega arith

pub returns-in-Err : goal.returns-in-Err
returns-in-Err c =
    let a = c.args in
    record {
      told = rw c.number.ensures.numbered
          (tell_refused (clause_order a.n a.clauses.now a.asked) _ c.in-Err.is c.clause_verdict.ensures.judged (refl, refl));
    }

pub returns-in-Some : goal.returns-in-Some
unfolding Stands
returns-in-Some c =
    let a = c.args in
    let start = c.in-Some.span.start in
    let end = c.in-Some.span.end in
    let found = c.in-Some.ensures.stands in
    let from = found.0 in
    let to = found.1 in
    let size : length (take (end - start) (drop start a.clauses.now)) ≡ end - start = length-take-le (end - start) (drop start a.clauses.now)
    (rw (length-drop start a.clauses.now) (omega arith)) in
    record { told = tell_accepted (clause_order a.n a.clauses.now a.asked) _ c.in-Ok.is c.clause_verdict.ensures.judged (found.4, sym size ∙ ap length found.3) }

pub returns-in-None : goal.returns-in-None
unfolding Stands
returns-in-None c = record { told = absurd (c.in-Ok.ensures.judged.1.1.1.0 13 0 (refl, refl, c.in-None.ensures.stands)) }
