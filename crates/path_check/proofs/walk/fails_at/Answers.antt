-- The causes of 24 at one entry are asked one after the other: always true, not going on, and, at the last one, without y.
use Prim.Native.Nat.{suc}
use mathlib.Core.Path.{◌≡◌, refl}
use native.Mathlib.Omega.{arith}
use lib.ListN.{length}
use Rattle.formula.specs.Tables.{at}
use Rattle.forest_tables.proofs.Readings.{told, told_not}
use Rattle.path_check.specs.Causes.{is_always_true, without_y}
use Rattle.path_check.proofs.Beginning.{known_small, known_within, known_begin, begin_idle, begin_from, from_has}
use Rattle.path_check.proofs.Following.{tells_not, not_joined, no_cause}
use Rattle.path_check.proofs.walk.fails_at.Goals as goal

pub overflow_cast-row : goal.overflow_cast-row
overflow_cast-row c = let small = known_small c.requires.walked.0 c.args.i c.requires.walked.2 in record { fits = omega arith }

pub offset_bounds-begins-number : goal.offset_bounds-begins-number
offset_bounds-begins-number c = let small = known_small c.requires.walked.0 c.args.i c.requires.walked.2 in record { fits = omega arith }

pub bounds-begins-number : goal.bounds-begins-number
bounds-begins-number c = known_within c.requires.walked.0 c.requires.walked.2

pub returns-then-row-eq0 : goal.returns-then-row-eq0
returns-then-row-eq0 c = record { told = is_always_true refl c.requires.walked.2 (begin_idle (known_begin c.requires.walked.0 c.requires.walked.2) c.if-row-eq0.true) }

pub overflow_cast-start : goal.overflow_cast-start
overflow_cast-start c = record { fits = omega (arith, c.type_inv.begins (at c.args.path.now c.args.i)) }

pub goes_on-requires : goal.goes_on-requires
goes_on-requires c =
    let pre = c.requires in
    record {
      walked = (begin_from (known_begin pre.walked.0 pre.walked.2) c.if-row-eq0.false, pre.walked.1);
      within = (known_small pre.walked.0, pre.walked.2);
    }

pub returns-then-not-goes_on : goal.returns-then-not-goes_on
returns-then-not-goes_on c = record { told = not_joined c.args.i c.requires.walked.2 (told_not c.goes_on.result c.if-not-goes_on.true c.goes_on.ensures.told) }

pub returns-then-i-path : goal.returns-then-i-path
returns-then-i-path c =
    let pre = c.requires in
    let (end, f) = begin_from (known_begin pre.walked.0 pre.walked.2) c.if-row-eq0.false in
    let more = c.if-i-path.true in
    record { told = no_cause pre.walked.2 f.not-true (told c.goes_on.result c.if-not-goes_on.false c.goes_on.ensures.told) (λ q. absurd (omega arith)) }

pub returns : goal.returns
returns c =
    let a = c.args in
    let pre = c.requires in
    let (end, f) = begin_from (known_begin pre.walked.0 pre.walked.2) c.if-row-eq0.false in
    let joins = told c.goes_on.result c.if-not-goes_on.false c.goes_on.ensures.told in
    let done = c.if-i-path.false in
    let within = pre.walked.2 in
    let last : suc a.i ≡ length a.path.now = omega arith in
    record {
      told = tells_not c.has_variable.result (λ h. no_cause pre.walked.2 f.not-true joins (λ _. (from_has f a.y.0).1 h))
          (λ no'. without_y refl last (λ h. no' ((from_has f a.y.0).0 h))) (c.has_variable.ensures.told end f.next);
    }
