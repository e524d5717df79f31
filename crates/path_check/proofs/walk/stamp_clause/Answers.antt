-- The clause stands where its row says, so that its variables are those stamped, and all others keep the stamp that they had.
use mathlib.Core.Path.{refl}
use native.Mathlib.Omega.{arith}
use Rattle.formula.specs.Tables.{at}
use Rattle.path_check.proofs.Beginning.{known_small, known_within, known_begin, begin_plain, begin_from}
use Rattle.path_check.proofs.Following.{walk_more}
use Rattle.path_check.proofs.walk.stamp_clause.Goals as goal

pub overflow_cast-row : goal.overflow_cast-row
overflow_cast-row c = let small = known_small c.requires.walked.1 c.args.i c.requires.fit.0 in record { fits = omega arith }

pub offset_bounds-begins-number : goal.offset_bounds-begins-number
offset_bounds-begins-number c = let small = known_small c.requires.walked.1 c.args.i c.requires.fit.0 in record { fits = omega arith }

pub bounds-begins-number : goal.bounds-begins-number
bounds-begins-number c = known_within c.requires.walked.1 c.requires.fit.0

pub overflow_sub-start : goal.overflow_sub-start
overflow_sub-start c = let some = begin_plain (known_begin c.requires.walked.1 c.requires.fit.0) c.requires.fit.1 in omega arith

pub overflow_cast-start : goal.overflow_cast-start
overflow_cast-start c = record { fits = omega (arith, c.type_inv.begins (at c.args.path.now c.args.i)) }

pub overflow_add-number : goal.overflow_add-number
overflow_add-number c = let small = known_small c.requires.walked.1 c.args.i c.requires.fit.0 in record { fits = omega arith }

pub overflow_cast-number : goal.overflow_cast-number
overflow_cast-number c = let small = known_small c.requires.walked.1 c.args.i c.requires.fit.0 in record { fits = omega arith }

pub returns : goal.returns
returns c =
    let pre = c.requires in
    let row = known_begin pre.walked.1 pre.fit.0 in
    let (end, f) = begin_from row (begin_plain row pre.fit.1) in
    record { walked = walk_more pre.walked.2 f refl (c.stamp_entries.ensures.stamped end f.next) }
