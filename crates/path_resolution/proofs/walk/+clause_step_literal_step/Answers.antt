use mathlib.Core.Path.{sym, ap, ◌∙◌, subst}
use mathlib.Core.Bool.{true, false}
use mathlib.Core.Logic.{◌≢◌}
use native.Mathlib.Omega.{arith}
use lib.IntN.{neg_ℤ}
use lib.ListN.{length, get_or, set, length-set}
use Prim.Native.Nat.{◌<◌}
use Rattle.std.proofs.Common.{rules}
use Rattle.terms.specs.Literals.{variable_of}
use Rattle.terms.specs.InnerLiteralRows.{row_of}
use Rattle.forest_entries.proofs.Flags.{literal_past}
use Rattle.path_resolution.specs.InnerWalk.{Passes, Walked}
use Rattle.path_resolution.proofs.Marks.{unmarked_less, unmarked_set}
use Rattle.path_resolution.proofs.Steps.{step_noted, step_within, step_other, step_clause, step_end, leave_none, leave_past, leave_new, leave_end}
use Rattle.path_resolution.proofs.walk.+clause_step_literal_step.Goals as goal
use Rattle.path_resolution.proofs.walk.+clause_step_literal_step.Goals.{literal_step-then-row-complement, literal_step-else-row-complement}
use Rattle.path_resolution.proofs.walk.+clause_step_literal_step.Goals.{clause_step-then-eq-via-then-eq}
use Rattle.path_resolution.proofs.walk.+clause_step_literal_step.Goals.{clause_step-then-eq-via-else-eq+then-marks-row}

pub clause_step-loop-i-init : goal.clause_step-loop-i-init
clause_step-loop-i-init t c = leave_none c.args.marks.now c.requires.chained.2 c.clause_start-start.ensures.begun

pub clause_step-returns-then-variable-eq0 : goal.clause_step-returns-then-variable-eq0
clause_step-returns-then-variable-eq0 t c =
    let zero = sym (ap variable_of c.literal_at-literal.ensures.read) ∙ sym c.variable-variable.ensures.own ∙ c.if-variable-eq0.true in
    record { walked = leave_end c.loop-i.invariant zero }

pub clause_step-loop-i-preserved-then-eq : goal.clause_step-loop-i-preserved-then-eq
clause_step-loop-i-preserved-then-eq t c =
    let read = c.literal_at-literal.ensures.read in
    let is = c.variable-variable.ensures.own ∙ ap variable_of read in
    let row_is = c.row-row.ensures.own ∙ ap row_of read in
    leave_past c.loop-i.invariant (λ z. c.if-variable-eq0.false (is ∙ z)) (λ another.
    elim c.then-eq.branch [
      | clause_step-then-eq-via-then-eq w ↦ absurd (another (sym c.variable_at-own.ensures.read ∙ sym (search rules) ∙ is))
      | clause_step-then-eq-via-else-eq+then-marks-row w ↦ ap (λ r. get_or c.loop-i.marks r false) (sym row_is) ∙ w.if-marks-row.true
    ])

-- A literal of another variable is marked, so that the measure falls by more than one, and the walk goes on from it.
pub clause_step-literal_step-requires : goal.clause_step-literal_step-requires
clause_step-literal_step-requires t c =
    let pre = c.requires.chained in
    let l = c.loop-i in
    let size = l.invariant.grown.size in
    let long = length-set l.marks c.row-row.result true in
    let row_is = c.row-row.ensures.own ∙ ap row_of c.literal_at-literal.ensures.read in
    let room : c.row-row.result < length l.marks = omega (arith, row_is, pre.1 l.i) in
    let fewer = unmarked_less c.args.marks.now l.marks size l.invariant.grown.kept in
    let one = unmarked_set l.marks c.row-row.result room c.if-marks-row.false in
    let heads = pre.0.heads l.i in
    (omega (arith, c.decreases), (pre.0, λ e. omega (arith, pre.1 e), omega (arith, heads, ap variable_of c.literal_at-literal.ensures.read)))

pub clause_step-loop-i-preserved : goal.clause_step-loop-i-preserved
clause_step-loop-i-preserved t c =
    let l = c.loop-i in
    let m = c.literal_at-literal.result.0 in
    let read = c.variable-variable.ensures.own in
    let own = c.variable_at-own.ensures.read in
    let row_is = c.row-row.ensures.own in
    let size = l.invariant.grown.size in
    let another : c.variable-variable.result.0 ≢ c.variable_at-own.result.0 = search rules in
    let room : row_of m < length l.marks = omega (arith, ap row_of c.literal_at-literal.ensures.read, c.requires.chained.1 l.i) in
    leave_new l.invariant (λ z. c.if-variable-eq0.false (read ∙ ap variable_of c.literal_at-literal.ensures.read ∙ z)) m c.literal_at-literal.ensures.read
    (λ q. another (read ∙ sym q ∙ sym own)) (ap (λ r. get_or l.marks r false) (sym row_is) ∙ c.if-marks-row.false) room
    (subst (λ r. Walked c.args.clauses.now (Passes c.args.clauses.now (neg_ℤ m)) (set l.marks r true) c.literal_step.new.marks) row_is c.literal_step.ensures.walked)

pub clause_step-returns : goal.clause_step-returns
clause_step-returns t c =
    let past = literal_past c.args.clauses.now c.loop-i.i (omega (arith, c.loop-i-test.false)) in
    record { walked = leave_end c.loop-i.invariant past }

pub literal_step-clause_step-requires : goal.literal_step-clause_step-requires
literal_step-clause_step-requires t c =
    let l = c.loop-at in
    let pre = c.requires.chained in
    let s = l.invariant in
    let noted = step_noted pre.0 s c.loop-at-test.true in
    let fewer = unmarked_less c.args.marks.now l.marks s.grown.size s.grown.kept in
    (omega (arith, c.decreases), (pre.0, λ e. omega (arith, pre.1 e, s.grown.size), (noted.start, noted.inside, noted.connecting)))

-- The entry that the chain stands at is one of the table, and the chain falls behind it.
pub literal_step-link_at-at-requires : goal.literal_step-link_at-at-requires
literal_step-link_at-at-requires t c = record { within = step_within c.requires.chained.0 c.loop-at.invariant c.loop-at-test.true }

pub literal_step-loop-at-smaller : goal.literal_step-loop-at-smaller
literal_step-loop-at-smaller t c =
    let noted = step_noted c.requires.chained.0 c.loop-at.invariant c.loop-at-test.true in
    omega (arith, c.link_at-at.ensures.linked, noted.falls)

-- The chain goes on behind the entry, whether its clause is entered or not.
pub literal_step-loop-at-preserved : goal.literal_step-loop-at-preserved
literal_step-loop-at-preserved t c =
    let chained = c.requires.chained.0 in
    let row_is = c.row.ensures.own ∙ ap row_of c.literal_at.ensures.read in
    let other = c.other_row-complement.ensures.other in
    elim c.if-row-complement.branch [
      | literal_step-then-row-complement w ↦ rw (w.marks-is, c.link_at-at.ensures.linked)
          (step_clause chained c.loop-at.invariant c.loop-at-test.true row_is other w.if-row-complement.true w.clause_step.ensures.walked)
      | literal_step-else-row-complement w ↦ rw (w.marks-is, c.link_at-at.ensures.linked)
          (step_other chained c.loop-at.invariant c.loop-at-test.true row_is other w.if-row-complement.false)
    ]

pub literal_step-returns : goal.literal_step-returns
literal_step-returns t c = record { walked = step_end c.requires.chained.0 c.loop-at.invariant c.loop-at-test.false }
