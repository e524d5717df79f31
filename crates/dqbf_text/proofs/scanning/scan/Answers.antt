use mathlib.Core.Path.{◌∙◌}
use native.Mathlib.Omega.{arith}
use Rattle.dqbf_text.proofs.Scans.{reached_none, reached_sound, adds_length, reached_more, went_less, reached_fault, reached_end}
use Rattle.dqbf_text.proofs.scanning.scan.Goals as goal

pub loop-at-init : goal.loop-at-init
loop-at-init c =
    let a = c.args in
    reached_none a.text.now (a.prefix.now, a.clauses.now, a.lists.now)

pub line_at-requires : goal.line_at-requires
line_at-requires c =
    let l = c.loop-at in
    record { within = (c.loop-at-test.true, l.invariant.few_now, reached_sound l.invariant) }

pub shape_of-prefix-in-Err : goal.shape_of-prefix-in-Err
shape_of-prefix-in-Err c =
    let l = c.loop-at in
    c.line_at.auto.prefix ∙ adds_length l.invariant.prefix_adds

pub shape_of-clauses-in-Err : goal.shape_of-clauses-in-Err
shape_of-clauses-in-Err c =
    let l = c.loop-at in
    c.line_at.auto.clauses ∙ adds_length l.invariant.clauses_adds

pub shape_of-lists-in-Err : goal.shape_of-lists-in-Err
shape_of-lists-in-Err c =
    let l = c.loop-at in
    c.line_at.auto.lists ∙ adds_length l.invariant.lists_adds

pub returns-in-Err : goal.returns-in-Err
returns-in-Err c = record { scanned = reached_fault c.loop-at.invariant c.in-Err.ensures.steps }

pub loop-at-smaller : goal.loop-at-smaller
loop-at-smaller c =
    let went = c.in-Ok.ensures.steps in
    omega (arith, went_less went, went.passed.within)

pub loop-at-preserved : goal.loop-at-preserved
loop-at-preserved c = reached_more c.loop-at.invariant c.in-Ok.ensures.steps

pub finish-requires : goal.finish-requires
finish-requires c = record { sound = reached_sound c.loop-at.invariant }

pub shape_of-prefix : goal.shape_of-prefix
shape_of-prefix c = adds_length c.loop-at.invariant.prefix_adds

pub shape_of-clauses : goal.shape_of-clauses
shape_of-clauses c = adds_length c.loop-at.invariant.clauses_adds

pub shape_of-lists : goal.shape_of-lists
shape_of-lists c = adds_length c.loop-at.invariant.lists_adds

pub returns : goal.returns
returns c = record { scanned = reached_end c.loop-at.invariant c.loop-at-test.false c.finish.result c.finish.ensures.finished }
