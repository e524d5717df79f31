use Rattle.text_qdimacs.proofs.Scans.{reached_none, reached_sound, reached_prefix, reached_clauses, reached_more, reached_fault}
use Rattle.text_qdimacs.proofs.Scans.{reached_end}
use Rattle.text_qdimacs.proofs.scanning.scan.Goals as goal

pub returns-in-Err : goal.returns-in-Err
returns-in-Err c = record { scanned = reached_fault c.loop-at.invariant c.in-Err.ensures.steps }

pub loop-at-preserved : goal.loop-at-preserved
loop-at-preserved c = reached_more c.loop-at.invariant c.in-Ok.ensures.steps

pub loop-at-init : goal.loop-at-init
loop-at-init c =
    let a = c.args in
    reached_none a.text.now (a.prefix.now, a.clauses.now)

pub line_at-requires : goal.line_at-requires
line_at-requires c =
    let l = c.loop-at in
    record { within = (c.loop-at-test.true, l.invariant.few_entries, l.invariant.few_literals, reached_sound l.invariant) }

pub finish-requires : goal.finish-requires
finish-requires c = record { sound = reached_sound c.loop-at.invariant }

pub shape_of-prefix : goal.shape_of-prefix
shape_of-prefix c = reached_prefix c.loop-at.invariant

pub shape_of-clauses : goal.shape_of-clauses
shape_of-clauses c = reached_clauses c.loop-at.invariant

pub returns : goal.returns
returns c = record { scanned = reached_end c.loop-at.invariant c.loop-at-test.false c.finish.result c.finish.ensures.finished }
