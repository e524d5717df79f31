-- Where no block is open nothing is written (put_nothing), and else a 0 behind what stands (put_zero).
use Rattle.formula_rules.proofs.Written.{put_nothing, put_zero}
use Rattle.formula_rules.proofs.laying.close.Goals as goal

pub returns-then-last-eq0 : goal.returns-then-last-eq0
returns-then-last-eq0 c =
    let a = c.args in
    record { put = put_nothing a.out.now a.count a.last c.if-last-eq0.true }

pub bounds-out-count : goal.bounds-out-count
bounds-out-count c = c.requires.room c.if-last-eq0.false

pub returns : goal.returns
returns c =
    let a = c.args in
    record { put = put_zero a.out.now a.count a.last c.if-last-eq0.false (c.requires.room c.if-last-eq0.false) }
