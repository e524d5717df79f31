-- The copies with x false, and behind them those with x true, are the table of the definition (copied_both).
use native.Mathlib.Omega.{arith}
use Rattle.expand_clauses.specs.InnerCopied.{tabled}
use Rattle.expand_clauses.proofs.Copying.{copied_both}
use Rattle.expand_clauses.proofs.literals.copy_clauses.Goals as goal

pub copy_all-end-requires : goal.copy_all-end-requires
copy_all-end-requires c =
    let pre = c.requires in
    record { sound = (pre.sound.0, pre.sound.1, omega arith) }

pub copy_all-requires : goal.copy_all-requires
copy_all-requires c =
    let pre = c.requires in
    record { sound = (pre.sound.0, pre.sound.1, omega (arith, c.copy_all-end.ensures.few, pre.sound.0.short)) }

pub returns : goal.returns
returns c =
    let a = c.args in
    record { stored = copied_both a.x.0 (tabled a.copies.now) a.clauses.now c.copy_all-end.ensures.stored c.copy_all.ensures.stored }
