-- A clause that is always true connects nothing; any other connects what it has, whose tops flag_after flags.
use mathlib.Core.Path.{sym, ◌∙◌, subst}
use native.Mathlib.Omega.{arith}
use Rattle.forest_entries.specs.InnerFlags.{Has, Via, Flagged}
use Rattle.forest_entries.proofs.Flags.{next_one, flag_connected, flag_unconnected}
use Rattle.forest_entries.proofs.flag_clause.Goals as goal

pub returns-then-always_true-clause-flagged : goal.returns-then-always_true-clause-flagged
returns-then-always_true-clause-flagged c =
    let a = c.args in
    let (sound, next, less, _) = c.requires.sound in
    flag_unconnected a.n a.tops.now a.clauses.now a.start a.end next.from (omega (arith, less)) a.flags.now
    (sym c.always_true.ensures.truth ∙ c.if-always_true.true)

pub returns-clause-flagged : goal.returns-clause-flagged
returns-clause-flagged c =
    let a = c.args in
    let (sound, ends, less, _) = c.requires.sound in
    let (z, next, flagged) = c.flag_after.ensures.flagged in
    let whole = subst (λ z. Flagged (Via a.n a.tops.now (Has a.clauses.now a.start z)) a.flags.now c.flag_after.new.flags)
    (next_one next ends) flagged in
    flag_connected a.n a.tops.now a.clauses.now a.start a.end ends.from (omega (arith, less))
    (sym c.always_true.ensures.truth ∙ c.if-always_true.false) whole
