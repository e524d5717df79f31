-- A universal is one of 1 to n, so that it has a row.
use mathlib.Core.Path.{sym, ap, ◌∙◌}
use native.Mathlib.Omega.{arith}
use Rattle.forest_tables.specs.InnerTabled.{universal_in}
use Rattle.dqbf_lists.proofs.Checked.{in_row}
use Rattle.dqbf_lists.proofs.checking.may_follow.Goals as goal

pub bounds-last-entry : goal.bounds-last-entry
bounds-last-entry c =
    let a = c.args in
    let u = ap (universal_in a.n a.universals.now) (sym c.new.ensures.holds) ∙ sym c.if-universal_at.ensures.told in
    omega (arith, in_row a.n a.universals.now a.entry u, c.requires.few, c.requires.rows)
