-- Without a parent nothing is passed (passed_none), and else one sum is stored, which fits since both parts are small (passed_some).
use Prim.Native.Nat.{ℕ}
use mathlib.Core.Path.{sym, ap, ◌∙◌}
use Rattle.forest_tables.specs.InnerCounting.{passed_up}
use Rattle.forest_tables.proofs.Counting.{passed_none, passed_some}
use Rattle.forest_tables.proofs.counts.pass_up.Goals as goal

pub returns-then-parent-eq0 : goal.returns-then-parent-eq0
returns-then-parent-eq0 c =
    let a = c.args in
    record { passed = sym (passed_none a.counts.now a.w.0 (sym c.row_of-parent.ensures.read ∙ c.if-parent-eq0.true)) }

pub returns : goal.returns
returns c =
    let a = c.args in
    record { passed = sym (passed_some a.counts.now a.w.0 c.if-parent-eq0.false) ∙ ap (λ (p : ℕ). passed_up p a.w.0 a.counts.now) c.row_of-parent.ensures.read }
