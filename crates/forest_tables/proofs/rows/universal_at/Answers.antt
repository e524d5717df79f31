-- The flag of a variable from 1 to n is its own, and any other variable has none (flag_none, flag_over, flag_in).
use mathlib.Core.Path.{sym, ◌∙◌}
use mathlib.Core.Bool.{false}
use lib.ListN.{get_or}
use Rattle.forest_tables.specs.InnerTabled.{universal_in}
use Rattle.forest_tables.proofs.Readings.{flag_none, flag_over, flag_in}
use Rattle.forest_tables.proofs.rows.universal_at.Goals as goal

pub returns-then-v-eq0 : goal.returns-then-v-eq0
unfolding universal_in
returns-then-v-eq0 c =
    let a = c.args in
    record { told = sym (flag_none a.n a.v.0 (get_or a.universals.now a.v.0 false) c.if-v-eq0.true) }

pub returns-then-n-v : goal.returns-then-n-v
unfolding universal_in
returns-then-n-v c =
    let a = c.args in
    record { told = sym (flag_over a.n a.v.0 (get_or a.universals.now a.v.0 false) c.if-n-v.true) }

pub returns : goal.returns
unfolding universal_in
returns c =
    let a = c.args in
    record { told = c.flag_at.ensures.read ∙ sym (flag_in a.n a.v.0 (get_or a.universals.now a.v.0 false) c.if-v-eq0.false c.if-n-v.false) }
