-- Each arm reads the flag that `pick` names for what is asked.
use mathlib.Core.Path.{sym, ap, ◌∙◌}
use mathlib.Core.Bool.{false}
use lib.ListN.{get_or}
use Rattle.forest_members.specs.InnerPicked.{pick}
use Rattle.forest_members.proofs.picks.Goals as goal

pub returns-in-Points : goal.returns-in-Points
unfolding pick
returns-in-Points c =
    let a = c.args in
    record { told = c.flag_at.ensures.read ∙ sym (ap (λ q. pick q a.n a.flags.now a.tops.now a.v.0) c.in-Points.is) }

pub returns-in-Set : goal.returns-in-Set
unfolding pick
returns-in-Set c =
    let a = c.args in
    record {
      told = c.flag_at-in-Set.ensures.read ∙ ap (λ e. get_or a.flags.now e false) c.row_of.ensures.read
          ∙ sym (ap (λ q. pick q a.n a.flags.now a.tops.now a.v.0) c.in-Set.is);
    }
