-- Each sign has flags of its own, and those that both have are left (entered_both).
use mathlib.Core.Path.{◌∙◌}
use native.Mathlib.Omega.{arith}
use Rattle.forest_entries.proofs.Flags.{fresh}
use Rattle.sets_occurrences.proofs.Kept.{entered_both}
use Rattle.sets_occurrences.proofs.flag_both.Goals as goal

pub flag_along-requires : goal.flag_along-requires
flag_along-requires c = record { tied = c.requires.tied.0 }

pub flag_along-requires-2 : goal.flag_along-requires-2
flag_along-requires-2 c = record { tied = c.requires.tied.0 }

pub keep_common-requires : goal.keep_common-requires
keep_common-requires c =
    let one = c.flag_along.auto.flags ∙ fresh.size in
    let other = c.flag_along-2.auto.flags ∙ c.requires.tied.1.size in
    record { enough = omega arith }

pub returns : goal.returns
returns c =
    record {
      entered = entered_both fresh c.flag_along.ensures.flagged c.requires.tied.1 c.flag_along-2.ensures.flagged
          c.keep_common.ensures.common;
    }
