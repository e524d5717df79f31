-- The tops by the one sign are all that keep_flagged leaves in the rows, so that those flagged by the other sign both have (entering_both).
use mathlib.Core.Path.{◌∙◌}
use mathlib.Core.Bool.{Bool}
use Rattle.std.proofs.Common.{rules}
use Rattle.forest_tables.specs.Formula.{SharesBy}
use Rattle.forest_entries.proofs.Flags.{blank_of}
use Rattle.forest_entries.proofs.Taken.{entering_both}
use Rattle.forest_entries.proofs.flag_both.Goals as goal

pub returns : goal.returns
returns c =
    let a = c.args in
    let blank = c.requires.sound.1 in
    let first = c.flag_signs in
    let kept = c.keep_flagged in
    let cleared = c.fill in
    record {
      entered = entering_both a.tops.now kept.new.tops (λ (sign : Bool). SharesBy a.clauses.now sign a.x.0) blank first.ensures.flagged
          kept.ensures.kept (blank_of (cleared.auto.self ∙ first.auto.flags ∙ blank.size) (search rules))
          c.flag_signs-2.ensures.flagged;
    }
