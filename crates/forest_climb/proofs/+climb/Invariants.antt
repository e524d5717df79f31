-- The climb stops at a class with no parent deeper than the floor, and else goes on from the parent. The level of the class is the measure: each
-- parent stands in a lesser block.
use Rattle.std.proofs.Common.{get_or}
use Rattle.forest_climb.proofs.+climb.Given as goal

abbrev pub decreases-climb : goal.decreases-climb
decreases-climb l = get_or l.levels.now l.class.0 0
