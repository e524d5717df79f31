-- The story: its formula expanded by its set, and by the members that are found too far in.
use mathlib.Core.List.{[], ◌∷◌}
use Rattle.formula.specs.Lent.{Formula}
use Rattle.expand.specs.Promise.{expanded_by}
use Rattle.truth_expand.specs.Story.{story}

-- the formula expanded by the right members, and by those found too far in
abbrev pub right : Formula
right = expanded_by story 1 (2 ∷ 4 ∷ [])

abbrev pub wrong : Formula
wrong = expanded_by story 1 (4 ∷ [])
