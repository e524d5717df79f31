-- The cells of the tally and that of the count are laid out one after the other, by the same answer, and so together.
use Rattle.c_answers.proofs.Laying.{built_laid}
use Rattle.c_answers.proofs.tallies.lay_built.Goals as goal

pub returns : goal.returns
returns c = record { laid = built_laid _ _ c.lay.ensures.laid c.lay_tally.ensures.laid }
