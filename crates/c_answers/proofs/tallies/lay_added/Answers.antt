-- It is what lay_built leaves, with the count forgotten.
use Rattle.c_answers.proofs.Laying.{added_laid}
use Rattle.c_answers.proofs.tallies.lay_added.Goals as goal

pub returns : goal.returns
returns c = record { laid = added_laid c.lay_built.ensures.laid }
