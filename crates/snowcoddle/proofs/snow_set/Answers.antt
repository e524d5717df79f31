-- The number of the strict scheme asks for the strict scheme, so that what is told by it is what is told where no scheme is named.
use Rattle.c_answers.specs.Codes.{scheme_of}
use Rattle.snowcoddle.proofs.snow_set.Goals as goal

pub returns : goal.returns
unfolding scheme_of
returns c = record { told = c.snow_set_by.ensures.told }
