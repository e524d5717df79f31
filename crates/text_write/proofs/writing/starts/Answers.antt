-- By the flag, as the definition goes.
use Rattle.text_write.specs.InnerBytes.{next_first}
use Rattle.text_write.proofs.writing.starts.Goals as goal

pub returns-then-first : goal.returns-then-first
unfolding next_first
returns-then-first c = record { told = rw (c.if-first.true, next_first) }

pub returns : goal.returns
unfolding next_first
returns c = record { told = rw (c.if-first.false, next_first) }
