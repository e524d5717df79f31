-- A first byte that is neither letter is no mark; any other line is looked at word by word.
use Rattle.text_lines.proofs.body.mark_at.Goals as goal

pub returns-then-not-may_be_mark : goal.returns-then-not-may_be_mark
returns-then-not-may_be_mark c = record { marked = c.may_be_mark.ensures.unmarked c.if-not-may_be_mark.true }
