-- The first byte tells a comment, and that a line is none.
use Rattle.text_lines.proofs.Openings.{comment_line, no_comment_line}
use Rattle.text_lines.proofs.opening.opening_at.Goals as goal

pub comment_at-requires : goal.comment_at-requires
comment_at-requires c = record { comment = comment_line c.args.text.now c.args.at c.requires.within c.if-text-at-eq-LETTER_C.true }

pub problem_at-requires : goal.problem_at-requires
problem_at-requires c = record { plain = no_comment_line c.args.text.now c.args.at c.requires.within c.if-text-at-eq-LETTER_C.false }
