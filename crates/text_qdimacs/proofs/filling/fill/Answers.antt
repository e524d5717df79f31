-- Where the other tables had rows for all that was scanned, what they hold in front is copied (held_copied); else the text is scanned again.
use Rattle.text_qdimacs.proofs.Copies.{held_copied}
use Rattle.text_qdimacs.proofs.filling.fill.Goals as goal

pub returns : goal.returns
returns c =
    let a = c.args in
    let pre = c.requires.held in
    record {
      filled = held_copied pre.0 c.if-own_prefix-entries.false c.if-own_clauses-literals.false a.prefix.now _ a.clauses.now _ pre.1 pre.2
          c.copy_rows.ensures.copied c.copy_rows-2.ensures.copied;
    }
