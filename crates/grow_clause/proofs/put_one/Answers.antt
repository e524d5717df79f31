-- A new table of stamps is what `put` asks for, and its promise is this one's.
use Rattle.formula.proofs.Signs.{stamps_none}
use Rattle.grow_clause.proofs.put_one.Goals as goal

pub put-requires : goal.put-requires
put-requires c =
    record {
      rows = c.requires.rows;
      literals = c.requires.literals;
      stamps = stamps_none;
    }
