-- The level table of the prefix tells which variables are universal, and by it the lists are scanned.
use Rattle.forest_tables.proofs.Agreeing.{universal_agrees}
use Rattle.dqbf_lists.proofs.checking.lists_verdict.Goals as goal

pub check_lists-requires : goal.check_lists-requires
check_lists-requires c =
    record {
      sound = c.requires.sound;
      short = c.requires.short;
      universals = λ v. universal_agrees c.requires.sound c.fill_levels.ensures.levelled v;
    }
