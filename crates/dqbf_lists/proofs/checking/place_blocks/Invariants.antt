-- The flags tell what is named by the entries that are passed (Placing): a mark and a 0 name nothing, and a variable is flagged.
use Rattle.dqbf_lists.proofs.Placed.{Placing}
use Rattle.dqbf_lists.proofs.checking.place_blocks.Given as goal

abbrev pub invariant-loop-entry : goal.invariant-loop-entry
invariant-loop-entry l = Placing l.prefix l.entry-index l.opens l.placed
