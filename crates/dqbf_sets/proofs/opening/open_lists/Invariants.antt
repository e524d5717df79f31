-- The rows say whose list has x among the entries that are passed, and `open` has the existential of the list that is open (Opening): an entry with x opens its row.
use Rattle.dqbf_sets.proofs.Opened.{Opening}
use Rattle.dqbf_sets.proofs.opening.open_lists.Given as goal

abbrev pub invariant-loop-entry : goal.invariant-loop-entry
invariant-loop-entry l = Opening l.n l.lists l.x.0 l.entry-index l.open l.initial.rows l.rows
