-- The invariant (Tracing): what is flagged, and what the rest of the chain still has to flag, are the flags at first and the tops beside all entries of
-- the chain. An entry with one of the signs flags the tops of its clause, any other is passed over, and the chain falls.
use Prim.Native.Nat.{◌<◌}
use mathlib.Core.Path.{◌≡◌}
use mathlib.Core.Bool.{true, false}
use lib.ListN.{length, get_or}
use Rattle.sets_occurrences.proofs.Followed.{Tracing}
use Rattle.sets_occurrences.proofs.flag_along.Given as goal

abbrev pub invariant-loop-at : goal.invariant-loop-at
invariant-loop-at l =
    Tracing l.n l.tops l.clauses l.next l.signs l.initial.at (λ e. e < length l.initial.flags) (λ e. get_or l.initial.flags e false ≡ true)
    (λ e. get_or l.flags e false ≡ true) l.at

abbrev pub decreases-loop-at : goal.decreases-loop-at
decreases-loop-at l = l.at
