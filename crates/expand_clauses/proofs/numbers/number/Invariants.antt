-- The invariant: the members behind those that are left have the numbers of their copies, and every other row is 0 (Numbers). It goes from the last member
-- to the first, so that of a member listed twice the first place counts, as in the definition.
use mathlib.Core.Path.{◌≡◌}
use Rattle.expand_clauses.proofs.Numbering.{Numbers}
use Rattle.expand_clauses.proofs.numbers.number.Given as goal

abbrev pub invariant-loop-k : goal.invariant-loop-k
invariant-loop-k l =
    let left = l.k-iterator.iter in
    record { numbers : Numbers l.n l.members left.iter.rest.now l.copies; from_0 : left.count ≡ 0 }
