-- The invariant: up to i those flags are left that the other table has too, and from i on all.
use Rattle.std.proofs.Common.{ℕ, ◌≤◌, ◌<◌, ◌≡◌, false, ◌&&◌, get_or}
use Rattle.sets_occurrences.proofs.keep_common.Given as goal

abbrev pub invariant-loop-i : goal.invariant-loop-i
invariant-loop-i l = record {
  done : (e : ℕ) → e < l.i → get_or l.flags e false ≡ (get_or l.initial.flags e false && get_or l.other e false);
  rest : (e : ℕ) → l.i ≤ e → get_or l.flags e false ≡ get_or l.initial.flags e false;
}
