-- The flags of the rows passed tell whose rows differ (FlagsOther).
use Rattle.std.proofs.Common.{◌≡◌, ℕ, ◌<◌, ◌≤◌, ◌≢◌, ◌↔◌, true, false, get_or}
use Rattle.grow_changed.proofs.growing.flag_other.Given as goal

abbrev pub invariant-loop-v : goal.invariant-loop-v
invariant-loop-v l = (u : ℕ) → 1 ≤ u → u < l.v → (get_or l.flags u false ≡ true) ↔ (get_or l.before u 0 ≢ get_or l.after u 0)
