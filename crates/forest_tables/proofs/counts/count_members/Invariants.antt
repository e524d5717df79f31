-- The rows count the variables before v, each in its class, for any prefix and parents by which the class rows are well formed (`MembersTo`).
use Prim.Native.Nat.{◌+◌, ◌-◌, ◌≤◌}
use Rattle.forest_tables.specs.InnerCounting.{ForClasses, MembersTo}
use Rattle.forest_tables.proofs.counts.count_members.Given as goal

abbrev pub invariant-loop-v : goal.invariant-loop-v
invariant-loop-v l = record { most : l.v ≤ l.n + 1; members : ForClasses l.n l.classes (λ es parents. MembersTo l.n es l.classes parents (l.v - 1) l.counts) }
