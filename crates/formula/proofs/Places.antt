-- Where a refusal of a prefix or of a clause table stands: at an entry, or at the length; and its number is at most 11.
use Prim.Native.Nat.{ℕ, ◌≤◌}
use mathlib.Core.List.{List}
use native.Mathlib.Omega.{arith}
use lib.IntN.{ℤ}
use lib.ListN.{length}
use Rattle.formula.specs.Causes.{PrefixCause, ClauseCause}

pub prefix_place : {n : ℕ} {es : List ℕ} (k p : ℕ) → PrefixCause n es k p → (k ≤ 11) × (p ≤ length es)
prefix_place k p (PrefixCause.ends_inside q r _) = (omega arith, omega arith)
prefix_place k p (PrefixCause.no_mark q m _ _) = let l = m.0 in (omega arith, omega arith)
prefix_place k p (PrefixCause.same_mark _ q m _ _) = let l = m.0 in (omega arith, omega arith)
prefix_place k p (PrefixCause.too_many_blocks q m _) = let l = m.0 in (omega arith, omega arith)
prefix_place k p (PrefixCause.outside q m _) = let l = m.0 in (omega arith, omega arith)
prefix_place k p (PrefixCause.named_before _ q m _ _ _) = let l = m.0 in (omega arith, omega arith)
prefix_place k p (PrefixCause.empty_block _ q _ _ m) = let l = m.0 in (omega arith, omega arith)

pub clause_place : {n : ℕ} {ls : List ℤ} (k p : ℕ) → ClauseCause n ls k p → (k ≤ 11) × (p ≤ length ls)
clause_place k p (ClauseCause.outside q l _ _) = (omega arith, omega arith)
clause_place k p (ClauseCause.ends_inside q r _) = (omega arith, omega arith)
