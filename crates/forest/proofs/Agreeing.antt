-- Variables that agree have the same entry points.
use Prim.Native.Nat.{ℕ}
use mathlib.Core.Path.{◌≡◌}
use mathlib.Core.Bool.{true}
use native.Mathlib.Omega.{arith}
use Rattle.forest_theory.specs.Reach.{Variables}
use Rattle.forest_theory.specs.Tables.{Table, WellFormed, Above, EntryPoint}
use Rattle.forest_theory.proofs.Climb.{above_class}
use Rattle.forest_tables.proofs.Agreeing.{Same}

module _ {X Y : Variables} (s : Same X Y) where
  -- An entry point, where x has the same level.
  module _ {W : Table} (formed : WellFormed X W) {x : ℕ} (own : X.lev x ≡ Y.lev x) where
    pub entry_same : {y e k : ℕ} → X.ex y ≡ true → EntryPoint X W x y e k → EntryPoint Y W x y e k
    entry_same {y} {e} ex p =
        let level : (q k : ℕ) → Above W q (W.cls y) k → X.lev q ≡ Y.lev q = λ q k a. s.lev q (above_class formed ((formed.right y).class ex).name a).existential in
        let here = level e _ p.above in
        record { above = p.above; deeper = omega (arith, p.deeper); least = λ q k a l. let there = level q k a in omega (arith, p.least q k a (omega arith)) }
