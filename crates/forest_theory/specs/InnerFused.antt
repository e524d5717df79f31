-- Inner: what putting a clause into a table does to each row, said by the chains that the clause marks. No promise rests on it; promises speak of the
-- forest of the joins with the clause added (Forest).
use Rattle.std.specs.Prelude.{ℕ, ◌≤◌, ◌<◌, ◌≡◌, true, false, ◌≢◌}
use mathlib.Core.List.{List, Memᴰ}
use Rattle.forest_theory.specs.Reach.{Variables}
use Rattle.forest_theory.specs.Tables.{Table, ClassName, Above}

-- Each existential in a class of its own, with no parents: the table of no clause.
pub record Single (X : Variables) (W : Table) : Type 0 where
  pub universal : (v : ℕ) → X.ex v ≡ false → W.cls v ≡ 0
  pub class : (v : ℕ) → X.ex v ≡ true → W.cls v ≡ v
  pub parent : (v : ℕ) → W.par v ≡ 0

module _ (X : Variables) (W : Table) (clause : List ℕ) where
  -- A class is marked if it is the class of an existential of the clause, or above one.
  pub record Marked (m : ℕ) : Type 0 where
    pub by : ℕ
    pub listed : Memᴰ by clause
    pub existential : X.ex by ≡ true
    pub rises : ℕ
    pub above : Above W m (W.cls by) rises

  -- m is the lowest marked class of its block: the name that all of them get.
  pub record Low (m : ℕ) : Type 0 where
    pub marked : Marked m
    pub lowest : (n : ℕ) → Marked n → X.lev n ≡ X.lev m → m ≤ n

  -- p is the low of the next block less than j that has marks, or 0.
  pub data Next (j p : ℕ) : Type 0 where
    none_next : p ≡ 0 → ((m : ℕ) → Marked m → j ≤ X.lev m) → Next j p
    next_low : Low p → X.lev p < j → ((m : ℕ) → Marked m → X.lev m < j → X.lev m ≤ X.lev p) → Next j p

  -- The class row of an existential v: the low of its block if its class is marked, else kept.
  pub data FusedClass (v c : ℕ) : Type 0 where
    merged : Marked (W.cls v) → Low c → X.lev c ≡ X.lev v → FusedClass v c
    kept : (Marked (W.cls v) → ⊥) → c ≡ W.cls v → FusedClass v c

  -- The parent row of a class that stays one: the next low if it is marked, else the new name of its parent's class (0 if it has none).
  pub data FusedParent (W' : Table) (c p : ℕ) : Type 0 where
    chained : Marked c → Next (X.lev c) p → FusedParent W' c p
    carried : (Marked c → ⊥) → p ≡ W'.cls (W.par c) → FusedParent W' c p

  -- W' is W with the clause put in, by fusing the marked chains.
  pub record Fused (W' : Table) : Type 0 where
    pub universal : (v : ℕ) → X.ex v ≡ false → (W'.cls v ≡ 0) × (W'.par v ≡ 0)
    pub class : (v : ℕ) → X.ex v ≡ true → FusedClass v (W'.cls v)
    pub parent : (c : ℕ) → ClassName X W c → W'.cls c ≡ c → FusedParent W' c (W'.par c)
    pub unnamed : (v : ℕ) → X.ex v ≡ true → W'.cls v ≢ v → W'.par v ≡ 0
