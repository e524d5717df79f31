-- To be believed: the forest that joins determine, that is, class names, parents and entry points, said by reach (rule 2.4, rule 2.5, rule 2.6,
-- rule 3.1).
use Rattle.std.specs.Prelude.{ℕ, ◌≤◌, ◌<◌, ◌≡◌, true, false}
use Rattle.forest_theory.specs.Reach.{Variables, From, Reach}
use Rattle.forest_theory.specs.Tables.{Table}

module _ (X : Variables) (J : ℕ → ℕ → Type 0) where
  -- Two existentials of one block are in one class if one reaches the other at the level of that block (Lonsing and Biere, definition 4.12).
  pub record OneClass (u v : ℕ) : Type 0 where
    pub left : X.ex u ≡ true
    pub right : X.ex v ≡ true
    pub block : X.lev u ≡ X.lev v
    pub reached : Reach J (From X (X.lev u)) u v

  -- c names the class of v: the lowest variable of the class.
  pub record Names (c v : ℕ) : Type 0 where
    pub member : OneClass c v
    pub lowest : (u : ℕ) → OneClass u v → c ≤ u

  -- Class p is above class c: p's block is less, and p reaches c at the level of p's block (Lonsing and Biere, definition 4.17).
  pub record ClassAbove (p c : ℕ) : Type 0 where
    pub class : Names p p
    pub less : X.lev p < X.lev c
    pub reached : Reach J (From X (X.lev p)) p c

  -- The parent of class c: the deepest class above it, or 0 (Lonsing and Biere, definition 4.23).
  pub data Parent (c p : ℕ) : Type 0 where
    none : p ≡ 0 → ((q : ℕ) → ClassAbove q c → ⊥) → Parent c p
    deepest : ClassAbove p c → ((q : ℕ) → ClassAbove q c → X.lev q ≤ X.lev p) → Parent c p

  -- p is class c or a class above it.
  pub data AtOrAbove (c p : ℕ) : Type 0 where
    at : c ≡ p → AtOrAbove c p
    over : ClassAbove p c → AtOrAbove c p

  -- The entry point of x for y: of the class of y and the classes above it, the least deep that is deeper than x (Lonsing and Biere,
  -- definition 4.24).
  pub record EntryClass (x y e : ℕ) : Type 0 where
    pub class : ℕ
    pub names : Names class y
    pub above : AtOrAbove class e
    pub deeper : X.lev x < X.lev e
    pub least : (p : ℕ) → AtOrAbove class p → X.lev x < X.lev p → X.lev e ≤ X.lev p

  -- W is the forest: a universal has 0 in both; an existential its class name; a class its parent; what names no class has parent 0.
  pub record Forest (W : Table) : Type 0 where
    pub universal : (v : ℕ) → X.ex v ≡ false → (W.cls v ≡ 0) × (W.par v ≡ 0)
    pub class : (v : ℕ) → X.ex v ≡ true → Names (W.cls v) v
    pub parent : (c : ℕ) → Names c c → Parent c (W.par c)
    pub unnamed : (v : ℕ) → X.ex v ≡ true → (Names v v → ⊥) → W.par v ≡ 0
