-- Inner: loose tables, in which the forest grows as in a union-find: what their rows may say, and when two of them, or a table and some joins, say the
-- same. No public promise rests on these: what a reader must believe of a forest that grows stands with build and add.
use Rattle.std.specs.Prelude.{ℕ, ◌+◌, ◌≤◌, ◌<◌, ◌≡◌, true, false, List, [], ◌∷◌, ◌≢◌, length, get_or, ltb}
use Rattle.terms.specs.Limits.{most_variables}
use Rattle.terms.specs.InnerLimits.{variable_rows}
use Rattle.forest_theory.specs.Reach.{Variables, From, Reach}
use Rattle.forest_theory.specs.Tables.{Table}
use Rattle.forest_theory.specs.InnerGrowth.{Added}
use Rattle.forest_theory.proofs.Represent.{Linked}

module _ (X : Variables) where
  -- Every step of J between two of a level can be done by steps of K at that level.
  pub record Inside (J K : ℕ → ℕ → Type 0) : Type 0 where
    pub does : (i a b : ℕ) → From X i a → From X i b → J a b → Reach K (From X i) a b

  -- Each can do the steps of the other: at every level they reach the same.
  pub record Equal (J K : ℕ → ℕ → Type 0) : Type 0 where
    pub there : Inside J K
    pub back : Inside K J

-- A class row that may be loose: some member of the class, at most v.
pub record LooseClass (X : Variables) (W : Table) (v : ℕ) : Type 0 where
  pub most : W.cls v ≤ v
  pub existential : X.ex (W.cls v) ≡ true
  pub block : X.lev (W.cls v) ≡ X.lev v

-- A parent that may be loose: some member of a class of a lesser block; only a root, which names itself, has one.
pub record LooseParent (X : Variables) (W : Table) (v : ℕ) : Type 0 where
  pub child : X.ex v ≡ true
  pub root : W.cls v ≡ v
  pub existential : X.ex (W.par v) ≡ true
  pub less : X.lev (W.par v) < X.lev v

-- Every row is right, or loosely so.
pub record Loose (X : Variables) (W : Table) : Type 0 where
  pub universal : (v : ℕ) → X.ex v ≡ false → (W.cls v ≡ 0) × (W.par v ≡ 0)
  pub class : (v : ℕ) → X.ex v ≡ true → LooseClass X W v
  pub parent : (v : ℕ) → W.par v ≢ 0 → LooseParent X W v

-- W' stands for what W stands for.
pub record Kept (X : Variables) (W W' : Table) : Type 0 where
  pub loose : Loose X W'
  pub equal : Equal X (Linked X W) (Linked X W')
  -- every root is still one
  pub roots : (u : ℕ) → W.cls u ≡ u → W'.cls u ≡ u

-- r is the root of v: it names itself, stands in the block of v, and is reached from v at the level of that block.
pub record RootOf (X : Variables) (W : Table) (v r : ℕ) : Type 0 where
  pub itself : W.cls r ≡ r
  pub existential : X.ex r ≡ true
  pub block : X.lev r ≡ X.lev v
  pub reached : Reach (Linked X W) (From X (X.lev v)) v r

-- The table of two lists with row v for variable v.
abbrev pub table : List ℕ → List ℕ → Table
table classes parents = record { cls = λ v. get_or classes v 0; par = λ v. get_or parents v 0 }

-- The variables of a table of depths: an existential has its level plus one, and all else has 0.
abbrev pub ranked : List ℕ → Variables
ranked depths = record { count = length depths; lev = λ v. get_or depths v 0; ex = λ v. ltb 0 (get_or depths v 0) }

-- The joins that loose rows stand for: those along a class row or a parent row, either way.
abbrev pub links : List ℕ → List ℕ → List ℕ → ℕ → ℕ → Type 0
links depths classes parents = Linked (ranked depths) (table classes parents)

-- Class rows that can be followed from v: each points to itself or lower.
pub record Falling (classes : List ℕ) (v : ℕ) : Type 0 where
  pub size : length classes ≡ variable_rows
  pub falls : (u : ℕ) → get_or classes u 0 ≤ u
  pub within : v ≤ most_variables

-- The root that was found, in rows that stand for what they stood for.
pub record Rooted (X : Variables) (W W' : Table) (v r : ℕ) : Type 0 where
  pub kept : Kept X W W'
  pub root : RootOf X W' v r

-- Whatever the variables and the parents are: in loose rows r was found as the root of v, and the rows stand for what they stood for.
abbrev pub FindsRoot : List ℕ → List ℕ → ℕ → ℕ → Type 0
FindsRoot classes classes' v r =
    (X : Variables) (parents : List ℕ) → Loose X (table classes parents) → X.ex v ≡ true → Rooted X (table classes parents) (table classes' parents) v r

-- Tables in which a forest grows: the depths, and loose rows.
pub record Growing (depths classes parents : List ℕ) : Type 0 where
  pub sizes : (length depths ≡ variable_rows) × (length classes ≡ variable_rows) × (length parents ≡ variable_rows)
  pub none : get_or depths 0 0 ≡ 0
  pub loose : Loose (ranked depths) (table classes parents)

-- Two that are still to be joined, the deeper first; the second is 0 if nothing is.
pub record Pending (depths : List ℕ) (p q : ℕ) : Type 0 where
  pub deep : (ranked depths).ex p ≡ true
  pub other : q ≢ 0 → (ranked depths).ex q ≡ true
  pub order : get_or depths q 0 ≤ get_or depths p 0

-- Two different roots of loose rows that are still to be joined.
pub record Roots (depths classes parents : List ℕ) (p q : ℕ) : Type 0 where
  pub growing : Growing depths classes parents
  pub pending : Pending depths p q
  pub some : q ≢ 0
  pub roots : (get_or classes p 0 ≡ p) × (get_or classes q 0 ≡ q)
  pub differ : p ≢ q

-- A step: of the pair p and q the pair p' and q' is left to be joined, which is less deep.
pub record Stepped (depths classes parents : List ℕ) (p q : ℕ) (classes' parents' : List ℕ) (p' q' : ℕ) : Type 0 where
  pub growing : Growing depths classes' parents'
  pub equal : Equal (ranked depths) (Added (links depths classes parents) (p ∷ q ∷ [])) (Added (links depths classes' parents') (p' ∷ q' ∷ []))
  pub pending : Pending depths p' q'
  pub fell : get_or depths p' 0 + get_or depths q' 0 < get_or depths p 0 + get_or depths q 0

-- The rows with a clause put in: they stand for what the old ones stood for and for the clause.
pub record Grew (depths classes parents : List ℕ) (clause : List ℕ) (classes' parents' : List ℕ) : Type 0 where
  pub growing : Growing depths classes' parents'
  pub equal : Equal (ranked depths) (Added (links depths classes parents) clause) (links depths classes' parents')
