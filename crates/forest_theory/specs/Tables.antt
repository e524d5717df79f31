-- To be believed: forest tables by themselves, that is, when they are well formed (rule 3.1, rule 3.2, rule 3.3), the chain of parents, entry points
-- (rule 2.6, rule 2.7, rule 2.8, rule 5.2), members (rule 3.4), and the joins that they stand for (rule 3.5).
use Rattle.std.specs.Prelude.{ℕ, zero, suc, ◌≤◌, ◌<◌, ◌≡◌, Bool, true, false, cond, List, [], ◌∷◌, ◌++◌, ◌≢◌, get_or, eqb, ltb}
use Rattle.forest_theory.specs.Reach.{Variables}

-- A forest table: the class name and the parent of each variable, 0 for none.
pub record Table : Type 0 where
  pub cls : ℕ → ℕ
  pub par : ℕ → ℕ

-- What a lent list of rows says of v: row v - 1, and 0 for a variable outside 1 to n, so that rows past n are not read.
unfoldable pub row : ℕ → List ℕ → ℕ → ℕ
row n rows zero = 0
row n rows (suc v) = cond (ltb v n) (get_or rows v 0) 0

-- The table of two lent lists of rows.
unfoldable pub lent : Variables → List ℕ → List ℕ → Table
lent X classes parents = record { cls = row X.count classes; par = row X.count parents }

-- c is a class name: an existential that names itself.
pub record ClassName (X : Variables) (W : Table) (c : ℕ) : Type 0 where
  pub existential : X.ex c ≡ true
  pub itself : W.cls c ≡ c

-- A class row that is right: the name is at most v, is a class name, and is of v's block.
pub record ClassRow (X : Variables) (W : Table) (v : ℕ) : Type 0 where
  pub most : W.cls v ≤ v
  pub name : ClassName X W (W.cls v)
  pub block : X.lev (W.cls v) ≡ X.lev v

-- A parent that is right: a class name of a lesser block, and only a class name has one.
pub record ParentRow (X : Variables) (W : Table) (v : ℕ) : Type 0 where
  pub child : ClassName X W v
  pub name : ClassName X W (W.par v)
  pub less : X.lev (W.par v) < X.lev v

-- v's rows are right: 0 and 0 for a universal; a right class row for an existential; the parent 0 or right.
pub record Row (X : Variables) (W : Table) (v : ℕ) : Type 0 where
  pub universal : X.ex v ≡ false → (W.cls v ≡ 0) × (W.par v ≡ 0)
  pub class : X.ex v ≡ true → ClassRow X W v
  pub parent : W.par v ≢ 0 → ParentRow X W v

-- Well formed: every row is right. (Outside 1 to count nothing is existential and both rows read 0.)
pub record WellFormed (X : Variables) (W : Table) : Type 0 where
  pub right : (v : ℕ) → Row X W v

-- p is k rises above c: from c, from parent to parent, k classes are passed up to p, c itself not counted.
pub data Above (W : Table) (p : ℕ) : ℕ → ℕ → Type 0 where
  start : Above W p p 0
  rise : {c k : ℕ} → W.par c ≢ 0 → Above W p (W.par c) k → Above W p c (suc k)

-- e is the entry point of x for y, with its number of rises: of the class of y and those above it, the least deep that is deeper than x.
pub record EntryPoint (X : Variables) (W : Table) (x y e k : ℕ) : Type 0 where
  pub above : Above W e (W.cls y) k
  pub deeper : X.lev x < X.lev e
  pub least : (p n : ℕ) → Above W p (W.cls y) n → X.lev x < X.lev p → X.lev e ≤ X.lev p

-- e is an entry point of x: the one for some existential y deeper than x that shares a clause with x (S says which share).
pub record EntryPointOf (X : Variables) (W : Table) (S : ℕ → ℕ → Type 0) (x e : ℕ) : Type 0 where
  pub for : ℕ
  pub shares : S x for
  pub existential : X.ex for ≡ true
  pub deeper : X.lev x < X.lev for
  pub rises : ℕ
  pub entry : EntryPoint X W x for e rises

-- e is a strict entry point of x: both signs have it (S says which share a clause with the literal of x of a sign).
pub record StrictEntryOf (X : Variables) (W : Table) (S : Bool → ℕ → ℕ → Type 0) (x e : ℕ) : Type 0 where
  pub by : (sign : Bool) → EntryPointOf X W (S sign) x e

-- y is in a class at or below one of which P holds.
pub record MemberBy (X : Variables) (W : Table) (P : ℕ → Type 0) (y : ℕ) : Type 0 where
  pub existential : X.ex y ≡ true
  pub entry : ℕ
  pub entered : P entry
  pub rises : ℕ
  pub below : Above W entry (W.cls y) rises

-- {v, class name of v} for an existential.
unfoldable pub class_join : Variables → Table → ℕ → List (List ℕ)
class_join X W v = cond (X.ex v) ((v ∷ W.cls v ∷ []) ∷ []) []

-- {class, parent} for a class with a parent.
unfoldable pub parent_join : Table → ℕ → List (List ℕ)
parent_join W v = cond (eqb (W.par v) 0) [] ((v ∷ W.par v ∷ []) ∷ [])

-- All that f gives for 1 to n.
unfoldable pub each : (ℕ → List (List ℕ)) → ℕ → List (List ℕ)
each f zero = []
each f (suc v) = each f v ++ f (suc v)

-- The joins that a table stands for: {v, class name of v} for each existential, then {class, parent} for each class with one.
unfoldable pub joins : Variables → Table → List (List ℕ)
joins X W = each (class_join X W) X.count ++ each (parent_join W) X.count
