-- To be believed: steps, reach, and the standard and the strict set of a variable (demand 2; rule 1.6, rule 2.1, rule 2.2, rule 2.3, rule 5.2).
use Rattle.std.specs.Prelude.{ℕ, ◌<◌, ◌≤◌, ◌≡◌, Bool, true, false}
use mathlib.Core.List.{List, Memᴰ}

-- The variables of a formula: how many, the block number of each, and which are existential.
pub record Variables : Type 0 where
  pub count : ℕ
  pub lev : ℕ → ℕ
  pub ex : ℕ → Bool

-- The existentials of block i or deeper (Lonsing and Biere, definition 4.1).
pub record From (X : Variables) (i v : ℕ) : Type 0 where
  pub existential : X.ex v ≡ true
  pub deep : i ≤ X.lev v

-- The existentials deeper than x.
pub record Deeper (X : Variables) (x v : ℕ) : Type 0 where
  pub existential : X.ex v ≡ true
  pub deep : X.lev x < X.lev v

-- One clause has both v and y. A clause stands here by the variables that it connects, in either sign: none where it is always true (rule 1.7).
pub record Joined (clauses : List (List ℕ)) (v y : ℕ) : Type 0 where
  pub clause : List ℕ
  pub listed : Memᴰ clause clauses
  pub left : Memᴰ v clause
  pub right : Memᴰ y clause

-- Reach: any number of steps, none included. A step goes along J and may end only on what E allows (Lonsing and Biere, definition 4.4).
pub data Reach (J : ℕ → ℕ → Type 0) (E : ℕ → Type 0) (v : ℕ) : ℕ → Type 0 where
  here : Reach J E v v
  step : {y z : ℕ} → Reach J E v y → J y z → E z → Reach J E v z

-- The set of a universal x: all existentials reached from x at the level of its block (Lonsing and Biere, theorem 4.20).
pub record Depends (X : Variables) (J : ℕ → ℕ → Type 0) (x y : ℕ) : Type 0 where
  pub existential : X.ex y ≡ true
  pub reached : Reach J (From X (X.lev x)) x y

-- y is reached from x by one step or more: the first along S, every further one along J.
pub record Follows (S J : ℕ → ℕ → Type 0) (E : ℕ → Type 0) (x y : ℕ) : Type 0 where
  pub first : ℕ
  pub starts : S x first
  pub allowed : E first
  pub onward : Reach J E first y

-- The strict set of a universal x: all that is reached both by a first step in a clause with x and by a first step in a clause with its negation (Van
-- Gelder, definition 5.2). S true x z says that some clause has x and z, S false x z that some clause has the negation of x, and z.
pub record StrictlyDepends (X : Variables) (S : Bool → ℕ → ℕ → Type 0) (J : ℕ → ℕ → Type 0) (x y : ℕ) : Type 0 where
  pub by : (sign : Bool) → Follows (S sign) J (From X (X.lev x)) x y
