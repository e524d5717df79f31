-- The argument for expanding, for any formula of which another is the expansion. Onward: a variable that is kept has its value with x false, and a copy
-- that of its original with x true. Back: a member has its own value where x is false, and its copy's where x is true.
use Prim.Native.Nat.{ℕ}
use mathlib.Core.Path.{◌≡◌}
use mathlib.Core.Bool.{Bool, true, false, cond}
use mathlib.Core.List.{List, ◌++◌, Memᴰ}
use mathlib.Core.Logic.{◌≢◌}
use lib.Dec.{eqb}
use lib.IntN.{ℤ}
use Rattle.terms.specs.Literals.{variable_of}
use Rattle.expand_clauses.specs.InnerCopies.{copies}
use Rattle.truth.specs.Strategies.{Strategy, True}
use Rattle.truth.specs.Game.{put}
use Rattle.truth.specs.Paths.{MayUse}
use Rattle.truth.specs.Narrowing.{NarrowedAt}

-- the clauses of the expansion
abbrev pub expanded_of : ℕ → (ℕ → ℕ) → List (List ℤ) → List (List ℤ)
expanded_of x copy clauses = copies false x copy clauses ++ copies true x copy clauses

-- What is asked of a formula (ex, may, clauses) and of the one expanded (ex', may'), where `copy` has the copies of the members of x and 0 for others.
pub record Expanding (ex ex' : ℕ → Bool) (may may' : ℕ → ℕ → Type 0) (x : ℕ) (copy : ℕ → ℕ) (clauses : List (List ℤ)) : Type 0 where
  -- x is universal; members may depend on it, and narrowing x to them keeps the formula true
  pub universal : ex x ≡ false
  pub member : (y : ℕ) → copy y ≢ 0 → MayUse ex may x y
  pub narrowed : True ex may clauses → True ex (NarrowedAt x (λ y. copy y ≢ 0) may) clauses
  -- the original of a copy, 0 for what is none; no variable of the formula is a copy
  pub original : ℕ → ℕ
  pub of_copy : (v : ℕ) → copy v ≢ 0 → (original (copy v) ≡ v) × (v ≢ 0)
  pub copy_of_lem : (w : ℕ) → original w ≢ 0 → (copy (original w) ≡ w) × (w ≢ 0)
  pub fresh_x : original x ≡ 0
  pub fresh_ex : (v : ℕ) → ex v ≡ true → original v ≡ 0
  pub fresh : (clause : List ℤ) (l : ℤ) → Memᴰ clause clauses → Memᴰ l clause → original (variable_of l) ≡ 0
  -- what is neither x nor a copy keeps its quantifier, and a copy is existential
  pub kept : (v : ℕ) → v ≢ x → original v ≡ 0 → ex' v ≡ ex v
  pub copied : (w : ℕ) → original w ≢ 0 → ex' w ≡ true
  -- y and its copy may depend on what y may depend on, but x
  pub onward : (z y : ℕ) → ex z ≡ false → z ≢ x → ex y ≡ true → may z y → (ex' z ≡ false) × may' z y × (copy y ≢ 0 → may' z (copy y))
  pub back : (z y : ℕ) → ex' z ≡ false → ex y ≡ true → may' z y → (ex z ≡ false) × may z y
  pub back_copy : (z y : ℕ) → ex' z ≡ false → copy y ≢ 0 → may' z (copy y) → (ex z ≡ false) × may z y

module _ {ex ex' : ℕ → Bool} {may may' : ℕ → ℕ → Type 0} {x : ℕ} {copy : ℕ → ℕ} {clauses : List (List ℤ)}
    (E : Expanding ex ex' may may' x copy clauses) where
  -- A variable that is kept has its value with x false, and a copy that of its original with x true.
  module _ (t : True ex (NarrowedAt x (λ y. copy y ≢ 0) may) clauses) where
    unfoldable pub apart : Strategy
    apart w u = cond (eqb w x) false (cond (eqb (E.original w) 0) (t.strategy w (put x false u)) (t.strategy (E.original w) (put x true u)))

  -- A member has its own value where x is false, and its copy's where x is true.
  module _ (t : True ex' may' (expanded_of x copy clauses)) where
    unfoldable pub joint : Strategy
    joint y u = cond (eqb (copy y) 0) (t.strategy y u) (cond (u x) (t.strategy (copy y) u) (t.strategy y u))
