-- Dependency lists as lent, a table of y, its universals, 0, and which existentials have x in their list (rule 13.1).
use Rattle.std.specs.Prelude.{ℕ, ◌≤◌, ◌<◌, ◌≡◌, true, false, ◌⊎◌}
use mathlib.Core.List.{List, ◌∷◌, Memᴰ}
use Rattle.formula.specs.Tables.{at, cut, opens, VariableAt}
use Rattle.formula.specs.Meaning.{is_zero, level, is_existential}

-- the most entries of a table of lists
abbrev pub list_entries : ℕ
list_entries = 16384

-- the lists of a table, each its existential and then its universals
unfoldable pub lists : List ℕ → List (List ℕ)
lists ds = cut is_zero ds

-- Where a refusal of lists stands is told by places, which are those of a prefix: the entry that opens a list (MarkAt) is its existential, and any other
-- that is no 0 one of its universals (VariableAt). Entry e stands behind entry b in one list if none opens behind b, up to e.
abbrev pub OneList : List ℕ → ℕ → ℕ → Type 0
OneList ds b e = (b < e) × ((c : ℕ) → b < c → c ≤ e → opens ds c ≡ false)

-- v is in a block
abbrev pub Bound : List ℕ → ℕ → Type 0
Bound es v = (e : ℕ) × VariableAt es e × (at es e ≡ v)

-- y has a list of its own, and it has x
pub record Given (ds : List ℕ) (x y : ℕ) : Type 0 where
  pub universals : List ℕ
  pub listed : Memᴰ (y ∷ universals) (lists ds)
  pub has_x : Memᴰ x universals

-- y is an existential whose list has x: one in a block has all universals before it, any other those of a list of its own, and so a free one none
pub record ListHas (n : ℕ) (es ds : List ℕ) (x y : ℕ) : Type 0 where
  pub existential : is_existential n es y ≡ true
  pub listed : (Bound es y × (level es x < level es y)) ⊎ Given ds x y
