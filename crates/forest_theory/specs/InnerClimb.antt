-- Inner: the climb as it is computed, and the tables whose climbs tell what is reached. No promise rests on it; promises speak of entry points (Tables).
use Rattle.std.specs.Prelude.{ℕ, zero, suc, ◌+◌, ◌≡◌, cond, ◌||◌, ◌↔◌, eqb, ltb}
use Rattle.forest_theory.specs.Reach.{Variables, From, Reach}
use Rattle.forest_theory.specs.Tables.{Table, WellFormed}

-- What a search gives: where it ended and the number of rises.
pub record Climbed : Type 0 where
  pub top : ℕ
  pub rises : ℕ

-- The search: from class c with r rises behind it, rise while the parent is not 0 and stands in block i or deeper.
unfoldable pub climb_by : Variables → Table → ℕ → ℕ → ℕ → ℕ → Climbed
climb_by X W i zero c r = record { top = c; rises = r }
climb_by X W i (suc fuel) c r =
    let up = climb_by X W i fuel (W.par c) (r + 1) in
    cond (eqb (W.par c) 0 || ltb (X.lev (W.par c)) i) (record { top = c; rises = r }) up

-- Each rise goes to a lesser block, so the block number of c is fuel enough.
unfoldable pub climb : Variables → Table → ℕ → ℕ → ℕ → Climbed
climb X W i c r = climb_by X W i (X.lev c) c r

-- Where the search from v's class ends, at level i.
unfoldable pub top : Variables → Table → ℕ → ℕ → ℕ
top X W i v = (climb X W i (W.cls v) 0).top

-- W represents the joins J: at every level, one existential reaches another exactly when their climbs end at one class.
pub record Represents (X : Variables) (J : ℕ → ℕ → Type 0) (W : Table) : Type 0 where
  pub formed : WellFormed X W
  pub tops : (i v y : ℕ) → From X i v → From X i y → Reach J (From X i) v y ↔ (top X W i v ≡ top X W i y)
