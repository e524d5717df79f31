-- Inner: how the scan of a prefix under rule 2 counts blocks. Nobody needs to believe this: 6 stands in Rules by joined blocks, and a proof ties the two
-- (proofs/Begun).
use Rattle.std.specs.Prelude.{ℕ, zero, suc, Bool, cond, not, ◌&&◌, List, eqb, ltb, length}
use Rattle.formula.specs.Tables.{at, opens}

-- The block with its mark at entry e is empty: 0 directly follows the mark.
abbrev pub empty_at : List ℕ → ℕ → Bool
empty_at es e = ltb (suc e) (length es) && eqb (at es (suc e)) 0

-- The mark at entry e begins a block after one with the mark `last`: its own is not empty, and has another quantifier.
abbrev pub begins_after : List ℕ → ℕ → ℕ → Bool
begins_after es e last = not (empty_at es e) && not (eqb (at es e) last)

-- the mark of the last block before entry e that is not empty, 0 if there is none
abbrev pub last_mark : List ℕ → ℕ → ℕ
last_mark es zero = 0
last_mark es (suc e) = cond (opens es e && not (empty_at es e)) (at es e) (last_mark es e)

-- entry e begins a block
abbrev pub begins : List ℕ → ℕ → Bool
begins es e = opens es e && begins_after es e (last_mark es e)

-- the number of blocks that begin before entry e
abbrev pub begun_before : List ℕ → ℕ → ℕ
begun_before es zero = 0
begun_before es (suc e) = cond (begins es e) (suc (begun_before es e)) (begun_before es e)
