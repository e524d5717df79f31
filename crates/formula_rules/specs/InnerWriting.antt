-- Inner: what functions promise that judge a prefix under rule 2 and write it joined. What a reader must believe is in Joined and Rules.
use Rattle.std.specs.Prelude.{ℕ, zero, suc, ◌+◌, ◌≡◌, Bool, true, false, List, [], ◌∷◌, ◌++◌, ◌⊎◌, ◌≢◌, length, take}
use Rattle.terms.specs.Limits.{most_blocks}
use Rattle.formula.specs.InnerScan.{IsMark}

-- The number of what is wrong with an entry as a mark, or 0: `new` says whether it begins a block, and `count` blocks have begun already.
pub data MarkFault (entry : ℕ) (new : Bool) (count number : ℕ) : Type 0 where
  fine : number ≡ 0 → IsMark entry → (new ≡ false) ⊎ (count ≢ most_blocks) → MarkFault entry new count number
  no_mark : number ≡ 4 → entry ≢ 1 → entry ≢ 2 → MarkFault entry new count number
  too_many : number ≡ 6 → IsMark entry → new ≡ true → count ≡ most_blocks → MarkFault entry new count number

-- the 0 that closes the block before, which has the mark `last`; nothing where there is none
unfoldable pub closing : ℕ → List ℕ
closing zero = []
closing (suc last) = 0 ∷ []

-- Some entries are written behind those that are there already, and the count grows by their number.
pub record Put (more out out' : List ℕ) (count count' : ℕ) : Type 0 where
  pub size : length out' ≡ length out
  pub end : count' ≡ count + length more
  pub written : take count' out' ≡ take count out ++ more
