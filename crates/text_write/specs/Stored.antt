-- What writing a text promises: it stands in front in the lent buffer, or the first cause is given in an order that ends with 15 and 14 (rule 7.5, rule 8.2).
use Rattle.std.specs.Prelude.{ℕ, ◌<◌, ◌≡◌, List, length}
use Rattle.terms.specs.Overwritten.{overwritten}
use Rattle.terms.specs.Says.{said, Answer}
use Rattle.terms.specs.Answers.{Settles}
use Rattle.terms.specs.Refusals.{Causes}

-- 14: the buffer is shorter than the text.
pub data ShortOut (text out : List ℕ) : ℕ → ℕ → Type 0 where
  short_out : length out < length text → ShortOut text out 14 0

-- The text stands in front, and the bytes past it are as they were.
pub record Stored (text out out' : List ℕ) (count : ℕ) : Type 0 where
  pub counted : count ≡ length text
  pub left : out' ≡ overwritten text out

-- What a call promises that writes a text, by its order of refusals: the text stands in front, or nothing is changed.
abbrev pub WritesBy : List Causes → List ℕ → List ℕ → List ℕ → Answer ℕ → Type 0
WritesBy order text out out' answer = Settles order (Stored text out out') (out' ≡ out) (said answer)
