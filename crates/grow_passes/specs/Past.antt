-- To be believed: lent rows past n stay (rule 3.2).
use Rattle.std.specs.Prelude.{ℕ, ◌≤◌, ◌≡◌, List, length, get_or}

-- The lent rows of variables past n stay, and so does the number of rows.
pub record Past (n : ℕ) (rows rows' : List ℕ) : Type 0 where
  pub size : length rows' ≡ length rows
  pub stays : (u : ℕ) → n ≤ u → get_or rows' u 0 ≡ get_or rows u 0
