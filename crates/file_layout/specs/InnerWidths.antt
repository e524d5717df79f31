-- How many bytes the numbers of a file have. Only inner functions cite it.
use Rattle.std.specs.Prelude.{ℕ, ◌≡◌, ◌⊎◌}

-- numbers of a file have two bytes or four
abbrev pub Width : ℕ → Type 0
Width width = (width ≡ 2) ⊎ (width ≡ 4)
