-- Ascending lists of exactly those numbers of which something holds (rule 7.4).
use Rattle.std.specs.Prelude.{ℕ, ◌<◌}
use mathlib.Core.List.{List, [], ◌∷◌, Memᴰ}

-- ascending: each number is less than all that follow it
abbrev pub Ascending : List ℕ → Type 0
Ascending [] = Unit {0}
Ascending (a ∷ rest) = ((b : ℕ) → Memᴰ b rest → a < b) × Ascending rest

-- the ascending list of exactly those numbers of which P holds
pub record Listed (P : ℕ → Type 0) (list : List ℕ) : Type 0 where
  pub ascending : Ascending list
  pub each : (v : ℕ) → Memᴰ v list → P v
  pub all : (v : ℕ) → P v → Memᴰ v list
