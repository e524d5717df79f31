-- Inner: counts passed up from class to parent, one class after another, and what the rows hold on the way.
use Rattle.std.specs.Prelude.{ℕ, ◌≤◌, ◌≡◌, true, ◌≢◌}
use Rattle.forest_theory.specs.Reach.{Variables}
use Rattle.forest_theory.specs.Tables.{Table}
use Rattle.forest_theory.specs.Counts.{Numbered}

-- Row c holds the number of those v of which P c v holds.
pub record RowsCount (P : ℕ → ℕ → Type 0) (counts : ℕ → ℕ) : Type 0 where
  pub row : (c : ℕ) → Numbered (P c) (counts c)

-- v is one of the first m variables, existential and in class c: what the rows count before anything is passed up.
pub record Placed (X : Variables) (W : Table) (m c v : ℕ) : Type 0 where
  pub existential : X.ex v ≡ true
  pub most : v ≤ m
  pub class : W.cls v ≡ c

-- The way up from c passes p, where it goes on only from classes that are done, that is, whose counts have been passed up.
pub data Passes (W : Table) (D : ℕ → Type 0) (p : ℕ) : ℕ → Type 0 where
  there : Passes W D p p
  onward : {c : ℕ} → D c → W.par c ≢ 0 → Passes W D p (W.par c) → Passes W D p c

-- v is existential, and the way up from its class passes c.
pub record WithinBy (X : Variables) (W : Table) (D : ℕ → Type 0) (c v : ℕ) : Type 0 where
  pub existential : X.ex v ≡ true
  pub passes : Passes W D c (W.cls v)
