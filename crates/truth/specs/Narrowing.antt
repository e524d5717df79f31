-- What may depend on what, narrowed to sets (rule 19.3).
use Rattle.std.specs.Prelude.{ℕ, ◌≡◌}

-- with x alone narrowed to a set: only what the set has may depend on x, and on any other universal what might before
abbrev pub NarrowedAt : ℕ → (ℕ → Type 0) → (ℕ → ℕ → Type 0) → ℕ → ℕ → Type 0
NarrowedAt x Set may = λ z y. may z y × (z ≡ x → Set y)

-- with every universal x narrowed to its set
abbrev pub NarrowedTo : (ℕ → ℕ → Type 0) → (ℕ → ℕ → Type 0) → ℕ → ℕ → Type 0
NarrowedTo Set may = λ x y. may x y × Set x y
