-- When a formula is true, by the game of its prefix (rule 19.2): the variables get their values one after the other, and the outer blocks come first.
use Rattle.std.specs.Prelude.{ℕ, zero, suc, ◌≤◌, Bool, true, false, cond, ◌≡◌, eqb, leb, ℤ}
use mathlib.Core.List.{List, [], ◌∷◌, Memᴰ}
use Rattle.terms.specs.Literals.{variable_of}
use Rattle.truth.specs.Strategies.{Assignment, AllSatisfied}

-- an assignment with the value of x put to another
unfoldable pub put : ℕ → Bool → Assignment → Assignment
put x value u v = cond (eqb v x) value (u v)

-- One turn: an existential has one value such that the rest holds, and for a universal it holds for both.
abbrev pub Turn : Bool → (Bool → Type 0) → Type 0
Turn true rest = (value : Bool) × rest value
Turn false rest = (value : Bool) → rest value

-- The game of the variables that still have their turns, from an assignment on: at the end all clauses are satisfied.
abbrev pub Game : (ℕ → Bool) → List (List ℤ) → List ℕ → Assignment → Type 0
Game ex clauses [] a = AllSatisfied a clauses
Game ex clauses (v ∷ later) a = Turn (ex v) (λ value. Game ex clauses later (put v value a))

-- x has its turn before y.
pub data Earlier (x y : ℕ) : List ℕ → Type 0 where
  now : {v : ℕ} {later : List ℕ} → v ≡ x → Memᴰ y later → Earlier x y (v ∷ later)
  after : {v : ℕ} {later : List ℕ} → Earlier x y later → Earlier x y (v ∷ later)

-- no variable has two turns
abbrev pub Distinct : List ℕ → Type 0
Distinct [] = Unit {0}
Distinct (v ∷ later) = (Memᴰ v later → ⊥) × Distinct later

-- every variable of the clauses has a turn
abbrev pub Closed : List (List ℤ) → List ℕ → Type 0
Closed clauses turns = (clause : List ℤ) → Memᴰ clause clauses → (l : ℤ) → Memᴰ l clause → Memᴰ (variable_of l) turns

-- The turns of the variables 1 to n, of which each has a level: each has one turn, and none has it before one of a lesser level.
pub record Turns (level : ℕ → ℕ) (n : ℕ) (turns : List ℕ) : Type 0 where
  pub once : Distinct turns
  pub all : (v : ℕ) → 1 ≤ v → v ≤ n → Memᴰ v turns
  pub within : (v : ℕ) → Memᴰ v turns → (1 ≤ v) × (v ≤ n)
  pub outer_first : (x y : ℕ) → Earlier x y turns → level x ≤ level y

-- such a list computed: each variable is put before the first that is as deep or deeper
unfoldable pub insert_turn : (ℕ → ℕ) → ℕ → List ℕ → List ℕ
insert_turn level v [] = v ∷ []
insert_turn level v (w ∷ later) = cond (leb (level v) (level w)) (v ∷ w ∷ later) (w ∷ insert_turn level v later)

unfoldable pub turns_of : (ℕ → ℕ) → ℕ → List ℕ
turns_of level zero = []
turns_of level (suc n) = insert_turn level (suc n) (turns_of level n)
