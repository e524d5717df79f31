-- The theorems of truth, for any existentials, any relation of what may depend on what, any turns and any clauses; their proofs are in the files before.
use Prim.Native.Nat.{ℕ}
use mathlib.Core.Path.{◌≡◌}
use mathlib.Core.Bool.{Bool, true, false}
use mathlib.Core.List.{List, Memᴰ}
use mathlib.Core.Logic.{◌↔◌}
use lib.IntN.{ℤ}
use Rattle.truth.specs.Strategies.{Assignment, True}
use Rattle.truth.specs.Game.{Game, Earlier, Distinct, Closed, Turns, turns_of}
use Rattle.truth.specs.Paths.{Way, PathSet}
use Rattle.truth.specs.Narrowing.{NarrowedAt, NarrowedTo}
use Rattle.truth.proofs.Deciding.{way?}
use Rattle.truth.proofs.Narrowing.{widen, narrowed_at, narrowed_to}
use Rattle.truth.proofs.Playing.{game_strategy, strategy_game}
use Rattle.truth.proofs.Ordering.{turns_of_lem}
use Rattle.truth.proofs.Computing.{won, won_tells}
use Rattle.truth.proofs.Equal.{second, equal, seen, unseen}

-- The game is won exactly if a local strategy wins, where an existential may depend on the universals that have their turns before it; whatever the
-- values are with which the game begins.
pub game_is_strategies : (ex : ℕ → Bool) (clauses : List (List ℤ)) (turns : List ℕ) (a : Assignment) → Distinct turns → Closed clauses turns
    → Game ex clauses turns a ↔ True ex (λ x y. Earlier x y turns) clauses
game_is_strategies ex clauses turns a distinct closed =
    (game_strategy ex clauses turns a closed, λ t. strategy_game ex clauses turns closed t a distinct)

-- The variables 1 to n have turns, outer blocks first; and whether a game is won is computed.
pub turns_are_there : (level : ℕ → ℕ) (n : ℕ) → Turns level n (turns_of level n)
turns_are_there level n = turns_of_lem level n

pub games_are_computed : (ex : ℕ → Bool) (clauses : List (List ℤ)) (turns : List ℕ) (a : Assignment)
    → (won ex clauses turns a ≡ true) ↔ Game ex clauses turns a
games_are_computed ex clauses turns a = won_tells ex clauses turns a

-- Whether a path runs from one literal to another can be told, if it can of what paths may pass.
pub paths_are_decided : (clauses : List (List ℤ)) (E : ℕ → Type 0) → ((v : ℕ) → Dec (E v)) → (from to : ℤ) → Dec (Way clauses E from to)
paths_are_decided clauses E decide from to = way? clauses E decide from to

-- Where more may depend on more, what was true is true.
pub more_may_depend : {ex : ℕ → Bool} {may more : ℕ → ℕ → Type 0} {clauses : List (List ℤ)}
    → ((x y : ℕ) → ex x ≡ false → ex y ≡ true → may x y → more x y) → True ex may clauses → True ex more clauses
more_may_depend wider t = widen wider t

-- A formula is true exactly if it is with one universal narrowed to its resolution-path set.
pub one_narrowed : {ex : ℕ → Bool} {may : ℕ → ℕ → Type 0} {clauses : List (List ℤ)} → ((x y : ℕ) → Dec (may x y)) → (x : ℕ)
    → True ex may clauses ↔ True ex (NarrowedAt x (PathSet ex may clauses x) may) clauses
one_narrowed decide x = narrowed_at decide x

-- And exactly if it is with all of them narrowed, where the universals on which something may depend are those of a list.
pub all_narrowed : {ex : ℕ → Bool} {may : ℕ → ℕ → Type 0} {clauses : List (List ℤ)} → ((x y : ℕ) → Dec (may x y)) → (xs : List ℕ)
    → ((x y : ℕ) → ex x ≡ false → ex y ≡ true → may x y → Memᴰ x xs)
    → True ex may clauses ↔ True ex (NarrowedTo (PathSet ex may clauses) may) clauses
all_narrowed decide xs all = narrowed_to decide xs all

-- Two worked examples: for all x there is a y with x equal to y, if y may depend on x; and there is none if it may not.
pub equal_if_seen : True second (λ x y. (x ≡ 1) × (y ≡ 2)) equal
equal_if_seen = seen

pub not_equal_if_unseen : True second (λ x y. ⊥) equal → ⊥
not_equal_if_unseen t = unseen t
