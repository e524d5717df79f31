-- Whether a formula holds is computed by its game; two formulas with one clause list and two prefixes are settled so.
use mathlib.Core.Path.{◌≡◌, refl}
use mathlib.Core.Bool.{Bool, true, false}
use mathlib.Core.List.{List, [], ◌∷◌}
use mathlib.Core.Logic.{◌↔◌}
use native.Mathlib.Omega.{arith}
use lib.IntN.{ℤ, pos, negsuc}
use Rattle.terms.specs.Refusals.{None}
use Rattle.terms.proofs.Common.{clash}
use Rattle.formula.specs.Causes.{ClauseCause}
use Rattle.formula.specs.Lent.{Formula, formula_of}
use Rattle.formula.specs.Meaning.{blocks, clauses, level, is_universal, is_existential}
use Rattle.formula.specs.InnerLevels.{free_level}
use Rattle.formula.specs.Tables.{cut}
use Rattle.formula.proofs.Accepts.{prefix_passes, clauses_pass, accepts}
use Rattle.truth.specs.Game.{put, insert_turn, turns_of}
use Rattle.truth.proofs.Claims.{turns_are_there, games_are_computed}
use Rattle.truth.proofs.Computing.{satisfies, satisfies_all, tried, won}
use Rattle.truth_formula.specs.Holds.{Holds}
use Rattle.truth_formula.proofs.Turns.{game_holds}

-- the game of a formula, with computed turns
abbrev pub won_by : Formula → Bool
won_by f = won (is_existential f.n f.prefix) (clauses f.clauses) (turns_of (level f.prefix) f.n) (λ v. false)

pub holds_computed : (f : Formula) → None (ClauseCause f.n f.clauses) → (won_by f ≡ true) ↔ Holds f
holds_computed f none =
    let turns = turns_of (level f.prefix) f.n in
    let tells = games_are_computed (is_existential f.n f.prefix) (clauses f.clauses) turns (λ v. false) in
    let holds = game_holds f (turns_are_there (level f.prefix) f.n) none (λ v. false) in
    (λ t. holds.0 (tells.0 t), λ h. tells.1 (holds.1 h))

-- "x or not y" and "not x or y", where x is 1 and y is 2
abbrev pub equal_clauses : List ℤ
equal_clauses = pos 1 ∷ negsuc 1 ∷ pos 0 ∷ negsuc 0 ∷ pos 2 ∷ pos 0 ∷ []

-- for all x there is a y; and there is a y for all x
abbrev pub for_all_there_is : Formula
for_all_there_is = formula_of 2 (2 ∷ 1 ∷ 0 ∷ 1 ∷ 2 ∷ 0 ∷ []) equal_clauses

abbrev pub there_is_for_all : Formula
there_is_for_all = formula_of 2 (1 ∷ 2 ∷ 0 ∷ 2 ∷ 1 ∷ 0 ∷ []) equal_clauses

accepted : None (ClauseCause 2 equal_clauses)
unfolding prefix_passes clauses_pass
accepted = (accepts 2 [] equal_clauses (omega arith) (omega arith) (omega arith) refl refl).1.1.1.0

record Settled : Type 0 where
  first : won_by for_all_there_is ≡ true
  second : won_by there_is_for_all ≡ false

settled : Settled
unfolding blocks clauses cut free_level level is_universal is_existential insert_turn turns_of put satisfies satisfies_all tried won
settled = record { first = refl; second = refl }

pub for_all_there_is_lem : Holds for_all_there_is
for_all_there_is_lem = (holds_computed for_all_there_is accepted).0 settled.first

pub not_there_is_for_all : Holds there_is_for_all → ⊥
not_there_is_for_all h = clash ((holds_computed there_is_for_all accepted).1 h) settled.second
