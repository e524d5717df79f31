-- The game of an accepted formula: a universal has its turn before an existential exactly if its block is before that one's, since no block has both.
use Prim.Native.Nat.{ℕ, ◌≤◌}
use mathlib.Core.Path.{◌≡◌, sym, ◌∙◌, ap}
use mathlib.Core.Bool.{Bool, true, false, not}
use mathlib.Core.List.{List}
use mathlib.Core.Logic.{⊎_elim, ◌↔◌}
use native.Mathlib.Omega.{arith}
use borrow.Author.Tests.{not-false}
use Rattle.terms.specs.Literals.{variable_of}
use Rattle.terms.specs.Refusals.{None}
use Rattle.terms.proofs.Common.{clash}
use Rattle.formula.specs.Causes.{ClauseCause}
use Rattle.formula.specs.Lent.{Formula}
use Rattle.formula.specs.Meaning.{is_universal, is_existential, clauses}
use Rattle.forest_tables.specs.Formula.{universal}
use Rattle.forest_tables.proofs.Readings.{flag_in}
use Rattle.forest_tables.proofs.Agreeing.{lawful, universal_within}
use Rattle.forest.proofs.Demands.{universal_alone}
use Rattle.truth.specs.Strategies.{Assignment}
use Rattle.truth.specs.Game.{Earlier, Closed}
use Rattle.truth.proofs.Playing.{earlier_first, one_first}
use Rattle.truth.proofs.Claims.{game_is_strategies, more_may_depend}
use Rattle.truth_formula.specs.Holds.{MayDepend, Holds, TurnsIn, GameOf}
use Rattle.truth_formula.proofs.Entries.{literal_within}

-- A variable of 1 to n that is not existential is universal.
not_existential : (n : ℕ) (es : List ℕ) (x : ℕ) → 1 ≤ x → x ≤ n → is_existential n es x ≡ false → universal n es x ≡ true
unfolding universal is_existential
not_existential n es x a b f =
    flag_in n x (is_universal es x) (λ z. omega arith) b
    ∙ not-false (is_universal es x) (sym (flag_in n x (not (is_universal es x)) (λ z. omega arith) b) ∙ f)

module _ (f : Formula) {turns : List ℕ} (order : TurnsIn f turns) where
  abbrev ex : ℕ → Bool
  ex = is_existential f.n f.prefix

  turn_depends : (x y : ℕ) → ex x ≡ false → ex y ≡ true → Earlier x y turns → MayDepend f x y
  turn_depends x y u e r =
      let (a, b) = order.within x (earlier_first r) in
      let universal-x = not_existential f.n f.prefix x a b u in
      let apart = (universal_alone f.n f.prefix x universal-x).alone y e in
      let least = order.outer_first x y r in
      record { universal = universal-x; deeper = omega arith }

  depends_turn : (x y : ℕ) → ex x ≡ false → ex y ≡ true → MayDepend f x y → Earlier x y turns
  depends_turn x y u e d =
      let (a, b, _) = universal_within f.n f.prefix x d.universal in
      let (c, k) = (lawful f.n f.prefix).within y e in
      let less = d.deeper in
      ⊎_elim (λ r. r) (λ r. let over = order.outer_first y x r in absurd (omega arith))
      (one_first (λ q. clash e (ap ex (sym q) ∙ u)) (order.all x a b) (order.all y c k))

  pub game_holds : None (ClauseCause f.n f.clauses) → (a : Assignment) → GameOf f turns a ↔ Holds f
  game_holds none a =
      let known : Closed (clauses f.clauses) turns =
      λ clause m l i. let (low, high) = literal_within none clause m l i in order.all (variable_of l) low high in
      let (there, back) = game_is_strategies ex (clauses f.clauses) turns a order.once known in
      (λ g. more_may_depend turn_depends (there g), λ t. back (more_may_depend depends_turn t))
