-- Where both reading rules accept a prefix, what build and add promise under one rule they promise under the other (rule 6.3).
use Rattle.terms.specs.Says.{Answer}
use Prim.Native.Nat.{ℕ}
use mathlib.Core.List.{List, [], ◌∷◌}
use mathlib.Core.Logic.{◌↔◌}
use lib.IntN.{ℤ}
use lib.ListN.{length}
use Rattle.terms.specs.Refusals.{At0, NoneOf}
use Rattle.formula.specs.Causes.{ClauseCause}
use Rattle.formula.specs.Lent.{Formula}
use Rattle.formula_rules.specs.Rules.{ruled_prefix}
use Rattle.formula_rules.proofs.Agreement.{rules_agree}
use Rattle.forest_tables.specs.Formula.{variables, Shares}
use Rattle.grow.specs.Grown.{Standing, TooShort, Tallies, Rewrites, AddsBehind, Builds, Adds}
use Rattle.grow.specs.InnerOrders.{behind_add}
use Rattle.grow.proofs.Standings.{carry_rewrites}

pub build_agrees : (f : Formula) (s s' : Standing) (a : Answer ℕ) → NoneOf (ruled_prefix 1 f.n f.prefix (length f.clauses))
    → Builds 1 f s s' a ↔ Builds 2 f s s' a
build_agrees f s s' a none =
    rules_agree
    (λ order read. Rewrites order (variables f.n read) (Shares f.clauses) (Tallies (variables f.n read) f.clauses) s s' a)
    (λ order order' read. carry_rewrites a order order') (λ read. ClauseCause f.n f.clauses ∷ At0 14 (TooShort f.n s) ∷ [])
    f.n f.prefix (length f.clauses) none

pub add_agrees : (n : ℕ) (es : List ℕ) (s : Standing) (ls : List ℤ) (s' : Standing) (a : Answer ℕ) → NoneOf (ruled_prefix 1 n es (length ls))
    → Adds 1 n es s ls s' a ↔ Adds 2 n es s ls s' a
add_agrees n es s ls s' a none =
    rules_agree (λ order read. AddsBehind order (variables n read) s ls s' a) (λ order order' read. carry_rewrites a order order')
    (λ read. behind_add n read s ls) n es (length ls) none
