-- Where both reading rules accept a prefix, what the call for all sets promises under one rule it promises under the other (rule 6.3).
use Prim.Native.Nat.{ℕ}
use mathlib.Core.List.{List, ◌∷◌}
use mathlib.Core.Logic.{◌↔◌}
use lib.ListN.{length}
use Rattle.terms.specs.Answers.{Filling}
use Rattle.terms.specs.Refusals.{NoneOf}
use Rattle.terms.specs.declared.Scheme.{Scheme}
use Rattle.terms.specs.Says.{Answer}
use Rattle.terms.proofs.Answers.{carry-filling}
use Rattle.formula.specs.Causes.{ClauseCause}
use Rattle.formula.specs.Lent.{Formula, formula_of}
use Rattle.formula_rules.specs.Rules.{ruled_prefix}
use Rattle.formula_rules.proofs.Agreement.{rules_agree}
use Rattle.forest_tables.specs.Lent.{Rows}
use Rattle.sets.specs.Sets.{AllSetsBy, SetsListed}
use Rattle.sets.specs.InnerOrders.{behind_sets}

module _ (scheme : Scheme) (f : Formula) (r : Rows) where
  -- the formula with another prefix
  abbrev with : List ℕ → Formula
  with read = formula_of f.n read f.clauses

  pub sets_agree : NoneOf (ruled_prefix 1 f.n f.prefix (length f.clauses)) → (before after : List ℕ) (a : Answer ℕ)
      → SetsListed 1 scheme f r before after a ↔ SetsListed 2 scheme f r before after a
  sets_agree none before after a =
      rules_agree (λ order read. Filling order (AllSetsBy scheme (with read) r) before after a)
      (λ order order' read. carry-filling (AllSetsBy scheme (with read) r) before after a order order')
      (λ read. ClauseCause f.n f.clauses ∷ behind_sets scheme (with read) r before) f.n f.prefix (length f.clauses) none
