-- What was lent settles what the call answers and writes (rule 18.1); and both reading rules give the same where rule 1 accepts the prefix (rule 6.3).
use Prim.Native.Nat.{ℕ}
use mathlib.Core.Path.{◌≡◌}
use mathlib.Core.List.{List}
use mathlib.Core.Logic.{◌↔◌}
use lib.IntN.{ℤ}
use lib.ListN.{length}
use Rattle.terms.specs.Answers.{Listing}
use Rattle.terms.specs.Listed.{Listed}
use Rattle.terms.specs.Refusals.{NoneOf}
use Rattle.terms.specs.declared.Scheme.{Scheme}
use Rattle.terms.specs.Says.{Answer}
use Rattle.terms.proofs.Answers.{listing-settled, carry-filling}
use Rattle.formula.specs.Lent.{Formula, formula_of}
use Rattle.formula_rules.specs.Rules.{read_by, ruled_prefix}
use Rattle.formula_rules.proofs.Agreement.{rules_agree}
use Rattle.forest_tables.specs.Lent.{Rows}
use Rattle.grow.specs.Grown.{with_last}
use Rattle.grow_changed.specs.Changed.{Changes, changed_order, ChangedListed}
use Rattle.grow_changed.specs.InnerChanged.{behind_changed}

module _ (scheme : Scheme) (f : Formula) (r : Rows) (clause : List ℤ) where
  pub changed_settled : (rule : ℕ) (before after after' : List ℕ) (a b : Answer ℕ) → ChangedListed rule scheme f r clause before after a
      → ChangedListed rule scheme f r clause before after' b → (a ≡ b) × (after ≡ after')
  changed_settled rule before = listing-settled (changed_order rule scheme f r clause before) (Changes scheme (read_by rule f) r clause) before

  -- the formula with another prefix
  abbrev with : List ℕ → Formula
  with read = formula_of f.n read f.clauses

  pub changed_agree : NoneOf (ruled_prefix 1 f.n f.prefix (length (with_last f.clauses clause))) → (before after : List ℕ) (a : Answer ℕ)
      → ChangedListed 1 scheme f r clause before after a ↔ ChangedListed 2 scheme f r clause before after a
  changed_agree none before after a =
      rules_agree (λ order read. Listing order (Changes scheme (with read) r clause) before after a)
      (λ order order' read. carry-filling (Listed (Changes scheme (with read) r clause)) before after a order order')
      (λ read. behind_changed scheme (with read) r clause before) f.n f.prefix (length (with_last f.clauses clause)) none
