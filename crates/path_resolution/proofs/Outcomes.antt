-- Where rule 1 accepts a prefix both reading rules promise the same (rule 6.3), and what was lent settles the answer (rule 18.1).
use Prim.Native.Nat.{ℕ}
use mathlib.Core.Path.{◌≡◌}
use mathlib.Core.List.{List, ◌∷◌}
use mathlib.Core.Logic.{◌↔◌}
use lib.ListN.{length}
use Rattle.terms.specs.Answers.{Listing}
use Rattle.terms.specs.Listed.{Listed}
use Rattle.terms.specs.Refusals.{Causes, NoneOf}
use Rattle.terms.specs.Says.{Answer}
use Rattle.terms.proofs.Answers.{listing-settled, carry-filling}
use Rattle.terms.proofs.Orders.{Carries}
use Rattle.formula.specs.Causes.{ClauseCause}
use Rattle.formula.specs.Lent.{Formula, formula_of}
use Rattle.formula_rules.specs.Rules.{read_by, ruled_prefix}
use Rattle.formula_rules.proofs.Agreement.{one_to_two, two_to_one}
use Rattle.forest_tables.specs.Lent.{variables_of}
use Rattle.path_resolution.specs.Paths.{DependsByPaths, resolution_order, ResolutionListed}
use Rattle.path_resolution.specs.InnerEnds.{behind_resolution}

-- Where rule 1 accepts the prefix, what is promised under one rule is promised under the other.
pub resolution_agrees : (f : Formula) (x : ℕ) (before after : List ℕ) (r : Answer ℕ) → NoneOf (ruled_prefix 1 f.n f.prefix (length f.clauses))
    → ResolutionListed 1 f x before after r ↔ ResolutionListed 2 f x before after r
resolution_agrees f x before after r none =
    (one_to_two S carry later f.n f.prefix (length f.clauses) none, two_to_one S carry later f.n f.prefix (length f.clauses) none)
  where
    with_prefix : List ℕ → Formula
    with_prefix read = formula_of f.n read f.clauses

    S : List Causes → List ℕ → Type 0
    S order read = Listing order (DependsByPaths (variables_of (with_prefix read)) f.clauses x) before after r

    carry : (order order' : List Causes) (read : List ℕ) → Carries order order' → S order read → S order' read
    carry order order' read = carry-filling (Listed (DependsByPaths (variables_of (with_prefix read)) f.clauses x)) before after r order order'

    later : List ℕ → List Causes
    later read = ClauseCause f.n f.clauses ∷ behind_resolution (with_prefix read) x before

-- Any two answers that the promise allows are equal, and so are the tables that they leave.
pub resolution_settled : (rule : ℕ) (f : Formula) (x : ℕ) (before after after' : List ℕ) (r r' : Answer ℕ)
    → ResolutionListed rule f x before after r → ResolutionListed rule f x before after' r' → (r ≡ r') × (after ≡ after')
resolution_settled rule f x before =
    listing-settled (resolution_order rule f x before) (DependsByPaths (variables_of (read_by rule f)) f.clauses x) before
