-- What was lent settles what the call for all sets answers and writes (rule 18.1); its list holds what the set call by the same scheme gives for each
-- universal; and demand 2 for it.
use Rattle.std.specs.Prelude.{Ok}
use Rattle.terms.specs.Says.{Answer}
use Prim.Native.Nat.{ℕ}
use mathlib.Core.Path.{◌≡◌, sym, ap, ◌∙◌}
use mathlib.Core.List.{List, ◌∷◌, ◌++◌}
use lib.ListN.{length}
use Rattle.terms.specs.Overwritten.{overwritten}
use Rattle.terms.specs.declared.Scheme.{Scheme}
use Rattle.terms.proofs.Answers.{filling-settled}
use Rattle.terms.proofs.Listed.{listed_one}
use Rattle.formula.specs.Lent.{Formula}
use Rattle.forest_theory.specs.Forest.{Forest}
use Rattle.formula_rules.specs.Rules.{read_by}
use Rattle.forest_tables.specs.Formula.{universal, Shares}
use Rattle.forest_tables.specs.Lent.{Rows, variables_of, forest_of}
use Rattle.forest_tables.proofs.Agreeing.{universal_within}
use Rattle.forest.specs.Answers.{MembersBy, DependsBy, SetListed}
use Rattle.forest.proofs.Demands.{universal_alone, not_refused, members_depend}
use Rattle.sets.specs.Sets.{Records, AllSetsBy, sets_order, SetsListed}
use Rattle.sets.proofs.Records.{records_as, records_one, records_part}

module _ (rule : ℕ) (scheme : Scheme) (f : Formula) (r : Rows) where
  abbrev read : Formula
  read = read_by rule f

  -- two lists of all sets are one
  one_list : (list other : List ℕ) → AllSetsBy scheme read r list → AllSetsBy scheme read r other → list ≡ other
  one_list = records_one (universal read.n read.prefix) (MembersBy scheme read r) read.n

  pub sets_settled : (before after after' : List ℕ) (a b : Answer ℕ)
      → SetsListed rule scheme f r before after a → SetsListed rule scheme f r before after' b → (a ≡ b) × (after ≡ after')
  sets_settled before after after' a b = filling-settled (sets_order rule scheme f r before) (AllSetsBy scheme read r) one_list before after after' a b

  -- The list of all sets by a scheme holds, for each universal x, its number and what the set call by it gives and writes for x.
  pub set_in_sets : (list : List ℕ) → AllSetsBy scheme read r list → (x : ℕ) (before after : List ℕ) (count : ℕ)
      → SetListed rule scheme f r x before after (Ok count)
      → (members : List ℕ) × (after ≡ overwritten members before) × (front : List ℕ) × (back : List ℕ) × (list ≡ front ++ ((x ∷ count ∷ members) ++ back))
  set_in_sets list all x before after count (none, written) =
      let u = not_refused rule f r x (MembersBy scheme read r x) before none in
      let (low, high, _) = universal_within read.n read.prefix x u in
      let (members, listed, front, back, is) =
      records_part (universal read.n read.prefix) (MembersBy scheme read r) read.n list all x low high u in
      let same : written.0 ≡ members = listed_one written.0 members written.1 listed in
      let size : length members ≡ count = ap length (sym same) ∙ sym written.2 in
      (members, written.3 ∙ ap (λ (rows : List ℕ). overwritten rows before) same, front, back, is ∙ ap (λ (k : ℕ). front ++ ((x ∷ k ∷ members) ++ back)) size)

-- Demand 2 for all sets: by the formula's own forest each is what depends on its universal, by the scheme asked for.
pub sets_are_dependencies : (scheme : Scheme) (f : Formula) (r : Rows) → Forest (variables_of f) (Shares f.clauses) (forest_of f r)
    → (list : List ℕ) → AllSetsBy scheme f r list → Records (universal f.n f.prefix) (DependsBy scheme f) f.n list
sets_are_dependencies scheme f r forest list all =
    records_as (λ x u. members_depend f r x forest scheme (universal_alone f.n f.prefix x u)) f.n list all
