-- Where both reading rules accept a prefix, everything agrees: what each call promises under one rule it promises under the other (rule 6.3). (Where
-- rule 1 accepts a prefix so does rule 2: `formula_rules/proofs/Agreement`, both_accept.)
use Rattle.terms.specs.Says.{Answer}
use Rattle.terms.specs.declared.Point.{Point}
use Prim.Native.Nat.{ℕ}
use mathlib.Core.List.{List, [], ◌∷◌, ◌++◌}
use mathlib.Core.Logic.{◌↔◌}
use lib.ListN.{length}
use Rattle.terms.specs.Answers.{Answered, AnsweredNumber, Listing, TooLong}
use Rattle.terms.specs.Listed.{Listed}
use Rattle.terms.specs.Refusals.{At0, NoneOf}
use Rattle.terms.specs.declared.Scheme.{Scheme}
use Rattle.terms.proofs.Answers.{carry-answered, carry-numbered, carry-filling}
use Rattle.formula.specs.Causes.{ClauseCause}
use Rattle.formula.specs.Lent.{Formula, formula_of}
use Rattle.formula_rules.specs.Rules.{ruled_prefix}
use Rattle.formula_rules.proofs.Agreement.{rules_agree}
use Rattle.forest_tables.specs.Lent.{Rows}
use Rattle.forest.specs.InnerOrders.{behind_entry, behind_check}
use Rattle.forest.specs.Answers.{Entry, SizeBy, EntryAnswered, ListedFor, Sized}

module _ (f : Formula) (r : Rows) (x : ℕ) where
  -- the formula with another prefix
  abbrev with : List ℕ → Formula
  with read = formula_of f.n read f.clauses

  pub entry_agrees : (y : ℕ) → NoneOf (ruled_prefix 1 f.n f.prefix 0) → (a : Answer Point) → EntryAnswered 1 f r x y a ↔ EntryAnswered 2 f r x y a
  entry_agrees y none a =
      rules_agree (λ order read. Answered order (Entry (with read) r x y) a) (λ order order' read. carry-answered (Entry (with read) r x y) a order order')
      (λ read. behind_entry f.n read r x y) f.n f.prefix 0 none

  module _ (none : NoneOf (ruled_prefix 1 f.n f.prefix (length f.clauses))) where
    pub list_agrees : (P : Formula → ℕ → Type 0) (before after : List ℕ) (a : Answer ℕ) → ListedFor 1 f r x P before after a ↔ ListedFor 2 f r x P before after a
    list_agrees P before after a =
        rules_agree (λ order read. Listing order (P (with read)) before after a)
        (λ order order' read. carry-filling (Listed (P (with read))) before after a order order')
        (λ read. ClauseCause f.n f.clauses ∷ (behind_check f.n read r x ++ (At0 14 (TooLong (P (with read)) before) ∷ [])))
        f.n f.prefix (length f.clauses) none

    pub size_agrees : (scheme : Scheme) (a : Answer ℕ) → Sized 1 scheme f r x a ↔ Sized 2 scheme f r x a
    size_agrees scheme a =
        rules_agree (λ order read. AnsweredNumber order (SizeBy scheme (with read) r x) a)
        (λ order order' read. carry-numbered (SizeBy scheme (with read) r x) a order order')
        (λ read. ClauseCause f.n f.clauses ∷ behind_check f.n read r x) f.n f.prefix (length f.clauses) none
