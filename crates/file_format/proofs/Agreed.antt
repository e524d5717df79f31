-- Where rule 1 accepts a prefix, writing and reading a file promise the same under both reading rules (rule 6.3).
use Rattle.terms.specs.Says.{Answer}
use Rattle.terms.specs.declared.Loaded.{Loaded}
use Rattle.std.proofs.Common.{◌≡◌, ℕ, false, ◌↔◌, List, [], ◌∷◌, ◌++◌, length, sym, subst}
use Rattle.terms.specs.Answers.{Filling}
use Rattle.terms.specs.Refusals.{Causes, At0, NoneOf}
use Rattle.terms.proofs.Answers.{carry-filling}
use Rattle.terms.proofs.Orders.{Carries, exchanged, one_more, behind}
use Rattle.formula.specs.Causes.{VariableCount, LengthCause, ClauseCause}
use Rattle.formula.specs.Lent.{Formula, formula_of}
use Rattle.formula_rules.specs.Rules.{read_as, RuleCause, PrefixCauseBy, ruled_prefix}
use Rattle.formula_rules.proofs.Agreement.{both_accept, one_to_two, two_to_one}
use Rattle.file_format.specs.Layout.{FileWith}
use Rattle.file_format.specs.Places.{count_in, prefix_held, clauses_in, formula_held}
use Rattle.file_format.specs.Causes.{ForestFileCause, Lent, NoFileRoom}
use Rattle.file_format.specs.InnerOrders.{file_order, behind_store}
use Rattle.file_format.specs.Promises.{Stores, Loading, Loads}
use Rattle.file_format.proofs.Orders.{carry_loading}

pub store_agrees : (f : Formula) → NoneOf (ruled_prefix 1 f.n f.prefix (length f.clauses)) → (before after : List ℕ) (r : Answer ℕ)
    → Stores 1 f before after r ↔ Stores 2 f before after r
store_agrees f none before after r =
    let S : List Causes → List ℕ → Type 0 = λ order read. Filling order (FileWith false f read) before after r in
    let carry : (order order' : List Causes) (read : List ℕ) → Carries order order' → S order read → S order' read =
    λ order order' read. carry-filling (FileWith false f read) before after r order order' in
    let later : List ℕ → List Causes = λ read. ClauseCause f.n f.clauses ∷ behind_store f read before in
    (one_to_two S carry later f.n f.prefix (length f.clauses) none, two_to_one S carry later f.n f.prefix (length f.clauses) none)

-- Reading has the causes of the records of the file between 23 and the others, under both rules alike.
module _ (file : List ℕ) (lent lent' : Lent) (answer : Answer Loaded) where
  abbrev front : ℕ → List Causes
  front rule = ruled_prefix rule (count_in file) (prefix_held file) (length (clauses_in file))

  -- the order of the prefix without 23
  abbrev unruled : ℕ → List Causes
  unruled rule = VariableCount (count_in file) ∷ LengthCause (prefix_held file) (length (clauses_in file)) ∷ PrefixCauseBy rule (count_in file) (prefix_held file) ∷ []

  abbrev as_read : List ℕ → Formula
  as_read es = formula_of (count_in file) es (clauses_in file)

  abbrev later : List ℕ → List Causes
  later es = ClauseCause (count_in file) (clauses_in file) ∷ ForestFileCause (as_read es) file ∷ At0 14 (NoFileRoom (formula_held file) lent) ∷ []

  abbrev order : ℕ → List ℕ → List Causes
  order rule es = RuleCause rule ∷ (file_order file ++ (unruled rule ++ later es))

  load_too : (rule other : ℕ) → NoneOf (front rule) → NoneOf (front other) → read_as rule (prefix_held file) ≡ read_as other (prefix_held file)
      → Loads rule file lent lent' answer → Loads other file lent lent' answer
  load_too rule other from to same loads =
      let es = read_as other (prefix_held file) in
      carry_loading (as_read es) file lent lent' answer (order rule es) (order other es)
      (one_more (RuleCause rule) (RuleCause other) (λ k p c. absurd (from.0 k p c)) (λ k p c. absurd (to.0 k p c))
      (behind (file_order file) (exchanged (unruled rule) (unruled other) (later es) from.1 to.1)))
      (subst (λ (read : List ℕ). Loading (order rule read) (as_read read) file lent lent' answer) same loads)

  pub load_agrees : NoneOf (front 1) → Loads 1 file lent lent' answer ↔ Loads 2 file lent lent' answer
  load_agrees none =
      let (also, same) = both_accept (count_in file) (prefix_held file) (length (clauses_in file)) none in
      (load_too 1 2 none also (sym same), load_too 2 1 also none same)
