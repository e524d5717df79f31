-- What was lent settles what expanding answers, and every entry of both tables (rule 18.1); and where rule 1 accepts a prefix both reading rules promise
-- the same (rule 6.3).
use Prim.Native.Nat.{ℕ}
use mathlib.Core.Path.{◌≡◌, sym, ap, ◌∙◌}
use mathlib.Core.List.{List, ◌∷◌}
use mathlib.Core.Logic.{◌↔◌}
use lib.ListN.{length}
use Rattle.std.specs.Prelude.{Ok, Err}
use Rattle.terms.specs.Overwritten.{overwritten}
use Rattle.terms.specs.Says.{Answer}
use Rattle.terms.specs.Refusals.{Causes, NoneOf}
use Rattle.terms.specs.declared.Counts.{Counts}
use Rattle.terms.proofs.Listed.{listed_one}
use Rattle.terms.proofs.Orders.{Carries}
use Rattle.terms.proofs.Verdicts.{first_or_none, refusal_unique}
use Rattle.formula.specs.Causes.{ClauseCause}
use Rattle.formula.specs.Lent.{Formula, formula_of}
use Rattle.formula_rules.specs.Rules.{read_by, ruled_prefix}
use Rattle.formula_rules.proofs.Agreement.{one_to_two, two_to_one}
use Rattle.expand.specs.Promise.{ResultTables, expanded_by, expand_order, ExpandsBy, Expands}
use Rattle.expand.specs.InnerOrders.{behind_expand}
use Rattle.expand.proofs.Outcome.{carry_expands}

module _ (order : List Causes) (f : Formula) (x : ℕ) (out a b : ResultTables) where
  by_order : (r r' : Answer Counts) → ExpandsBy order f x out a r → ExpandsBy order f x out b r' → (r ≡ r') × (a ≡ b)
  by_order (Ok counts) (Ok counts') (none, (list, set, l)) (none', (list', set', l')) =
      let same : expanded_by f x list ≡ expanded_by f x list' = ap (expanded_by f x) (listed_one list list' set set') in
      let p : counts.n ≡ counts'.n = l.count_is ∙ ap (λ (g : Formula). g.n) same ∙ sym l'.count_is in
      let q : counts.prefix ≡ counts'.prefix = l.entries_is ∙ ap (λ (g : Formula). length g.prefix) same ∙ sym l'.entries_is in
      let s : counts.clauses ≡ counts'.clauses = l.literals_is ∙ ap (λ (g : Formula). length g.clauses) same ∙ sym l'.literals_is in
      let t : a.prefix ≡ b.prefix = l.prefix_is ∙ ap (λ (g : Formula). overwritten g.prefix out.prefix) same ∙ sym l'.prefix_is in
      let u : a.clauses ≡ b.clauses = l.clauses_is ∙ ap (λ (g : Formula). overwritten g.clauses out.clauses) same ∙ sym l'.clauses_is in
      (λ i. Ok (record { n = p i; prefix = q i; clauses = s i }), λ i. record { prefix = t i; clauses = u i })
  by_order (Ok counts) (Err refusal) (none, done) (first, left) = absurd (first_or_none order _ _ first none)
  by_order (Err refusal) (Ok counts) (first, left) (none, done) = absurd (first_or_none order _ _ first none)
  by_order (Err refusal) (Err refusal') (first, same) (first', same') = (ap Err (refusal_unique order refusal refusal' first first'), same ∙ sym same')

-- Any two answers that the promise allows are equal, and so are the tables that they leave.
pub expand_settled : (rule : ℕ) (f : Formula) (x : ℕ) (out a b : ResultTables) (r r' : Answer Counts)
    → Expands rule f x out a r → Expands rule f x out b r' → (r ≡ r') × (a ≡ b)
expand_settled rule f x out = by_order (expand_order rule f x out) (read_by rule f) x out

-- Where rule 1 accepts the prefix, what is promised under one rule is promised under the other.
pub expand_agrees : (f : Formula) (x : ℕ) (out out' : ResultTables) (r : Answer Counts) → NoneOf (ruled_prefix 1 f.n f.prefix (length f.clauses))
    → Expands 1 f x out out' r ↔ Expands 2 f x out out' r
expand_agrees f x out out' r none =
    (one_to_two S carry later f.n f.prefix (length f.clauses) none, two_to_one S carry later f.n f.prefix (length f.clauses) none)
  where
    with_prefix : List ℕ → Formula
    with_prefix read = formula_of f.n read f.clauses

    S : List Causes → List ℕ → Type 0
    S order read = ExpandsBy order (with_prefix read) x out out' r

    carry : (order order' : List Causes) (read : List ℕ) → Carries order order' → S order read → S order' read
    carry order order' read = carry_expands (with_prefix read) x out out' r order order'

    later : List ℕ → List Causes
    later read = ClauseCause f.n f.clauses ∷ behind_expand (with_prefix read) x out
