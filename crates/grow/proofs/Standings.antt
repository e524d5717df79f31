-- From rows, counts and numbers to what build and add leave: the forest with its counts, and the tally.
use Rattle.std.specs.Prelude.{Ok, Err}
use Rattle.terms.specs.Says.{Answer, fault_number}
use Prim.Native.Nat.{ℕ, ◌+◌, ◌-◌}
use mathlib.Core.Path.{◌≡◌, refl, sym, ◌∙◌, ap, subst}
use mathlib.Core.List.{List}
use native.Mathlib.Omega.{arith}
use Rattle.terms.specs.declared.Refusal.{Refusal}
use Rattle.terms.specs.Refusals.{Causes, FirstOf, NoneOf}
use Rattle.forest_theory.specs.Reach.{Variables, Joined}
use Rattle.forest_theory.proofs.Growth.{forest_is}
use Rattle.forest_tables.specs.InnerCounting.{FormedBy}
use Rattle.forest_tables.specs.Formula.{variables}
use Rattle.forest_tables.proofs.Agreeing.{lawful}
use Rattle.terms.specs.declared.Tally.{Tally}
use Rattle.terms.proofs.Orders.{Carries, carry_judged}
use Rattle.forest_tables.specs.Lent.{Rows, rows}
use Rattle.grow.specs.Grown.{Standing, standing, Grown, Rewrites}
use Rattle.grow.specs.InnerTallies.{SumsUp}
use Rattle.grow_rows.specs.InnerRows.{Rowed, Recounted, CensusOf}

module _ (n : ℕ) (es : List ℕ) {cs : List (List ℕ)} {classes parents classes' parents' : List ℕ}
    (r : Rowed (variables n es) (Joined cs) classes parents classes' parents') where
  -- The rows of a forest are well formed.
  pub rowed_formed : FormedBy n es classes' parents'
  rowed_formed = ((forest_is (lawful n es)).0 r.forest).formed

  -- With their counts they are the forest that is promised.
  pub rowed_grown : {counts counts' : List ℕ} (t t' : Tally) → Recounted n es classes' parents' counts counts'
      → Grown (variables n es) (Joined cs) (standing (rows classes parents counts) t) (standing (rows classes' parents' counts') t')
  rowed_grown t t' c = record { past = (r.past.0, r.past.1, c.past); forest = r.forest; counted = c.counted }

  -- The numbers of existentials and class names sum up to a tally.
  pub census_tally : {exs named taken all : ℕ} (counts : List ℕ) → CensusOf n classes' n exs named → taken ≡ all
      → SumsUp (variables n es) all (standing (rows classes' parents' counts)
      (record { clauses = taken; merges = exs - named; classes = named }))
  census_tally {exs} {named} counts c is =
      let (e, k) = c.right es parents' rowed_formed in
      let low = c.few.0 in
      record { clauses = is; classes = k; merges = (let sum : (exs - named) + named ≡ exs = omega arith in sum ∙ e) }

-- An answer by what it equals, with the tally: a refusal leaves all as it was, and a count leaves what it is to leave.
module _ (order : List Causes) (X : Variables) (J : ℕ → ℕ → Type 0) (T : Standing → Type 0) (r : Rows) {t t' : Tally} {answer : Answer ℕ} where
  pub refusal : (refused : Refusal) → FirstOf order (fault_number refused.0) refused.1 → (answer ≡ Err refused) × (t' ≡ t)
      → Rewrites order X J T (standing r t) (standing r t') answer
  refusal refused judged (is, same) =
      subst (Rewrites order X J T (standing r t) (standing r t')) (sym is) (record { judged = judged; leaves = ap (standing r) same })

  pub acceptance : {r' : Rows} (now : Tally) → NoneOf order → (answer ≡ Ok X.count) × (t' ≡ now)
      → Grown X J (standing r t) (standing r' now) → T (standing r' now) → Rewrites order X J T (standing r t) (standing r' t') answer
  acceptance {r'} now none (is, same) grown tally =
      let kept = subst (λ (u : Tally). Grown X J (standing r t) (standing r' u) × T (standing r' u)) (sym same) (grown, tally) in
      subst (Rewrites order X J T (standing r t) (standing r' t')) (sym is) (record { judged = none; leaves = (refl, kept.0, kept.1) })

-- What is promised by one order is promised by another that says the same.
pub carry_rewrites : {X : Variables} {J : ℕ → ℕ → Type 0} {T : Standing → Type 0} {s s' : Standing} (answer : Answer ℕ) (order order' : List Causes)
    → Carries order order' → Rewrites order X J T s s' answer → Rewrites order' X J T s s' answer
carry_rewrites answer order order' c w = record { judged = carry_judged order order' c answer w.judged; leaves = w.leaves }
