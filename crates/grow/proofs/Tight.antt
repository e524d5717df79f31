-- What build and add promise leaves nothing open (rule 18.1): for one input the answer, every row and the tally are settled.
use Rattle.std.specs.Prelude.{Ok, Err}
use Rattle.terms.specs.Says.{Answer}
use Prim.Native.Nat.{ℕ}
use mathlib.Core.Path.{◌≡◌, sym, ◌∙◌, ap, subst}
use mathlib.Core.List.{List, [], ◌∷◌, ◌++◌}
use native.Mathlib.Omega.{arith}
use lib.IntN.{ℤ}
use Rattle.terms.specs.Refusals.{Causes, Judged}
use Rattle.terms.proofs.Verdicts.{refusal_unique, first_or_none}
use Rattle.formula.specs.Lent.{Formula}
use Rattle.formula_rules.specs.Rules.{read_as, read_by}
use Rattle.forest_tables.specs.Lent.{rows, variables_of}
use Rattle.formula.specs.Meaning.{connected}
use Rattle.forest_theory.specs.Reach.{Variables, Joined}
use Rattle.forest_theory.specs.Tables.{Table, ClassName, row, lent, joins}
use Rattle.forest_theory.specs.Counts.{Counted}
use Rattle.forest_theory.proofs.Reach.{joined_sym}
use Rattle.forest_theory.proofs.Rows.{rows_one, lent_one}
use Rattle.forest_theory.proofs.Growth.{forest_is}
use Rattle.forest_theory.proofs.Counts.{counts_one}
use Rattle.forest_tables.specs.Formula.{variables, joined}
use Rattle.forest_tables.proofs.Agreeing.{lawful}
use Rattle.forest_theory.proofs.Numbered.{numbered_one}
use Rattle.grow.specs.Taken.{Taken}
use Rattle.grow.specs.Grown.{Standing, standing, forest_in, build_order, add_order, Grown, Tallies, Took, Leaves, Rewrites, Builds, Adds}
use Rattle.grow.proofs.Taking.{tally_one, tally_of_one}

-- What an add makes of a tally is settled by the tables.
took_one : (X : Variables) (s₀ s s' : Standing) → forest_in X s ≡ forest_in X s' → Took X s₀ s → Took X s₀ s' → s.tally ≡ s'.tally
took_one X s₀ s s' e t u =
    let t' = subst (λ (W : Table). Taken (ClassName X (forest_in X s₀)) (ClassName X W) s₀.tally s.tally) e t in
    let gone = numbered_one t'.disappeared u.disappeared in
    tally_one s.tally s'.tally (t.clauses ∙ sym u.clauses) (omega (arith, t'.merges, u.merges)) (numbered_one t'.classes u.classes)

module _ (n : ℕ) (es : List ℕ) where
  abbrev X : Variables
  X = variables n es

  -- Two that are left as one forest with its counts have the same rows.
  rows_left : {cs : List (List ℕ)} (s a b : Standing) → Grown X (Joined cs) s a → Grown X (Joined cs) s b
      → (a.rows.classes ≡ b.rows.classes) × (a.rows.parents ≡ b.rows.parents) × (a.rows.counts ≡ b.rows.counts)
  rows_left s a b f g = (
    same.0,
    same.1,
    rows_one n a.rows.counts b.rows.counts (f.past.2.size ∙ sym g.past.2.size) counts (λ i l. f.past.2.stays i l ∙ sym (g.past.2.stays i l)),
  )
    where
      same : (a.rows.classes ≡ b.rows.classes) × (a.rows.parents ≡ b.rows.parents)
      same = lent_one joined_sym f.forest g.forest
          (f.past.0.size ∙ sym g.past.0.size) (λ i l. f.past.0.stays i l ∙ sym (g.past.0.stays i l))
          (f.past.1.size ∙ sym g.past.1.size) (λ i l. f.past.1.stays i l ∙ sym (g.past.1.stays i l))

      counts : (v : ℕ) → row n a.rows.counts v ≡ row n b.rows.counts v
      counts =
          counts_one ((forest_is (lawful n es)).0 g.forest).formed
          (subst (λ (W : Table). Counted X W (row n a.rows.counts)) (λ i. lent X (same.0 i) (same.1 i)) f.counted) g.counted

  -- Two outcomes that an order, a forest and what the tally is to be settle are equal.
  pub tight : (order : List Causes) (cs : List (List ℕ)) (T : Standing → Type 0)
      → ((a b : Standing) → forest_in X a ≡ forest_in X b → T a → T b → a.tally ≡ b.tally) → {s a b : Standing} (x y : Answer ℕ)
      → Rewrites order X (Joined cs) T s a x → Rewrites order X (Joined cs) T s b y → (x ≡ y) × (a ≡ b)
  tight order cs T one {s} {a} {b} x y f g = go x y f.judged g.judged f.leaves g.leaves
    where
      go : (x y : Answer ℕ) → Judged order x → Judged order y → Leaves X (Joined cs) T s a x → Leaves X (Joined cs) T s b y
          → (x ≡ y) × (a ≡ b)
      go (Ok k) (Ok m) f g (is, left, t) (is', left', t') =
          let (c, p, q) = rows_left s a b left left' in
          let tally = one a b (λ i. forest_in X (standing (rows (c i) (p i) (q i)) a.tally)) t t' in
          (ap Ok (is ∙ sym is'), λ i. standing (rows (c i) (p i) (q i)) (tally i))
      go (Ok k) (Err refusal) none first l r = absurd (first_or_none order _ _ first none)
      go (Err refusal) (Ok m) first none l r = absurd (first_or_none order _ _ first none)
      go (Err refusal) (Err refusal') first other l r =
          (ap Err (refusal_unique order refusal refusal' first other), l ∙ sym r)

-- Build and add, under a rule.
pub build_tight : {rule : ℕ} (f : Formula) {s a b : Standing} (x y : Answer ℕ) → Builds rule f s a x → Builds rule f s b y → (x ≡ y) × (a ≡ b)
build_tight {rule} f {s} x y =
    let X = variables_of (read_by rule f) in
    tight f.n (read_as rule f.prefix) (build_order rule f s) (joined f.clauses) (Tallies X f.clauses)
    (λ a b _. tally_of_one (lawful f.n (read_as rule f.prefix))) x y

pub add_tight : {rule n : ℕ} (es : List ℕ) {ls : List ℤ} {s a b : Standing} (x y : Answer ℕ)
    → Adds rule n es s ls a x → Adds rule n es s ls b y → (x ≡ y) × (a ≡ b)
add_tight {rule} {n} es {ls} {s} x y =
    let X = variables n (read_as rule es) in
    tight n (read_as rule es) (add_order rule n es s ls) (joins X (forest_in X s) ++ (connected ls ∷ [])) (Took X s) (took_one X s) x y
