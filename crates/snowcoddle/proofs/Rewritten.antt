-- How what build and add leave is told: the forest tables, and the tally in its cells.
use Rattle.std.specs.Prelude.{Ok, Err}
use Rattle.terms.specs.Says.{Answer, fault_number}
use Prim.Native.Nat.{ℕ}
use mathlib.Core.Path.{◌≡◌, refl, ap, subst}
use mathlib.Core.List.{List}
use lib.IntN.{ℤ}
use Rattle.terms.specs.Answers.{Settles}
use Rattle.terms.specs.Refusals.{Causes, Judged}
use Rattle.forest_theory.specs.Reach.{Variables}
use Rattle.forest_tables.specs.Formula.{variables, Shares}
use Rattle.terms.specs.declared.Tally.{Tally}
use Rattle.formula.specs.Lent.{Formula}
use Rattle.formula_rules.specs.Rules.{read_as, read_by}
use Rattle.forest_tables.specs.Lent.{Rows, variables_of}
use Rattle.grow.specs.Grown.{Standing, standing, forest_in, build_order, add_order, Extended, Grown, Tallies, Took, Rewrites, Builds, Adds}
use Rattle.c_answers.specs.Codes.{tally_in}
use Rattle.c_answers.specs.InnerCells.{Fits, Any, Laid, said, built_said, added_said}
use Rattle.snowcoddle.specs.Told.{Told, Left}
use Rattle.snowcoddle.proofs.Places.{Small, small_build, small_add}
use Rattle.snowcoddle.proofs.Telling.{tell_known}

-- the place of a verdict fits its cell, where those of all causes do
fits_judged : (order : List Causes) (answer : Answer ℕ) → Small order → Judged order answer → Fits Any (said answer)
fits_judged order (Ok written) small judged = tt
fits_judged order (Err refusal) small judged = small (fault_number refusal.0) refusal.1 judged

pub fits_built : {rule : ℕ} (f : Formula) {s s' : Standing} (answer : Answer ℕ) → Builds rule f s s' answer → Fits Any (said answer)
fits_built {rule} f {s} answer built = fits_judged (build_order rule f s) answer (small_build rule f s) built.judged

pub fits_added : {rule n : ℕ} (es : List ℕ) {s : Standing} {ls : List ℤ} {s' : Standing} (answer : Answer ℕ) → Adds rule n es s ls s' answer → Fits Any (said answer)
fits_added {rule} {n} es {s} {ls} answer added = fits_judged (add_order rule n es s ls) answer (small_add rule n es s ls) added.judged

-- All that is lent to be rewritten, before and after.
module _ (r r' : Rows) (cells : List ℕ) where
  -- the rows stay
  abbrev Stay : Type 0
  Stay = (r'.classes ≡ r.classes) × (r'.parents ≡ r.parents) × (r'.counts ≡ r.counts)

  module _ (order : List Causes) (X : Variables) (J : ℕ → ℕ → Type 0) (T : Standing → Type 0) (lent tally : Tally) where
    -- what is left, with the tally in these cells
    abbrev Leave : List ℕ → Type 0
    Leave cells' = Left (λ s. Grown X J (standing r lent) s × T s) r' cells'

    abbrev LeaveCounted : ℕ × List ℕ → Type 0
    LeaveCounted b = (b.0 ≡ X.count) × Leave b.1

    stay : standing r' tally ≡ standing r lent → Stay
    stay q = (ap (λ (s : Standing). s.rows.classes) q, ap (λ (s : Standing). s.rows.parents) q, ap (λ (s : Standing). s.rows.counts) q)

    built_known : (answer : Answer ℕ) → Rewrites order X J T (standing r lent) (standing r' tally) answer
        → Settles order LeaveCounted Stay (built_said (said answer) tally)
    built_known (Ok written) b = (b.judged, (b.leaves.0, (tally, (b.leaves.1, b.leaves.2), refl)))
    built_known (Err refusal) b = (b.judged, stay b.leaves)

    added_known : (answer : Answer ℕ) → Rewrites order X J T (standing r lent) (standing r' tally) answer
        → Settles order Leave Stay (added_said (built_said (said answer) tally))
    added_known (Ok written) b = (b.judged, (tally, (b.leaves.1, b.leaves.2), refl))
    added_known (Err refusal) b = (b.judged, stay b.leaves)

  pub tell_built : (rule : ℕ) (f : Formula) (tally : Tally) (answer : Answer ℕ) {lent : Tally} {cells' : List ℕ} {count count' place place' returned : ℕ}
      → lent ≡ tally_in cells → Laid (built_said (said answer) tally) (count, cells) (count', cells') place place' returned
      → Builds rule f (standing r lent) (standing r' tally) answer
      → Told (build_order rule f (standing r (tally_in cells)))
      ((count' ≡ f.n) × Left (λ s. Grown (variables_of (read_by rule f)) (Shares f.clauses) (standing r (tally_in cells)) s
      × Tallies (variables_of (read_by rule f)) f.clauses s) r' cells')
      ((count' ≡ count) × ((r'.classes ≡ r.classes) × (r'.parents ≡ r.parents) × (r'.counts ≡ r.counts) × (cells' ≡ cells))) returned place place'
  tell_built rule f tally answer q laid builds =
      let X = variables_of (read_by rule f) in
      let T = Tallies X f.clauses in
      let order = build_order rule f (standing r (tally_in cells)) in
      let b = subst (λ (t : Tally). Builds rule f (standing r t) (standing r' tally) answer) q builds in
      tell_known order (LeaveCounted order X (Shares f.clauses) T (tally_in cells) tally) Stay laid
      (built_known order X (Shares f.clauses) T (tally_in cells) tally answer b)
      (λ c k. (ap (λ (p : ℕ × List ℕ). p.0) c, (k.0, k.1, k.2, ap (λ (p : ℕ × List ℕ). p.1) c)))

  pub tell_added : (rule n : ℕ) (es : List ℕ) (ls : List ℤ) (tally : Tally) (answer : Answer ℕ) {lent : Tally} {cells' : List ℕ} {place place' returned : ℕ}
      → lent ≡ tally_in cells → Laid (added_said (built_said (said answer) tally)) cells cells' place place' returned
      → Adds rule n es (standing r lent) ls (standing r' tally) answer
      → Told (add_order rule n es (standing r (tally_in cells)) ls)
      (Left (λ s. Grown (variables n (read_as rule es))
      (Extended (variables n (read_as rule es)) (forest_in (variables n (read_as rule es)) (standing r (tally_in cells))) ls) (standing r (tally_in cells)) s
      × Took (variables n (read_as rule es)) (standing r (tally_in cells)) s) r' cells')
      ((r'.classes ≡ r.classes) × (r'.parents ≡ r.parents) × (r'.counts ≡ r.counts) × (cells' ≡ cells)) returned place place'
  tell_added rule n es ls tally answer q laid adds =
      let s = standing r (tally_in cells) in
      let X = variables n (read_as rule es) in
      let J = Extended X (forest_in X s) ls in
      let order = add_order rule n es s ls in
      let b = subst (λ (t : Tally). Adds rule n es (standing r t) ls (standing r' tally) answer) q adds in
      tell_known order (Leave order X J (Took X s) (tally_in cells) tally) Stay laid (added_known order X J (Took X s) (tally_in cells) tally answer b)
      (λ c k. (k.0, k.1, k.2, c))
