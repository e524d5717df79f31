-- What C is told leaves nothing open (rule 18.1): the number and the cell `place` are settled by what was lent, and so are the tables and the cells of the
-- tally after build and add, and the bytes, tables and cells after store and load. (All else is settled as the library's calls settle it.)
use Rattle.std.specs.Prelude.{Ok}
use Rattle.terms.specs.declared.Loaded.{Loaded}
use Prim.Native.Nat.{ℕ}
use mathlib.Core.Path.{◌≡◌, refl, sym, ap, ◌∙◌}
use mathlib.Core.List.{List}
use lib.IntN.{ℤ}
use lib.ListN.{length}
use Rattle.terms.specs.Answers.{InFront}
use Rattle.terms.specs.Overwritten.{overwritten}
use Rattle.terms.specs.Refusals.{Causes, NoneOf}
use Rattle.terms.proofs.Verdicts.{first_of_same, first_or_none}
use Rattle.formula.specs.Lent.{Formula}
use Rattle.formula_rules.specs.Rules.{read_as, read_by}
use Rattle.forest_tables.specs.Formula.{variables, Shares}
use Rattle.forest_tables.specs.Lent.{Rows, variables_of}
use Rattle.grow.specs.Grown.{Standing, forest_in, build_order, add_order, Extended, Grown, Tallies, Took, Builds, Adds}
use Rattle.grow.proofs.Tight.{build_tight, add_tight}
use Rattle.file_format.specs.Layout.{FileOf}
use Rattle.file_format.specs.Places.{formula_held, has_sets}
use Rattle.file_format.specs.Causes.{Lent, load_order}
use Rattle.file_format.proofs.Unique.{file_unique}
use Rattle.file_format.proofs.Settled.{load_settled}
use Rattle.c_answers.specs.Codes.{cells_of}
use Rattle.snowcoddle.specs.Told.{Told, accepted, refused, Left}
use Rattle.snowcoddle.specs.Filed.{GivenByFile}

pub told_tight : (order : List Causes) {given kept : Type 0} (place : ℕ) {k p k' p' : ℕ} → Told order given kept k place p
    → Told order given kept k' place p' → (k ≡ k') × (p ≡ p')
told_tight order place (accepted _ _ q s) (accepted _ _ q' s') = (q ∙ sym q', s ∙ sym s')
told_tight order place {k' = k'} {p' = p'} (accepted none _ _ _) (refused first _) = absurd (first_or_none order k' p' first none)
told_tight order place {k} {p} (refused first _) (accepted none _ _ _) = absurd (first_or_none order k p first none)
told_tight order place {k} {p} {k'} {p'} (refused first _) (refused first' _) =
    first_of_same order k p k' p' first first'

-- Where S settles what is left, it settles the rows and the cells.
left_tight : (S : Standing → Type 0) → ((a b : Standing) → S a → S b → a ≡ b) → {r r' : Rows} {after after' : List ℕ}
    → Left S r after → Left S r' after' → (r ≡ r') × (after ≡ after')
left_tight S one (t, f, q) (u, g, r) =
    let e = one _ _ f g in
    (ap (λ (s : Standing). s.rows) e, q ∙ ap (λ (s : Standing). cells_of s.tally) e ∙ sym r)

-- what build leaves
module _ (rule : ℕ) (f : Formula) (s : Standing) where
  abbrev Built : Standing → Type 0
  Built a = Grown (variables_of (read_by rule f)) (Shares f.clauses) s a × Tallies (variables_of (read_by rule f)) f.clauses a

  pub built_tight : {r r' : Rows} {after after' : List ℕ} → NoneOf (build_order rule f s)
      → Left Built r after → Left Built r' after' → (r ≡ r') × (after ≡ after')
  built_tight none = left_tight Built (λ a b g h. (build_tight f (Ok f.n) (Ok f.n) (built a g) (built b h)).1)
    where
      built : (a : Standing) → Built a → Builds rule f s a (Ok f.n)
      built a (grown, tally) = record { judged = none; leaves = (refl, grown, tally) }

-- what add leaves
module _ (rule n : ℕ) (es : List ℕ) (ls : List ℤ) (s : Standing) where
  abbrev Added : Standing → Type 0
  Added a = let X = variables n (read_as rule es) in Grown X (Extended X (forest_in X s) ls) s a × Took X s a

  pub added_tight : {r r' : Rows} {after after' : List ℕ} → NoneOf (add_order rule n es s ls)
      → Left Added r after → Left Added r' after' → (r ≡ r') × (after ≡ after')
  added_tight none = left_tight Added (λ a b g h. (add_tight es (Ok n) (Ok n) (added a g) (added b h)).1)
    where
      added : (a : Standing) → Added a → Adds rule n es s ls a (Ok n)
      added a (grown, took) = record { judged = none; leaves = (refl, grown, took) }

-- what store gives: the count and every byte
pub stored_tight : (rule : ℕ) (f : Formula) (before : List ℕ) {after after' : List ℕ} {count count' : ℕ}
    → InFront (FileOf rule f) before after count → InFront (FileOf rule f) before after' count' → (count ≡ count') × (after ≡ after')
stored_tight rule f before (file, g, q, r) (file', h, q', r') =
    let same = file_unique f (read_as rule f.prefix) file file' g h in
    (q ∙ ap length same ∙ sym q', r ∙ ap (λ (rows : List ℕ). overwritten rows before) same ∙ sym r')

-- what load gives: the cells and the tables
pub loaded_tight : (rule : ℕ) (file : List ℕ) (lent a b : Lent) {n entries literals with_sets n' entries' literals' with-sets' : ℕ}
    → NoneOf (load_order rule file lent) → GivenByFile rule file lent a n entries literals with_sets → GivenByFile rule file lent b n' entries' literals' with-sets'
    → (n ≡ n') × (entries ≡ entries') × (literals ≡ literals') × (with_sets ≡ with-sets') × (a ≡ b)
loaded_tight rule file lent a b none f g =
    let held = formula_held file in
    let loaded : Loaded = record { n = held.n; prefix = length held.prefix; clauses = length held.clauses; sets = has_sets file } in (
      f.count ∙ sym g.count,
      f.prefix_count ∙ sym g.prefix_count,
      f.clauses_count ∙ sym g.clauses_count,
      f.sets_told ∙ sym g.sets_told,
      (load_settled rule file lent a b (Ok loaded) (Ok loaded) (none, (refl, refl, refl, refl, f.filled)) (none, (refl, refl, refl, refl, g.filled))).1,
    )
