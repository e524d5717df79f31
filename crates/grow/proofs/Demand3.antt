-- Demand 3, of what build and add promise, with the counts and the tally (rule 4.3, rule 4.4).
use Rattle.std.specs.Prelude.{Ok}
use Rattle.terms.specs.Says.{Answer, gives, said}
use Prim.Native.Nat.{ℕ, ◌+◌, ◌≤◌, ◌<◌}
use mathlib.Core.Path.{◌≡◌, refl, sym, ◌∙◌, ap, subst}
use mathlib.Core.Bool.{true}
use mathlib.Core.List.Memᴰ
use mathlib.Core.List.{List, [], ◌∷◌, ◌++◌}
use mathlib.Core.Logic.Iff
use mathlib.Core.Logic.{◌⊎◌, inl, inr, ⊎_elim, ◌↔◌}
use native.Mathlib.Omega.{arith}
use lib.IntN.{ℤ}
use lib.ListN.{length}
use Rattle.terms.specs.Limits.{clause_entries}
use Rattle.terms.specs.Answers.{verdict_by}
use Rattle.terms.specs.Refusals.{At0, None, NoneOf}
use Rattle.terms.proofs.Verdicts.{verdict_unique, at0_none}
use Rattle.formula.specs.Causes.{PrefixLong, ClausesLong, ClauseCause}
use Rattle.formula.specs.Lent.{Formula, formula_of}
use Rattle.formula_rules.specs.Rules.{read_as, read_by}
use Rattle.formula.specs.Meaning.{clauses, connected, always_true}
use Rattle.formula.specs.Tables.{cut}
use Rattle.formula.proofs.Signs.{connected_none}
use Rattle.forest_tables.specs.Causes.{ForestCause}
use Rattle.forest_tables.specs.Formula.{variables, universal, joined, Shares}
use Rattle.terms.specs.declared.Scheme.TheVariants.{Standard}
use Rattle.forest.specs.Answers.{EntriesBy, MembersBy}
use Rattle.forest_tables.proofs.Agreeing.{lawful, none_formed, none_counted}
use Rattle.forest.proofs.Demands.{universal_alone}
use Rattle.forest_theory.specs.Reach.{Variables, Joined, Depends, From, Reach}
use Rattle.forest_theory.specs.InnerVariables.{Lawful}
use Rattle.forest_theory.specs.Tables.{Table, WellFormed, joins, EntryPointOf}
use Rattle.forest_theory.specs.Forest.{Forest}
use Rattle.forest_theory.specs.Growth.{LeavesAlone}
use Rattle.forest_theory.specs.InnerGrowth.{before, Added}
use Rattle.forest_theory.proofs.Reach.{reach_along, joined_added}
use Rattle.forest_theory.proofs.Joins.{represents_itself}
use Rattle.forest_theory.proofs.Forest.{represents_forest, represents_reach}
use Rattle.forest_theory.proofs.Growth.{forest_is, forest_grows, forest_fused}
use Rattle.forest_theory.proofs.Fewer.{fewer_added, none_names}
use Rattle.forest_theory.proofs.Sets.{set_members}
use Rattle.forest_theory.proofs.Alone.{set_stays, entries_stay}
use Rattle.grow_refusals.specs.Admitted.{AddedCause, WrongTally}
use Rattle.grow.specs.Grown.{Standing, standing, forest_in, class_names, existentials, build_order, add_order, Grown, Tallies, Builds, Adds, with_last}
use Rattle.grow.specs.InnerTallies.{Fell}
use Rattle.grow_passes.specs.Past.{Past}
use Rattle.grow_passes.proofs.Passes.{many_most}
use Rattle.grow.proofs.Taking.{took_fell, fell_took, none_added, tallies_sum, sum_tallies}
use Rattle.grow.proofs.Tallies.{agrees_classes, agrees_sum}
use Rattle.grow.proofs.Appended.{many_last, joined_last, no_clause_cause}
use Rattle.grow.proofs.Tight.{build_tight, add_tight}

past_trans : {n : ℕ} {a b c : List ℕ} → Past n a b → Past n b c → Past n a c
past_trans p q = record { size = q.size ∙ p.size; stays = λ u l. q.stays u l ∙ p.stays u l }

-- The same rows, and the tally with one clause more taken.
abbrev pub one_more : Standing → Standing
one_more s = standing s.rows (record { clauses = s.tally.clauses + 1; merges = s.tally.merges; classes = s.tally.classes })

-- A prefix as a rule reads it, with n.
module _ (rule n : ℕ) (es : List ℕ) where
  abbrev read : List ℕ
  read = read_as rule es

  abbrev X : Variables
  X = variables n read

  abbrev law : Lawful X
  law = lawful n read

  -- the formula of a clause table
  abbrev with : List ℤ → Formula
  with ls = formula_of n es ls

  -- Merges and classes left sum to the existentials: of no clause there are no merges and as many classes as existentials ...
  pub none_tally : {s s' : Standing} {k : ℕ} → Builds rule (with []) s s' (Ok k) → (s'.tally.clauses ≡ 0) × (s'.tally.merges ≡ 0) × (s'.tally.classes ≡ existentials X)
  unfolding joined clauses cut
  none_tally {s' = s'} built =
      let (_, grown, tally) = built.leaves in
      let t = tallies_sum law [] s' grown.forest tally in
      let all : _ ≡ existentials X = t.classes ∙ none_names grown.forest n in
      (t.clauses, omega (arith, t.merges), all)

  module _ {s s' : Standing} {clause : List ℤ} {m : ℕ} (added : Adds rule n es s clause s' (Ok m)) where
    -- ... and an add keeps the sum, whichever tables it is given: it takes only a tally that has it, and a class is left or merged.
    agrees : WrongTally s.tally (class_names X s) (existentials X) → ⊥
    agrees wrong = added.judged.1.1.1.1.1.1.0 18 0 (refl, refl, wrong)

    formed : WellFormed X (forest_in X s)
    formed = none_formed added.judged.1.1.1.1.1.0

    pub adding_fell : Fell X s s'
    adding_fell =
        let (_, grown, took) = added.leaves in
        took_fell law s s' (none_added law (connected clause) formed grown.forest) took

    pub adding_sum : s'.tally.merges + s'.tally.classes ≡ existentials X
    adding_sum =
        let grown = added.leaves.1 in
        let took = adding_fell in
        omega (arith, took.merges, took.classes, agrees_classes s.tally agrees, agrees_sum s.tally agrees, fewer_added (connected clause) law formed grown.forest n)

    -- A clause that is always true changes no row and no count, of any tables that are taken, and of the tally only the clauses (rule 1.7, rule 3.6).
    pub adding_true : always_true clause ≡ true → s' ≡ one_more s
    adding_true always = (add_tight es {b = one_more s} (Ok m) (Ok n) added
        (record {
          judged = added.judged;
          leaves = (
            refl,
            record { past = (stays s.rows.classes, stays s.rows.parents, stays s.rows.counts); forest = same; counted = none_counted added.judged.1.1.1.1.1.0 },
            fell_took law s (one_more s) (λ c n. n) (record { clauses = refl; merges = omega arith; classes = agrees_classes s.tally agrees }),
          );
        })).1
      where
        W : Table
        W = forest_in X s

        stays : (rows : List ℕ) → Past n rows rows
        stays rows = record { size = refl; stays = λ u l. refl }

        none : (a b : ℕ) → Joined (joins X W ++ ([] ∷ [])) a b → Joined (joins X W) a b
        none a b j = go ((joined_added a b).0 j)
          where
            go : Added (Joined (joins X W)) [] a b → Joined (joins X W) a b
            go (before j) = j
            go (Added.added l m) = absurd (Memᴰ.not-nil l)

        reach : (i v y : ℕ) → From X i v → From X i y → Reach (Joined (joins X W)) (From X i) v y ↔ Reach (Joined (joins X W ++ ([] ∷ []))) (From X i) v y
        reach i v y fv fy = (reach_along (λ a b j. (joined_added a b).1 (before j)), reach_along none)

        same : Forest X (Joined (joins X W ++ (connected clause ∷ []))) W
        same =
            subst (λ (vs : List ℕ). Forest X (Joined (joins X W ++ (vs ∷ []))) W) (sym (connected_none clause always))
            (represents_forest (represents_reach reach (represents_itself law formed)))

  -- The forest of a table's joins with a clause added, where the table is the forest of a list, is that of the longer list.
  pub extends : {cs : List (List ℕ)} (clause : List ℕ) {W W' : Table} → Forest X (Joined cs) W → Forest X (Joined (joins X W ++ (clause ∷ []))) W' → Forest X (Joined (cs ++ (clause ∷ []))) W'
  extends clause f g = let well = ((forest_is law).0 f).formed in forest_grows law f (forest_fused law (represents_forest (represents_itself law well)) g)

  module _ {ls clause : List ℤ} {s s' s'' : Standing} {k m : ℕ} (built : Builds rule (with ls) s s' (Ok k)) (added : Adds rule n es s' clause s'' (Ok m)) where
    pub accepted : None (ClauseCause n ls)
    accepted = built.judged.1.1.1.1.0

    pub first : None (AddedCause n clause)
    first = added.judged.1.1.1.1.0

    -- What add leaves is the forest of the longer list ...
    pub added_forest : Forest X (Shares (with_last ls clause)) (forest_in X s'')
    added_forest = subst (λ (ds : List (List ℕ)). Forest X (Joined ds) (forest_in X s'')) (sym (joined_last accepted first))
        (extends (connected clause) built.leaves.1.forest added.leaves.1.forest)

    -- ... with its counts, and the tally is that of the longer list.
    added_grown : Grown X (Shares (with_last ls clause)) s s''
    added_grown =
        let (a, b, c) = built.leaves.1.past in
        let (d, e, f) = added.leaves.1.past in
        record { past = (past_trans a d, past_trans b e, past_trans c f); forest = added_forest; counted = added.leaves.1.counted }

    added_tally : Tallies X (with_last ls clause) s''
    added_tally =
        let took = adding_fell added in
        let t = tallies_sum law ls s' built.leaves.1.forest built.leaves.2 in
        let clauses = took.clauses ∙ ap (λ (i : ℕ). i + 1) t.clauses ∙ sym (many_last accepted first) in
        sum_tallies law (with_last ls clause) s'' added_forest (record { clauses = clauses; classes = took.classes; merges = adding_sum added })

    -- Demand 3, first sentence: what add leaves build may leave of the list with the clause put last, if that is within the limits ...
    pub added_builds : length (with_last ls clause) ≤ clause_entries → Builds rule (with (with_last ls clause)) s s'' (Ok n)
    added_builds small =
        let none = built.judged in
        let lengths : None (At0 2 (PrefixLong es ⊎ ClausesLong (length (with_last ls clause)))) =
        λ k p cause. ⊎_elim (λ long. none.1.1.0 k p (cause.0, cause.1, inl long)) (λ long. omega arith) cause.2 in
        record {
          judged = (none.0, (none.1.0, (lengths, (none.1.1.1.0, (no_clause_cause accepted first, (none.1.1.1.1.1.0, tt))))));
          leaves = (refl, added_grown, added_tally);
        }

    -- ... so that adding a clause to the built forest gives row by row, and in the tally, what build gives with the clause put last.
    pub adding_builds : {s''' : Standing} (answer : Answer ℕ) → length (with_last ls clause) ≤ clause_entries → Builds rule (with (with_last ls clause)) s s''' answer → (answer ≡ Ok n) × (s''' ≡ s'')
    adding_builds answer small again = build_tight (with (with_last ls clause)) answer (Ok n) again (added_builds small)

    -- Demand 3, second sentence: where the clause has neither x nor any variable of its set, what x depends on stays ...
    pub adding_depends : {x y : ℕ} → LeavesAlone X (Shares ls) (connected clause) x → Depends X (Shares ls) x y ↔ Depends X (Shares (with_last ls clause)) x y
    adding_depends {x} {y} alone =
        subst (λ (ds : List (List ℕ)). Depends X (Shares ls) x y ↔ Depends X (Joined ds) x y) (sym (joined_last accepted first)) (set_stays alone)

    module _ {x : ℕ} (u : universal n read x ≡ true) (alone : LeavesAlone X (Shares ls) (connected clause) x) where
      -- ... so does its set, by the tables and clauses before and after ...
      pub adding_set : {y : ℕ} → MembersBy Standard (read_by rule (with ls)) s'.rows x y ↔ MembersBy Standard (read_by rule (with (with_last ls clause))) s''.rows x y
      adding_set =
          let is = universal_alone n read x u in
          Iff.trans (Iff.symm (set_members law built.leaves.1.forest is)) (Iff.trans (adding_depends alone) (set_members law added_forest is))

      -- ... and so do its entry points.
      pub adding_entries : {e : ℕ} → EntriesBy Standard (read_by rule (with ls)) s'.rows x e ↔ EntriesBy Standard (read_by rule (with (with_last ls clause))) s''.rows x e
      adding_entries {e} =
          subst (λ (ds : List (List ℕ)). EntryPointOf X (forest_in X s') (Shares ls) x e ↔ EntryPointOf X (forest_in X s'') (Joined ds) x e) (sym (joined_last accepted first))
          (entries_stay law built.leaves.1.forest (extends (connected clause) built.leaves.1.forest added.leaves.1.forest) (universal_alone n read x u) alone)

  -- The built forest and its tally are taken by add: neither 12 nor 18 refuses a clause with no cause of its own, where the longer list is within the
  -- limits.
  pub built_accepted : {ls clause : List ℤ} {s s' s'' : Standing} {k : ℕ} (answer : Answer ℕ) → Builds rule (with ls) s s' (Ok k)
      → length clause ≤ clause_entries → None (AddedCause n clause) → Adds rule n es s' clause s'' answer → verdict_by (said answer) ≡ gives tt
  built_accepted {ls} {clause} {s} {s'} answer built short first added =
      verdict_unique (add_order rule n es s' clause) (said answer) (gives tt) added.judged
      (none.0, (none.1.0, (lengths, (none.1.1.1.0, (first, (no_forest_cause, (at0_none 18 right, tt)))))))
    where
      none : NoneOf (build_order rule (with ls) s)
      none = built.judged

      grown : Grown X (Shares ls) s s'
      grown = built.leaves.1

      lengths : None (At0 2 (PrefixLong es ⊎ ClausesLong (length clause)))
      lengths k p cause = ⊎_elim (λ long. none.1.1.0 k p (cause.0, cause.1, inl long)) (λ long. omega arith) cause.2

      no_forest_cause : None (ForestCause n read s'.rows)
      no_forest_cause number place (ForestCause.short q p short) = none.1.1.1.1.1.0 14 0 (
        refl,
        refl,
        ⊎_elim (λ l. inl (rw grown.past.0.size at l))
            (λ rest. inr (⊎_elim (λ l. inl (rw grown.past.1.size at l)) (λ l. inr (rw grown.past.2.size at l)) rest)) short,
      )
      no_forest_cause number place (ForestCause.bad_row q l h wrong) = wrong (((forest_is law).0 grown.forest).formed.right place)
      no_forest_cause number place (ForestCause.bad_count q l h well wrong) = wrong (grown.counted.right place)

      -- a list within the limits has fewer clauses than a tally may have
      right : WrongTally s'.tally (class_names X s') (existentials X) → ⊥
      right wrong =
          let t = tallies_sum law ls s' grown.forest built.leaves.2 in
          let small : ¬ (clause_entries < length ls) = λ over. none.1.1.0 2 0 (refl, refl, inr over) in
          ⊎_elim (λ full. omega (arith, t.clauses, many_most ls)) (λ rest. ⊎_elim (λ d. d t.classes) (λ d. d t.merges) rest) wrong
