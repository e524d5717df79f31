-- Demand 2: what build left is the forest of the formula and well formed, so that no call that reads it is refused for it; by that forest the members
-- of a set are what depends on x by reach.
use Prim.Native.Nat.{ℕ}
use mathlib.Core.Path.{◌≡◌, refl, sym, subst}
use mathlib.Core.List.{List, [], ◌∷◌, ◌++◌}
use mathlib.Core.Logic.{◌↔◌, inl, inr, ⊎_elim}
use native.Mathlib.Omega.{arith}
use Rattle.std.specs.Prelude.{Ok, Err}
use Rattle.terms.specs.Listed.{Listed}
use Rattle.terms.specs.Refusals.{None, NoneOf}
use Rattle.terms.specs.Says.{Answer}
use Rattle.terms.specs.declared.Point.{Point}
use Rattle.terms.specs.declared.Scheme.{Scheme}
use Rattle.terms.specs.declared.Scheme.TheVariants.{Standard, Strict}
use Rattle.terms.proofs.Answers.{listed-as}
use Rattle.terms.proofs.Common.{clash}
use Rattle.terms.proofs.Verdicts.{at0_none, first_or_none}
use Rattle.formula.specs.Lent.{Formula, formula_of}
use Rattle.formula_rules.specs.Rules.{read_by, check_order}
use Rattle.forest_theory.specs.Counts.{Counted, Numbered}
use Rattle.forest_theory.specs.Forest.{Forest, EntryClass}
use Rattle.forest_theory.specs.Reach.{Variables, Deeper}
use Rattle.forest_theory.specs.InnerVariables.{Universal}
use Rattle.forest_theory.specs.Tables.{Table, row, Above, WellFormed, EntryPointOf}
use Rattle.forest_theory.proofs.Counts.{size_numbered}
use Rattle.forest_theory.proofs.Growth.{forest_is}
use Rattle.forest_theory.proofs.Numbered.{numbered_same}
use Rattle.forest_theory.proofs.Sets.{entry_class}
use Rattle.forest_tables.specs.Causes.{ForestCause}
use Rattle.forest_tables.specs.Formula.{universal, Shares}
use Rattle.forest_tables.specs.Lent.{variables_of, forest_of}
use Rattle.forest_tables.proofs.Agreeing.{lawful}
use Rattle.forest.specs.Answers.{EntriesBy, MembersBy, DependsBy, EntryAnswered, EntriesListed, SetListed, Sized}
use Rattle.forest.specs.Causes.{entry_order, ask_order}
use Rattle.forest.proofs.Demands.{universal_alone, members_depend, own_forest_fine, entry_is_class}
use Rattle.forest.proofs.Schemes.{scheme_points}
use Rattle.sets.specs.Sets.{Records, AllSetsBy, SetsListed}
use Rattle.sets.proofs.Settled.{sets_are_dependencies}
use Rattle.grow.specs.Grown.{Standing, Grown, build_order}
use Rattle.text_qdimacs.proofs.RoundTrip.{written_reads_back}
use Rattle.demands.specs.Words.{Built, IsUniversal, Puts}
use Rattle.demands.specs.Demand2.{EntryReached, EntriesReached, Demand2}
use Rattle.demands.proofs.Putting.{puts, puts_as}

-- What build left of a formula under a rule.
module _ {rule : ℕ} {f : Formula} {s : Standing} (built : Built rule f s) where
  abbrev read : Formula
  read = read_by rule f

  abbrev X : Variables
  X = variables_of read

  abbrev W : Table
  W = forest_of read s.rows

  none : NoneOf (build_order rule f built.lent)
  none = built.builds.judged

  grown : Grown X (Shares f.clauses) built.lent s
  grown = built.builds.leaves.1

  pub built_forest : Forest X (Shares f.clauses) W
  built_forest = grown.forest

  pub built_counted : Counted X W (row f.n s.rows.counts)
  built_counted = grown.counted

  formed : WellFormed X W
  formed = ((forest_is (lawful read.n read.prefix)).0 built_forest).formed

  -- check accepts the formula,
  pub built_checked : NoneOf (check_order rule f)
  built_checked = (none.0, (none.1.0, (none.1.1.0, (none.1.1.1.0, (none.1.1.1.1.0, tt)))))

  -- and the rows have no cause of 12.
  built_fine : None (ForestCause f.n read.prefix s.rows)
  built_fine =
      let (classes, parents, counts) = grown.past in
      let a = classes.size in
      let b = parents.size in
      let c = counts.size in
      let long = none.1.1.1.1.1.0 14 0 in
      let l : ¬ _ = λ short. long (refl, refl, inl short) in
      let m : ¬ _ = λ short. long (refl, refl, inr (inl short)) in
      let n : ¬ _ = λ short. long (refl, refl, inr (inr short)) in
      own_forest_fine read s.rows 0 built_forest (omega arith) (omega arith) (omega arith) built_counted

  module _ (x : ℕ) (u : IsUniversal rule f x) where
    alone : Universal X x
    alone = universal_alone read.n read.prefix x u

    -- So a call that asks for a universal has nothing to refuse in front of 14.
    pub built_asked : NoneOf (ask_order rule f s.rows x)
    built_asked = (none.0, (none.1.0, (none.1.1.0, (none.1.1.1.0, (none.1.1.1.1.0, (built_fine, (at0_none 13 (λ no. clash u no), tt)))))))

    set_is : (scheme : Scheme) (before after : List ℕ) (answer : Answer ℕ)
        → SetListed rule scheme f s.rows x before after answer → Puts (Listed (DependsBy scheme read x)) before after answer
    set_is scheme before after answer listed =
        puts_as (λ list. listed-as (members_depend read s.rows x built_forest scheme alone))
        (puts (ask_order rule f s.rows x) (Listed (MembersBy scheme read s.rows x)) before after answer built_asked listed)

    size_is : (scheme : Scheme) (answer : Answer ℕ) → Sized rule scheme f s.rows x answer
        → (size : ℕ) × (answer ≡ Ok size) × Numbered (DependsBy scheme read x) size
    size_is scheme (Ok size) (_, (entries, listed, is)) =
        let many = numbered_same (members_depend read s.rows x built_forest scheme alone)
        (size_numbered formed built_counted (scheme_points read s.rows x scheme) listed) in
        (size, refl, subst (Numbered (DependsBy scheme read x)) (sym is) many)
    size_is scheme (Err refusal) (first, _) = absurd (first_or_none (ask_order rule f s.rows x) _ _ first built_asked)

    entry_is : (y : ℕ) → Deeper X x y → (answer : Answer Point)
        → EntryAnswered rule (formula_of f.n f.prefix []) s.rows x y answer
        → (point : Point) × (answer ≡ Ok point) × EntryClass X (Shares f.clauses) x y point.class.0
        × Above W point.class.0 (W.cls y) point.rises
    entry_is y deeper (Ok point) told =
        (point, refl, entry_is_class rule f s.rows x built_forest y point told, told.1.0.above)
    entry_is y deeper (Err refusal) (first, _) = absurd (first_or_none (entry_order rule f s.rows x y) _ _ first fine)
      where
        fine : NoneOf (entry_order rule f s.rows x y)
        fine = (
          none.0,
          (
            none.1.0,
            (
              at0_none 2 (⊎_elim (λ long. none.1.1.0 2 0 (refl, refl, inl long)) (λ long. omega arith)),
              (
                none.1.1.1.0,
                (built_fine, (at0_none 13 (⊎_elim (λ no. clash u no) (⊎_elim (λ no. clash deeper.existential no) (λ no. let l = deeper.deep in omega arith))), tt)),
              ),
            ),
          ),
        )

    -- the entry points by the rows are those by reach
    points : {S : ℕ → ℕ → Type 0} (e : ℕ) → EntryPointOf X W S x e ↔ EntryReached X (Shares f.clauses) S x e
    points e =
        let own = (forest_is (lawful read.n read.prefix)).0 built_forest in (
          λ o. record {
            for = o.for;
            shares = o.shares;
            deeper = record { existential = o.existential; deep = o.deeper };
            entry = (entry_class own o.existential).1 (o.rises, o.entry);
          },
          λ r.
              let (rises, entry) = (entry_class own r.deeper.existential).0 r.entry in
              record { for = r.for; shares = r.shares; existential = r.deeper.existential; deeper = r.deeper.deep; rises = rises; entry = entry },
        )

    entries_are : (scheme : Scheme) (e : ℕ) → EntriesBy scheme read s.rows x e ↔ EntriesReached scheme read x e
    entries_are Standard e = points e
    entries_are Strict e = (λ o sign. (points e).0 (o.by sign), λ r. record { by = λ sign. (points e).1 (r sign) })

    entries_is : (scheme : Scheme) (before after : List ℕ) (answer : Answer ℕ) → EntriesListed rule scheme f s.rows x before after answer
        → Puts (Listed (EntriesReached scheme read x)) before after answer
    entries_is scheme before after answer listed =
        puts_as (λ list. listed-as (entries_are scheme))
        (puts (ask_order rule f s.rows x) (Listed (EntriesBy scheme read s.rows x)) before after answer built_asked listed)

  sets_are : (scheme : Scheme) (before after : List ℕ) (answer : Answer ℕ)
      → SetsListed rule scheme f s.rows before after answer
      → Puts (Records (universal f.n read.prefix) (DependsBy scheme read) f.n) before after answer
  sets_are scheme before after answer listed =
      let front : NoneOf (check_order rule f ++ (ForestCause f.n read.prefix s.rows ∷ [])) =
      (none.0, (none.1.0, (none.1.1.0, (none.1.1.1.0, (none.1.1.1.1.0, (built_fine, tt)))))) in
      puts_as (sets_are_dependencies scheme read s.rows built_forest)
      (puts (check_order rule f ++ (ForestCause f.n read.prefix s.rows ∷ [])) (AllSetsBy scheme read s.rows) before after answer front listed)

pub demand2 : Demand2
demand2 =
    record {
      set = λ rule scheme f s x before after answer built u. set_is built x u scheme before after answer;
      size = λ rule scheme f s x answer built u. size_is built x u scheme answer;
      sets = λ rule scheme f s before after answer built. sets_are built scheme before after answer;
      forest = λ rule f s built. (built_forest built, built_counted built);
      entry = λ rule f s x y answer built u deeper. entry_is built x u y deeper answer;
      entries = λ rule scheme f s x before after answer built u. entries_is built x u scheme before after answer;
      text = λ rule f out out' bytes prefix prefix' clauses clauses' answer writes p c reads.
          let back = written_reads_back rule f prefix prefix' clauses clauses' p c out out' bytes writes answer reads in
          (back.answer, back.prefix_left, back.clauses_left);
    }
