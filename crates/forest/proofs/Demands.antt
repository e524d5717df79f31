-- Demand 2, as theorems about what the calls ensure (rule 2.3, rule 3.6, rule 4.2, rule 5.2); that a block has one quantifier; and that what was lent
-- settles every outcome (rule 18.1).
use Rattle.std.specs.Prelude.{Ok, Err}
use Rattle.terms.specs.Says.{Answer}
use Rattle.terms.specs.declared.Point.{Point}
use Prim.Native.Nat.{ℕ, ◌+◌, ◌≤◌}
use mathlib.Core.Path.{◌≡◌, refl, sym, ap, ◌∙◌}
use mathlib.Core.Bool.{Bool, true, false, cond, not}
use mathlib.Core.List.{List, [], ◌∷◌}
use mathlib.Core.Logic.Iff
use mathlib.Core.Logic.{◌≢◌, inl, inr, ◌↔◌}
use native.Mathlib.Omega.{arith}
use borrow.Author.Tests.{eqb-true, not-true}
use lib.Dec.{eqb}
use lib.ListN.{length, get_or}
use Rattle.terms.specs.Answers.{InFront}
use Rattle.terms.specs.Refusals.{None, NoneOf}
use Rattle.terms.specs.declared.Variable.{Variable}
use Rattle.terms.proofs.Common.{clash}
use Rattle.terms.proofs.Answers.{listed-as, answered-settled, listing-settled, numbered-settled}
use Rattle.formula.specs.Lent.{Formula}
use Rattle.formula.specs.Meaning.{blocks, mark_of, first_mark, level, is_universal, is_existential}
use Rattle.formula.specs.InnerLevels.{free_level}
use Rattle.formula.proofs.InBlocks.{Found, in_one, in_none, finds}
use Rattle.forest_theory.specs.InnerVariables.{Universal}
use Rattle.forest_theory.specs.Tables.{row}
use Rattle.forest_theory.specs.Forest.{Forest, EntryClass}
use Rattle.terms.specs.Listed.{Listed}
use Rattle.forest_theory.specs.Counts.{Counted, sum}
use Rattle.forest_theory.proofs.Climb.{entry_one}
use Rattle.forest_theory.proofs.Counts.{size_is_length}
use Rattle.forest_theory.proofs.Growth.{forest_is}
use Rattle.terms.proofs.Listed.{listed_one}
use Rattle.forest_theory.proofs.Sets.{set_members, entry_class}
use Rattle.forest_theory.proofs.Strict.{strict_members}
use Rattle.terms.specs.declared.Scheme.{Scheme}
use Rattle.formula_rules.specs.Rules.{read_by}
use Rattle.forest_tables.specs.Formula.{variables, universal, Shares}
use Rattle.forest_tables.specs.Lent.{Rows, variables_of, forest_of}
use Rattle.forest_tables.specs.Causes.{ForestCause}
use Rattle.forest.specs.Causes.{entry_order, ask_order, list_order}
use Rattle.forest.specs.Answers.{Entry, MembersBy, SizeBy, DependsBy, EntryAnswered, ListedFor, SetListed, Sized}
use Rattle.forest_tables.proofs.Readings.{flag_in, flag_within}
use Rattle.forest_tables.proofs.Formed.{forest_fine}
use Rattle.forest_tables.proofs.Agreeing.{lawful, none_formed, none_counted, universal_within}
use Rattle.forest.proofs.Schemes.{scheme_points}

first_mark_lem : (bs : List (List ℕ)) → first_mark bs ≡ mark_of (get_or bs 0 [])
first_mark_lem [] = refl
first_mark_lem (b ∷ bs) = refl

-- A block has one quantifier: no existential has the level of a universal.
one_quantifier : (es : List ℕ) (x y : ℕ) → is_universal es x ≡ true → is_universal es y ≡ false → level es y ≢ level es x
unfolding level is_universal free_level
one_quantifier es x y ux uy same = go (finds (blocks es) 1 (free_level es) x) (finds (blocks es) 1 (free_level es) y) ux uy same
  where
    free_mark : (m : ℕ) → cond (eqb (first_mark (blocks es)) 1) 1 0 ≡ 1 + m → eqb (mark_of (get_or (blocks es) m [])) 2 ≡ true → ⊥
    free_mark m = by (eqb (first_mark (blocks es)) 1) refl
      where
        by : (b : Bool) → eqb (first_mark (blocks es)) 1 ≡ b → cond b 1 0 ≡ 1 + m → eqb (mark_of (get_or (blocks es) m [])) 2 ≡ true → ⊥
        by true one q two =
            let z : m ≡ 0 = omega arith in
            let a : mark_of (get_or (blocks es) 0 []) ≡ 1 = sym (first_mark_lem (blocks es)) ∙ eqb-true (first_mark (blocks es)) 1 one in
            let b : mark_of (get_or (blocks es) 0 []) ≡ 2 =
            ap (λ k. mark_of (get_or (blocks es) k [])) (sym z) ∙ eqb-true (mark_of (get_or (blocks es) m [])) 2 two in
            omega arith
        by false one q two = omega arith

    go : {lx ly : ℕ} {bx by : Bool} → Found (blocks es) 1 (free_level es) x lx bx → Found (blocks es) 1 (free_level es) y ly by
        → bx ≡ true → by ≡ false → ly ≡ lx → ⊥
    go (in_none _ _ q) s t f same = clash t q
    go (in_one m _ p q) (in_none _ p' q') t f same = free_mark m (sym p' ∙ same ∙ p) (sym q ∙ t)
    go (in_one m _ p q) (in_one k _ p' q') t f same =
        let e : k ≡ m = omega arith in
        clash (sym q ∙ t) (ap (λ i. eqb (mark_of (get_or (blocks es) i [])) 2) (sym e) ∙ sym q' ∙ f)

pub universal_alone : (n : ℕ) (es : List ℕ) (x : ℕ) → universal n es x ≡ true → Universal (variables n es) x
unfolding is_existential
universal_alone n es x u =
    let (a, b, t) = universal_within n es x u in
    record {
      universal = flag_in n x (not (is_universal es x)) (λ z. omega arith) b ∙ ap not t;
      alone = λ y e. one_quantifier es x y t (not-true (is_universal es y) (flag_within n y (not (is_universal es y)) e).2);
    }

-- a flag that is not false
not_false_true : (b : Bool) → (b ≡ false → ⊥) → b ≡ true
not_false_true true h = refl
not_false_true false h = absurd (h refl)

-- By the formula's own forest, the set by either scheme is what depends on x by it.
module _ (f : Formula) (r : Rows) (x : ℕ) (forest : Forest (variables_of f) (Shares f.clauses) (forest_of f r)) where
  pub members_depend : (scheme : Scheme) → Universal (variables_of f) x → (y : ℕ) → MembersBy scheme f r x y ↔ DependsBy scheme f x y
  members_depend Scheme.Standard u y = Iff.symm (set_members (lawful f.n f.prefix) forest u)
  members_depend Scheme.Strict u y = Iff.symm (strict_members (lawful f.n f.prefix) forest u)

  -- It has no cause of refusal 12, where the rows are as many as n and the counts are right.
  pub own_forest_fine : f.n ≤ length r.classes → f.n ≤ length r.parents → f.n ≤ length r.counts
      → Counted (variables_of f) (forest_of f r) (row f.n r.counts) → None (ForestCause f.n f.prefix r)
  own_forest_fine long long' long'' counted =
      forest_fine long long' long'' ((forest_is (lawful f.n f.prefix)).0 forest).formed
      (record { right = λ v _ _ _. counted.right v; wrong = λ some. absurd (some refl) })

-- Demand 2 speaks of the forest of the formula as the rule reads it.
module _ (rule : ℕ) (f : Formula) (r : Rows) (x : ℕ) where
  abbrev read : Formula
  read = read_by rule f

  -- x is universal where a call that lists is not refused.
  pub not_refused : (P : ℕ → Type 0) (before : List ℕ) → NoneOf (list_order rule f r x P before) → universal read.n read.prefix x ≡ true
  not_refused P before none = not_false_true (universal read.n read.prefix x) (λ q. none.1.1.1.1.1.1.0 13 0 (refl, refl, q))

  module _ (forest : Forest (variables_of read) (Shares f.clauses) (forest_of read r)) where
    -- What the set call writes where it is not refused is the dependency set by the scheme asked for.
    pub set_is_dependencies : (scheme : Scheme) (before after : List ℕ) (count : ℕ) → SetListed rule scheme f r x before after (Ok count)
        → InFront (Listed (DependsBy scheme read x)) before after count
    set_is_dependencies scheme before after count (none, written) =
        let u = universal_alone read.n read.prefix x (not_refused (MembersBy scheme read r x) before none) in
        (written.0, listed-as (members_depend read r x forest scheme u) written.1, written.2, written.3)

    -- And what the entry point call answers is the entry point by reach (rule 2.6; Lonsing and Biere, definition 4.24).
    pub entry_is_class : (y : ℕ) (point : Point) → EntryAnswered rule f r x y (Ok point) → EntryClass (variables_of read) (Shares f.clauses) x y point.class.0
    entry_is_class y point (none, entry) =
        let ex = not_false_true (is_existential read.n read.prefix y) (λ q. none.1.1.1.1.1.0 13 0 (refl, refl, inr (inl q))) in
        (entry_class ((forest_is (lawful read.n read.prefix)).0 forest) ex).1 (point.rises, entry.0)

  -- What was lent settles the answer of each call, and every entry of the table that it fills.
  pub entry_settled : (y : ℕ) (a b : Answer Point) → EntryAnswered rule f r x y a → EntryAnswered rule f r x y b → a ≡ b
  entry_settled y =
      answered-settled (entry_order rule f r x y) (Entry read r x y)
      (λ none c c' k k' p q. entry_one (none_formed none.1.1.1.1.0) p.0 q.0)

  pub list_settled : (P : Formula → ℕ → Type 0) (before after after' : List ℕ) (a b : Answer ℕ)
      → ListedFor rule f r x P before after a → ListedFor rule f r x P before after' b → (a ≡ b) × (after ≡ after')
  list_settled P before = listing-settled (list_order rule f r x (P read) before) (P read) before

  pub size_settled : (scheme : Scheme) (a b : Answer ℕ) → Sized rule scheme f r x a → Sized rule scheme f r x b → a ≡ b
  size_settled scheme =
      numbered-settled (ask_order rule f r x) (SizeBy scheme read r x)
      (λ k k' a b. a.2 ∙ ap (sum (row f.n r.counts)) (listed_one a.0 b.0 a.1 b.1) ∙ sym b.2)

  -- The size is the count of what the set call lists.
  pub size_is_count : (scheme : Scheme) (size count : ℕ) (before after : List ℕ)
      → Sized rule scheme f r x (Ok size) → SetListed rule scheme f r x before after (Ok count) → size ≡ count
  size_is_count scheme size count before after (none, a) (none', b) =
      let forest = none.1.1.1.1.1.0 in
      a.2 ∙ size_is_length (none_formed forest) (none_counted forest) (scheme_points read r x scheme) a.1 b.1 ∙ sym b.2
