-- Theorems about what the path check promises: accepted exactly if acceptable (rule 11.1), every accepted pair is in the standard set, every pair of
-- a standard set has a short path that is accepted (rule 11.3), what was lent settles the verdict (rule 18.1), and both reading rules agree (rule 6.3).
-- All but refusals speak of the formula as the reading rule reads it.
use Prim.Native.Nat.{ℕ, ◌-◌, ◌≤◌}
use mathlib.Core.Path.{◌≡◌, refl, sym, subst}
use mathlib.Core.Bool.{Bool, true, false}
use mathlib.Core.List.{List, ◌∷◌}
use mathlib.Core.Logic.{inl, inr, ⊎_elim, ◌↔◌, by_cases}
use native.Mathlib.Decide.{dec_lt}
use native.Mathlib.Omega.{arith}
use lib.ListN.{length}
use Rattle.terms.specs.Refusals.{Causes, NoneOf, Judged}
use Rattle.terms.specs.declared.Scheme.TheVariants.{Standard}
use Rattle.terms.specs.Says.{Verdict, accepted, said}
use Rattle.terms.proofs.Common.{clash}
use Rattle.terms.proofs.Orders.{Carries, carry_judged}
use Rattle.terms.proofs.Verdicts.{at0_none, judges_later, judged_unique}
use Rattle.formula.specs.Causes.{ClauseCause}
use Rattle.formula.specs.Lent.{Formula, formula_of}
use Rattle.formula.specs.Meaning.{is_existential, level}
use Rattle.forest_theory.specs.Counts.{how_many}
use Rattle.forest_theory.specs.Reach.{From, Deeper}
use Rattle.forest_theory.specs.InnerVariables.{Universal}
use Rattle.formula_rules.specs.Rules.{read_by, ruled_prefix, check_order}
use Rattle.formula_rules.proofs.Agreement.{one_to_two, two_to_one}
use Rattle.forest_tables.specs.Formula.{variables, universal, Shares}
use Rattle.forest_tables.specs.Lent.{variables_of}
use Rattle.forest_tables.proofs.Agreeing.{lawful}
use Rattle.forest.specs.Answers.{DependsBy}
use Rattle.forest.specs.Causes.{NotDeeper}
use Rattle.forest.proofs.Demands.{universal_alone}
use Rattle.path_check.specs.Paths.{Acceptable}
use Rattle.path_check.specs.Causes.{Misnamed, path_order, PathJudged}
use Rattle.path_check.specs.InnerOrders.{pair_order}
use Rattle.path_check.proofs.Agreeing.{deep_not}
use Rattle.path_check.proofs.Acceptance.{acceptable_exactly}
use Rattle.path_check.proofs.Reached.{Trail, acceptable_below, path_reaches, trail, trail_ends, trail_short, trail_path}

-- A y that is not refused is an existential deeper than x.
pub deep : (n : ℕ) (es : List ℕ) (x y : ℕ) → (NotDeeper n es x y → ⊥) → Deeper (variables n es) x y
deep n es x y fine =
    record {
      existential = flag (is_existential n es y) refl;
      deep = by_cases (dec_lt (level es x) (level es y)) (λ l. l) (λ l. absurd (fine (inr (omega arith))));
    }
  where
    flag : (b : Bool) → is_existential n es y ≡ b → is_existential n es y ≡ true
    flag true q = q
    flag false q = absurd (fine (inl q))

-- A pair of a standard set has an acceptable path, no longer than the number of existentials.
abbrev pub ShortPath : Formula → ℕ → ℕ → Type 0
ShortPath f x y =
    (path : List ℕ) × (length path ≤ how_many (is_existential f.n f.prefix) f.n) × Deeper (variables_of f) x y
    × Acceptable (variables_of f) f.clauses x y path

pub short_path : (f : Formula) (x y : ℕ) → universal f.n f.prefix x ≡ true → DependsBy Standard f x y → ShortPath f x y
short_path f x y u d =
    ⊎_elim (λ q. absurd (clash d.existential (subst (λ v. is_existential f.n f.prefix v ≡ false) (sym q) alone.universal))) found
    (trail d.reached)
  where
    alone : Universal (variables_of f) x
    alone = universal_alone f.n f.prefix x u

    -- y is stepped on last, and no existential stands in the block of x
    under : From (variables_of f) (level f.prefix x) y → Deeper (variables_of f) x y
    under from =
        let other = alone.alone y from.existential in
        record { existential = from.existential; deep = let l = from.deep in omega arith }

    found : (list : List ℕ) × Trail (Shares f.clauses) (From (variables_of f) (level f.prefix x)) x list y → ShortPath f x y
    found (list, t) =
        let (path, a, q) = trail_path alone t in
        let short = trail_short (lawful f.n f.prefix) t in
        (path, omega arith, under (trail_ends t), a)

module _ (rule : ℕ) (f : Formula) (x y : ℕ) where
  abbrev read : Formula
  read = read_by rule f

  module _ (path : List ℕ) where
    -- Where nothing is refused before it, a path is accepted exactly if it is acceptable.
    pub accepted_exactly : NoneOf (check_order rule f) → universal f.n read.prefix x ≡ true → Deeper (variables_of read) x y
        → NoneOf (path_order rule f x y path) ↔ Acceptable (variables_of read) f.clauses x y path
    accepted_exactly sound u d = (λ none. acceptable_exactly.0 none.1.1.1.1.1.1.0, back)
      where
        right : Acceptable (variables_of read) f.clauses x y path → Misnamed read x y path → ⊥
        right a =
            ⊎_elim (λ no'. clash u no')
            (⊎_elim (deep_not f.n read.prefix x y d) (λ over. let (i, l, high) = over in let low = acceptable_below a i l in omega arith))

        back : Acceptable (variables_of read) f.clauses x y path → NoneOf (path_order rule f x y path)
        back a =
            judges_later (check_order rule f) (pair_order read x y path) (said accepted) sound
            (at0_none 13 (right a), (acceptable_exactly.1 a, tt))

    -- An accepted pair is in the standard set.
    pub accepted_depends : NoneOf (path_order rule f x y path) → DependsBy Standard read x y
    accepted_depends none =
        let d = deep f.n read.prefix x y (λ shallow. none.1.1.1.1.1.0 13 0 (refl, refl, inr (inl shallow))) in
        let a = acceptable_exactly.0 none.1.1.1.1.1.1.0 in
        let some = a.some in
        record { existential = d.existential; reached = path_reaches a (length path - 1) (omega arith) y d a.last }

    -- What was lent settles the verdict.
    pub path_tight : (v w : Verdict) → PathJudged rule f x y path v → PathJudged rule f x y path w → v ≡ w
    path_tight = judged_unique (path_order rule f x y path)

  -- Every pair of a standard set has a path that is accepted, no longer than the number of existentials.
  pub depends_path : NoneOf (check_order rule f) → universal f.n read.prefix x ≡ true → DependsBy Standard read x y
      → (path : List ℕ) × (length path ≤ how_many (is_existential f.n read.prefix) f.n) × NoneOf (path_order rule f x y path)
  depends_path sound u d =
      let (path, short, under, a) = short_path read x y u d in
      (path, short, (accepted_exactly path sound u under).1 a)

-- Where rule 1 accepts the prefix, what is promised under one rule is promised under the other.
pub path_agrees : (f : Formula) (x y : ℕ) (path : List ℕ) (v : Verdict) → NoneOf (ruled_prefix 1 f.n f.prefix (length f.clauses))
    → PathJudged 1 f x y path v ↔ PathJudged 2 f x y path v
path_agrees f x y path v none =
    (one_to_two S carry later f.n f.prefix (length f.clauses) none, two_to_one S carry later f.n f.prefix (length f.clauses) none)
  where
    S : List Causes → List ℕ → Type 0
    S order _ = Judged order v

    carry : (order order' : List Causes) (read : List ℕ) → Carries order order' → Judged order v → Judged order' v
    carry order order' _ c = carry_judged order order' c v

    later : List ℕ → List Causes
    later read = ClauseCause f.n f.clauses ∷ pair_order (formula_of f.n read f.clauses) x y path
