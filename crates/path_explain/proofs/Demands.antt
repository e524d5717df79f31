-- Theorems about what explain promises (rule 11.6): it gives a path exactly if y is in the standard set, both signs do exactly if y is in the strict set, the
-- path check accepts what it gives, no such path is shorter, none as short comes before it, and it is no longer than the number of existentials; what was
-- lent settles the answer (rule 18.1), and both reading rules agree (rule 6.3).
use Prim.Native.Nat.{ℕ, ◌≤◌, ◌<◌}
use mathlib.Core.Path.{◌≡◌, refl, ap}
use mathlib.Core.Bool.{Bool, true, false, not-eq-not}
use mathlib.Core.List.{List, ◌∷◌}
use mathlib.Core.Logic.{inl, inr, ◌↔◌}
use native.Mathlib.Omega.{arith}
use lib.ListN.{length}
use Rattle.terms.specs.Answers.{Filling}
use Rattle.terms.specs.Refusals.{Causes, NoneOf}
use Rattle.terms.specs.declared.Scheme.TheVariants.{Standard, Strict}
use Rattle.terms.specs.Says.{Answer}
use Rattle.terms.proofs.Answers.{filling-settled, carry-filling}
use Rattle.terms.proofs.Orders.{Carries}
use Rattle.formula.specs.Causes.{ClauseCause}
use Rattle.formula.specs.Lent.{Formula, formula_of}
use Rattle.formula.specs.Tables.{at}
use Rattle.formula_rules.specs.Rules.{read_by, ruled_prefix, check_order}
use Rattle.formula_rules.proofs.Agreement.{one_to_two, two_to_one}
use Rattle.forest_theory.specs.Counts.{how_many}
use Rattle.forest_theory.specs.Reach.{Deeper, From, Follows}
use Rattle.forest_tables.specs.Formula.{universal, Shares, SharesBy}
use Rattle.forest_tables.specs.Lent.{variables_of}
use Rattle.forest_entries.specs.declared.Signs.{Signs}
use Rattle.forest.specs.Answers.{DependsBy}
use Rattle.path_check.specs.Causes.{path_order}
use Rattle.path_check.proofs.Demands.{deep, accepted_exactly}
use Rattle.path_explain.specs.Ways.{Opens, Way, by, none, NotAfter}
use Rattle.path_explain.specs.Causes.{ExplainsBy, explain_order, Explained}
use Rattle.path_explain.specs.InnerOrders.{behind_explain}
use Rattle.path_explain.proofs.Answers.{explains-one}
use Rattle.path_explain.proofs.Reasons.{signs_by, way_depends, depends_way, way_follows, follows_way}

-- What was lent settles the answer, and every entry of the table.
pub explain_settled : (rule : ℕ) (f : Formula) (signs : Signs) (x y : ℕ) (before after after' : List ℕ) (r r' : Answer ℕ) → Explained rule f signs x y before after r
    → Explained rule f signs x y before after' r' → (r ≡ r') × (after ≡ after')
explain_settled rule f signs x y before = filling-settled (explain_order rule f signs x y before) (ExplainsBy (read_by rule f) signs x y) (λ path other. explains-one) before

-- Where rule 1 accepts the prefix, what is promised under one rule is promised under the other.
pub explain_agrees : (f : Formula) (signs : Signs) (x y : ℕ) (before after : List ℕ) (r : Answer ℕ) → NoneOf (ruled_prefix 1 f.n f.prefix (length f.clauses))
    → Explained 1 f signs x y before after r ↔ Explained 2 f signs x y before after r
explain_agrees f signs x y before after r sound =
    (one_to_two S carry later f.n f.prefix (length f.clauses) sound, two_to_one S carry later f.n f.prefix (length f.clauses) sound)
  where
    with_prefix : List ℕ → Formula
    with_prefix read = formula_of f.n read f.clauses

    S : List Causes → List ℕ → Type 0
    S order read = Filling order (ExplainsBy (with_prefix read) signs x y) before after r

    carry : (order order' : List Causes) (read : List ℕ) → Carries order order' → S order read → S order' read
    carry order order' read = carry-filling (ExplainsBy (with_prefix read) signs x y) before after r order order'

    later : List ℕ → List Causes
    later read = ClauseCause f.n f.clauses ∷ behind_explain (with_prefix read) signs x y before

module _ (rule : ℕ) (f : Formula) (signs : Signs) (x y : ℕ) (before : List ℕ) (sound : NoneOf (explain_order rule f signs x y before)) where
  abbrev read : Formula
  read = read_by rule f

  -- What is not refused: check accepts the formula, x is universal, and y existential and deeper.
  checked : NoneOf (check_order rule f)
  checked = (sound.0, (sound.1.0, (sound.1.1.0, (sound.1.1.1.0, (sound.1.1.1.1.0, tt)))))

  of_universal : universal f.n read.prefix x ≡ true
  of_universal = (not-eq-not {b = true}).0 (λ no'. sound.1.1.1.1.1.0 13 0 (refl, refl, inl no'))

  deeper : Deeper (variables_of read) x y
  deeper = deep f.n read.prefix x y (λ shallow. sound.1.1.1.1.1.0 13 0 (refl, refl, inr shallow))

  -- A path that is given is accepted, and begins as it was asked to.
  pub given_accepted : (path : List ℕ) → ExplainsBy read signs x y path → 0 < length path
      → NoneOf (path_order rule f x y path) × Opens signs f.clauses x (at path 0)
  given_accepted path (by s) some =
      ((accepted_exactly rule f x y path checked of_universal deeper).1 s.shortest.way.acceptable, s.shortest.way.opens)
  given_accepted path (none q _) some = absurd (let z = ap length q in omega arith)

  -- Any path that is accepted and begins so is a way, so that one is given, and no longer; and as long, it does not come before.
  accepted_way : (other : List ℕ) → NoneOf (path_order rule f x y other) → Opens signs f.clauses x (at other 0) → Way (variables_of read) f.clauses signs x y other
  accepted_way other accepted opens = record { acceptable = (accepted_exactly rule f x y other checked of_universal deeper).0 accepted; opens = opens }

  pub given_shortest : (path : List ℕ) → ExplainsBy read signs x y path → (other : List ℕ) → NoneOf (path_order rule f x y other)
      → Opens signs f.clauses x (at other 0) → (0 < length path) × (length path ≤ length other) × (length other ≡ length path → NotAfter path other)
  given_shortest path (by s) other accepted opens =
      let w = accepted_way other accepted opens in
      (s.shortest.way.acceptable.some, s.shortest.least other w, s.first other w)
  given_shortest path (none _ no_way) other accepted opens = absurd (no_way other (accepted_way other accepted opens))

  -- A way gives a path, and a path is a way.
  way_given : {other : List ℕ} → Way (variables_of read) f.clauses signs x y other → (path : List ℕ) → ExplainsBy read signs x y path
      → (0 < length path) × (length path ≤ length other)
  way_given {other} w path (by s) = (s.shortest.way.acceptable.some, s.shortest.least other w)
  way_given {other} w path (none _ no_way) = absurd (no_way other w)

  given_way : (path : List ℕ) → ExplainsBy read signs x y path → 0 < length path → Way (variables_of read) f.clauses signs x y path
  given_way path (by s) some = s.shortest.way
  given_way path (none q _) some = absurd (let z = ap length q in omega arith)

-- By either literal a path is given exactly if y is in the standard set.
pub given_standard : (rule : ℕ) (f : Formula) (x y : ℕ) (before : List ℕ) → NoneOf (explain_order rule f Signs.Either x y before) → (path : List ℕ)
    → ExplainsBy (read_by rule f) Signs.Either x y path → (0 < length path) ↔ DependsBy Standard (read_by rule f) x y
given_standard rule f x y before sound path e =
    let read' = read_by rule f in
    let u = of_universal rule f Signs.Either x y before sound in (
      λ some. way_depends read' x y u (deeper rule f Signs.Either x y before sound) (given_way rule f Signs.Either x y before sound path e some),
      λ d. let (_, w, _) = depends_way read' x y u d in (way_given rule f Signs.Either x y before sound w path e).0,
    )

-- By each sign one is given exactly if y follows by that sign, ...
given_sign : (rule : ℕ) (f : Formula) (sign : Bool) (x y : ℕ) (before : List ℕ) → NoneOf (explain_order rule f (signs_by sign) x y before) → (path : List ℕ)
    → ExplainsBy (read_by rule f) (signs_by sign) x y path
    → let X = variables_of (read_by rule f) in (0 < length path) ↔ Follows (SharesBy f.clauses sign) (Shares f.clauses) (From X (X.lev x)) x y
given_sign rule f sign x y before sound path e =
    let read' = read_by rule f in
    let u = of_universal rule f (signs_by sign) x y before sound in (
      λ some. way_follows read' x y u sign (deeper rule f (signs_by sign) x y before sound) (given_way rule f (signs_by sign) x y before sound path e some),
      λ s. let (_, w, _) = follows_way read' x y u sign s in (way_given rule f (signs_by sign) x y before sound w path e).0,
    )

-- ... so that both are given exactly if y is in the strict set.
pub given_strict : (rule : ℕ) (f : Formula) (x y : ℕ) (before before' : List ℕ) → NoneOf (explain_order rule f Signs.Positive x y before)
    → NoneOf (explain_order rule f Signs.Negative x y before') → (path path' : List ℕ) → ExplainsBy (read_by rule f) Signs.Positive x y path
    → ExplainsBy (read_by rule f) Signs.Negative x y path' → ((0 < length path) × (0 < length path')) ↔ DependsBy Strict (read_by rule f) x y
given_strict rule f x y before before' sound sound' path path' e e' =
    let positive = given_sign rule f true x y before sound path e in
    let negative = given_sign rule f false x y before' sound' path' e' in
    (λ both. record { by = by_sign (positive.0 both.0) (negative.0 both.1) }, λ d. (positive.1 (d.by true), negative.1 (d.by false)))
  where
    Goes : Bool → Type 0
    Goes sign = let X = variables_of (read_by rule f) in Follows (SharesBy f.clauses sign) (Shares f.clauses) (From X (X.lev x)) x y

    by_sign : Goes true → Goes false → (sign : Bool) → Goes sign
    by_sign p n true = p
    by_sign p n false = n

-- No path that is given is longer than the number of existentials.
pub given_short : (rule : ℕ) (f : Formula) (signs : Signs) (x y : ℕ) (before : List ℕ) → NoneOf (explain_order rule f signs x y before) → (path : List ℕ)
    → ExplainsBy (read_by rule f) signs x y path → let X = variables_of (read_by rule f) in length path ≤ how_many X.ex X.count
given_short rule f signs x y before sound path (none q _) = let z = ap length q in omega arith
given_short rule f signs x y before sound path (by s) =
    let (other, w, short) = some_short signs (of_universal rule f signs x y before sound) (deeper rule f signs x y before sound) s.shortest.way in
    let low = s.shortest.least other w in omega arith
  where
    some_short : (signs : Signs) → universal f.n (read_by rule f).prefix x ≡ true → Deeper (variables_of (read_by rule f)) x y
        → Way (variables_of (read_by rule f)) f.clauses signs x y path
        → let X = variables_of (read_by rule f) in (other : List ℕ) × Way X f.clauses signs x y other × (length other ≤ how_many X.ex X.count)
    some_short Signs.Either u d w = depends_way (read_by rule f) x y u (way_depends (read_by rule f) x y u d w)
    some_short Signs.Positive u d w = follows_way (read_by rule f) x y u true (way_follows (read_by rule f) x y u true d w)
    some_short Signs.Negative u d w = follows_way (read_by rule f) x y u false (way_follows (read_by rule f) x y u false d w)
