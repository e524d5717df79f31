-- Ways and sets: y is in the standard set of x exactly if there is a way, and in the strict set exactly if there is one by each sign; and then there is one
-- no longer than the number of existentials.
use Prim.Native.Nat.{ℕ, zero, suc, ◌+◌, ◌-◌, ◌≤◌, ◌<◌}
use mathlib.Core.Path.{◌≡◌, refl, sym, ap, subst, ◌∙◌}
use mathlib.Core.Bool.{Bool, true, false}
use mathlib.Core.List.Memᴰ
use mathlib.Core.List.{List, [], ◌∷◌, ◌++◌, map, Memᴰ}
use mathlib.Core.Logic.{◌≢◌, ◌⊎◌, inl, inr, ⊎_elim}
use native.Mathlib.Omega.{arith}
use lib.IntN.{ℤ}
use lib.ListN.{length, length-append, get_or-append}
use Rattle.terms.specs.Literals.{variable_of}
use Rattle.terms.specs.declared.Scheme.TheVariants.{Standard}
use Rattle.terms.proofs.Common.{clash}
use Rattle.formula.specs.Lent.{Formula}
use Rattle.formula.specs.Meaning.{clauses, always_true}
use Rattle.formula.specs.Tables.{at}
use Rattle.formula.proofs.Signs.{connected_all}
use Rattle.forest_theory.specs.Reach.{Variables, From, Deeper, Reach, here, step, Follows}
use Rattle.forest_theory.specs.InnerVariables.{Universal}
use Rattle.forest_tables.specs.Formula.{universal, signed, Shares, SharesBy}
use Rattle.forest_tables.specs.Lent.{variables_of}
use Rattle.forest_tables.proofs.Agreeing.{lawful}
use Rattle.forest_entries.specs.declared.Signs.{Signs}
use Rattle.forest_entries.proofs.Sides.{mem_at, connected_open, sign_of, signed_variable}
use Rattle.forest.specs.Answers.{DependsBy}
use Rattle.forest.proofs.Demands.{universal_alone}
use Rattle.forest_theory.specs.Counts.{how_many}
use Rattle.path_check.specs.Paths.{clause_at, HasVariable, Acceptable}
use Rattle.path_check.proofs.Demands.{short_path}
use Rattle.path_check.proofs.Reached.{in_count, shares_by, Numbers, shares_number, deep_from, path_reaches, path_one, path_more, Trail, start, on, trail, trail_ends, trail_short}
use Rattle.path_explain.specs.Ways.{Opens, Way}

-- the sign of x that a way has to begin with
abbrev pub signs_by : Bool → Signs
signs_by true = Signs.Positive
signs_by false = Signs.Negative

-- A clause that has x has one of its literals.
has_opens : (ls : List ℤ) (x k : ℕ) → HasVariable ls k x → Opens Signs.Either ls x k
has_opens ls x k h =
    let (l, m, q) = Memᴰ.of_map variable_of (clause_at ls k) h in
    let (sign, is) = sign_of l in
    go sign (subst (λ z. Memᴰ z (clause_at ls k)) (is ∙ ap (signed sign) q) m)
  where
    go : (sign : Bool) → Memᴰ (signed sign x) (clause_at ls k) → Opens Signs.Either ls x k
    go true m = inl m
    go false m = inr m

opens_sign : (ls : List ℤ) (x k : ℕ) (sign : Bool) → Opens (signs_by sign) ls x k → Memᴰ (signed sign x) (clause_at ls k)
opens_sign ls x k true m = m
opens_sign ls x k false m = m

sign_opens : (ls : List ℤ) (x k : ℕ) (sign : Bool) → Memᴰ (signed sign x) (clause_at ls k) → Opens (signs_by sign) ls x k
sign_opens ls x k true m = m
sign_opens ls x k false m = m

-- A clause that is not always true, with a literal of x and with v, is one that they share by the sign; and each such clause has a number.
share_sign : (ls : List ℤ) (sign : Bool) (x k v : ℕ) → always_true (clause_at ls k) ≡ false → Memᴰ (signed sign x) (clause_at ls k) → HasVariable ls k v
    → SharesBy ls sign x v
share_sign ls sign x k v plain m h =
    record {
      clause = clause_at ls k;
      listed = (mem_at [] (clause_at ls k) (clauses ls)).1 (k, in_count ls k v h, refl);
      literal = m;
      connects = subst (Memᴰ v) (sym (connected_all (clause_at ls k) plain)) h;
    }

sign_number : {ls : List ℤ} (sign : Bool) {x v : ℕ} → SharesBy ls sign x v → (n : Numbers ls x v) × Memᴰ (signed sign x) (clause_at ls n.number)
sign_number {ls} sign {x} {v} s =
    let clause = s.clause in
    let (k, l, q) = (mem_at [] clause (clauses ls)).0 s.listed in
    let plain = connected_open clause v s.connects in
    let literal = subst (Memᴰ (signed sign x)) (sym q) s.literal in (
      record {
        number = k;
        plain = subst (λ c. always_true c ≡ false) (sym q) plain;
        left = subst (λ w. HasVariable ls k w) (signed_variable sign x) (Memᴰ.map variable_of literal);
        right = subst (λ c. Memᴰ v (map variable_of c)) (sym q) (subst (Memᴰ v) (connected_all clause plain) s.connects);
      },
      literal,
    )

module _ (X : Variables) (ls : List ℤ) (x : ℕ) (sign : Bool) where
  -- Along a way that begins with a sign everything is reached by a first step with that sign.
  follows_along : {y : ℕ} {path : List ℕ} → Acceptable X ls x y path → Memᴰ (signed sign x) (clause_at ls (at path 0)) → (i : ℕ) → i < length path
      → (v : ℕ) → Deeper X x v → HasVariable ls (at path i) v → Follows (SharesBy ls sign) (Shares ls) (From X (X.lev x)) x v
  follows_along {path = path} a m zero l v d h =
      record { first = v; starts = share_sign ls sign x (at path 0) v (a.not-true 0 l) m h; allowed = deep_from d; onward = here }
  follows_along {path = path} a m (suc i) l v d h =
      let s = a.neighbours i l in
      let f = follows_along a m i (omega arith) s.variable s.deep s.left in
      record {
        first = f.first;
        starts = f.starts;
        allowed = f.allowed;
        onward = step f.onward (shares_by ls (at path (suc i)) s.variable v (a.not-true (suc i) l) s.right h) (deep_from d);
      }

  -- one step: from x with the sign, and from any other variable in whatever sign
  abbrev Steps' : ℕ → ℕ → Type 0
  Steps' u v = ((u ≡ x) × SharesBy ls sign x v) ⊎ ((u ≢ x) × Shares ls u v)

  module _ (alone : Universal X x) where
    not_x : {v : ℕ} → From X (X.lev x) v → v ≢ x
    not_x e q = clash e.existential (subst (λ w. X.ex w ≡ false) (sym q) alone.universal)

    deeper : {v : ℕ} → From X (X.lev x) v → Deeper X x v
    deeper {v} e = let other = alone.alone v e.existential in record { existential = e.existential; deep = let l = e.deep in omega arith }

    -- What follows is reached by such steps ...
    steps_on : {z v : ℕ} → SharesBy ls sign x z → From X (X.lev x) z → Reach (Shares ls) (From X (X.lev x)) z v
        → Reach Steps' (From X (X.lev x)) x v × From X (X.lev x) v
    steps_on s e here = (step here (inl (refl, s)) e, e)
    steps_on s e (step r j e') = let (way, ends) = steps_on s e r in (step way (inr (not_x ends, j)) e', e')

    -- ... and a walk by such steps has an acceptable path that begins with the sign.
    signed_path : {list : List ℕ} {u : ℕ} → Trail Steps' (From X (X.lev x)) x list u
        → (path : List ℕ) × Acceptable X ls x u path × Memᴰ (signed sign x) (clause_at ls (at path 0)) × (length path ≡ length list)
    signed_path (start (inl (_, s)) e) = let (n, m) = sign_number sign s in (n.number ∷ [], path_one n, m, refl)
    signed_path (start (inr (other, _)) e) = absurd (other refl)
    signed_path (on t (inl (q, _)) e new) = absurd (not_x (trail_ends t) q)
    signed_path (on {list = list} t (inr (_, j)) e new) =
        let (path, a, m, q) = signed_path t in
        let n = shares_number j in
        let some = a.some in (
          path ++ (n.number ∷ []),
          path_more a (deeper (trail_ends t)) n,
          subst (λ k. Memᴰ (signed sign x) (clause_at ls k)) (sym (get_or-append path (n.number ∷ []) 0 0 some)) m,
          length-append path (n.number ∷ []) ∙ (let r : length path + 1 ≡ suc (length list) = omega arith in r),
        )

module _ (f : Formula) (x y : ℕ) (u : universal f.n f.prefix x ≡ true) where
  abbrev X : Variables
  X = variables_of f

  alone : Universal X x
  alone = universal_alone f.n f.prefix x u

  -- The standard set.
  pub way_depends : {signs : Signs} {path : List ℕ} → Deeper X x y → Way X f.clauses signs x y path → DependsBy Standard f x y
  way_depends {path = path} d w =
      let a = w.acceptable in
      let some = a.some in
      record { existential = d.existential; reached = path_reaches a (length path - 1) (omega arith) y d a.last }

  pub depends_way : DependsBy Standard f x y → (path : List ℕ) × Way X f.clauses Signs.Either x y path × (length path ≤ how_many X.ex X.count)
  depends_way d = let (path, short, _, a) = short_path f x y u d in (path, record { acceptable = a; opens = has_opens f.clauses x (at path 0) a.first }, short)

  -- The strict set, by each sign.
  pub way_follows : (sign : Bool) {path : List ℕ} → Deeper X x y → Way X f.clauses (signs_by sign) x y path
      → Follows (SharesBy f.clauses sign) (Shares f.clauses) (From X (X.lev x)) x y
  way_follows sign {path} d w =
      let a = w.acceptable in
      let some = a.some in
      follows_along X f.clauses x sign a (opens_sign f.clauses x (at path 0) sign w.opens) (length path - 1) (omega arith) y d a.last

  pub follows_way : (sign : Bool) → Follows (SharesBy f.clauses sign) (Shares f.clauses) (From X (X.lev x)) x y
      → (path : List ℕ) × Way X f.clauses (signs_by sign) x y path × (length path ≤ how_many X.ex X.count)
  follows_way sign s =
      let (reached, ends) = steps_on X f.clauses x sign alone s.starts s.allowed s.onward in
      ⊎_elim (λ q. absurd (not_x X f.clauses x sign alone ends q))
      (λ found. let (list, t) = found in
      let (path, a, m, q) = signed_path X f.clauses x sign alone t in
      let short = trail_short (lawful f.n f.prefix) t in
      (path, record { acceptable = a; opens = sign_opens f.clauses x (at path 0) sign m }, omega arith)) (trail reached)
