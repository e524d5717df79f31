-- What is read off distances that are right: no way is shorter than the one that always goes on to the first clause that is one nearer, and none that
-- is as long comes before it.
use Prim.Native.Nat.{ℕ, zero, suc, ◌+◌, ◌-◌, ◌≤◌, ◌<◌}
use mathlib.Core.Path.{◌≡◌, refl, sym, ap, subst}
use mathlib.Core.Bool.{Bool, true, false}
use mathlib.Core.List.Memᴰ
use mathlib.Core.List.{List, [], ◌∷◌, Memᴰ}
use mathlib.Core.Logic.{◌≢◌, ◌⊎◌, ⊎_elim}
use native.Mathlib.Omega.{arith}
use lib.IntN.{ℤ}
use lib.ListN.{length}
use Rattle.terms.specs.Literals.{variable_of}
use Rattle.formula.specs.Tables.{at}
use Rattle.forest_theory.specs.Reach.{Variables}
use Rattle.forest_tables.specs.Formula.{signed}
use Rattle.forest_entries.specs.declared.Signs.{Signs}
use Rattle.forest_entries.proofs.Sides.{signed_variable}
use Rattle.path_check.specs.Paths.{clause_at, HasVariable, Shared, Acceptable}
use Rattle.path_explain.specs.Ways.{Opens, Way, NotAfter, Shortest, FirstShortest}
use Rattle.path_explain.specs.InnerTies.{Plain, Holds, FlagsDeeper}
use Rattle.path_explain.specs.InnerSearch.{Flag, Measured}
use Rattle.path_explain.specs.InnerWays.{Best, Steps}

-- So many clauses, the first of them k, lead to y, each sharing with the next a variable that may be passed.
data Leading (H : ℕ → ℕ → Type 0) (P : ℕ → Type 0) (y : ℕ) : ℕ → ℕ → Type 0 where
  last : {k : ℕ} → H k y → Leading H P y k 1
  more : {k l n : ℕ} (v : ℕ) → P v → H k v → H l v → Leading H P y l n → Leading H P y k (suc n)

module _ {H : ℕ → ℕ → Type 0} {P : ℕ → Type 0} {y : ℕ} {dists rows : List ℕ} (m : Measured H P y dists rows) where
  -- What shares a variable with a clause is at most one farther ...
  one_farther : (k l v : ℕ) → P v → H k v → H l v → at dists l ≢ 0 → (at dists k ≢ 0) × (at dists k ≤ suc (at dists l))
  one_farther k l v may hk hl some =
      let (row, low) = m.row_far l v may hl some in
      let (there, far) = m.clause_far k v hk row in
      (there, omega arith)

  -- ... so that no clause is farther than there are clauses that lead from it to y.
  leading_far : {k n : ℕ} → Leading H P y k n → (at dists k ≢ 0) × (at dists k ≤ n)
  leading_far {k} (last h) =
      let b = m.begun in
      let (there, far) = m.clause_far k y h (omega arith) in
      (there, omega arith)
  leading_far {k} (more {l = l} v may hk hl rest) =
      let (some, low) = leading_far rest in
      let (there, far) = one_farther k l v may hk hl some in
      (there, omega arith)

  -- A clause with the distance 1 has y.
  nearest_last : (k : ℕ) → at dists k ≡ 1 → H k y
  nearest_last k one =
      let (v, may, h, q) = m.clause_near k (omega arith) in
      ⊎_elim (λ own. subst (H k) own.0 h) (λ far. let (l, _, some, q') = far in absurd (omega arith)) (m.row_near v (omega arith)).1

  -- So many clauses lead from a clause to y as its distance says.
  leading_near : (n k : ℕ) → at dists k ≡ suc n → Leading H P y k (suc n)
  leading_near zero k q = last (nearest_last k q)
  leading_near (suc n) k q =
      let (v, may, h, e) = m.clause_near k (omega arith) in
      ⊎_elim (λ own. let one = own.1 in absurd (omega arith)) (λ back. let (l, hl, _, row) = back in more v may h hl (leading_near n l (omega arith)))
      (m.row_near v (omega arith)).1

-- The clauses that lead to y, as a path.
record Onto (X : Variables) (ls : List ℤ) (x y k : ℕ) (path : List ℕ) : Type 0 where
  begins : at path 0 ≡ k
  some : 0 < length path
  ends : HasVariable ls (at path (length path - 1)) y
  neighbours : (i : ℕ) → suc i < length path → Shared X ls x (at path i) (at path (suc i))
  not-true : (i : ℕ) → i < length path → Plain ls (at path i)

leading_path : {X : Variables} (ls : List ℤ) (flags : List Bool) {x y k n : ℕ} → FlagsDeeper X x flags → Leading (Holds ls) (Flag flags) y k n
    → (path : List ℕ) × (length path ≡ n) × Onto X ls x y k path
leading_path ls flags {k = k} deep (last h) = (
  k ∷ [],
  refl,
  record {
    begins = refl;
    some = omega arith;
    ends = h.1;
    neighbours = λ i l. absurd (omega arith);
    not-true = λ i l. let z : i ≡ 0 = omega arith in subst (λ j. Plain ls (at (k ∷ []) j)) (sym z) h.0;
  },
)
leading_path {X} ls flags {x} {y} {k} deep (more {l = l} {n = n} v may hk hl rest) =
    let (path, size, on) = leading_path ls flags deep rest in (
      k ∷ path,
      ap suc size,
      record {
        begins = refl;
        some = omega arith;
        ends = let s = on.some in let e : suc (length path - 1) ≡ suc (length path) - 1 = omega arith in subst (λ j. HasVariable ls (at (k ∷ path) j) y) e on.ends;
        neighbours = λ i. step on i;
        not-true = λ i. plain on i;
      },
    )
  where
    step : {path : List ℕ} → Onto X ls x y l path → (i : ℕ) → suc i < suc (length path) → Shared X ls x (at (k ∷ path) i) (at path i)
    step on zero less =
        record { variable = v; deep = (deep.tells v).0 may; left = hk.1; right = subst (λ j. HasVariable ls j v) (sym on.begins) hl.1 }
    step on (suc i) less = on.neighbours i (omega arith)

    plain : {path : List ℕ} → Onto X ls x y l path → (i : ℕ) → i < suc (length path) → Plain ls (at (k ∷ path) i)
    plain on zero less = hk.0
    plain on (suc i) less = on.not-true i (omega arith)

-- The best clause has a distance.
pub best_some : {Q : ℕ → Type 0} {dists : List ℕ} {owner : ℕ} → Best Q dists owner → (k : ℕ) → owner ≡ suc k → at dists k ≢ 0
best_some {dists = dists} b k is =
    ⊎_elim (λ z. absurd (omega arith)) (λ f. let (j, q, _, some) = f in let same : j ≡ k = omega arith in subst (λ i. at dists i ≢ 0) same some) b.found

-- The literal with which a way begins is one of x.
opens_has : (signs : Signs) (ls : List ℤ) (x k : ℕ) → Opens signs ls x k → HasVariable ls k x
opens_has signs ls x k = go signs
  where
    one : (sign : Bool) → Memᴰ (signed sign x) (clause_at ls k) → HasVariable ls k x
    one sign h = subst (λ v. HasVariable ls k v) (signed_variable sign x) (Memᴰ.map variable_of h)

    go : (signs : Signs) → Opens signs ls x k → HasVariable ls k x
    go Signs.Either = ⊎_elim (one true) (one false)
    go Signs.Positive = one true
    go Signs.Negative = one false

module _ {X : Variables} (ls : List ℤ) (signs : Signs) {x y : ℕ} {flags : List Bool} {dists rows : List ℕ} {owner : ℕ} (deep : FlagsDeeper X x flags)
    (m : Measured (Holds ls) (Flag flags) y dists rows) (best : Best (λ k. Plain ls k × Opens signs ls x k) dists owner) where
  -- The clauses of a path lead to y, each of them.
  leading : {other : List ℕ} → Acceptable X ls x y other → (left i : ℕ) → i + suc left ≡ length other → Leading (Holds ls) (Flag flags) y (at other i) (suc left)
  leading {other} a zero i q =
      let end : length other - 1 ≡ i = omega arith in
      last (a.not-true i (omega arith), subst (λ j. HasVariable ls (at other j) y) end a.last)
  leading {other} a (suc left) i q =
      let s = a.neighbours i (omega arith) in
      more s.variable ((deep.tells s.variable).1 s.deep) (a.not-true i (omega arith), s.left) (a.not-true (suc i) (omega arith), s.right)
      (leading a left (suc i) (omega arith))

  far_from : {other : List ℕ} → Acceptable X ls x y other → (i : ℕ) → i < length other → (at dists (at other i) ≢ 0) × (at dists (at other i) + i ≤ length other)
  far_from {other} a i l =
      let (some, low) = leading_far m (leading a (length other - i - 1) i (omega arith)) in
      (some, omega arith)

  -- A way begins with a clause that is no nearer than the best.
  begins_far : {other : List ℕ} → Way X ls signs x y other
      → (b : ℕ) × (owner ≡ suc b) × ((at dists b < at dists (at other 0)) ⊎ ((at dists b ≡ at dists (at other 0)) × (b ≤ at other 0)))
  begins_far {other} w = best.low (at other 0) (w.acceptable.not-true 0 w.acceptable.some, w.opens) (far_from w.acceptable 0 w.acceptable.some).0

  -- No way has fewer clauses than the best is far.
  best_least : (k : ℕ) → owner ≡ suc k → (other : List ℕ) → Way X ls signs x y other → at dists k ≤ length other
  best_least k is other w =
      let (b, q, later) = begins_far w in
      let same : b ≡ k = omega arith in
      let own = ap (at dists) same in
      let far = (far_from w.acceptable 0 w.acceptable.some).1 in
      ⊎_elim (λ l. omega arith) (λ e. let d = e.0 in omega arith) later

  -- A shortest way: from the best clause to y.
  pub some_shortest : (k : ℕ) → owner ≡ suc k → (path : List ℕ) × Shortest X ls signs x y path × (length path ≡ at dists k)
  some_shortest k is = ⊎_elim (λ z. absurd (omega arith)) found best.found
    where
      found : (b : ℕ) × (owner ≡ suc b) × (Plain ls b × Opens signs ls x b) × (at dists b ≢ 0) → (path : List ℕ) × Shortest X ls signs x y path × (length path ≡ at dists k)
      found (b, q, (_, opens), there) =
          let same : b ≡ k = omega arith in
          let own = ap (at dists) same in
          let far : at dists b ≡ suc (at dists b - 1) = omega arith in
          let (path, size, on) = leading_path ls flags deep (leading_near m (at dists b - 1) b far) in
          let begins = subst (Opens signs ls x) (sym on.begins) opens in (
            path,
            record {
              way = record {
                acceptable = record {
                  some = on.some;
                  first = opens_has signs ls x (at path 0) begins;
                  last = on.ends;
                  neighbours = on.neighbours;
                  not-true = on.not-true;
                };
                opens = begins;
              };
              least = λ other w. let low = best_least k is other w in omega arith;
            },
            omega arith,
          )

  pub no_way : owner ≡ 0 → (other : List ℕ) → Way X ls signs x y other → ⊥
  no_way z other w = let (b, q, _) = begins_far w in omega arith

  module _ {path : List ℕ} {first : ℕ} (is : owner ≡ suc first) (s : Steps (Holds ls) (Flag flags) dists first path) (long : 0 < length path) where
    first_far : at dists (at path 0) ≡ length path
    first_far = let q = s.far 0 long in omega arith

    there : (i : ℕ) → i < length path → at dists (at path i) ≢ 0
    there i l = let q = s.far i l in omega arith

    plain : (i : ℕ) → i < length path → Plain ls (at path i)
    plain i l = let (v, _, h, _) = m.clause_near (at path i) (there i l) in h.0

    begins_best : (k : ℕ) → owner ≡ suc k → k ≡ at path 0
    begins_best k q = let b = s.begins long in omega arith

    opening : Opens signs ls x (at path 0)
    opening = ⊎_elim (λ z. absurd (omega arith)) (λ f. let (k, q, o, _) = f in subst (Opens signs ls x) (begins_best k q) o.1) best.found

    path_way : Way X ls signs x y path
    path_way =
        record {
          acceptable =
              record {
                some = long;
                first = opens_has signs ls x (at path 0) opening;
                last = let q = s.far (length path - 1) (omega arith) in (nearest_last m (at path (length path - 1)) (omega arith)).1;
                neighbours = λ i l. let o = s.steps i l in
                    record { variable = o.via; deep = (deep.tells o.via).0 o.may; left = o.left.1; right = o.right.1 };
                not-true = plain;
              };
          opens = opening;
        }

    no_shorter : (other : List ℕ) → Way X ls signs x y other → length path ≤ length other
    no_shorter other w = let b = s.begins long in let low = best_least (at path 0) (omega arith) other w in let first = first_far in omega arith

    module _ {other : List ℕ} (w : Way X ls signs x y other) (same : length other ≡ length path) where
      -- The clauses of a way that is as long are as far as those of the path.
      not_nearer : (i : ℕ) → i < length other → length path ≤ at dists (at other i) + i
      not_nearer zero l =
          let (b, q, later) = begins_far w in
          let own = ap (at dists) (begins_best b q) in
          let first = first_far in
          ⊎_elim (λ l. omega arith) (λ e. let d = e.0 in omega arith) later
      not_nearer (suc i) l =
          let before = not_nearer i (omega arith) in
          let a = w.acceptable in
          let sh = a.neighbours i l in
          let (_, far) = one_farther m (at other i) (at other (suc i)) sh.variable ((deep.tells sh.variable).1 sh.deep) (a.not-true i (omega arith), sh.left)
          (a.not-true (suc i) l, sh.right) (far_from a (suc i) l).0 in
          omega arith

      as_far : (i : ℕ) → i < length other → at dists (at other i) + i ≡ length path
      as_far i l = let low = not_nearer i l in let high = (far_from w.acceptable i l).1 in omega arith

      not_after : NotAfter path other
      not_after zero l agrees =
          let (b, q, later) = begins_far w in
          let is = begins_best b q in
          let own = ap (at dists) is in
          let first = first_far in
          let equal = as_far 0 (omega arith) in
          ⊎_elim (λ less. absurd (omega arith)) (λ e. let low = e.1 in omega arith) later
      not_after (suc i) l agrees =
          let o = s.steps i l in
          let a = w.acceptable in
          let there' : suc i < length other = omega arith in
          let sh = a.neighbours i there' in
          let is = agrees i (omega arith) in
          let here = s.far i (omega arith) in
          let far = as_far (suc i) there' in
          o.first (at other (suc i)) sh.variable ((deep.tells sh.variable).1 sh.deep)
          (subst (λ k. Holds ls k sh.variable) (sym is) (a.not-true i (omega arith), sh.left)) (a.not-true (suc i) there', sh.right)
          (far_from a (suc i) there').0 (omega arith)

    pub path_first : FirstShortest X ls signs x y path
    path_first = record { shortest = record { way = path_way; least = no_shorter }; first = λ other w same. not_after w same }
