-- From marks to paths: what is barred at first, what is marked at the end, and what depends on x by the ends of its paths.
use Prim.Native.Nat.{ℕ, zero, suc, ◌+◌, ◌≤◌, ◌<◌}
use mathlib.Core.Path.{◌≡◌, refl, sym, ap, ◌∙◌, subst}
use mathlib.Core.Bool.{Bool, true, false, not, ◌&&◌, ◌||◌}
use mathlib.Core.List.{List}
use mathlib.Core.Logic.{◌≢◌, ◌⊎◌, inl, inr, ⊎_elim, ◌↔◌, by_cases}
use native.Mathlib.Decide.{ℕ_discrete}
use native.Mathlib.Omega.{arith}
use lib.IntN.{ℤ, pos, negsuc}
use lib.ListN.{length, get_or, set, replicate, length-set, get_or-replicate}
use lib.Seq.{get_or-set_same, get_or-set_other}
use Rattle.terms.specs.Literals.{variable_of}
use Rattle.terms.specs.InnerLiteralRows.{row_of}
use Rattle.terms.proofs.Common.{clash}
use Rattle.formula.specs.Tables.{literal_at}
use Rattle.forest_theory.specs.Reach.{Variables, Deeper}
use Rattle.forest_tables.specs.InnerTabled.{existential_in, tabled}
use Rattle.forest_tables.specs.Formula.{signed}
use Rattle.forest_tables.specs.InnerRows.{Tells}
use Rattle.forest_tables.proofs.Readings.{flag_within}
use Rattle.forest_tables.proofs.Agreeing.{Same, deeper_same}
use Rattle.forest_entries.proofs.Sides.{signed_variable}
use Rattle.sets_occurrences.specs.InnerThreads.{Threaded}
use Rattle.path_resolution.specs.Paths.{Crosses, Path, enters, goes_on, DependsByPaths}
use Rattle.path_resolution.specs.InnerWalk.{marked, Passes, Walk, starts, steps, Walked, Chained, Rowed}
use Rattle.path_resolution.specs.InnerEnds.{Barred, ReadClauses, Ends, Pairs}
use Rattle.path_resolution.proofs.Places.{inside_less}
use Rattle.path_resolution.proofs.Crossings.{passes_crosses}

-- The rows of the two literals of a variable.
row_either : (l : ℤ) → (row_of l ≡ variable_of l + variable_of l) ⊎ (row_of l ≡ variable_of l + variable_of l + 1)
unfolding row_of
row_either (pos v) = inl refl
row_either (negsuc v) = inr (omega arith)

row_plain : (y : ℕ) → row_of (signed true y) ≡ y + y
unfolding row_of signed
row_plain y = refl

row_negated : (y : ℕ) → 1 ≤ y → row_of (signed false y) ≡ y + y + 1
unfolding row_of signed
row_negated zero some = absurd (omega arith)
row_negated (suc y) some = omega arith

-- Every literal of a clause table for no more than 512 variables has a row in a table of 1,026.
pub rowed : {n : ℕ} {ls : List ℤ} (marks : List Bool) → n ≤ 512 → ReadClauses n ls → length marks ≡ 1026 → Rowed ls marks
rowed {ls = ls} marks few read size e = let most = read.upto e in ⊎_elim (λ q. omega arith) (λ q. omega arith) (row_either (literal_at ls e))

-- Every variable is tied to its clauses.
pub threads_chained : {n : ℕ} {ls : List ℤ} {heads next : List ℕ} → n ≤ 512 → ReadClauses n ls → length heads ≡ 513 → length ls ≤ length next
    → Threaded ls (set (replicate 513 true) 0 false) heads next (length ls) → Chained ls heads next
threads_chained {ls = ls} few read size room t =
    record {
      heads = λ e. let most = read.upto e in omega arith;
      links = room;
      sound = t.sound;
      complete = λ s p inside connecting. t.complete (variable_of (literal_at ls p)) s p
          (get_or-set_other (replicate 513 true) 0 (variable_of (literal_at ls p)) false false (inside.literals p inside.from (omega arith))
          ∙ get_or-replicate 513 (variable_of (literal_at ls p)) true false (let most = read.upto p in omega arith)) (inside_less inside) inside connecting refl;
    }

-- What is barred before v, one variable after the other.
abbrev pub BarredBefore : Variables → ℕ → List Bool → ℕ → Type 0
BarredBefore X x marks v = (l : ℤ) → 1 ≤ variable_of l → variable_of l < v → (marked marks l ≡ false) ↔ Deeper X x (variable_of l)

-- a flag that is the negation of what tells whether P holds is not set exactly if P holds
not_told : {P : Type 0} (r : Bool) → Tells r P → (not r ≡ false) ↔ P
not_told true p = (λ _. p, λ _. refl)
not_told false none = (λ q. absurd (clash refl q), λ p. absurd (none p))

-- The two rows of v.
module _ (X : Variables) (x v row : ℕ) (r : Bool) (marks : List Bool) (is : row ≡ v + v) (room : row + 1 < length marks) (told : Tells r (Deeper X x v)) where
  abbrev once : List Bool
  once = set marks row (not r)

  abbrev twice : List Bool
  twice = set once (row + 1) (not r)

  pub bar_more : BarredBefore X x marks v → BarredBefore X x twice (v + 1)
  bar_more old l low high = by_cases (ℕ_discrete (variable_of l) v) new (λ other. subst (λ b. (b ≡ false) ↔ Deeper X x (variable_of l)) (sym (same other)) (old l low (omega arith)))
    where
      same : variable_of l ≢ v → marked twice l ≡ marked marks l
      same other =
          get_or-set_other once (row + 1) (row_of l) (not r) false (λ q. ⊎_elim (λ e. omega arith) (λ e. omega arith) (row_either l))
          ∙ get_or-set_other marks row (row_of l) (not r) false (λ q. ⊎_elim (λ e. omega arith) (λ e. omega arith) (row_either l))

      here : variable_of l ≡ v → marked twice l ≡ not r
      here q =
          let size = length-set marks row (not r) in
          ⊎_elim
          (λ e. let at : row_of l ≡ row = omega arith in
          ap (λ k. get_or twice k false) at ∙ get_or-set_other once (row + 1) row (not r) false (λ w. omega arith) ∙ get_or-set_same marks row (not r) false (omega arith))
          (λ e. let at : row_of l ≡ row + 1 = omega arith in
          ap (λ k. get_or twice k false) at ∙ get_or-set_same once (row + 1) (not r) false (omega arith))
          (row_either l)

      new : variable_of l ≡ v → (marked twice l ≡ false) ↔ Deeper X x (variable_of l)
      new q = subst (λ b. (b ≡ false) ↔ Deeper X x (variable_of l)) (sym (here q)) (subst (λ w. (not r ≡ false) ↔ Deeper X x w) (sym q) (not_told r told))

-- Opposite literals of y in two tables.
crossed : (a b c d : Bool) → ((a && b || c && d) ≡ true) ↔ (((a ≡ true) × (b ≡ true)) ⊎ ((c ≡ true) × (d ≡ true)))
crossed true true c d = (λ _. inl (refl, refl), λ _. refl)
crossed true false true true = (λ _. inr (refl, refl), λ _. refl)
crossed false b true true = (λ _. inr (refl, refl), λ _. refl)
crossed true false true false = (λ t. absurd (clash t refl), ⊎_elim (λ p. p.1) (λ p. p.1))
crossed true false false d = (λ t. absurd (clash t refl), ⊎_elim (λ p. p.1) (λ p. p.0))
crossed false b true false = (λ t. absurd (clash t refl), ⊎_elim (λ p. p.0) (λ p. p.1))
crossed false b false d = (λ t. absurd (clash t refl), ⊎_elim (λ p. p.0) (λ p. p.0))

is_told : {P : Type 0} (r : Bool) → (r ≡ true) ↔ P → Tells r P
is_told true told = told.0 refl
is_told false told = λ p. clash (told.1 p) refl

-- An existential by the level table is a variable.
pub deeper_some : (n : ℕ) (levels : List ℕ) (universals : List Bool) (x v : ℕ) → Deeper (tabled n levels universals) x v → 1 ≤ v
unfolding existential_in
deeper_some n levels universals x v d = (flag_within n v (not (get_or universals v false)) d.existential).0

pub pairs_told : (ends others : List Bool) (y row : ℕ) (r : Bool) → 1 ≤ y → row ≡ y + y
    → r ≡ (get_or ends row false && get_or others (row + 1) false || get_or ends (row + 1) false && get_or others row false) → Tells r (Pairs ends others y)
pairs_told ends others y row r some is told = is_told r (subst (λ b. (b ≡ true) ↔ Pairs ends others y) (sym told) (there, back))
  where
    plain : (marks : List Bool) → marked marks (signed true y) ≡ get_or marks row false
    plain marks = ap (λ k. get_or marks k false) (row_plain y ∙ sym is)

    negated : (marks : List Bool) → marked marks (signed false y) ≡ get_or marks (row + 1) false
    negated marks = ap (λ k. get_or marks k false) (row_negated y some ∙ ap (λ k. k + 1) (sym is))

    told_crossed : ((get_or ends row false && get_or others (row + 1) false || get_or ends (row + 1) false && get_or others row false) ≡ true) ↔
        (((get_or ends row false ≡ true) × (get_or others (row + 1) false ≡ true)) ⊎ ((get_or ends (row + 1) false ≡ true) × (get_or others row false ≡ true)))
    told_crossed = crossed (get_or ends row false) (get_or others (row + 1) false) (get_or ends (row + 1) false) (get_or others row false)

    there : (get_or ends row false && get_or others (row + 1) false || get_or ends (row + 1) false && get_or others row false) ≡ true → Pairs ends others y
    there t = ⊎_elim (λ p. (true, plain ends ∙ p.0, negated others ∙ p.1)) (λ p. (false, negated ends ∙ p.0, plain others ∙ p.1)) (told_crossed.0 t)

    back : Pairs ends others y → (get_or ends row false && get_or others (row + 1) false || get_or ends (row + 1) false && get_or others row false) ≡ true
    back (true, e, o) = told_crossed.1 (inl (sym (plain ends) ∙ e, sym (negated others) ∙ o))
    back (false, e, o) = told_crossed.1 (inr (sym (negated ends) ∙ e, sym (plain others) ∙ o))

-- A literal at which a clause is left is of a variable from 1 to n.
module _ {n : ℕ} {ls : List ℤ} (read : ReadClauses n ls) where
  pass_within : {k l : ℤ} → Passes ls k l → (1 ≤ variable_of l) × (variable_of l ≤ n)
  pass_within pass =
      let leaves = pass.leaves in
      let is = ap variable_of leaves.is in
      let some = leaves.other.literals leaves.place leaves.other.from (omega arith) in
      let most = read.upto leaves.place in
      (omega arith, omega arith)

  module _ {X : Variables} (count : X.count ≡ n) {x : ℕ} {s : ℤ} {b c : List Bool} (barred : Barred X x b) (w : Walked ls (Passes ls s) b c) where
    cross : {k l : ℤ} → Passes ls k l → Crosses ls k l
    cross {k} {l} = (passes_crosses read.closed k l).0

    pass : {k l : ℤ} → Crosses ls k l → Passes ls k l
    pass {k} {l} = (passes_crosses read.closed k l).1

    free_deeper : (l : ℤ) → (1 ≤ variable_of l) × (variable_of l ≤ n) → (marked b l ≡ false) ↔ Deeper X x (variable_of l)
    free_deeper l (low, high) = barred l low (omega arith)

    walk_within : {l : ℤ} → Walk ls b (Passes ls s) l → (1 ≤ variable_of l) × (variable_of l ≤ n)
    walk_within (starts p free) = pass_within p
    walk_within (steps _ p free) = pass_within p

    walk_free : {l : ℤ} → Walk ls b (Passes ls s) l → marked b l ≡ false
    walk_free (starts p free) = free
    walk_free (steps _ p free) = free

    -- The walk goes along paths, and comes to the end of each.
    walk_path : {l : ℤ} → Walk ls b (Passes ls s) l → Path X ls x s l
    walk_path (starts p free) = enters (cross p)
    walk_path (steps {l = at} w' p free) = goes_on (walk_path w') ((free_deeper at (walk_within w')).0 (walk_free w')) (cross p)

    path_within : {l : ℤ} → Path X ls x s l → (1 ≤ variable_of l) × (variable_of l ≤ n)
    path_within (enters k) = pass_within (pass k)
    path_within (goes_on _ _ k) = pass_within (pass k)

    path_marked : {l : ℤ} → Path X ls x s l → marked c l ≡ true
    path_marked {l} (enters k) = w.all l (pass k)
    path_marked {l} (goes_on {at = at} p deep k) = w.grown.whole at l ((free_deeper at (path_within p)).1 deep) (path_marked p) (pass k)

    pub ends_are : Ends X ls x s c
    ends_are l low high deep = (λ t. walk_path (w.grown.come l ((free_deeper l (low, omega arith)).1 deep) t), path_marked)

-- y has opposite ends exactly if it depends on x.
pub depends_are : {X : Variables} {ls : List ℤ} {x : ℕ} (ends others : List Bool) → Ends X ls x (signed true x) ends
    → Ends X ls x (signed false x) others → (y : ℕ) → 1 ≤ y → y ≤ X.count → (Deeper X x y × Pairs ends others y) ↔ DependsByPaths X ls x y
depends_are {X} {ls} {x} ends others plain negated y low high = (there, back)
  where
    at : {from : ℤ} (marks : List Bool) → Ends X ls x from marks → Deeper X x y → (sign : Bool) → (marked marks (signed sign y) ≡ true) ↔ Path X ls x from (signed sign y)
    at marks e deep sign = let q = signed_variable sign y in e (signed sign y) (omega arith) (omega arith) (subst (Deeper X x) (sym q) deep)

    there : Deeper X x y × Pairs ends others y → DependsByPaths X ls x y
    there (deep, (sign, e, o)) = record { deeper = deep; sign = sign; from_x = (at ends plain deep sign).0 e; from_negation = (at others negated deep (not sign)).0 o }

    back : DependsByPaths X ls x y → Deeper X x y × Pairs ends others y
    back d = (d.deeper, (d.sign, (at ends plain d.deeper d.sign).1 d.from_x, (at others negated d.deeper (not d.sign)).1 d.from_negation))

-- What depends on x by the level table depends on it by the prefix.
module _ {X Y : Variables} (s : Same X Y) {x : ℕ} (own : X.lev x ≡ Y.lev x) where
  path_same : {ls : List ℤ} {from l : ℤ} → Path X ls x from l → Path Y ls x from l
  path_same (enters k) = enters k
  path_same (goes_on p deep k) = goes_on (path_same p) (deeper_same s own deep) k

  pub depends_same : {ls : List ℤ} {y : ℕ} → DependsByPaths X ls x y → DependsByPaths Y ls x y
  depends_same d = record { deeper = deeper_same s own d.deeper; sign = d.sign; from_x = path_same d.from_x; from_negation = path_same d.from_negation }
