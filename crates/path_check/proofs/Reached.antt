-- Where acceptable paths lead: along one everything is reached, and what is reached has one with no existential passed twice.
use Prim.Native.Nat.{ℕ, zero, suc, ◌+◌, ◌-◌, ◌≤◌, ◌<◌}
use mathlib.Core.Path.{◌≡◌, refl, sym, ap, subst, subst₂, ◌∙◌}
use mathlib.Core.Bool.{false}
use mathlib.Core.List.{List, [], ◌∷◌, ◌++◌, map, Memᴰ}
use mathlib.Core.Logic.{◌⊎◌, inl, inr, ⊎_elim, by_cases}
use native.Mathlib.Decide.{dec_lt}
use native.Mathlib.Omega.{arith}
use lib.IntN.{ℤ}
use lib.ListN.{length, length-append, get_or-append, get_or-eq_default}
use lib.Seq.{get_or-append_seam}
use Rattle.terms.specs.Literals.{variable_of}
use Rattle.formula.specs.Meaning.{clauses, always_true, connected}
use Rattle.formula.specs.Tables.{at}
use Rattle.formula.proofs.Signs.{connected_all}
use Rattle.forest_theory.specs.Reach.{Variables, From, Reach, here, step, Deeper}
use Rattle.forest_theory.specs.InnerVariables.{Lawful, Universal}
use Rattle.forest_theory.specs.Counts.{Numbered, how_many}
use Rattle.forest_theory.specs.InnerSearch.{has}
use Rattle.forest_theory.proofs.Numbered.{numbered_one, numbered_none, numbered_more, numbered_same, how_many_numbered, how_many_less}
use Rattle.forest_theory.proofs.Search.{has_member_lem, member_has}
use Rattle.forest_tables.specs.Formula.{joined, Shares}
use Rattle.forest_entries.proofs.Sides.{mem_at, connected_open}
use Rattle.path_check.specs.Paths.{clause_at, HasVariable, Shared, Acceptable}
use Rattle.path_check.proofs.Deciding.{tells_or, member_tells}

-- A clause that has a variable is below the count ...
pub in_count : (ls : List ℤ) (k v : ℕ) → HasVariable ls k v → k < length (clauses ls)
in_count ls k v h =
    by_cases (dec_lt k (length (clauses ls))) (λ l. l)
    (λ l. absurd (mathlib.Core.List.Memᴰ.not-nil (subst (λ c. Memᴰ v (map variable_of c)) (get_or-eq_default (clauses ls) [] {n = k} (omega arith)) h)))

-- ... and so is every clause of an acceptable path.
pub acceptable_below : {X : Variables} {ls : List ℤ} {x y : ℕ} {path : List ℕ} → Acceptable X ls x y path → (i : ℕ) → i < length path → at path i < length (clauses ls)
acceptable_below {ls = ls} {x = x} {path = path} a zero l = in_count ls (at path 0) x a.first
acceptable_below {ls = ls} {path = path} a (suc i) l = let s = a.neighbours i l in in_count ls (at path (suc i)) s.variable s.right

-- Two variables share a clause that connects exactly if some clause that is not always true has both.
pub shares_by : (ls : List ℤ) (k u v : ℕ) → always_true (clause_at ls k) ≡ false → HasVariable ls k u → HasVariable ls k v → Shares ls u v
unfolding joined
shares_by ls k u v plain hu hv =
    record {
      clause = connected (clause_at ls k);
      listed = mathlib.Core.List.Memᴰ.map connected ((mem_at [] (clause_at ls k) (clauses ls)).1 (k, in_count ls k u hu, refl));
      left = subst (Memᴰ u) (sym (connected_all (clause_at ls k) plain)) hu;
      right = subst (Memᴰ v) (sym (connected_all (clause_at ls k) plain)) hv;
    }

pub record Numbers (ls : List ℤ) (u v : ℕ) : Type 0 where
  pub number : ℕ
  pub plain : always_true (clause_at ls number) ≡ false
  pub left : HasVariable ls number u
  pub right : HasVariable ls number v

pub shares_number : {ls : List ℤ} {u v : ℕ} → Shares ls u v → Numbers ls u v
unfolding joined
shares_number {ls} {u} {v} j =
    let (clause, m, is) = mathlib.Core.List.Memᴰ.of_map connected (clauses ls) j.listed in
    let (k, l, q) = (mem_at [] clause (clauses ls)).0 m in
    let hu : Memᴰ u (connected clause) = subst (Memᴰ u) (sym is) j.left in
    let hv : Memᴰ v (connected clause) = subst (Memᴰ v) (sym is) j.right in
    let plain = connected_open clause u hu in
    let all = connected_all clause plain in
    record {
      number = k;
      plain = subst (λ c. always_true c ≡ false) (sym q) plain;
      left = subst (λ c. Memᴰ u (map variable_of c)) (sym q) (subst (Memᴰ u) all hu);
      right = subst (λ c. Memᴰ v (map variable_of c)) (sym q) (subst (Memᴰ v) all hv);
    }

pub deep_from : {X : Variables} {x v : ℕ} → Deeper X x v → From X (X.lev x) v
deep_from d = record { existential = d.existential; deep = let l = d.deep in omega arith }

module _ {X : Variables} {ls : List ℤ} {x : ℕ} where
  -- Every deep existential of a clause of an acceptable path is reached from x.
  pub path_reaches : {y : ℕ} {path : List ℕ} → Acceptable X ls x y path → (i : ℕ) → i < length path → (v : ℕ) → Deeper X x v → HasVariable ls (at path i) v
      → Reach (Shares ls) (From X (X.lev x)) x v
  path_reaches {path = path} a zero l v d h = step here (shares_by ls (at path 0) x v (a.not-true 0 l) a.first h) (deep_from d)
  path_reaches {path = path} a (suc i) l v d h =
      let s = a.neighbours i l in
      step (path_reaches a i (omega arith) s.variable s.deep s.left) (shares_by ls (at path (suc i)) s.variable v (a.not-true (suc i) l) s.right h) (deep_from d)

  -- A path of one clause, and one clause more.
  pub path_one : {z : ℕ} (n : Numbers ls x z) → Acceptable X ls x z (n.number ∷ [])
  path_one {z} n =
      record {
        some = omega arith;
        first = n.left;
        last = n.right;
        neighbours = λ i l. absurd (omega arith);
        not-true = λ i l. let q : i ≡ 0 = omega arith in subst (λ j. always_true (clause_at ls (at (n.number ∷ []) j)) ≡ false) (sym q) n.plain;
      }

  pub path_more : {u z : ℕ} {path : List ℕ} → Acceptable X ls x u path → Deeper X x u → (n : Numbers ls u z) → Acceptable X ls x z (path ++ (n.number ∷ []))
  path_more {u} {z} {path} a d n =
      let some = a.some in
      let size = length-append path (n.number ∷ []) in
      let end : length (path ++ (n.number ∷ [])) - 1 ≡ length path = omega arith in
      record {
        some = omega arith;
        first = subst (λ k. HasVariable ls k x) (sym (old 0 some)) a.first;
        last = subst (λ k. HasVariable ls k z) (sym (ap (at (path ++ (n.number ∷ []))) end ∙ new)) n.right;
        neighbours = λ i l.
            by_cases (dec_lt (suc i) (length path)) (λ less. subst₂ (Shared X ls x) (sym (old i (omega arith))) (sym (old (suc i) less)) (a.neighbours i less))
            (λ over. let q : suc i ≡ length path = omega arith in
            let p : i ≡ length path - 1 = omega arith in
            subst₂ (Shared X ls x) (sym (old i (omega arith) ∙ ap (at path) p)) (sym (ap (at (path ++ (n.number ∷ []))) q ∙ new))
            (record { variable = u; deep = d; left = a.last; right = n.left }));
        not-true = λ i l.
            by_cases (dec_lt i (length path)) (λ less. subst (λ k. always_true (clause_at ls k) ≡ false) (sym (old i less)) (a.not-true i less))
            (λ over. let q : i ≡ length path = omega arith in subst (λ k. always_true (clause_at ls k) ≡ false) (sym (ap (at (path ++ (n.number ∷ []))) q ∙ new)) n.plain);
      }
    where
      old : (i : ℕ) → i < length path → at (path ++ (n.number ∷ [])) i ≡ at path i
      old i l = get_or-append path (n.number ∷ []) 0 i l

      new : at (path ++ (n.number ∷ [])) (length path) ≡ n.number
      new = get_or-append_seam path n.number [] 0

-- A list with a number more that it did not have.
one_more : (list : List ℕ) (z : ℕ) → (Memᴰ z list → ⊥) → Numbered (λ v. Memᴰ v list) (length list) → Numbered (λ v. Memᴰ v (z ∷ list)) (length (z ∷ list))
one_more list z new m =
    let q : length list + 1 ≡ suc (length list) = omega arith in
    subst (Numbered (λ v. Memᴰ v (z ∷ list))) q (numbered_more z new (λ v. (mathlib.Core.List.Memᴰ.cases_cons, ⊎_elim (λ e. mathlib.Core.List.Memᴰ.head e) (λ n. mathlib.Core.List.Memᴰ.tail n))) m)

-- A walk from x that steps on no variable twice, by the variables stepped on, the last in front.
pub data Trail (J : ℕ → ℕ → Type 0) (E : ℕ → Type 0) (x : ℕ) : List ℕ → ℕ → Type 0 where
  start : {z : ℕ} → J x z → E z → Trail J E x (z ∷ []) z
  on : {list : List ℕ} {u z : ℕ} → Trail J E x list u → J u z → E z → (Memᴰ z list → ⊥) → Trail J E x (z ∷ list) z

module _ {J : ℕ → ℕ → Type 0} {E : ℕ → Type 0} {x : ℕ} where
  -- A walk goes to each variable that it steps on ...
  cut_back : {list : List ℕ} {u : ℕ} (w : ℕ) → Trail J E x list u → Memᴰ w list → (part : List ℕ) × Trail J E x part w
  cut_back w (start {z = z} j e) m = let q = mathlib.Core.List.Memᴰ.eq_of_singleton m in (z ∷ [], subst (Trail J E x (z ∷ [])) (sym q) (start j e))
  cut_back w (on {list = list} {z = z} t j e new) m = go (mathlib.Core.List.Memᴰ.cases_cons m) (λ n. cut_back w t n)
    where
      go : (w ≡ z) ⊎ Memᴰ w list → (Memᴰ w list → (part : List ℕ) × Trail J E x part w) → (part : List ℕ) × Trail J E x part w
      go (inl q) back = (z ∷ list, subst (Trail J E x (z ∷ list)) (sym q) (on t j e new))
      go (inr n) back = back n

  -- ... so that a walk goes to all that is reached but x itself.
  pub trail : {z : ℕ} → Reach J E x z → (z ≡ x) ⊎ ((list : List ℕ) × Trail J E x list z)
  trail here = inl refl
  trail (step {y = u} {z = z} r j e) = go (trail r)
    where
      go : (u ≡ x) ⊎ ((list : List ℕ) × Trail J E x list u) → (z ≡ x) ⊎ ((list : List ℕ) × Trail J E x list z)
      go (inl q) = inr (z ∷ [], start (subst (λ a. J a z) q j) e)
      go (inr (list, t)) = ⊎_elim (λ m. inr (cut_back z t m)) (λ new. inr (z ∷ list, on t j e new)) (tells_or (has z list) (member_tells z list))

  pub trail_ends : {list : List ℕ} {u : ℕ} → Trail J E x list u → E u
  trail_ends (start j e) = e
  trail_ends (on t j e new) = e

  trail_all : {list : List ℕ} {u : ℕ} → Trail J E x list u → (v : ℕ) → Memᴰ v list → E v
  trail_all (start j e) v m = subst E (sym (mathlib.Core.List.Memᴰ.eq_of_singleton m)) e
  trail_all (on t j e new) v m = ⊎_elim (λ q. subst E (sym q) e) (trail_all t v) (mathlib.Core.List.Memᴰ.cases_cons m)

  -- It steps on as many variables as its list is long ...
  trail_count : {list : List ℕ} {u : ℕ} → Trail J E x list u → Numbered (λ v. Memᴰ v list) (length list)
  trail_count (start {z = z} j e) = one_more [] z mathlib.Core.List.Memᴰ.not-nil (numbered_none (λ v. mathlib.Core.List.Memᴰ.not-nil))
  trail_count (on {list = list} {z = z} t j e new) = one_more list z new (trail_count t)

-- ... and so on no more than there are existentials.
pub trail_short : {X : Variables} {J : ℕ → ℕ → Type 0} {i x u : ℕ} {list : List ℕ} → Lawful X → Trail J (From X i) x list u → length list ≤ how_many X.ex X.count
trail_short {X} {list = list} lawful t =
    let within : (v : ℕ) → Memᴰ v list → (1 ≤ v) × (v ≤ X.count) = λ v m. let (a, b) = lawful.within v (trail_all t v m).existential in (a, b) in
    let same = numbered_one (trail_count t) (numbered_same (λ v. (λ p. has_member_lem list p.2, λ m. ((within v m).0, (within v m).1, member_has m))) (how_many_numbered (λ v. has v list) X.count)) in
    let most = how_many_less {f = λ v. has v list} {g = X.ex} (λ v h. (trail_all t v (has_member_lem list h)).existential) X.count in
    omega arith

-- A walk has an acceptable path of as many clauses.
pub trail_path : {X : Variables} {ls : List ℤ} {x u : ℕ} {list : List ℕ} → Universal X x → Trail (Shares ls) (From X (X.lev x)) x list u
    → (path : List ℕ) × Acceptable X ls x u path × (length path ≡ length list)
trail_path universal (start j e) = let n = shares_number j in (n.number ∷ [], path_one n, refl)
trail_path {X} {ls} {x} universal (on {list = list} {u = u} t j e new) =
    let (path, a, q) = trail_path universal t in
    let n = shares_number j in
    let f = trail_ends t in
    let other = universal.alone u f.existential in
    let deep : Deeper X x u = record { existential = f.existential; deep = let l = f.deep in omega arith } in
    (path ++ (n.number ∷ []), path_more a deep n, length-append path (n.number ∷ []) ∙ (let r : length path + 1 ≡ suc (length list) = omega arith in r))
