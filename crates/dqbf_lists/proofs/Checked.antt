-- What the scan of a table of lists knows at entry i, how one entry more is scanned, and that a fault found there is the first.
use Prim.Native.Nat.{ℕ, zero, suc, ◌≤◌, ◌<◌, ◌+◌, ◌-◌}
use mathlib.Core.Path.{◌≡◌, refl, sym, ap, ◌∙◌, subst}
use mathlib.Core.Bool.{Bool, true, false}
use mathlib.Core.List.{List}
use mathlib.Core.Logic.{◌⊎◌, inl, inr, ⊎_elim, ◌≢◌, by_cases}
use native.Mathlib.Decide.{ℕ_discrete, dec_le, dec_lt}
use native.Mathlib.Numerals.{add-one}
use native.Mathlib.Omega.{arith}
use borrow.Author.Tests.{eq-eqb, ne_eqb, eqb-true}
use lib.ListN.{length, get_or, set, length-set}
use lib.Seq.{get_or-set_same, get_or-set_other}
use Rattle.terms.specs.Refusals.{First, None}
use Rattle.terms.proofs.Common.{below_suc, clash}
use Rattle.terms.proofs.Verdicts.{first_at}
use Rattle.formula.specs.Tables.{at, opens, MarkAt, VariableAt, NearestMark, EndsInside}
use Rattle.formula.proofs.Scanned.{open_end}
use Rattle.forest_tables.specs.Formula.{universal}
use Rattle.forest_tables.specs.InnerTabled.{universal_in}
use Rattle.forest_tables.proofs.Agreeing.{universal_within}
use Rattle.forest_tables.proofs.Readings.{flag_within}
use Rattle.dqbf_lists.specs.Lists.{Bound}
use Rattle.dqbf_lists.specs.Causes.{ListCause, outside, in_block, listed_before, no_universal, twice, ends_inside}
use Rattle.dqbf_lists.specs.Inner.{Places, MayOpen, PassedTo, none_passed, one_passed, Passes}

-- Where no list opens, the last one that opened stays the last.
pub last_stays : (ds : List ℕ) (m i : ℕ) → opens ds i ≡ false → NearestMark ds m i → NearestMark ds m (suc i)
last_stays ds m i shut mark =
    let none = below_suc (λ c. m < c → opens ds c ≡ false) i (λ c lt a. mark.2 c a lt) (λ _. shut) in
    (let l = mark.0 in omega arith, mark.1, λ c after before. none c before after)

-- what the level table has as universal is one of 1 to n
pub in_row : (n : ℕ) (universals : List Bool) (x : ℕ) → universal_in n universals x ≡ true → x ≤ n
unfolding universal_in
in_row n universals x u = (flag_within n x (get_or universals x false) u).1

-- no cause stands at entry e
abbrev Clean : ℕ → List ℕ → List ℕ → ℕ → Type 0
Clean n es ds e = (number : ℕ) → ListCause n es ds number e → ⊥

-- a list of v opens before entry i
abbrev OpenedBefore : List ℕ → ℕ → ℕ → Type 0
OpenedBefore ds i v = (b : ℕ) × (b < i) × MarkAt ds b × (at ds b ≡ v)

-- Every entry before i is without fault, and the scan's tables say what stands before i: what is placed, and the place behind the last entry of each
-- universal.
pub record Checked (n : ℕ) (es ds : List ℕ) (i : ℕ) (opening : Bool) (placed : List Bool) (last : List ℕ) : Type 0 where
  pub within : i ≤ length ds
  pub clean : (e : ℕ) → e < i → Clean n es ds e
  pub opening_is : opening ≡ opens ds i
  pub sizes : (length placed ≡ 4097) × (length last ≡ 4097)
  pub placed_each : (v : ℕ) → get_or placed v false ≡ true → Bound es v ⊎ OpenedBefore ds i v
  pub placed_block : (v : ℕ) → Bound es v → get_or placed v false ≡ true
  pub placed_list : (b : ℕ) → b < i → MarkAt ds b → get_or placed (at ds b) false ≡ true
  pub last_each : (v : ℕ) → get_or last v 0 ≢ 0 → (b : ℕ) × (get_or last v 0 ≡ suc b) × (b < i) × VariableAt ds b × (at ds b ≡ v)
  pub last_all : (b : ℕ) → b < i → VariableAt ds b → suc b ≤ get_or last (at ds b) 0

pub check_none : (n : ℕ) (es ds : List ℕ) (placed : List Bool) (last : List ℕ) → Places es placed → length last ≡ 4097 → ((v : ℕ) → get_or last v 0 ≡ 0)
    → Checked n es ds 0 true placed last
check_none n es ds placed last places size blank =
    record {
      within = omega arith;
      clean = λ e l. absurd (omega arith);
      opening_is = refl;
      sizes = (places.size, size);
      placed_each = λ v t. inl (places.each v t);
      placed_block = places.all;
      placed_list = λ b l. absurd (omega arith);
      last_each = λ v some. absurd (some (blank v));
      last_all = λ b l. absurd (omega arith);
    }

module _ {n : ℕ} {es ds : List ℕ} {i : ℕ} {opening : Bool} {placed : List Bool} {last : List ℕ} (s : Checked n es ds i opening placed last)
    (more : i < length ds) where
  -- what is known of entries before this one is known before the next
  opened_later : (v : ℕ) → Bound es v ⊎ OpenedBefore ds i v → Bound es v ⊎ OpenedBefore ds (suc i) v
  opened_later v (inl b) = inl b
  opened_later v (inr (b, l, m, q)) = inr (b, omega arith, m, q)

  last_later : (v : ℕ) → get_or last v 0 ≢ 0 → (b : ℕ) × (get_or last v 0 ≡ suc b) × (b < suc i) × VariableAt ds b × (at ds b ≡ v)
  last_later v some = let (b, is, l, var, q) = s.last_each v some in (b, is, omega arith, var, q)

  -- What can be wrong at this entry, by the kind of its place, in the scan's own terms.
  at_open : opens ds i ≡ true → (k : ℕ) → ListCause n es ds k i
      → (k ≡ 25) × (((at ds i ≡ 0) ⊎ (n < at ds i)) ⊎ (get_or placed (at ds i) false ≡ true))
  at_open open' k (outside q m w) = (q, inl w)
  at_open open' k (in_block q m b) = (q, inr (s.placed_block (at ds i) b))
  at_open open' k (listed_before b q m l mb same) = (q, inr (sym (ap (λ v. get_or placed v false) same) ∙ s.placed_list b l mb))
  at_open open' k (no_universal _ v _) = absurd (clash open' v.1)
  at_open open' k (twice _ _ v _ _ _) = absurd (clash open' v.1)
  at_open open' k (ends_inside _ q _) = absurd (omega arith)

  at_close : opens ds i ≡ false → at ds i ≡ 0 → Clean n es ds i
  at_close shut none k (outside _ m _) = clash m.1 shut
  at_close shut none k (in_block _ m _) = clash m.1 shut
  at_close shut none k (listed_before _ _ m _ _ _) = clash m.1 shut
  at_close shut none k (no_universal _ v _) = v.2 none
  at_close shut none k (twice _ _ v _ _ _) = v.2 none
  at_close shut none k (ends_inside _ q _) = omega arith

  -- An existential that may open a list: it is placed from now on.
  pub check_open : opening ≡ true → MayOpen n placed (at ds i) → n ≤ 4096 → Checked n es ds (i + 1) false (set placed (at ds i) true) last
  check_open opened (some, inside, new) few =
      rw (add-one i)
      record {
        within = more;
        clean = below_suc (Clean n es ds) i s.clean
            (λ k cause. ⊎_elim (⊎_elim some (λ over. omega arith)) (λ t. clash t new) (at_open open' k cause).1);
        opening_is = sym (ne_eqb (at ds i) 0 some);
        sizes = (length-set placed (at ds i) true ∙ s.sizes.0, s.sizes.1);
        placed_each = λ v t. by_dec v t (ℕ_discrete v (at ds i));
        placed_block = λ v b. kept v (s.placed_block v b) (ℕ_discrete v (at ds i));
        placed_list = below_suc (λ b. MarkAt ds b → get_or placed' (at ds b) false ≡ true) i
            (λ b l m. kept (at ds b) (s.placed_list b l m) (ℕ_discrete (at ds b) (at ds i))) (λ _. stored);
        last_each = last_later;
        last_all = below_suc (λ b. VariableAt ds b → suc b ≤ get_or last (at ds b) 0) i s.last_all (λ var. absurd (clash open' var.1));
      }
    where
      open' : opens ds i ≡ true
      open' = sym s.opening_is ∙ opened

      placed' : List Bool
      placed' = set placed (at ds i) true

      stored : get_or placed' (at ds i) false ≡ true
      stored = get_or-set_same placed (at ds i) true false (let q = s.sizes.0 in omega arith)

      kept : (v : ℕ) → get_or placed v false ≡ true → Dec (v ≡ at ds i) → get_or placed' v false ≡ true
      kept v t (yes q) = ap (λ w. get_or placed' w false) q ∙ stored
      kept v t (no other) = get_or-set_other placed (at ds i) v true false other ∙ t

      by_dec : (v : ℕ) → get_or placed' v false ≡ true → Dec (v ≡ at ds i) → Bound es v ⊎ OpenedBefore ds (suc i) v
      by_dec v t (yes q) = inr (i, omega arith, (more, open'), sym q)
      by_dec v t (no other) = opened_later v (s.placed_each v (sym (get_or-set_other placed (at ds i) v true false other) ∙ t))

  -- A 0 that closes a list.
  pub check_close : opening ≡ false → at ds i ≡ 0 → Checked n es ds (i + 1) true placed last
  check_close shut none =
      let shut' = sym s.opening_is ∙ shut in
      rw (add-one i)
      record {
        within = more;
        clean = below_suc (Clean n es ds) i s.clean (at_close shut' none);
        opening_is = sym (eq-eqb (at ds i) 0 none);
        sizes = s.sizes;
        placed_each = λ v t. opened_later v (s.placed_each v t);
        placed_block = s.placed_block;
        placed_list = below_suc (λ b. MarkAt ds b → get_or placed (at ds b) false ≡ true) i s.placed_list (λ m. absurd (clash m.1 shut'));
        last_each = last_later;
        last_all = below_suc (λ b. VariableAt ds b → suc b ≤ get_or last (at ds b) 0) i s.last_all (λ var. absurd (var.2 none));
      }

  -- An entry that may not open a list is the first cause: all before it is clean, and no lower number has a cause here.
  pub fault_open : opening ≡ true → (MayOpen n placed (at ds i) → ⊥) → First (ListCause n es ds) 25 i
  fault_open opened bad =
      by_cases (ℕ_discrete (at ds i) 0) (λ z. range (inl z))
      (λ some. by_cases (dec_lt n (at ds i)) (λ over. range (inr over)) (λ low. go (get_or placed (at ds i) false) refl some (omega arith)))
    where
      open' : opens ds i ≡ true
      open' = sym s.opening_is ∙ opened

      here : ListCause n es ds 25 i → First (ListCause n es ds) 25 i
      here cause = first_at s.clean cause (λ k other. let q = (at_open open' k other).0 in omega arith)

      range : (at ds i ≡ 0) ⊎ (n < at ds i) → First (ListCause n es ds) 25 i
      range w = here (outside refl (more, open') w)

      go : (b : Bool) → get_or placed (at ds i) false ≡ b → at ds i ≢ 0 → at ds i ≤ n → First (ListCause n es ds) 25 i
      go true t some low =
          ⊎_elim (λ b. here (in_block refl (more, open') b)) (λ h. let (b, l, m, q) = h in here (listed_before b refl (more, open') l m q))
          (s.placed_each (at ds i) t)
      go false q some low = absurd (bad (some, low, q))

  -- Inside the list that opened at m.
  module _ (shut : opening ≡ false) {m : ℕ} (mark : NearestMark ds m i) where
    shut' : opens ds i ≡ false
    shut' = sym s.opening_is ∙ shut

    -- the entries from m on are of one list
    one_list : (b : ℕ) → m ≤ b → b < i → (c : ℕ) → b < c → c ≤ i → opens ds c ≡ false
    one_list b from l c after upto = by_cases (ℕ_discrete c i) (λ e. ap (opens ds) e ∙ shut') (λ other. mark.2 c (omega arith) (omega arith))

    at_x : at ds i ≢ 0 → (k : ℕ) → ListCause n es ds k i → (k ≡ 26) × ((universal n es (at ds i) ≡ false) ⊎ (suc m < get_or last (at ds i) 0))
    at_x some k (outside _ o _) = absurd (clash o.1 shut')
    at_x some k (in_block _ o _) = absurd (clash o.1 shut')
    at_x some k (listed_before _ _ o _ _ _) = absurd (clash o.1 shut')
    at_x some k (no_universal q _ u) = (q, inl u)
    at_x some k (twice b q _ one var same) = (q, inr again)
      where
        again : suc m < get_or last (at ds i) 0
        again =
            by_cases (dec_lt m b) (λ l. let over = subst (λ (v : ℕ). suc b ≤ get_or last v 0) same (s.last_all b one.0 var) in omega arith)
            (λ l. by_cases (ℕ_discrete b m) (λ e. absurd (clash mark.1 (ap (opens ds) (sym e) ∙ var.1)))
            (λ other. absurd (clash mark.1 (one.1 m (omega arith) (let k = mark.0 in omega arith)))))
    at_x some k (ends_inside _ q _) = absurd (omega arith)

    -- A universal that its list does not have yet: its last entry is this one from now on.
    pub check_x : universal n es (at ds i) ≡ true → n ≤ 4096 → get_or last (at ds i) 0 ≤ suc m
        → Checked n es ds (i + 1) false placed (set last (at ds i) (i + 1))
    check_x u few new =
        rw (add-one i)
        record {
          within = more;
          clean = below_suc (Clean n es ds) i s.clean (λ k cause. ⊎_elim (λ f. clash u f) (λ over. omega arith) (at_x some k cause).1);
          opening_is = sym (ne_eqb (at ds i) 0 some);
          sizes = (s.sizes.0, length-set last (at ds i) (suc i) ∙ s.sizes.1);
          placed_each = λ v t. opened_later v (s.placed_each v t);
          placed_block = s.placed_block;
          placed_list = below_suc (λ b. MarkAt ds b → get_or placed (at ds b) false ≡ true) i s.placed_list (λ o. absurd (clash o.1 shut'));
          last_each = λ v t. by_dec v t (ℕ_discrete v (at ds i));
          last_all = below_suc (λ b. VariableAt ds b → suc b ≤ get_or last' (at ds b) 0) i
              (λ b l var. later b l (s.last_all b l var) (ℕ_discrete (at ds b) (at ds i))) (λ _. let q = stored in omega arith);
        }
      where
        some : at ds i ≢ 0
        some z = let (a, b, t) = universal_within n es (at ds i) u in omega arith

        last' : List ℕ
        last' = set last (at ds i) (suc i)

        stored : get_or last' (at ds i) 0 ≡ suc i
        stored = get_or-set_same last (at ds i) (suc i) 0 (let q = s.sizes.1 in let (a, b, t) = universal_within n es (at ds i) u in omega arith)

        later : (b : ℕ) → b < i → suc b ≤ get_or last (at ds b) 0 → Dec (at ds b ≡ at ds i) → suc b ≤ get_or last' (at ds b) 0
        later b l over (yes q) = let e = ap (λ (w : ℕ). get_or last' w 0) q ∙ stored in omega arith
        later b l over (no other) = let e = get_or-set_other last (at ds i) (at ds b) (suc i) 0 other in omega arith

        by_dec : (v : ℕ) → get_or last' v 0 ≢ 0 → Dec (v ≡ at ds i)
            → (b : ℕ) × (get_or last' v 0 ≡ suc b) × (b < suc i) × VariableAt ds b × (at ds b ≡ v)
        by_dec v t (yes q) = (i, ap (λ (w : ℕ). get_or last' w 0) q ∙ stored, omega arith, (more, shut', some), sym q)
        by_dec v t (no other) =
            let e = get_or-set_other last (at ds i) v (suc i) 0 other in
            let (b, is, l, var, q) = last_later v (λ z. t (e ∙ z)) in
            (b, e ∙ is, l, var, q)

    -- An entry that is neither the 0 of its list nor a universal that may follow is the first cause.
    pub fault_x : at ds i ≢ 0 → ((universal n es (at ds i) ≡ true) × (get_or last (at ds i) 0 ≤ suc m) → ⊥) → First (ListCause n es ds) 26 i
    fault_x some bad = go (universal n es (at ds i)) refl
      where
        here : ListCause n es ds 26 i → First (ListCause n es ds) 26 i
        here cause = first_at s.clean cause (λ k other. let q = (at_x some k other).0 in omega arith)

        again : suc m < get_or last (at ds i) 0 → First (ListCause n es ds) 26 i
        again over =
            let (b, at_b, l, var, q) = s.last_each (at ds i) (λ z. omega arith) in
            here (twice b refl (more, shut', some) (l, one_list b (omega arith) l) var q)

        go : (b : Bool) → universal n es (at ds i) ≡ b → First (ListCause n es ds) 26 i
        go false u = here (no_universal refl (more, shut', some) u)
        go true u = by_cases (dec_le (get_or last (at ds i) 0) (suc m)) (λ l. absurd (bad (u, l))) (λ over. again (omega arith))

-- The table ends inside a list exactly if no list could open at its end.
shut_end : (ds : List ℕ) (m : ℕ) → length ds ≡ m → opens ds m ≡ true → EndsInside 0 ds → ⊥
shut_end ds zero q open' (some, last) = omega arith
shut_end ds (suc m) q open' (some, last) = last (ap (at ds) (let e : length ds - 1 ≡ m = omega arith in e) ∙ eqb-true (at ds m) 0 open')

at_entry : {n : ℕ} {es ds : List ℕ} (k e : ℕ) → ListCause n es ds k e → (e < length ds) ⊎ ((k ≡ 11) × EndsInside 0 ds)
at_entry k e (outside _ m _) = inl m.0
at_entry k e (in_block _ m _) = inl m.0
at_entry k e (listed_before _ _ m _ _ _) = inl m.0
at_entry k e (no_universal _ v _) = inl v.0
at_entry k e (twice _ _ v _ _ _) = inl v.0
at_entry k e (ends_inside q p inside) = inr (q, inside)

module _ {n : ℕ} {es ds : List ℕ} {i : ℕ} {opening : Bool} {placed : List Bool} {last : List ℕ} (s : Checked n es ds i opening placed last)
    (done : length ds ≤ i) where
  end : length ds ≡ i
  end = let w = s.within in omega arith

  pub none_in_lists : opening ≡ true → None (ListCause n es ds)
  none_in_lists open' k e cause =
      ⊎_elim (λ l. s.clean e (omega arith) k cause) (λ w. shut_end ds i end (sym s.opening_is ∙ open') w.1) (at_entry k e cause)

  pub fault_at_end : opening ≡ false → First (ListCause n es ds) 11 i
  fault_at_end shut =
      first_at s.clean (ends_inside refl (sym end) (open_end ds i end (sym s.opening_is ∙ shut)))
      (λ k cause. ⊎_elim (λ l. absurd (let q = end in omega arith)) (λ w. let q = w.0 in omega arith) (at_entry k i cause))

-- inside the list that opened at m
abbrev Inside : ℕ → List ℕ → List ℕ → List Bool → ℕ → ℕ → List ℕ → Type 0
Inside n es ds placed m i last = Checked n es ds i false placed last × NearestMark ds m i

-- A whole list: once its existential is passed, its universals are passed one by one, and then it ends.
module _ {n : ℕ} {es ds : List ℕ} {universals placed : List Bool} (few : n ≤ 4096) (same : (v : ℕ) → universal_in n universals v ≡ universal n es v) where
  passed_inside : {m : ℕ} {last : List ℕ} {e : ℕ} {last' : List ℕ} → Inside n es ds placed m (m + 1) last → PassedTo n universals ds (m + 1) last e last'
      → Inside n es ds placed m e last'
  passed_inside inside none_passed = inside
  passed_inside {m} inside (one_passed e passed more (u, new)) =
      let (s, mark) = passed_inside inside passed in
      let mark' = last_stays ds m e (sym s.opening_is) mark in
      (check_x s more refl mark (sym (same (at ds e)) ∙ u) few (omega arith), subst (NearestMark ds m) (sym (add-one e)) mark')

  module _ (m : ℕ) {end : ℕ} {last last' : List ℕ} (opened : Checked n es ds (m + 1) false placed last) (was : opens ds m ≡ true)
      (p : Passes n universals ds (m + 1) last last' end) where
    inside : Inside n es ds placed m end last'
    inside =
        let mark : NearestMark ds m (m + 1) = (omega arith, was, λ c after before. absurd (omega arith)) in
        passed_inside (opened, mark) p.passed

    -- with the table
    pub list_unclosed : length ds ≤ end → First (ListCause n es ds) 11 end
    list_unclosed done = fault_at_end inside.0 done refl

    -- at an entry with which something is wrong
    pub list_fault : end < length ds → at ds end ≢ 0 → First (ListCause n es ds) 26 end
    list_fault more some =
        let (s, mark) = inside in
        fault_x s more refl mark some
        (λ may. let low = may.1 in p.stops more (same (at ds end) ∙ may.0, omega arith))

    -- at the 0 that closes it
    pub list_closed : end < length ds → at ds end ≡ 0 → Checked n es ds (end + 1) true placed last'
    list_closed more none = check_close inside.0 more refl none
