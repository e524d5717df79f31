-- The search: how it begins, what a clause that is entered changes, how it goes on to the next variable, and what it has found when none is left.
use Prim.Native.Nat.{ℕ, suc, ◌+◌, ◌≤◌, ◌<◌}
use mathlib.Core.Path.{◌≡◌, refl, sym, ap, subst, ◌∙◌}
use mathlib.Core.List.{List}
use mathlib.Core.Logic.{◌≢◌, inl, inr, ⊎_elim, by_cases}
use native.Mathlib.Decide.{ℕ_discrete, dec_lt}
use native.Mathlib.Omega.{arith}
use lib.ListN.{length, set, length-set}
use lib.Seq.{get_or-set_same, get_or-set_other}
use Rattle.formula.specs.Tables.{at}
use Rattle.path_explain.specs.InnerSearch.{Pushed, Searching, Kept}

pub kept_none : (dists rows queue : List ℕ) (tail : ℕ) → Kept dists rows queue tail dists rows queue tail
kept_none dists rows queue tail = record { clause = λ k _. refl; row = λ v _. refl; queue_kept = λ i _. refl; tail_kept = omega arith; size = refl }

pub kept_more : {dists rows queue dists' rows' queue' dists'' rows'' queue'' : List ℕ} {tail tail' tail'' : ℕ} → Kept dists rows queue tail dists' rows' queue' tail'
    → Kept dists' rows' queue' tail' dists'' rows'' queue'' tail'' → Kept dists rows queue tail dists'' rows'' queue'' tail''
kept_more a b =
    let one = a.tail_kept in
    let two = b.tail_kept in
    record {
      clause = λ k some. let q = a.clause k some in b.clause k (λ z. some (sym q ∙ z)) ∙ q;
      row = λ v some. let q = a.row v some in b.row v (λ z. some (sym q ∙ z)) ∙ q;
      queue_kept = λ i l. b.queue_kept i (omega arith) ∙ a.queue_kept i l;
      tail_kept = omega arith;
      size = b.size ∙ a.size;
    }

-- What is queued keeps its distance.
pub kept_at : {dists rows queue dists' rows' queue' : List ℕ} {tail tail' : ℕ} → Kept dists rows queue tail dists' rows' queue' tail' → (i : ℕ) → i < tail
    → at rows (at queue i) ≢ 0 → at rows' (at queue' i) ≡ at rows (at queue i)
kept_at {rows = rows} {queue} {rows' = rows'} k i l some = ap (at rows') (k.queue_kept i l) ∙ k.row (at queue i) some

-- A clause with no distance gets one, and its variables are pushed.
pub enter_own : (dists : List ℕ) (k d j : ℕ) → k < length dists → d ≢ 0 → j ≡ k → at (set dists k d) j ≢ 0
enter_own dists k d j less some e z = some (sym (ap (at (set dists k d)) e ∙ get_or-set_same dists k d 0 less) ∙ z)

module _ {P : ℕ → Type 0} (dists : List ℕ) {rows queue rows' queue' : List ℕ} {tail tail' row : ℕ} (k d : ℕ) (free : at dists k ≡ 0)
    (p : Pushed P row rows queue tail rows' queue' tail') where
  dist_kept : (j : ℕ) → at dists j ≢ 0 → at (set dists k d) j ≡ at dists j
  dist_kept j some = get_or-set_other dists k j d 0 (λ e. some (ap (at dists) e ∙ free))

  row_kept : (v : ℕ) → at rows v ≢ 0 → at rows' v ≡ at rows v
  row_kept v some = ⊎_elim (λ same. same) (λ new. absurd (some new.0)) (p.either v)

  pub enter_kept : Kept dists rows queue tail (set dists k d) rows' queue' tail'
  enter_kept = record { clause = dist_kept; row = row_kept; queue_kept = p.kept; tail_kept = p.more; size = length-set dists k d }

module _ {H : ℕ → ℕ → Type 0} {P : ℕ → Type 0} {y head d : ℕ} {dists rows queue : List ℕ} {tail : ℕ} (s : Searching H P y head d dists rows queue tail) where
  -- No row is more than one over the distance of the variables that are looked at.
  row_low : (v : ℕ) → at rows v ≤ suc d
  row_low v =
      by_cases (ℕ_discrete (at rows v) 0) (λ z. omega arith)
      (λ some. let (i, l, q) = s.queued v some in
      let is = ap (at rows) q in
      by_cases (dec_lt i s.border) (λ under. let low = s.low i under in omega arith) (λ over. let next = s.next i (omega arith) l in omega arith))

  -- What is looked at stands before the border.
  before_border : head < tail → at rows (at queue head) ≡ d → head < s.border
  before_border l q = by_cases (dec_lt head s.border) (λ under. under) (λ over. let next = s.next head (omega arith) l in absurd (omega arith))

  -- The clause of the variable that is looked at is entered.
  pub enter_search : {rows' queue' : List ℕ} {tail' k : ℕ} → at dists k ≡ 0 → k < length dists → head < tail → at rows (at queue head) ≡ d → H k (at queue head)
      → Pushed (λ v. H k v × P v) (suc d) rows queue tail rows' queue' tail' → Searching H P y head d (set dists k d) rows' queue' tail'
  enter_search {rows'} {queue'} {tail'} {k} free less under is has p =
      let more = p.more in
      let start = s.before in
      record {
        begun = row_kept dists k d free p y (λ z. let b = s.begun in omega arith) ∙ s.begun;
        clause_near = λ j some.
            by_cases (ℕ_discrete j k)
            (λ e. (at queue head, (s.row_near (at queue head) there).0, subst (λ i. H i (at queue head)) (sym e) has, kept (at queue head) there ∙ is ∙ sym (ap (at dists') e ∙ own)))
            (λ other. let q = other_dist j other in
            let (v, may, h, e) = s.clause_near j (λ z. some (q ∙ z)) in
            (v, may, h, kept v (λ z. some (q ∙ sym e ∙ z)) ∙ e ∙ sym q));
        row_near = λ v some.
            ⊎_elim (λ same. let (may, how) = s.row_near v (λ z. some (same ∙ z)) in (
              may,
              ⊎_elim (λ o. inl (o.0, same ∙ o.1))
                  (λ far. let (j, h, sm, q) = far in let e = dist_kept dists k d free p j sm in inr (j, h, (λ z. sm (sym e ∙ z)), same ∙ q ∙ ap suc (sym e))) how,
            ))
            (λ new. (new.1.1, inr (k, new.1.0, (λ z. let pos = s.some in let o = own in omega arith), new.2 ∙ ap suc (sym own)))) (p.either v);
        row_far = λ j v may h some.
            by_cases (ℕ_discrete j k)
            (λ e. (
              p.all v (subst (λ i. H i v) e h, may),
              let o = ap (at dists') e ∙ own in
                  ⊎_elim (λ same. let low = row_low v in omega arith) (λ new. let n = new.2 in omega arith) (p.either v),
            ))
            (λ other. let q = other_dist j other in
            let (sm, low) = s.row_far j v may h (λ z. some (q ∙ z)) in
            let e = kept v sm in
            ((λ z. sm (sym e ∙ z)), omega arith));
        clause_low = λ j.
            by_cases (ℕ_discrete j k) (λ e. let o = ap (at dists') e ∙ own in omega arith) (λ other. let q = other_dist j other in let low = s.clause_low j in omega arith);
        queued = λ v some. by_cases (ℕ_discrete (at rows v) 0) (λ z. p.queued v z some) (λ old. let (i, l, q) = s.queued v old in (i, omega arith, p.kept i l ∙ q));
        border = s.border;
        behind = s.behind;
        before = omega arith;
        low = λ i l. let e = same_row i (omega arith) in let low = s.low i l in omega arith;
        here = λ i low l. same_row i (omega arith) ∙ s.here i low l;
        next = λ i low l. by_cases (dec_lt i tail) (λ old. same_row i old ∙ s.next i low old) (λ new. p.new i (omega arith) l);
        done = λ i j l h.
            let b = s.behind in
            let e = same_row i (omega arith) in
            let (sm, low) = s.done i j l (subst (H j) (p.kept i (omega arith)) h) in
            let q = dist_kept dists k d free p j sm in
            ((λ z. sm (sym q ∙ z)), omega arith);
        some = s.some;
        few = s.few;
        filled = λ i l.
            by_cases (dec_lt i tail) (λ old z. s.filled i old (sym (same_row i old) ∙ z)) (λ new z. let n = p.new i (omega arith) l in omega arith);
      }
    where
      dists' : List ℕ
      dists' = set dists k d

      own : at (set dists k d) k ≡ d
      own = get_or-set_same dists k d 0 less

      other_dist : (j : ℕ) → j ≢ k → at (set dists k d) j ≡ at dists j
      other_dist j other = get_or-set_other dists k j d 0 other

      kept : (v : ℕ) → at rows v ≢ 0 → at rows' v ≡ at rows v
      kept = row_kept dists k d free p

      there : at rows (at queue head) ≢ 0
      there z = let pos = s.some in omega arith

      same_row : (i : ℕ) → i < tail → at rows' (at queue' i) ≡ at rows (at queue i)
      same_row i l = ap (at rows') (p.kept i l) ∙ kept (at queue i) (s.filled i l)

  -- All clauses of the variable are entered: it is done.
  pub next_search : head < tail → at rows (at queue head) ≡ d → ((k : ℕ) → H k (at queue head) → at dists k ≢ 0) → Searching H P y (head + 1) d dists rows queue tail
  next_search l is all =
      let under = before_border l is in
      record {
        begun = s.begun;
        clause_near = s.clause_near;
        row_near = s.row_near;
        row_far = s.row_far;
        clause_low = s.clause_low;
        queued = s.queued;
        border = s.border;
        behind = omega arith;
        before = s.before;
        low = s.low;
        here = λ i low. s.here i (omega arith);
        next = s.next;
        done = λ i k less h.
            by_cases (ℕ_discrete i head)
            (λ e. (all k (subst (λ j. H k (at queue j)) e h), let low = s.clause_low k in let q = ap (λ j. at rows (at queue j)) e in omega arith))
            (λ other. s.done i k (omega arith) h);
        some = s.some;
        few = s.few;
        filled = s.filled;
      }

  -- Where the border is reached, all that wait are one farther.
  pub shift_search : head < tail → (e : ℕ) × Searching H P y head e dists rows queue tail × (at rows (at queue head) ≡ e)
  shift_search l =
      by_cases (dec_lt head s.border) (λ under. (d, s, s.here head (omega arith) under))
      (λ over. let b = s.behind in
      let few' = s.few in (
        suc d,
        record {
          begun = s.begun;
          clause_near = s.clause_near;
          row_near = s.row_near;
          row_far = s.row_far;
          clause_low = λ k. let low = s.clause_low k in omega arith;
          queued = s.queued;
          border = tail;
          behind = omega arith;
          before = omega arith;
          low = λ i less. by_cases (dec_lt i s.border) (λ u. let low = s.low i u in omega arith) (λ o. let n = s.next i (omega arith) less in omega arith);
          here = λ i low less. s.next i (omega arith) less;
          next = λ i low less. absurd (omega arith);
          done = s.done;
          some = omega arith;
          few = omega arith;
          filled = s.filled;
        },
        s.next head (omega arith) l,
      ))

-- At first y waits alone.
pub search_start : {H : ℕ → ℕ → Type 0} {P : ℕ → Type 0} {y : ℕ} (dists rows queue : List ℕ) → P y → ((k : ℕ) → at dists k ≡ 0) → ((v : ℕ) → at rows v ≡ 0)
    → y < length rows → 0 < length queue → Searching H P (at (set queue 0 y) 0) 0 1 dists (set rows y 1) (set queue 0 y) 1
search_start {H} {P} {y} dists rows queue may none free less room =
    subst (λ w. Searching H P w 0 1 dists (set rows y 1) (set queue 0 y) 1) (sym front)
    (record {
      begun = own;
      clause_near = λ k some. absurd (some (none k));
      row_near = λ v some. by_cases (ℕ_discrete v y) (λ e. (subst P (sym e) may, inl (e, ap (at (set rows y 1)) e ∙ own))) (λ other. absurd (some (others v other)));
      row_far = λ k v may h some. absurd (some (none k));
      clause_low = λ k. let z = none k in omega arith;
      queued = λ v some. by_cases (ℕ_discrete v y) (λ e. (0, omega arith, front ∙ sym e)) (λ other. absurd (some (others v other)));
      border = 1;
      behind = omega arith;
      before = omega arith;
      low = λ i l. let q = at_front i l in omega arith;
      here = λ i low l. at_front i l;
      next = λ i low l. absurd (omega arith);
      done = λ i k l. absurd (omega arith);
      some = omega arith;
      few = omega arith;
      filled = λ i l. let q = at_front i l in omega arith;
    })
  where
    own : at (set rows y 1) y ≡ 1
    own = get_or-set_same rows y 1 0 less

    others : (v : ℕ) → v ≢ y → at (set rows y 1) v ≡ 0
    others v other = get_or-set_other rows y v 1 0 other ∙ free v

    front : at (set queue 0 y) 0 ≡ y
    front = get_or-set_same queue 0 y 0 room

    at_front : (i : ℕ) → i < 1 → at (set rows y 1) (at (set queue 0 y) i) ≡ 1
    at_front i l = let e : i ≡ 0 = omega arith in ap (λ j. at (set rows y 1) (at (set queue 0 y) j)) e ∙ ap (at (set rows y 1)) front ∙ own

-- The distance of what is looked at may be said otherwise.
pub search_row : {H : ℕ → ℕ → Type 0} {P : ℕ → Type 0} {y head d e : ℕ} {dists rows queue : List ℕ} {tail : ℕ} → d ≡ e → Searching H P y head d dists rows queue tail
    → Searching H P y head e dists rows queue tail
search_row {H} {P} {y} {head} {dists = dists} {rows} {queue} {tail} q s = subst (λ r. Searching H P y head r dists rows queue tail) q s
