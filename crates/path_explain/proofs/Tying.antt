-- The chains grow entry by entry: which clause an entry stands in, what is owned, and what is on the chain of its variable.
use Prim.Native.Nat.{ℕ, suc, ◌+◌, ◌-◌, ◌≤◌, ◌<◌}
use mathlib.Core.Path.{◌≡◌, refl, sym, ap, subst, ◌∙◌}
use mathlib.Core.Bool.{Bool, true, false}
use mathlib.Core.List.Memᴰ
use mathlib.Core.List.{List, Memᴰ}
use mathlib.Core.Logic.{◌≢◌, ◌⊎◌, inl, inr, ⊎_elim, ◌↔◌, by_cases}
use native.Mathlib.Decide.{ℕ_discrete, dec_lt}
use native.Mathlib.Numerals.{add-one}
use native.Mathlib.Omega.{arith}
use lib.IntN.{ℤ}
use lib.ListN.{length, set, length-set, drop_of_length-le}
use lib.Seq.{get_or-set_same, get_or-set_other}
use Rattle.terms.specs.Literals.{variable_of}
use Rattle.terms.specs.InnerPairs.{low_of, high_of}
use Rattle.formula.specs.InnerLookup.{NextZero}
use Rattle.formula.specs.Meaning.{clauses}
use Rattle.formula.specs.Tables.{at, literal_at, cut}
use Rattle.forest_entries.proofs.Flags.{clause_literal, next_none}
use Rattle.forest_entries.specs.declared.Signs.{Signs}
use Rattle.forest_tables.specs.Formula.{signed}
use Rattle.sets_occurrences.specs.InnerThreads.{On, link_at}
use Rattle.sets_occurrences.proofs.Chains.{on_here, on_later, on_cases, on_set, on_unset}
use Rattle.sets_occurrences.proofs.Followed.{next_from, closed_next}
use Rattle.path_check.specs.Paths.{clause_at, HasVariable}
use Rattle.path_check.proofs.Beginning.{begin_plain, begin_from}
use Rattle.path_explain.proofs.Counting.{Counted, counted_here, counted_less, counted_more}
use Rattle.path_check.proofs.Reached.{in_count}
use Rattle.path_explain.specs.Ways.{Opens}
use Rattle.path_explain.specs.InnerWays.{Before, HoldsBefore, OpensBefore, OpensBy, Owners}
use Rattle.path_explain.specs.InnerTies.{Plain, Holds, Laid, owner_at, Owns, Linked, Tied, Chain}

-- an entry that the clause k owns is a literal l
abbrev Standing : List ℤ → List ℕ → ℕ → ℤ → Type 0
Standing ls next k l = (e : ℕ) × (owner_at next e ≡ suc k) × (literal_at ls e ≡ l)

-- The entries before i are tied; entry i stands in the clause with this number, which begins with start.
pub record Tying (ls : List ℤ) (begins first next : List ℕ) (number start i : ℕ) : Type 0 where
  pub counted : Counted ls number start
  pub from : start ≤ i
  pub within : i ≤ length ls
  pub literals : (e : ℕ) → start ≤ e → e < i → variable_of (literal_at ls e) ≢ 0
  pub heads : length first ≡ 4097
  pub links : length next ≡ 16384
  pub owned : (e k : ℕ) → owner_at next e ≡ suc k → Owns ls k e × (e < i)
  pub past : (k : ℕ) (l : ℤ) → k < number → Plain ls k → Memᴰ l (clause_at ls k) → Standing ls next k l
  pub current : (e : ℕ) → start ≤ e → e < i → at begins number ≢ 0 → owner_at next e ≡ suc number
  pub sound : (v p : ℕ) → On next p (at first v) → Linked next ls v p × (p < i)
  pub on : (e k : ℕ) → owner_at next e ≡ suc k → On next e (at first (variable_of (literal_at ls e)))

-- A chain begins with an entry before i.
pub tying_low : {ls : List ℤ} {begins first next : List ℕ} {number start i : ℕ} → Tying ls begins first next number start i → (v : ℕ) → at first v ≤ i
tying_low {first = first} t v =
    by_cases (ℕ_discrete (at first v) 0) (λ z. omega arith) (λ s. let l = (t.sound v (at first v - 1) (on_here (at first v - 1) (omega arith))).1 in omega arith)

module _ {ls : List ℤ} {begins first next : List ℕ} {number start i : ℕ} (laid : Laid ls begins) (t : Tying ls begins first next number start i) (less : i < length ls) where
  -- Behind a 0 the next clause begins, and the one before it is tied whole.
  pub tying_zero : variable_of (literal_at ls i) ≡ 0 → Tying ls begins first next (number + 1) (i + 1) (i + 1)
  tying_zero z =
      record {
        counted = counted_more t.counted closes less;
        from = omega arith;
        within = omega arith;
        literals = λ e low high. absurd (omega arith);
        heads = t.heads;
        links = t.links;
        owned = λ e k q. let (owns, l) = t.owned e k q in (owns, omega arith);
        past = λ k l low plain m. by_cases (ℕ_discrete k number) (λ e. whole k l e plain m) (λ other. t.past k l (omega arith) plain m);
        current = λ e low high. absurd (omega arith);
        sound = λ v p o. let (linked, l) = t.sound v p o in (linked, omega arith);
        on = t.on;
      }
    where
      closes : NextZero ls start i
      closes = record { from = t.from; within = λ _. omega arith; literals = t.literals; closes = λ _. z }

      whole : (k : ℕ) (l : ℤ) → k ≡ number → Plain ls k → Memᴰ l (clause_at ls k) → Standing ls next k l
      whole k l e plain m =
          let own = begin_plain (laid.rows.rows number (counted_less t.counted closes less)) (subst (Plain ls) e plain) in
          let here = (clause_literal ls start i t.from (omega arith) l).0
          (subst (Memᴰ l) (sym (counted_here t.counted closes less)) (subst (λ j. Memᴰ l (clause_at ls j)) e m)) in
          (here.place, t.current here.place here.from here.before own ∙ ap suc (sym e), here.is)

  module _ (some : variable_of (literal_at ls i) ≢ 0) where
    -- The clause of entry i is closed behind it.
    closing : (z : ℕ) × NextZero ls start z × (z < length ls) × (i < z)
    closing =
        let from = t.from in
        let (z, next') = next_from ls (length ls - start) start (omega arith) in
        let closed = closed_next laid.closed (omega arith) next' in
        let low = next'.from in (
          z,
          next',
          closed,
          by_cases (dec_lt i z) (λ l. l)
              (λ l. by_cases (ℕ_discrete z i) (λ e. absurd (some (ap (λ j. variable_of (literal_at ls j)) (sym e) ∙ next_none next')))
              (λ other. absurd (t.literals z low (omega arith) (next_none next')))),
        )

    pub tying_number : number < length (clauses ls)
    tying_number = let (z, next', closed, _) = closing in counted_less t.counted next' closed

    literals_more : (e : ℕ) → start ≤ e → e < i + 1 → variable_of (literal_at ls e) ≢ 0
    literals_more e low high =
        by_cases (ℕ_discrete e i) (λ q. subst (λ j. variable_of (literal_at ls j) ≢ 0) (sym q) some) (λ other. t.literals e low (omega arith))

    -- An entry of a clause that is always true is not tied.
    pub tying_skip : at begins number ≡ 0 → Tying ls begins first next number start (i + 1)
    tying_skip idle =
        let from = t.from in
        record {
          counted = t.counted;
          from = omega arith;
          within = omega arith;
          literals = literals_more;
          heads = t.heads;
          links = t.links;
          owned = λ e k q. let (owns, l) = t.owned e k q in (owns, omega arith);
          past = t.past;
          current = λ e low high own. absurd (own idle);
          sound = λ v p o. let (linked, l) = t.sound v p o in (linked, omega arith);
          on = t.on;
        }

    -- Any other is put in front of the chain of its variable.
    module _ (row v last : ℕ) (plain : at begins number ≢ 0) (own : v ≡ variable_of (literal_at ls i)) (is_last : last ≡ at first v)
        (packed : (low_of row ≡ last) × (high_of row ≡ number + 1)) (room : v < length first) (room' : i < length next) where
      abbrev first' : List ℕ
      first' = set first v (i + 1)

      abbrev next'' : List ℕ
      next'' = set next i row

      head_own : at first' v ≡ suc i
      head_own = get_or-set_same first v (i + 1) 0 room ∙ add-one i

      head_other : (w : ℕ) → w ≢ v → at first' w ≡ at first w
      head_other w other = get_or-set_other first v w (i + 1) 0 other

      link_own : link_at next'' i ≡ at first v
      link_own = ap low_of (get_or-set_same next i row 0 room') ∙ packed.0 ∙ is_last

      owner_own : owner_at next'' i ≡ suc number
      owner_own = ap high_of (get_or-set_same next i row 0 room') ∙ packed.1 ∙ add-one number

      row_other : (p : ℕ) → p ≢ i → at next'' p ≡ at next p
      row_other p other = get_or-set_other next i p row 0 other

      before_all : (w r : ℕ) → On next r (at first w) → r < i
      before_all w r o = (t.sound w r o).1

      owns_here : Owns ls number i
      owns_here =
          let (z, next', closed, l) = closing in
          let (_, f) = begin_from (laid.rows.rows number tying_number) plain in
          record {
            within = less;
            plain = f.not-true;
            is = subst (Memᴰ (literal_at ls i)) (counted_here t.counted next' closed)
                ((clause_literal ls start z next'.from (omega arith) (literal_at ls i)).1 (record { place = i; from = t.from; before = l; is = refl }));
          }

      linked_still : {w p : ℕ} → p < i → Linked next ls w p → Linked next'' ls w p
      linked_still {w} {p} l linked =
          let q = row_other p (λ e. omega arith) in
          record { falls = subst (λ r. low_of r ≤ p) (sym q) linked.falls; owner = (linked.owner.0, ap high_of q ∙ linked.owner.1); is = linked.is }

      sound_own : (p : ℕ) → (p ≡ i) ⊎ On next'' p (link_at next'' i) → Linked next'' ls v p × (p < i + 1)
      sound_own p (inl e) = (
        record {
          falls = subst (λ j. link_at next'' j ≤ j) (sym e) (let q = link_own in let low = tying_low t v in omega arith);
          owner = (number, ap (owner_at next'') e ∙ owner_own);
          is = ap (λ j. variable_of (literal_at ls j)) e ∙ sym own;
        },
        omega arith,
      )
      sound_own p (inr o) = let (linked, l) = t.sound v p (on_unset row link_own (before_all v) o) in (linked_still l linked, omega arith)

      owner_cases : (e k : ℕ) → owner_at next'' e ≡ suc k → ((e ≡ i) × (k ≡ number)) ⊎ ((e ≢ i) × (owner_at next e ≡ suc k))
      owner_cases e k q =
          by_cases (ℕ_discrete e i) (λ here. inl (here, let a = ap (owner_at next'') here ∙ owner_own in omega arith))
          (λ other. inr (other, ap high_of (sym (row_other e other)) ∙ q))

      old_on : (w e : ℕ) → On next e (at first w) → On next'' e (at first' w)
      old_on w e o =
          let old : On next'' e (at first w) = on_set row (before_all w) o in
          by_cases (ℕ_discrete w v) (λ q. on_later i (ap (at first') q ∙ head_own) (subst (On next'' e) (ap (at first) q ∙ sym link_own) old))
          (λ other. subst (On next'' e) (sym (head_other w other)) old)

      pub tying_now : Tying ls begins first' next'' number start (i + 1)
      tying_now =
          let from = t.from in
          record {
            counted = t.counted;
            from = omega arith;
            within = omega arith;
            literals = literals_more;
            heads = length-set first v (i + 1) ∙ t.heads;
            links = length-set next i row ∙ t.links;
            owned = λ e k q.
                ⊎_elim (λ here. (subst (λ j. Owns ls j e) (sym here.1) (subst (Owns ls number) (sym here.0) owns_here), let e = here.0 in omega arith))
                (λ old. let (owns, l) = t.owned e k old.1 in (owns, omega arith)) (owner_cases e k q);
            past = λ k l low p m. let (e, q, is) = t.past k l low p m in let before = (t.owned e k q).1 in (e, ap high_of (row_other e (λ same. omega arith)) ∙ q, is);
            current = λ e low high begun. by_cases (ℕ_discrete e i) (λ here. ap (owner_at next'') here ∙ owner_own) (λ other. ap high_of (row_other e other) ∙ t.current e low (omega arith) begun);
            sound = λ w p o.
                by_cases (ℕ_discrete w v)
                (λ q. subst (λ u. Linked next'' ls u p × (p < i + 1)) (sym q) (sound_own p (on_cases i (ap (at first') q ∙ head_own) o)))
                (λ other. let (linked, l) = t.sound w p (on_unset row (head_other w other) (before_all w) o) in (linked_still l linked, omega arith));
            on = λ e k q.
                ⊎_elim (λ here. on_here e (ap (λ j. at first' (variable_of (literal_at ls j))) here.0 ∙ ap (at first') (sym own) ∙ head_own ∙ ap suc (sym here.0)))
                (λ old. old_on (variable_of (literal_at ls e)) e (t.on e k old.1)) (owner_cases e k q);
          }

-- At the end no clause is left open, so that every clause is tied whole.
pub tied_all : {ls : List ℤ} {begins first next : List ℕ} {number start i : ℕ} → Laid ls begins → Tying ls begins first next number start i → length ls ≤ i → Tied ls first next
unfolding clauses cut
tied_all {ls} {next = next} {number} {start} {i} laid t end =
    record {
      heads = t.heads;
      links = t.links;
      owned = λ e k q. (t.owned e k q).0;
      complete = λ k l plain m. t.past k l (let c = in_count ls k (variable_of l) (Memᴰ.map variable_of m) in let all = counted in omega arith) plain m;
      sound = λ v p o. (t.sound v p o).0;
      on = t.on;
    }
  where
    done : length ls ≤ start
    done =
        let from = t.from in
        let within = t.within in
        by_cases (dec_lt start (length ls))
        (λ l. let (z, next') = next_from ls (length ls - start) start (omega arith) in
        let closed = closed_next laid.closed l next' in
        absurd (t.literals z next'.from (omega arith) (next_none next')))
        (λ l. omega arith)

    counted : length (clauses ls) ≡ number
    counted = let whole = t.counted.whole in let none = ap (λ rest. length (clauses rest)) (drop_of_length-le ls done) in omega arith

module _ {ls : List ℤ} {first next : List ℕ} (t : Tied ls first next) where
  -- What is on the chain of a variable, ...
  pub tied_chain : length ls ≤ 16384 → (v : ℕ) → Chain ls next (at first v)
  tied_chain short v =
      record {
        size = t.links;
        falls = λ p o. let linked = t.sound v p o in let w = (t.owned p linked.owner.0 linked.owner.1).within in (omega arith, linked.falls);
        owned = λ p o. let (k, q) = (t.sound v p o).owner in (k, q, t.owned p k q);
      }

  -- ... and that every clause with the variable is on it.
  pub tied_holds : (k v : ℕ) → Holds ls k v → (p : ℕ) × On next p (at first v) × (owner_at next p ≡ suc k)
  tied_holds k v h =
      let (l, m, q) = Memᴰ.of_map variable_of (clause_at ls k) h.1 in
      let (e, owner, is) = t.complete k l h.0 m in
      (e, subst (λ w. On next e (at first w)) (ap variable_of is ∙ q) (t.on e k owner), owner)

  -- Owners are within a table with a row for each clause.
  pub tied_owners : {begins : List ℕ} → Laid ls begins → Owners next (length ls)
  tied_owners laid =
      let short = laid.sound.short in
      let size = t.links in (
        omega arith,
        λ e. by_cases (ℕ_discrete (owner_at next e) 0) (λ z. omega arith)
            (λ some. let owns = t.owned e (owner_at next e - 1) (omega arith) in
            let less = in_count ls (owner_at next e - 1) (variable_of (literal_at ls e)) (Memᴰ.map variable_of owns.is) in
            let few = laid.rows.few in
            omega arith),
      )

  -- What stands at some entry is what a clause that takes part has: a variable, ...
  pub holds_exactly : (v k : ℕ) → HoldsBefore ls next (length ls) v k ↔ Holds ls k v
  holds_exactly v k = (
    λ b. let owns = t.owned b.place k b.owner in (owns.plain, subst (HasVariable ls k) b.is (Memᴰ.map variable_of owns.is)),
    λ h. let (l, m, q) = Memᴰ.of_map variable_of (clause_at ls k) h.1 in
        let (e, owner, is) = t.complete k l h.0 m in
        record { place = e; before = (t.owned e k owner).within; owner = owner; is = ap variable_of is ∙ q },
  )

  -- ... and a literal of x with which a way may begin.
  pub opens_exactly : (signs : Signs) (x k : ℕ) → OpensBefore ls next signs x (length ls) k ↔ (Plain ls k × Opens signs ls x k)
  opens_exactly signs x k = (λ b. let owns = t.owned b.place k b.owner in (owns.plain, there signs owns.is b.is), λ h. back signs h.0 h.1)
    where
      there : (signs : Signs) {l : ℤ} → Memᴰ l (clause_at ls k) → OpensBy signs x l → Opens signs ls x k
      there Signs.Either m o = ⊎_elim (λ q. inl (subst (λ l. Memᴰ l (clause_at ls k)) q m)) (λ q. inr (subst (λ l. Memᴰ l (clause_at ls k)) q m)) o
      there Signs.Positive m q = subst (λ l. Memᴰ l (clause_at ls k)) q m
      there Signs.Negative m q = subst (λ l. Memᴰ l (clause_at ls k)) q m

      one : (sign : Bool) → Plain ls k → Memᴰ (signed sign x) (clause_at ls k) → Before (λ l. l ≡ signed sign x) ls next (length ls) k
      one sign plain m =
          let (e, owner, is) = t.complete k (signed sign x) plain m in
          record { place = e; before = (t.owned e k owner).within; owner = owner; is = is }

      wider : {R S : ℤ → Type 0} → ((l : ℤ) → R l → S l) → Before R ls next (length ls) k → Before S ls next (length ls) k
      wider f b = record { place = b.place; before = b.before; owner = b.owner; is = f (literal_at ls b.place) b.is }

      back : (signs : Signs) → Plain ls k → Opens signs ls x k → OpensBefore ls next signs x (length ls) k
      back Signs.Either plain o = ⊎_elim (λ m. wider (λ l. inl) (one true plain m)) (λ m. wider (λ l. inr) (one false plain m)) o
      back Signs.Positive plain m = one true plain m
      back Signs.Negative plain m = one false plain m
