-- The chains that tie a universal to its clauses: in which clause an entry stands, and how the chains grow entry by entry.
use Prim.Native.Nat.{ℕ, suc, ◌+◌, ◌-◌, ◌≤◌, ◌<◌}
use mathlib.Core.Path.{◌≡◌, refl, sym, ap, ◌∙◌, subst}
use mathlib.Core.Bool.{Bool, true, false}
use mathlib.Core.List.{List}
use mathlib.Core.Logic.{◌≢◌, ◌⊎◌, inl, inr, by_cases}
use native.Mathlib.Decide.{ℕ_discrete, dec_lt}
use native.Mathlib.Numerals.{add-one}
use native.Mathlib.Omega.{arith}
use lib.IntN.{ℤ}
use lib.ListN.{length, get_or, set, take, drop}
use lib.Seq.{get_or-set_same, get_or-set_other}
use Rattle.terms.specs.Literals.{variable_of}
use Rattle.terms.specs.InnerPairs.{low_of, high_of}
use Rattle.terms.proofs.Common.{clash}
use Rattle.formula.specs.Tables.{literal_at}
use Rattle.formula.specs.Meaning.{always_true}
use Rattle.formula.specs.InnerLookup.{NextZero}
use Rattle.sets_occurrences.specs.InnerThreads.{LastZero, Begins, first, after, Inside, Connecting, Skipping, link_at, start_at, On, here, later, Noted, Threaded}
use Rattle.forest_entries.proofs.Flags.{next_one}

-- A clause begins with the first entry or behind a 0, so that an entry stands in one clause, which the last 0 before it opens.
opens_at : {ls : List ℤ} {s : ℕ} → Begins ls s → (s ≡ 0) ⊎ (variable_of (literal_at ls (s - 1)) ≡ 0)
opens_at (first q) = inl q
opens_at {ls} {s} (after b z _ next l q) = inr (let e : s - 1 ≡ z = omega arith in ap (λ i. variable_of (literal_at ls i)) e ∙ next.closes l)

not_before : (ls : List ℤ) {s t p : ℕ} → (t ≡ 0) ⊎ (variable_of (literal_at ls (t - 1)) ≡ 0) → s < t → t ≤ p
    → ((e : ℕ) → s ≤ e → e < p → variable_of (literal_at ls e) ≢ 0) → ⊥
not_before ls (inl z) l m literals = omega arith
not_before ls {t = t} (inr q) l m literals = literals (t - 1) (omega arith) (omega arith) q

pub last_one : {ls : List ℤ} {s t p : ℕ} → Inside ls s p → LastZero ls p t → s ≡ t
last_one {ls} {s = s} {t = t} i l =
    by_cases (dec_lt s t) (λ a. absurd (not_before ls l.opens a l.most (λ e f g. i.literals e f (omega arith))))
    (λ a. by_cases (dec_lt t s) (λ b. absurd (not_before ls (opens_at i.begins) b i.from l.literals)) (λ b. omega arith))

inside_last : {ls : List ℤ} {s p : ℕ} → Inside ls s p → LastZero ls p s
inside_last i = record { most = i.from; literals = λ e f g. i.literals e f (omega arith); opens = opens_at i.begins }

pub inside_one : {ls : List ℤ} {s t p : ℕ} → Inside ls s p → Inside ls t p → s ≡ t
inside_one i j = last_one i (inside_last j)

-- an entry between the first of a clause and one of it is of it too
pub inside_between : {ls : List ℤ} {s p : ℕ} (q : ℕ) → Inside ls s p → s ≤ q → q ≤ p → Inside ls s q
inside_between q i low high = record { begins = i.begins; from = low; literals = λ e f g. i.literals e f (omega arith) }

-- Chains: what is on one, and one entry more in front.
pub on_some : {next : List ℕ} {p k : ℕ} → On next p k → k ≢ 0
on_some here z = omega arith
on_some (later o) z = omega arith

pub on_here : {next : List ℕ} (p : ℕ) {k : ℕ} → k ≡ suc p → On next p k
on_here {next} p q = subst (On next p) (sym q) here

pub on_later : {next : List ℕ} {p k : ℕ} (q : ℕ) → k ≡ suc q → On next p (link_at next q) → On next p k
on_later {next} {p} q e o = subst (On next p) (sym e) (later o)

pub on_cases : {next : List ℕ} {p k : ℕ} (q : ℕ) → k ≡ suc q → On next p k → (p ≡ q) ⊎ On next p (link_at next q)
on_cases q e here = inl (omega arith)
on_cases {next} {p} q e (later {q = r} o) = let same : r ≡ q = omega arith in inr (subst (λ i. On next p (link_at next i)) same o)

pub on_set : {next : List ℕ} {p k i : ℕ} (a : ℕ) → ((r : ℕ) → On next r k → r < i) → On next p k → On (set next i a) p k
on_set a all here = here
on_set {next} {p} {k} {i} a all (later {q = q} o) =
    let less = all q here in
    later (subst (On (set next i a) p) (sym (ap low_of (get_or-set_other next i q a 0 (λ e. omega arith)))) (on_set a (λ r o'. all r (later o')) o))

pub on_unset : {next : List ℕ} {p i : ℕ} (a : ℕ) {k j : ℕ} → k ≡ j → ((r : ℕ) → On next r j → r < i) → On (set next i a) p k → On next p j
on_unset {p = p} a e all here = on_here p (sym e)
on_unset {next} {p} {i} a {k} {j} e all (later {q = q} o) =
    let less = all q (on_here q (sym e)) in
    on_later q (sym e) (on_unset a (ap low_of (get_or-set_other next i q a 0 (λ e. omega arith))) (λ r o'. all r (on_later q (sym e) o')) o)

-- The tables at first, past entries of no universal, and past one of a universal: in a clause that is always true, in one that it is tied to, and in
-- one that it is tied to now.
pub threaded_none : (ls : List ℤ) (universals : List Bool) (heads next : List ℕ) → ((x : ℕ) → get_or heads x 0 ≡ 0) → Threaded ls universals heads next 0
threaded_none ls universals heads next none = record { sound = λ x p o. absurd (on_some o (none x)); complete = λ x s p u l. absurd (omega arith) }

noted_more : {ls : List ℤ} {next : List ℕ} {i x p : ℕ} (k : ℕ) → i ≤ k → Noted ls next i x p → Noted ls next k x p
noted_more k low n =
    record {
      before = let l = n.before in omega arith;
      falls = n.falls;
      start = n.start;
      begun = n.begun;
      inside = n.inside;
      connecting = n.connecting;
      is = n.is;
    }

module _ {ls : List ℤ} {universals : List Bool} {heads next : List ℕ} {i : ℕ} (t : Threaded ls universals heads next i) where
  -- nothing to be tied at entry i
  pass_entry : ((x s : ℕ) → get_or universals x false ≡ true → Inside ls s i → Connecting ls s → variable_of (literal_at ls i) ≡ x
      → (q : ℕ) × On next q (get_or heads x 0) × Inside ls s q) → Threaded ls universals heads next (i + 1)
  pass_entry done =
      record {
        sound = λ x p o. noted_more (i + 1) (omega arith) (t.sound x p o);
        complete =
            λ x s p u l inside plain is. by_cases (ℕ_discrete p i)
            (λ q. done x s u (subst (Inside ls s) q inside) plain (ap (λ e. variable_of (literal_at ls e)) (sym q) ∙ is))
            (λ other. t.complete x s p u (omega arith) inside plain is);
      }

  -- no entry from i up to k is of a universal
  pub threaded_jump : (k : ℕ) → i ≤ k
      → ((p : ℕ) → i ≤ p → p < k → variable_of (literal_at ls p) ≢ 0 → get_or universals (variable_of (literal_at ls p)) false ≡ true → ⊥)
      → Threaded ls universals heads next k
  threaded_jump k low none =
      record {
        sound = λ x p o. noted_more k low (t.sound x p o);
        complete =
            λ x s p u l inside plain is. by_cases (dec_lt p i) (λ before. t.complete x s p u before inside plain is)
            (λ over. absurd (none p (omega arith) l (inside.literals p inside.from (omega arith)) (ap (λ w. get_or universals w false) is ∙ u)));
      }

  -- an entry of a clause that is always true
  pub threaded_skip : {start : ℕ} {skip : Bool} {seen : List ℕ} → Inside ls start i → Skipping ls start skip seen → skip ≡ true
      → Threaded ls universals heads next (i + 1)
  threaded_skip {start} inside' skips yes' =
      pass_entry (λ x s u inside plain is. absurd (clash (sym skips.told ∙ yes') (same (inside_one inside inside') plain)))
    where
      same : {s : ℕ} → s ≡ start → Connecting ls s → always_true (take (skips.end - start) (drop start ls)) ≡ false
      same q plain =
          let (z, next, connects) = subst (Connecting ls) q plain in
          subst (λ e. always_true (take (e - start) (drop start ls)) ≡ false) (next_one next skips.next) connects

  module _ (v : ℕ) (own : v ≡ variable_of (literal_at ls i)) where
    pub threaded_tied : (start last : ℕ) → Inside ls start i → last ≡ get_or heads v 0 → start < last → Threaded ls universals heads next (i + 1)
    threaded_tied start last inside' is_last l = pass_entry tied
      where
        tied : (x s : ℕ) → get_or universals x false ≡ true → Inside ls s i → Connecting ls s → variable_of (literal_at ls i) ≡ x
            → (q : ℕ) × On next q (get_or heads x 0) × Inside ls s q
        tied x s u inside plain is =
            let q = last - 1 in
            let same : s ≡ start = inside_one inside inside' in
            let on : On next q (get_or heads x 0) = on_here q
            (let e : last ≡ suc (last - 1) = omega arith in ap (λ w. get_or heads w 0) (sym (own ∙ is)) ∙ sym is_last ∙ e) in
            let less = (t.sound x q on).before in
            (q, on, inside_between q inside (omega arith) (omega arith))

    -- the new entry in front of the chain of its variable, with a row that holds what comes after it and the start of its clause
    module _ (start last row : ℕ) (inside' : Inside ls start i) (connecting' : Connecting ls start) (is_last : last ≡ get_or heads v 0) (low : last ≤ start)
        (packed : (low_of row ≡ last) × (high_of row ≡ start)) (room : v < length heads) (room' : i < length next) where
      abbrev heads' : List ℕ
      heads' = set heads v (i + 1)

      abbrev next' : List ℕ
      next' = set next i row

      head_own : get_or heads' v 0 ≡ suc i
      head_own = get_or-set_same heads v (i + 1) 0 room ∙ add-one i

      link_own : link_at next' i ≡ get_or heads v 0
      link_own = ap low_of (get_or-set_same next i row 0 room') ∙ packed.0 ∙ is_last

      start_own : start_at next' i ≡ start
      start_own = ap high_of (get_or-set_same next i row 0 room') ∙ packed.1

      before_all : (x r : ℕ) → On next r (get_or heads x 0) → r < i
      before_all x r o = (t.sound x r o).before

      row_other : (p : ℕ) → p < i → get_or next' p 0 ≡ get_or next p 0
      row_other p l = get_or-set_other next i p row 0 (λ q. omega arith)

      noted_still : {x p : ℕ} → Noted ls next i x p → Noted ls next' (i + 1) x p
      noted_still {x} {p} n =
          record {
            before = let l = n.before in omega arith;
            falls = subst (λ r. low_of r ≤ p) (sym (row_other p n.before)) n.falls;
            start = n.start;
            begun = ap high_of (row_other p n.before) ∙ n.begun;
            inside = n.inside;
            connecting = n.connecting;
            is = n.is;
          }

      -- the chain of another variable is as it was
      head_other : (x : ℕ) → x ≢ v → get_or heads' x 0 ≡ get_or heads x 0
      head_other x other = get_or-set_other heads v x (i + 1) 0 other

      sound_own : (p : ℕ) → (p ≡ i) ⊎ On next' p (link_at next' i) → Noted ls next' (i + 1) v p
      sound_own p (inl q) =
          record {
            before = omega arith;
            falls = subst (λ e. link_at next' e ≤ e) (sym q) (let k = link_own in let f = inside'.from in omega arith);
            start = start;
            begun = ap (start_at next') q ∙ start_own;
            inside = subst (Inside ls start) (sym q) inside';
            connecting = connecting';
            is = ap (λ e. variable_of (literal_at ls e)) q ∙ sym own;
          }
      sound_own p (inr o) = noted_still (t.sound v p (on_unset row link_own (before_all v) o))

      pub threaded_now : Threaded ls universals heads' next' (i + 1)
      threaded_now = record { sound = sound'; complete = complete' }
        where
          sound' : (x p : ℕ) → On next' p (get_or heads' x 0) → Noted ls next' (i + 1) x p
          sound' x p o =
              by_cases (ℕ_discrete x v)
              (λ q. subst (λ w. Noted ls next' (i + 1) w p) (sym q) (sound_own p (on_cases i (ap (λ w. get_or heads' w 0) q ∙ head_own) o)))
              (λ other. noted_still (t.sound x p (on_unset row (head_other x other) (before_all x) o)))

          complete' : (x s p : ℕ) → get_or universals x false ≡ true → p < i + 1 → Inside ls s p → Connecting ls s
              → variable_of (literal_at ls p) ≡ x → (q : ℕ) × On next' q (get_or heads' x 0) × Inside ls s q
          complete' x s p u l inside plain is =
              by_cases (ℕ_discrete p i)
              (λ q.
              (i, on_here i (ap (λ w. get_or heads' w 0) (sym is ∙ ap (λ e. variable_of (literal_at ls e)) q ∙ sym own) ∙ head_own), subst (Inside ls s) q inside))
              (λ other.
              let (q, on, in') = t.complete x s p u (omega arith) inside plain is in
              let old : On next' q (get_or heads x 0) = on_set row (before_all x) on in
              by_cases (ℕ_discrete x v)
              (λ e. (q, on_later i (ap (λ w. get_or heads' w 0) e ∙ head_own) (subst (On next' q) (ap (λ w. get_or heads w 0) e ∙ sym link_own) old), in'))
              (λ e. (q, subst (On next' q) (sym (head_other x e)) old, in')))

-- What the pass knows of the clause that it is in.
pub record Passing (ls : List ℤ) (start i : ℕ) : Type 0 where
  pub begins : Begins ls start
  pub from : start ≤ i
  pub within : i ≤ length ls
  pub literals : (e : ℕ) → e < i → start ≤ e → variable_of (literal_at ls e) ≢ 0

pub passing_none : (ls : List ℤ) → Passing ls 0 0
passing_none ls = record { begins = first refl; from = omega arith; within = omega arith; literals = λ e l. absurd (omega arith) }

module _ {ls : List ℤ} {start i : ℕ} (p : Passing ls start i) (l : i < length ls) where
  pub passing_next : variable_of (literal_at ls i) ≡ 0 → NextZero ls start i
  passing_next z = record { from = p.from; within = λ _. p.within; literals = λ e f g. p.literals e g f; closes = λ _. z }

  pub passing_zero : variable_of (literal_at ls i) ≡ 0 → Passing ls (i + 1) (i + 1)
  passing_zero z =
      record {
        begins = after start i p.begins (passing_next z) l refl;
        from = omega arith;
        within = omega arith;
        literals = λ e g f. absurd (omega arith);
      }

  module _ (some : variable_of (literal_at ls i) ≢ 0) where
    pub passing_inside : Inside ls start i
    passing_inside =
        record {
          begins = p.begins;
          from = p.from;
          literals =
              λ e f g. by_cases (ℕ_discrete e i) (λ q. subst (λ j. variable_of (literal_at ls j) ≢ 0) (sym q) some) (λ other. p.literals e (omega arith) f);
        }

    pub passing_more : Passing ls start (i + 1)
    passing_more =
        record {
          begins = p.begins;
          from = let low = p.from in omega arith;
          within = omega arith;
          literals = λ e g f. passing_inside.literals e f (omega arith);
        }
