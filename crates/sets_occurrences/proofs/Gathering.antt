-- The entries of all universals: gathered in one pass, and tied one after the other.
use Prim.Native.Nat.{ℕ, zero, suc, ◌+◌, ◌≤◌, ◌<◌}
use mathlib.Core.Path.{◌≡◌, refl, sym, ap, ◌∙◌, subst}
use mathlib.Core.Bool.{Bool, true, false, cond}
use mathlib.Core.List.{List, [], ◌∷◌}
use mathlib.Core.Logic.{◌≢◌, ◌⊎◌, inl, inr, by_cases}
use native.Mathlib.Decide.{ℕ_discrete, dec_lt}
use native.Mathlib.Omega.{arith}
use borrow.Author.Count.{below_more}
use borrow.Author.Tests.{eq-eqb, ne_eqb}
use lib.Dec.{eqb}
use lib.IntN.{ℤ}
use lib.ListN.{length, get_or, set}
use lib.Seq.{get_or-set_same, get_or-set_other}
use Rattle.terms.specs.Literals.{variable_of}
use Rattle.terms.specs.InnerLimits.{literal_rows}
use Rattle.terms.proofs.Common.{clash}
use Rattle.formula.specs.Tables.{literal_at, cut, push}
use Rattle.formula.specs.Meaning.{is_zero, blocks, has, names, mark_of, universal_of, is_universal}
use Rattle.formula.specs.InnerLevels.{Levelled}
use Rattle.formula.specs.InnerLookup.{NextZero, Stamps, SoundClauses}
use Rattle.formula.proofs.Signs.{stamps_more}
use Rattle.forest_entries.proofs.Flags.{next_none}
use Rattle.sets_occurrences.specs.InnerThreads.{Inside, Skipping, Recalled, Covered, marked, Gathered, Threaded}
use Rattle.sets_occurrences.proofs.Chains.{inside_one, threaded_none, threaded_jump, Passing, passing_zero, passing_more}

-- What is marked is a flagged variable, and no 0.
pub marked_flag : (universals : List Bool) (v : ℕ) → marked universals v ≡ true → get_or universals v false ≡ true
unfolding marked
marked_flag universals zero m = absurd (clash m refl)
marked_flag universals (suc v) m = m

pub marked_some : (universals : List Bool) (v : ℕ) → marked universals v ≡ true → v ≢ 0
unfolding marked
marked_some universals zero m q = clash m refl
marked_some universals (suc v) m q = omega arith

marked_of : (universals : List Bool) (v : ℕ) → v ≢ 0 → get_or universals v false ≡ true → marked universals v ≡ true
unfolding marked
marked_of universals zero some u = absurd (some refl)
marked_of universals (suc v) some u = u

pub marked_flags : (universals : List Bool) → get_or universals 0 false ≡ false → (v : ℕ) → marked universals v ≡ get_or universals v false
unfolding marked
marked_flags universals none zero = sym none
marked_flags universals none (suc v) = refl

-- No block of a prefix names 0, so that there is no flag for it.
abbrev NoZero : List (List ℕ) → Type 0
NoZero [] = Unit {0}
NoZero (block ∷ rest) = (has block 0 ≡ false) × NoZero rest

push_zero : (a : ℕ) → eqb a 0 ≡ false → (lists : List (List ℕ)) → NoZero lists → NoZero (push a lists)
push_zero a some [] r = r
push_zero a some (list ∷ lists) r = (ap (λ b. cond b true (has list 0)) some ∙ r.0, r.1)

cut_zero : (es : List ℕ) → NoZero (cut is_zero es)
unfolding cut
cut_zero [] = tt
cut_zero (a ∷ es) = go (eqb a 0) refl (cut_zero es)
  where
    go : (b : Bool) → eqb a 0 ≡ b → NoZero (cut is_zero es) → NoZero (cond b ([] ∷ cut is_zero es) (push a (cut is_zero es)))
    go true q r = (refl, r)
    go false q r = push_zero a q (cut is_zero es) r

names_zero : (block : List ℕ) → has block 0 ≡ false → names block 0 ≡ false
names_zero [] h = refl
names_zero (mark ∷ variables) h = go (eqb mark 0) h
  where
    go : (b : Bool) → cond b true (has variables 0) ≡ false → has variables 0 ≡ false
    go true q = absurd (clash refl q)
    go false q = q

said_zero : (lists : List (List ℕ)) → NoZero lists → universal_of lists 0 ≡ false
said_zero [] r = refl
said_zero (block ∷ rest) r = ap (λ b. cond b (eqb (mark_of block) 2) (universal_of rest 0)) (names_zero block r.0) ∙ said_zero rest r.1

universal_zero : (es : List ℕ) → is_universal es 0 ≡ false
unfolding is_universal blocks
universal_zero es = said_zero (cut is_zero es) (cut_zero es)

-- The flags of a level table are for all variables of the clauses.
pub levelled_covers : {es levels : List ℕ} {universals : List Bool} {ls : List ℤ} → Levelled es levels universals → SoundClauses ls → Covered ls universals
levelled_covers {es} levelled sound =
    record {
      rows = λ e l. let row = sound.rows e l in let size = levelled.sizes.1 in omega arith;
      none = levelled.universal_is 0 (omega arith) ∙ universal_zero es;
    }

-- Gathering: none at first, and one entry more, stored in any case.
pub gathered_none : (ls : List ℤ) (universals : List Bool) (places starts : List ℕ) → Gathered ls universals places starts 0 0
gathered_none ls universals places starts =
    record {
      few = omega arith;
      before = λ j l. absurd (omega arith);
      universal = λ j l. absurd (omega arith);
      inside = λ j l. absurd (omega arith);
      rises = λ j k l m. absurd (omega arith);
      complete = λ p l m. absurd (omega arith);
    }

module _ {ls : List ℤ} {universals : List Bool} {places starts : List ℕ} {count i : ℕ} (g : Gathered ls universals places starts count i)
    (start : ℕ) (room : count < length places) (room' : count < length starts) where
  abbrev places' : List ℕ
  places' = set places count i

  abbrev starts' : List ℕ
  starts' = set starts count start

  place_kept : (j : ℕ) → j < count → get_or places' j 0 ≡ get_or places j 0
  place_kept j l = get_or-set_other places count j i 0 (λ q. omega arith)

  place_own : get_or places' count 0 ≡ i
  place_own = get_or-set_same places count i 0 room

  old_before : (j : ℕ) → j < count → get_or places' j 0 < i + 1
  old_before j l = let same = place_kept j l in let b = g.before j l in omega arith

  old_universal : (j : ℕ) → j < count → marked universals (variable_of (literal_at ls (get_or places' j 0))) ≡ true
  old_universal j l = subst (λ p. marked universals (variable_of (literal_at ls p)) ≡ true) (sym (place_kept j l)) (g.universal j l)

  old_inside : (j : ℕ) → j < count → Inside ls (get_or starts' j 0) (get_or places' j 0)
  old_inside j l =
      subst (λ s. Inside ls s (get_or places' j 0)) (sym (get_or-set_other starts count j start 0 (λ q. omega arith)))
      (subst (Inside ls (get_or starts j 0)) (sym (place_kept j l)) (g.inside j l))

  old_rises : (j k : ℕ) → j < k → k < count → get_or places' j 0 < get_or places' k 0
  old_rises j k l m = let low = place_kept j (omega arith) in let high = place_kept k m in let r = g.rises j k l m in omega arith

  old_complete : (p : ℕ) → p < i → marked universals (variable_of (literal_at ls p)) ≡ true → (j : ℕ) × (j < count) × (get_or places' j 0 ≡ p)
  old_complete p l m = let (j, less, is) = g.complete p l m in (j, less, place_kept j less ∙ is)

  gathered_not : marked universals (variable_of (literal_at ls i)) ≡ false → Gathered ls universals places' starts' count (i + 1)
  gathered_not none =
      record {
        few = let f = g.few in omega arith;
        before = old_before;
        universal = old_universal;
        inside = old_inside;
        rises = old_rises;
        complete =
            λ p l m. by_cases (ℕ_discrete p i) (λ q. absurd (clash m (ap (λ e. marked universals (variable_of (literal_at ls e))) q ∙ none)))
            (λ other. old_complete p (omega arith) m);
      }

  gathered_one : marked universals (variable_of (literal_at ls i)) ≡ true → Inside ls start i → Gathered ls universals places' starts' (count + 1) (i + 1)
  gathered_one is within =
      record {
        few = let f = g.few in omega arith;
        before = below_more (λ j. get_or places' j 0 < i + 1) count old_before (let own = place_own in omega arith);
        universal =
            below_more (λ j. marked universals (variable_of (literal_at ls (get_or places' j 0))) ≡ true) count old_universal
            (subst (λ p. marked universals (variable_of (literal_at ls p)) ≡ true) (sym place_own) is);
        inside =
            below_more (λ j. Inside ls (get_or starts' j 0) (get_or places' j 0)) count old_inside
            (subst (λ s. Inside ls s (get_or places' count 0)) (sym (get_or-set_same starts count start 0 room')) (subst (Inside ls start) (sym place_own) within));
        rises = λ j k l m. by_cases (dec_lt k count) (λ less. old_rises j k l less)
            (λ over. let q : k ≡ count = omega arith in let high : get_or places' k 0
            ≡ get_or places' count 0 = ap (λ c. get_or places' c 0) q in
            let own = place_own in
            let low = place_kept j (omega arith) in
            let b = g.before j (omega arith) in
            omega arith);
        complete =
            λ p l m. by_cases (ℕ_discrete p i) (λ q. (count, omega arith, place_own ∙ sym q))
            (λ other. let (j, less, at) = old_complete p (omega arith) m in (j, omega arith, at));
      }

  pub gathered_more : (b : Bool) → marked universals (variable_of (literal_at ls i)) ≡ b → (b ≡ true → Inside ls start i)
      → Gathered ls universals places' starts' (count + cond b 1 0) (i + 1)
  gathered_more true is within = gathered_one is (within refl)
  gathered_more false is within = let q : count ≡ count + 0 = omega arith in subst (λ k. Gathered ls universals places' starts' k (i + 1)) q (gathered_not is)

-- Where the clause of the next entry begins.
pub passing_begun : {ls : List ℤ} {start i : ℕ} → Passing ls start i → i < length ls
    → Passing ls (cond (eqb (variable_of (literal_at ls i)) 0) (i + 1) start) (i + 1)
passing_begun {ls} {start} {i} p l =
    by_cases (ℕ_discrete (variable_of (literal_at ls i)) 0)
    (λ z. subst (λ b. Passing ls (cond b (i + 1) start) (i + 1)) (sym (eq-eqb (variable_of (literal_at ls i)) 0 z)) (passing_zero p l z))
    (λ some. subst (λ b. Passing ls (cond b (i + 1) start) (i + 1)) (sym (ne_eqb (variable_of (literal_at ls i)) 0 some)) (passing_more p l some))

-- Tying: the gathered entries before j are tied, and all entries before the next of them are passed.
pub record Tying (ls : List ℤ) (universals : List Bool) (places heads next : List ℕ) (count j : ℕ) : Type 0 where
  pub upto : ℕ
  pub most : upto ≤ length ls
  pub threaded : Threaded ls universals heads next upto
  pub ahead : (b : ℕ) → j ≤ b → b < count → upto ≤ get_or places b 0
  pub behind : (b : ℕ) → b < j → get_or places b 0 < upto

pub tying_none : (ls : List ℤ) (universals : List Bool) (places heads next : List ℕ) (count : ℕ) → ((x : ℕ) → get_or heads x 0 ≡ 0)
    → Tying ls universals places heads next count 0
tying_none ls universals places heads next count none =
    record {
      upto = 0;
      most = omega arith;
      threaded = threaded_none ls universals heads next none;
      ahead = λ b low l. omega arith;
      behind = λ b l. absurd (omega arith);
    }

module _ {ls : List ℤ} {universals : List Bool} {places starts : List ℕ} {count : ℕ} (g : Gathered ls universals places starts count (length ls)) where
  -- entries that are gathered later stand later
  place_from : (j b : ℕ) → j ≤ b → b < count → get_or places j 0 ≤ get_or places b 0
  place_from j b low l =
      by_cases (dec_lt j b) (λ m. let r = g.rises j b m l in omega arith)
      (λ m. let q : j ≡ b = omega arith in let same : get_or places j 0 ≡ get_or places b 0 = ap (λ c. get_or places c 0) q in omega arith)

  module _ {heads next : List ℕ} {j : ℕ} (t : Tying ls universals places heads next count j) where
    -- no universal stands before the next entry that is gathered
    gap : (k : ℕ) → k ≤ length ls → ((b : ℕ) → j ≤ b → b < count → k ≤ get_or places b 0) → (p : ℕ) → t.upto ≤ p → p < k
        → variable_of (literal_at ls p) ≢ 0 → get_or universals (variable_of (literal_at ls p)) false ≡ true → ⊥
    gap k within all p low high some u =
        let (b, less, is) = g.complete p (omega arith) (marked_of universals (variable_of (literal_at ls p)) some u) in
        by_cases (dec_lt b j) (λ past. let l = t.behind b past in omega arith) (λ l. let h = all b (omega arith) less in omega arith)

    pub tying_here : j < count → Threaded ls universals heads next (get_or places j 0)
    tying_here less =
        threaded_jump t.threaded (get_or places j 0) (t.ahead j (omega arith) less)
        (gap (get_or places j 0) (let b = g.before j less in omega arith) (place_from j))

    pub tying_end : count ≤ j → Threaded ls universals heads next (length ls)
    tying_end done = threaded_jump t.threaded (length ls) t.most (gap (length ls) (omega arith) (λ b low l. absurd (omega arith)))

  pub tying_more : {heads next : List ℕ} (j : ℕ) → j < count → Threaded ls universals heads next (get_or places j 0 + 1)
      → Tying ls universals places heads next count (j + 1)
  tying_more j less after =
      record {
        upto = get_or places j 0 + 1;
        most = let b = g.before j less in omega arith;
        threaded = after;
        ahead = λ b low l. let r = g.rises j b (omega arith) l in omega arith;
        behind = λ b l. let r = place_from b j (omega arith) less in omega arith;
      }

-- The clause that was judged last: none at first, and then one with an entry before all that are still to be tied.
abbrev pub Judging : List ℤ → List ℕ → ℕ → ℕ → Bool → List ℕ → ℕ → Type 0
Judging ls places count judged skip seen j =
    ((judged ≡ length ls) × Stamps seen 1)
    ⊎ (Skipping ls judged skip seen × ((q : ℕ) × Inside ls judged q × ((b : ℕ) → j ≤ b → b < count → q < get_or places b 0)))

pub judging_size : (ls : List ℤ) (places : List ℕ) (count judged : ℕ) (skip : Bool) (seen : List ℕ) (j : ℕ)
    → Judging ls places count judged skip seen j → length seen ≡ literal_rows
judging_size ls places count judged skip seen j (inl (none, stamps)) = stamps.size
judging_size ls places count judged skip seen j (inr (skips, later)) = skips.stamps.size

-- Another clause that has a later entry begins behind the 0 of this one.
later_start : {ls : List ℤ} {s t p q z : ℕ} → Inside ls s q → Inside ls t p → NextZero ls s z → q < p → t ≢ s → z < t
later_start {ls} {s} {t} {p} {q} {z} i k next l other =
    by_cases (dec_lt z t) (λ g. g)
    (λ low. by_cases (dec_lt p z) (λ b. absurd (other (inside_one k (same b))))
    (λ b. absurd (k.literals z (omega arith) (omega arith) (next_none next))))
  where
    same : p < z → Inside ls s p
    same b = let f = i.from in record { begins = i.begins; from = omega arith; literals = λ e f g. next.literals e f (omega arith) }

pub judging_recalled : (ls : List ℤ) (places : List ℕ) (count judged : ℕ) (skip : Bool) (seen : List ℕ) (j start : ℕ)
    → Judging ls places count judged skip seen j → j < count → Inside ls start (get_or places j 0) → get_or places j 0 < length ls
    → Recalled ls start judged skip seen
judging_recalled ls places count judged skip seen j start (inl (none, stamps)) less inside within =
    (λ q. absurd (let f = inside.from in omega arith), λ _. stamps_more stamps (omega arith))
judging_recalled ls places count judged skip seen j start (inr (skips, (q, own, later))) less inside within = (
  λ same. subst (λ s. Skipping ls s skip seen) (sym same) skips,
  λ other. stamps_more skips.stamps (let l = later_start own inside skips.next (later j (omega arith) less) other in omega arith),
)

pub judging_more : {ls : List ℤ} {universals : List Bool} {places starts : List ℕ} {count : ℕ}
    (g : Gathered ls universals places starts count (length ls)) (start : ℕ) (skip : Bool) (seen : List ℕ) (j : ℕ) → j < count → Inside ls
    start (get_or places j 0) → Skipping ls start skip seen
    → Judging ls places count start skip seen (j + 1)
judging_more {places = places} g start skip seen j less inside skips = inr (skips, (get_or places j 0, inside, λ b low l. g.rises j b (omega arith) l))
