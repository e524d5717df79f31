-- What the scan of a prefix knows at entry i, how one entry more is scanned, and that a fault found there is the first.
use Prim.Native.Nat.{ℕ, zero, suc, ◌≤◌, ◌<◌, ◌+◌, ◌-◌}
use mathlib.Core.Path.{◌≡◌, refl, sym, ap, ◌∙◌, subst}
use mathlib.Core.Bool.{Bool, true, false, cond}
use mathlib.Core.List.{List}
use mathlib.Core.Logic.{◌⊎◌, inl, inr, ⊎_elim, ◌≢◌}
use native.Mathlib.Nat.{eq-or-lt_of_le, le_of_suc-le-suc}
use native.Mathlib.Numerals.{add-one}
use native.Mathlib.Omega.{arith}
use borrow.Author.Tests.{eq-eqb, ne_eqb, eqb-true, eqb-false}
use lib.ListN.{length, get_or, set, replicate}
use Rattle.terms.specs.Refusals.{First, None}
use Rattle.terms.proofs.Common.{below_suc, clash}
use Rattle.terms.proofs.Verdicts.{first_at}
use Rattle.formula.specs.Tables.{at, opens, NearestMark, marks_before, EndsInside}
use Rattle.formula.specs.Causes.{PrefixCause, ends_inside, no_mark, same_mark, too_many_blocks, outside, named_before, empty_block}
use Rattle.formula.specs.InnerScan.{IsMark, MarkFault, NameFault, NamedTo, no_name, one_name, NamesEnd, closed, faulty, unclosed}
use Rattle.formula.proofs.Named.{Named, named_none, named_skip, named_more}

-- entry i comes directly after a mark
abbrev pub after_mark : List ℕ → ℕ → Bool
after_mark es zero = false
after_mark es (suc e) = opens es e

-- no cause stands at entry e
abbrev Clean : ℕ → List ℕ → ℕ → Type 0
Clean n es e = (number : ℕ) → PrefixCause n es number e → ⊥

-- Every entry before i is without fault, and the scan's variables say what stands before i.
pub record Scanned (n : ℕ) (es : List ℕ) (i : ℕ) (opening fresh : Bool) (mark count : ℕ) (named : List Bool) : Type 0 where
  pub within : i ≤ length es
  pub clean : (e : ℕ) → e < i → (number : ℕ) → PrefixCause n es number e → ⊥
  pub opening_is : opening ≡ opens es i
  pub fresh_is : fresh ≡ after_mark es i
  pub mark_is : (b : ℕ) → NearestMark es b i → at es b ≡ mark
  pub mark_there : mark ≢ 0 → (b : ℕ) × NearestMark es b i × (at es b ≡ mark)
  pub counted : count ≡ marks_before es i
  pub few : count ≤ 64
  pub naming : Named es i named

-- a number from 1 to 2 is a mark
pub is_mark : (entry : ℕ) → 1 ≤ entry → entry < 3 → IsMark entry
is_mark entry low high = ⊎_elim (λ q. inr q) (λ l. inl (omega arith)) (eq-or-lt_of_le (le_of_suc-le-suc high))

-- a mark for which no refusal number is given is sound
mark_fine : {entry before count number : ℕ} → MarkFault entry before count number → number ≡ 0 → IsMark entry × (entry ≢ before) × (count ≢ 64)
mark_fine (MarkFault.fine _ good other few) none = (good, other, few)
mark_fine (MarkFault.no_mark q _ _) none = absurd (omega arith)
mark_fine (MarkFault.same_mark q _ _) none = absurd (omega arith)
mark_fine (MarkFault.too_many q _ _ _) none = absurd (omega arith)

-- The last mark before the next entry is this entry, if it opens a block, and else the last mark before it.
last_is_here : (es : List ℕ) (i b : ℕ) → opens es i ≡ true → NearestMark es b (suc i) → b ≡ i
last_is_here es i b open' last = ⊎_elim (λ q. q) (λ lt. absurd (clash open' (last.2 i lt (omega arith)))) (eq-or-lt_of_le (le_of_suc-le-suc last.0))

last_is_before : (es : List ℕ) (i b : ℕ) → opens es i ≡ false → NearestMark es b (suc i) → NearestMark es b i
last_is_before es i b shut last =
    ⊎_elim (λ q. absurd (clash last.1 (ap (opens es) q ∙ shut))) (λ lt. (lt, last.1, λ c after before. last.2 c after (omega arith)))
    (eq-or-lt_of_le (le_of_suc-le-suc last.0))

last_stays : (es : List ℕ) (i b : ℕ) → opens es i ≡ false → NearestMark es b i → NearestMark es b (suc i)
last_stays es i b shut last =
    let l = last.0 in
    let none = below_suc (λ c. b < c → opens es c ≡ false) i (λ c lt after. last.2 c after lt) (λ _. shut) in
    (omega arith, last.1, λ c after before. none c before after)

module _ {n : ℕ} {es : List ℕ} {i : ℕ} {opening fresh : Bool} {mark count : ℕ} {named : List Bool} (s : Scanned n es i opening fresh mark count named)
    (more : i < length es) where
  -- What can be wrong at this entry, by the kind of its place, in the scan's own terms.
  at_mark : opens es i ≡ true → (k : ℕ) → PrefixCause n es k i
      → ((k ≡ 4) × (at es i ≢ 1) × (at es i ≢ 2)) ⊎ (((k ≡ 5) × (at es i ≡ mark)) ⊎ ((k ≡ 6) × (count ≡ 64)))
  at_mark open' k (ends_inside _ q _) = absurd (omega arith)
  at_mark open' k (no_mark q _ a b) = inl (q, a, b)
  at_mark open' k (same_mark b q _ last same) = inr (inl (q, sym same ∙ s.mark_is b last))
  at_mark open' k (too_many_blocks q _ many) = inr (inr (q, s.counted ∙ many))
  at_mark open' k (outside _ v _) = absurd (clash open' v.1)
  at_mark open' k (named_before _ _ v _ _ _) = absurd (clash open' v.1)
  at_mark open' k (empty_block _ _ _ _ v) = absurd (clash open' v.1)

  at_close : opens es i ≡ false → at es i ≡ 0 → (k : ℕ) → PrefixCause n es k i → (k ≡ 9) × (fresh ≡ true)
  at_close shut zero' k (ends_inside _ q _) = absurd (omega arith)
  at_close shut zero' k (no_mark _ m _ _) = absurd (clash m.1 shut)
  at_close shut zero' k (same_mark _ _ m _ _) = absurd (clash m.1 shut)
  at_close shut zero' k (too_many_blocks _ m _) = absurd (clash m.1 shut)
  at_close shut zero' k (outside _ v _) = absurd (v.2 zero')
  at_close shut zero' k (named_before _ _ v _ _ _) = absurd (v.2 zero')
  at_close shut zero' k (empty_block b q next m _) = (q, s.fresh_is ∙ ap (after_mark es) next ∙ m.1)

  at_variable : opens es i ≡ false → at es i ≢ 0 → (k : ℕ) → PrefixCause n es k i → ((k ≡ 7) × (n < at es i)) ⊎ ((k ≡ 8) × (get_or named (at es i) false ≡ true))
  at_variable shut some k (ends_inside _ q _) = absurd (omega arith)
  at_variable shut some k (no_mark _ m _ _) = absurd (clash m.1 shut)
  at_variable shut some k (same_mark _ _ m _ _) = absurd (clash m.1 shut)
  at_variable shut some k (too_many_blocks _ m _) = absurd (clash m.1 shut)
  at_variable shut some k (outside q _ over) = inl (q, over)
  at_variable shut some k (named_before b q _ l var same) = inr (q, sym (ap (λ v. get_or named v false) same) ∙ s.naming.all b l var)
  at_variable shut some k (empty_block _ _ _ _ v) = absurd (some v.2)

  -- A mark with no fault: it is counted, and remembered.
  pub scan_mark : {number : ℕ} → opens es i ≡ true → MarkFault (at es i) mark count number → number ≡ 0
      → Scanned n es (i + 1) false true (at es i) (count + 1) named
  scan_mark open' judged none =
      let (good, other, few) = mark_fine judged none in
      rw (add-one i, add-one count)
      record {
        within = more;
        clean = below_suc (Clean n es) i s.clean
            (λ k cause. ⊎_elim (λ w. ⊎_elim w.1 w.2 good) (⊎_elim (λ w. other w.1) (λ w. few w.1)) (at_mark open' k cause));
        opening_is = sym (ne_eqb (at es i) 0 (λ q. ⊎_elim (λ (g : at es i ≡ 1). omega arith) (λ (g : at es i ≡ 2). omega arith) good));
        fresh_is = sym open';
        mark_is = λ b last. ap (at es) (last_is_here es i b open' last);
        mark_there = λ _. (i, (omega arith, open', λ c after before. absurd (omega arith)), refl);
        counted = ap suc s.counted ∙ sym (ap (λ o. cond o (suc (marks_before es i)) (marks_before es i)) open');
        few = let l = s.few in omega arith;
        naming = named_skip s.naming (λ var. clash open' var.1);
      }

  -- A 0 that closes a block with variables.
  pub scan_close : opens es i ≡ false → at es i ≡ 0 → fresh ≡ false → Scanned n es (i + 1) true fresh mark count named
  scan_close shut zero' stale =
      rw (add-one i)
      record {
        within = more;
        clean = below_suc (Clean n es) i s.clean (λ k cause. clash (at_close shut zero' k cause).1 stale);
        opening_is = sym (eq-eqb (at es i) 0 zero');
        fresh_is = stale ∙ sym shut;
        mark_is = λ b last. s.mark_is b (last_is_before es i b shut last);
        mark_there = λ some. let (b, last, is) = s.mark_there some in (b, last_stays es i b shut last, is);
        counted = s.counted ∙ sym (ap (λ o. cond o (suc (marks_before es i)) (marks_before es i)) shut);
        few = s.few;
        naming = named_skip s.naming (λ var. var.2 zero');
      }

  -- A variable from 1 to n that no entry before it names: it is named from now on.
  pub scan_variable : opens es i ≡ false → at es i ≢ 0 → at es i ≤ n → n ≤ 4096 → get_or named (at es i) false ≡ false
      → Scanned n es (i + 1) opening false mark count (set named (at es i) true)
  scan_variable shut some inside fits new =
      rw (add-one i)
      record {
        within = more;
        clean = below_suc (Clean n es) i s.clean
            (λ k cause. ⊎_elim (λ w. let over = w.1 in omega arith) (λ w. clash w.1 new) (at_variable shut some k cause));
        opening_is = s.opening_is ∙ shut ∙ sym (ne_eqb (at es i) 0 some);
        fresh_is = sym shut;
        mark_is = λ b last. s.mark_is b (last_is_before es i b shut last);
        mark_there = λ some. let (b, last, is) = s.mark_there some in (b, last_stays es i b shut last, is);
        counted = s.counted ∙ sym (ap (λ o. cond o (suc (marks_before es i)) (marks_before es i)) shut);
        few = s.few;
        naming = named_more s.naming (more, shut, some) (omega arith);
      }

  pub scan_named : {number : ℕ} {named' : List Bool} → opens es i ≡ false → at es i ≢ 0 → n ≤ 4096 → NameFault n (at es i) named named' number
      → number ≡ 0 → Scanned n es (i + 1) opening false mark count named'
  scan_named shut some fits (NameFault.fresh _ inside new is) none =
      subst (λ (t : List Bool). Scanned n es (i + 1) opening false mark count t) (sym is) (scan_variable shut some inside fits new)
  scan_named shut some fits (NameFault.outside q _) none = absurd (omega arith)
  scan_named shut some fits (NameFault.named_before q _ _) none = absurd (omega arith)

  -- A fault at this entry is the first cause: all before it is clean, and no lower number has a cause here.
  pub fault_at_mark : (number : ℕ) → opens es i ≡ true → MarkFault (at es i) mark count number → number ≢ 0 → First (PrefixCause n es) number i
  fault_at_mark number open' (MarkFault.fine q _ _ _) some = absurd (some q)
  fault_at_mark number open' (MarkFault.no_mark q a b) some =
      first_at s.clean (no_mark q (more, open') a b)
      (λ k cause. ⊎_elim (λ w. let e = w.0 in omega arith) (⊎_elim (λ w. let e = w.0 in omega arith) (λ w. let e = w.0 in omega arith))
      (at_mark open' k cause))
  fault_at_mark number open' (MarkFault.same_mark q good same) some =
      let nonzero : mark ≢ 0 = λ z. ⊎_elim (λ (g : at es i ≡ 1). omega arith) (λ (g : at es i ≡ 2). omega arith) good in
      let (b, last, is) = s.mark_there nonzero in
      first_at s.clean (same_mark b q (more, open') last (is ∙ sym same))
      (λ k cause. ⊎_elim (λ w. absurd (⊎_elim w.1 w.2 good)) (⊎_elim (λ w. let e = w.0 in omega arith) (λ w. let e = w.0 in omega arith))
      (at_mark open' k cause))
  fault_at_mark number open' (MarkFault.too_many q good other many) some =
      first_at s.clean (too_many_blocks q (more, open') (sym s.counted ∙ many))
      (λ k cause. ⊎_elim (λ w. absurd (⊎_elim w.1 w.2 good)) (⊎_elim (λ w. absurd (other w.1)) (λ w. let e = w.0 in omega arith))
      (at_mark open' k cause))

  pub fault_at_close : opens es i ≡ false → at es i ≡ 0 → fresh ≡ true → First (PrefixCause n es) 9 i
  fault_at_close shut zero' new =
      let (b, next, m) = before i (sym s.fresh_is ∙ new) in
      first_at s.clean (empty_block b refl next (omega arith, m) (more, shut, zero')) (λ k cause. let q = (at_close shut zero' k cause).0 in omega arith)
    where
      before : (e : ℕ) → after_mark es e ≡ true → (b : ℕ) × (e ≡ suc b) × (opens es b ≡ true)
      before zero t = absurd (clash t refl)
      before (suc b) t = (b, refl, t)

  pub fault_at_variable : {named' : List Bool} (number : ℕ) → opens es i ≡ false → at es i ≢ 0 → NameFault n (at es i) named named' number
      → number ≢ 0 → First (PrefixCause n es) number i
  fault_at_variable number shut some (NameFault.fresh q _ _ _) other = absurd (other q)
  fault_at_variable number shut some (NameFault.outside q over) other =
      first_at s.clean (outside q (more, shut, some) over)
      (λ k cause. ⊎_elim (λ w. let e = w.0 in omega arith) (λ w. let e = w.0 in omega arith) (at_variable shut some k cause))
  fault_at_variable number shut some (NameFault.named_before q inside old) other =
      let (b, l, var, same) = s.naming.names (at es i) old in
      first_at s.clean (named_before b q (more, shut, some) l var same)
      (λ k cause. ⊎_elim (λ w. let over = w.1 in omega arith) (λ w. let e = w.0 in omega arith) (at_variable shut some k cause))

-- The end of the prefix is inside a block exactly if no block could open there.
pub open_end : (es : List ℕ) (m : ℕ) → length es ≡ m → opens es m ≡ false → EndsInside 0 es
open_end es zero q shut = absurd (clash refl shut)
open_end es (suc m) q shut = (omega arith, λ z. eqb-false (at es m) 0 shut (ap (at es) (let e : m ≡ length es - 1 = omega arith in e) ∙ z))

pub shut_end : (es : List ℕ) (m : ℕ) → length es ≡ m → opens es m ≡ true → EndsInside 0 es → ⊥
shut_end es zero q open' (some, last) = omega arith
shut_end es (suc m) q open' (some, last) = last (ap (at es) (let e : length es - 1 ≡ m = omega arith in e) ∙ eqb-true (at es m) 0 open')

-- Every cause but 3 stands at an entry.
at_entry : {n : ℕ} {es : List ℕ} (k e : ℕ) → PrefixCause n es k e → (e < length es) ⊎ ((k ≡ 3) × (e ≡ length es) × EndsInside 0 es)
at_entry k e (ends_inside q p inside) = inr (q, p, inside)
at_entry k e (no_mark _ m _ _) = inl m.0
at_entry k e (same_mark _ _ m _ _) = inl m.0
at_entry k e (too_many_blocks _ m _) = inl m.0
at_entry k e (outside _ v _) = inl v.0
at_entry k e (named_before _ _ v _ _ _) = inl v.0
at_entry k e (empty_block _ _ _ _ v) = inl v.0

module _ {n : ℕ} {es : List ℕ} {i : ℕ} {opening fresh : Bool} {mark count : ℕ} {named : List Bool} (s : Scanned n es i opening fresh mark count named)
    (done : length es ≤ i) where
  end : length es ≡ i
  end = let w = s.within in omega arith

  -- A prefix that is scanned to its end between two blocks has no cause, one that ends inside a block has 3.
  pub none_in_prefix : opening ≡ true → None (PrefixCause n es)
  none_in_prefix open' k e cause =
      ⊎_elim (λ l. s.clean e (omega arith) k cause) (λ w. shut_end es i end (sym s.opening_is ∙ open') w.2) (at_entry k e cause)

  pub fault_at_end : opening ≡ false → First (PrefixCause n es) 3 i
  fault_at_end shut =
      first_at s.clean (ends_inside refl (sym end) (open_end es i end (sym s.opening_is ∙ shut)))
      (λ k cause. ⊎_elim (λ l. absurd (let q = end in omega arith)) (λ w. let q = w.0 in omega arith) (at_entry k i cause))

names_from : {n : ℕ} {es : List ℕ} {start : ℕ} {named : List Bool} {end : ℕ} {named' : List Bool} → NamedTo n es start named end named' → start ≤ end
names_from no_name = omega arith
names_from (one_name e before _ _ _) = let l = names_from before in omega arith

pub ends_from : {n : ℕ} {es : List ℕ} {start end fault : ℕ} {named named' : List Bool} → NamesEnd n es start named named' end fault → start ≤ end
ends_from (closed _ to _ _) = names_from to
ends_from (faulty _ _ to _ _ _) = names_from to
ends_from (unclosed _ to _) = names_from to

module _ {n : ℕ} {es : List ℕ} {start : ℕ} {fresh : Bool} {mark count : ℕ} {named : List Bool} (few : n ≤ 4096)
    (s : Scanned n es start false fresh mark count named) where
  -- The variables of a block are scanned one after another; past the first of them the scan stands no more directly behind the mark.
  scan_to : {end : ℕ} {named' : List Bool} → NamedTo n es start named end named'
      → (f : Bool) × Scanned n es end false f mark count named' × (end ≡ start → f ≡ fresh) × (end ≢ start → f ≡ false)
  scan_to no_name = (fresh, s, λ _. refl, λ other. absurd (other refl))
  scan_to (one_name e before l some judged) =
      let (f, t, _, _) = scan_to before in
      let from = names_from before in
      (false, scan_named t l (sym t.opening_is) some few judged refl, λ same. absurd (omega arith), λ _. refl)

  -- A fault among the variables is the first cause, and so is 3 where the prefix ends with them, and 9 where there is none of them.
  pub block_fault : {end fault : ℕ} {named' : List Bool} → NamesEnd n es start named named' end fault → fault ≢ 0 → First (PrefixCause n es) fault end
  block_fault (closed z _ _ _) some = absurd (some z)
  block_fault {fault = fault} (faulty seen _ to l nonzero judged) some =
      let (f, t, _, _) = scan_to to in fault_at_variable t l fault (sym t.opening_is) nonzero judged some
  block_fault (unclosed z _ _) some = absurd (some z)

  pub block_unclosed : {end fault : ℕ} {named' : List Bool} → NamesEnd n es start named named' end fault → fault ≡ 0 → length es ≤ end
      → First (PrefixCause n es) 3 end
  block_unclosed (closed _ _ l _) fine done = absurd (omega arith)
  block_unclosed (faulty _ some _ _ _ _) fine done = absurd (some fine)
  block_unclosed (unclosed _ to _) fine done = let (f, t, _, _) = scan_to to in fault_at_end t done refl

  pub block_empty : {end fault : ℕ} {named' : List Bool} → NamesEnd n es start named named' end fault → fault ≡ 0 → end < length es
      → fresh ≡ true → end ≡ start → First (PrefixCause n es) 9 end
  block_empty (closed _ to l z) fine more new same =
      let (f, t, kept, _) = scan_to to in fault_at_close t l (sym t.opening_is) z (kept same ∙ new)
  block_empty (faulty _ some _ _ _ _) fine more new same = absurd (some fine)
  block_empty (unclosed _ _ q) fine more new same = absurd (omega arith)

  -- A block that a 0 closes behind some variable is scanned, and the next may open.
  pub block_closed : {end fault : ℕ} {named' : List Bool} → NamesEnd n es start named named' end fault → fault ≡ 0 → end < length es
      → end ≢ start → Scanned n es (end + 1) true false mark count named'
  block_closed {end} {named' = named'} (closed _ to l z) fine more other =
      let (f, t, _, old) = scan_to to in
      subst (λ (f : Bool). Scanned n es (end + 1) true f mark count named') (old other) (scan_close t l (sym t.opening_is) z (old other))
  block_closed (faulty _ some _ _ _ _) fine more other = absurd (some fine)
  block_closed (unclosed _ _ q) fine more other = absurd (omega arith)

-- Before the first entry nothing is scanned, and a block may open.
pub scan_none : (n : ℕ) (es : List ℕ) → Scanned n es 0 true false 0 0 (replicate 4097 false)
scan_none n es =
    record {
      within = omega arith;
      clean = λ e l. absurd (omega arith);
      opening_is = refl;
      fresh_is = refl;
      mark_is = λ b last. absurd (let l = last.0 in omega arith);
      mark_there = λ some. absurd (some refl);
      counted = refl;
      few = omega arith;
      naming = named_none es;
    }
