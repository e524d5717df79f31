-- What the scan of a prefix under rule 2 knows at entry i, how one entry more is scanned, and that a fault found there is the first.
use Prim.Native.Nat.{ℕ, suc, ◌≤◌, ◌<◌, ◌+◌}
use mathlib.Core.Path.{◌≡◌, refl, sym, ap, ◌∙◌, subst}
use mathlib.Core.Bool.{Bool, true, false, cond}
use mathlib.Core.List.{List}
use mathlib.Core.Logic.{◌⊎◌, inl, inr, ⊎_elim, ◌≢◌}
use native.Mathlib.Numerals.{add-one}
use native.Mathlib.Omega.{arith}
use borrow.Author.Tests.{eq-eqb, ne_eqb}
use lib.ListN.{length, get_or, set, replicate}
use Rattle.terms.specs.Refusals.{First, None}
use Rattle.terms.proofs.Common.{below_suc, clash}
use Rattle.terms.proofs.Verdicts.{first_at}
use Rattle.formula.specs.Tables.{at, opens, EndsInside}
use Rattle.formula.specs.InnerScan.{IsMark, NameFault, NamedTo, no_name, one_name, NamesEnd, closed, faulty, unclosed}
use Rattle.formula.proofs.Named.{Named, named_none, named_skip, named_more}
use Rattle.formula.proofs.Scanned.{open_end, shut_end}
use Rattle.formula_rules.specs.Rules.{JoinedCause}
use Rattle.formula_rules.specs.InnerScan.{begins_after, last_mark, begins, begun_before}
use Rattle.formula_rules.specs.Rules.{ends_inside, no_mark, too_many_blocks, outside, named_before}
use Rattle.formula_rules.specs.InnerWriting.{MarkFault}
use Rattle.formula_rules.proofs.Begun.{last_next, last_stays, begins_open, begins_shut, begun_next, begun_joined, scan_begins, begins_scan}

-- no cause stands at entry e
abbrev Clean : ℕ → List ℕ → ℕ → Type 0
Clean n es e = (number : ℕ) → JoinedCause n es number e → ⊥

-- Every entry before i is without fault, and the scan's variables say what stands before i.
pub record Scanned (n : ℕ) (es : List ℕ) (i : ℕ) (opening : Bool) (last count : ℕ) (named : List Bool) : Type 0 where
  pub within : i ≤ length es
  pub clean : (e : ℕ) → e < i → (number : ℕ) → JoinedCause n es number e → ⊥
  pub opening_is : opening ≡ opens es i
  pub last_is : last ≡ last_mark es i
  pub counted : count ≡ begun_before es i
  pub few : count ≤ 64
  pub naming : Named es i named

-- a mark for which no refusal number is given is sound
mark_fine : {entry count number : ℕ} {new : Bool} → MarkFault entry new count number → number ≡ 0 → IsMark entry × ((new ≡ false) ⊎ (count ≢ 64))
mark_fine (MarkFault.fine _ good few) none = (good, few)
mark_fine (MarkFault.no_mark q _ _) none = absurd (omega arith)
mark_fine (MarkFault.too_many q _ _ _) none = absurd (omega arith)

pub mark_some : (entry : ℕ) → IsMark entry → entry ≢ 0
mark_some entry (inl q) z = omega arith
mark_some entry (inr q) z = omega arith

module _ {n : ℕ} {es : List ℕ} {i : ℕ} {opening : Bool} {last count : ℕ} {named : List Bool} (s : Scanned n es i opening last count named)
    (more : i < length es) where
  -- the test of the code is that of the definition
  tested : {new : Bool} → opens es i ≡ true → new ≡ begins_after es i last → begins es i ≡ new
  tested open' is = begins_open es i open' ∙ sym (is ∙ ap (begins_after es i) s.last_is)

  -- no mark before is 0
  marks_some : (e : ℕ) → e < i → opens es e ≡ true → at es e ≢ 0
  marks_some e l open' z = s.clean e l 4 (no_mark refl (omega arith, open') (λ q. omega arith) (λ q. omega arith))

  -- What can be wrong at this entry, by the kind of its place, in the scan's own terms.
  at_mark : {new : Bool} → opens es i ≡ true → new ≡ begins_after es i last → (k : ℕ) → JoinedCause n es k i
      → ((k ≡ 4) × (at es i ≢ 1) × (at es i ≢ 2)) ⊎ ((k ≡ 6) × (new ≡ true) × (count ≡ 64))
  at_mark open' is k (ends_inside _ q _) = absurd (omega arith)
  at_mark open' is k (no_mark q _ a b) = inl (q, a, b)
  at_mark open' is k (too_many_blocks q _ new many) =
      inr (
        q,
        sym (tested open' is) ∙ begins_open es i open' ∙ begins_scan es i s.within marks_some open' new,
        s.counted ∙ begun_joined es i s.within marks_some open' ∙ many,
      )
  at_mark open' is k (outside _ v _) = absurd (clash open' v.1)
  at_mark open' is k (named_before _ _ v _ _ _) = absurd (clash open' v.1)

  at_close : opens es i ≡ false → at es i ≡ 0 → (k : ℕ) → JoinedCause n es k i → ⊥
  at_close shut zero' k (ends_inside _ q _) = omega arith
  at_close shut zero' k (no_mark _ m _ _) = clash m.1 shut
  at_close shut zero' k (too_many_blocks _ m _ _) = clash m.1 shut
  at_close shut zero' k (outside _ v _) = v.2 zero'
  at_close shut zero' k (named_before _ _ v _ _ _) = v.2 zero'

  at_variable : opens es i ≡ false → at es i ≢ 0 → (k : ℕ) → JoinedCause n es k i → ((k ≡ 7) × (n < at es i)) ⊎ ((k ≡ 8) × (get_or named (at es i) false ≡ true))
  at_variable shut some k (ends_inside _ q _) = absurd (omega arith)
  at_variable shut some k (no_mark _ m _ _) = absurd (clash m.1 shut)
  at_variable shut some k (too_many_blocks _ m _ _) = absurd (clash m.1 shut)
  at_variable shut some k (outside q _ over) = inl (q, over)
  at_variable shut some k (named_before b q _ l v same) = inr (q, ap (λ w. get_or named w false) (sym same) ∙ s.naming.all b l v)

  -- A mark: what it leads to, by whether it begins a block.
  pub scan_mark : {number : ℕ} (new : Bool) → opens es i ≡ true → new ≡ begins_after es i last → MarkFault (at es i) new count number → number ≡ 0
      → Scanned n es (i + 1) false (cond new (at es i) last) (cond new (count + 1) count) named
  scan_mark new open' is judged none =
      let (good, room) = mark_fine judged none in
      rw (add-one i, add-one count)
      record {
        within = more;
        clean = below_suc (Clean n es) i s.clean
            (λ k cause. ⊎_elim (λ w. ⊎_elim w.1 w.2 good) (λ w. ⊎_elim (λ old. clash w.1 old) (λ few. few w.2) room)
            (at_mark open' is k cause));
        opening_is = sym (ne_eqb (at es i) 0 (mark_some (at es i) good));
        last_is = ap (λ l. cond new (at es i) l) s.last_is
            ∙ ap (λ b. cond b (at es i) (last_mark es i)) (sym (sym (begins_open es i open') ∙ tested open' is)) ∙ sym (last_next es i open');
        counted = ap (λ c. cond new (suc c) c) s.counted ∙ sym (begun_next es i new (tested open' is));
        few = most new room;
        naming = named_skip s.naming (λ var. clash open' var.1);
      }
    where
      most : (new : Bool) → (new ≡ false) ⊎ (count ≢ 64) → cond new (suc count) count ≤ 64
      most true (inl q) = absurd (clash refl q)
      most true (inr other) = let l = s.few in omega arith
      most false _ = s.few

  -- A 0 that closes a block.
  pub scan_close : opens es i ≡ false → at es i ≡ 0 → Scanned n es (i + 1) true last count named
  scan_close shut zero' =
      rw (add-one i)
      record {
        within = more;
        clean = below_suc (Clean n es) i s.clean (at_close shut zero');
        opening_is = sym (eq-eqb (at es i) 0 zero');
        last_is = s.last_is ∙ sym (last_stays es i shut);
        counted = s.counted ∙ sym (begun_next es i false (begins_shut es i shut));
        few = s.few;
        naming = named_skip s.naming (λ var. var.2 zero');
      }

  -- A variable from 1 to n that no entry before it names: it is named from now on.
  scan_variable : opens es i ≡ false → at es i ≢ 0 → at es i ≤ n → n ≤ 4096 → get_or named (at es i) false ≡ false
      → Scanned n es (i + 1) opening last count (set named (at es i) true)
  scan_variable shut some inside fits new =
      rw (add-one i)
      record {
        within = more;
        clean = below_suc (Clean n es) i s.clean
            (λ k cause. ⊎_elim (λ w. let over = w.1 in omega arith) (λ w. clash w.1 new) (at_variable shut some k cause));
        opening_is = s.opening_is ∙ shut ∙ sym (ne_eqb (at es i) 0 some);
        last_is = s.last_is ∙ sym (last_stays es i shut);
        counted = s.counted ∙ sym (begun_next es i false (begins_shut es i shut));
        few = s.few;
        naming = named_more s.naming (more, shut, some) (omega arith);
      }

  pub scan_named : {number : ℕ} {named' : List Bool} → opens es i ≡ false → at es i ≢ 0 → n ≤ 4096 → NameFault n (at es i) named named' number
      → number ≡ 0 → Scanned n es (i + 1) opening last count named'
  scan_named shut some fits (NameFault.fresh _ inside new is) none =
      subst (λ (t : List Bool). Scanned n es (i + 1) opening last count t) (sym is) (scan_variable shut some inside fits new)
  scan_named shut some fits (NameFault.outside q _) none = absurd (omega arith)
  scan_named shut some fits (NameFault.named_before q _ _) none = absurd (omega arith)

  -- A fault at this entry is the first cause: all before it is clean, and no lower number has a cause here.
  pub fault_at_mark : {new : Bool} (number : ℕ) → opens es i ≡ true → new ≡ begins_after es i last → MarkFault (at es i) new count number → number ≢ 0
      → First (JoinedCause n es) number i
  fault_at_mark number open' is (MarkFault.fine q _ _) some = absurd (some q)
  fault_at_mark number open' is (MarkFault.no_mark q a b) some =
      first_at s.clean (no_mark q (more, open') a b)
      (λ k cause. ⊎_elim (λ w. let e = w.0 in omega arith) (λ w. let e = w.0 in omega arith) (at_mark open' is k cause))
  fault_at_mark number open' is (MarkFault.too_many q good new many) some =
      first_at s.clean
      (too_many_blocks q (more, open') (scan_begins es i s.within marks_some open' more (sym (begins_open es i open') ∙ tested open' is ∙ new))
      (sym (begun_joined es i s.within marks_some open') ∙ sym s.counted ∙ many))
      (λ k cause. ⊎_elim (λ w. absurd (⊎_elim w.1 w.2 good)) (λ w. let e = w.0 in omega arith) (at_mark open' is k cause))

  pub fault_at_variable : {named' : List Bool} (number : ℕ) → opens es i ≡ false → at es i ≢ 0 → NameFault n (at es i) named named' number
      → number ≢ 0 → First (JoinedCause n es) number i
  fault_at_variable number shut some (NameFault.fresh q _ _ _) other = absurd (other q)
  fault_at_variable number shut some (NameFault.outside q over) other =
      first_at s.clean (outside q (more, shut, some) over)
      (λ k cause. ⊎_elim (λ w. let e = w.0 in omega arith) (λ w. let e = w.0 in omega arith) (at_variable shut some k cause))
  fault_at_variable number shut some (NameFault.named_before q inside old) other =
      let (b, l, var, same) = s.naming.names (at es i) old in
      first_at s.clean (named_before b q (more, shut, some) l var same)
      (λ k cause. ⊎_elim (λ w. let over = w.1 in omega arith) (λ w. let e = w.0 in omega arith) (at_variable shut some k cause))

-- Every cause but 3 stands at an entry.
at_entry : {n : ℕ} {es : List ℕ} (k e : ℕ) → JoinedCause n es k e → (e < length es) ⊎ ((k ≡ 3) × (e ≡ length es) × EndsInside 0 es)
at_entry k e (ends_inside q p inside) = inr (q, p, inside)
at_entry k e (no_mark _ m _ _) = inl m.0
at_entry k e (too_many_blocks _ m _ _) = inl m.0
at_entry k e (outside _ v _) = inl v.0
at_entry k e (named_before _ _ v _ _ _) = inl v.0

module _ {n : ℕ} {es : List ℕ} {i : ℕ} {opening : Bool} {last count : ℕ} {named : List Bool} (s : Scanned n es i opening last count named)
    (done : length es ≤ i) where
  end : length es ≡ i
  end = let w = s.within in omega arith

  -- A prefix that is scanned to its end between two blocks has no cause, one that ends inside a block has 3.
  pub none_in_prefix : opening ≡ true → None (JoinedCause n es)
  none_in_prefix open' k e cause =
      ⊎_elim (λ l. s.clean e (omega arith) k cause) (λ w. shut_end es i end (sym s.opening_is ∙ open') w.2) (at_entry k e cause)

  pub fault_at_end : opening ≡ false → First (JoinedCause n es) 3 i
  fault_at_end shut =
      first_at s.clean (ends_inside refl (sym end) (open_end es i end (sym s.opening_is ∙ shut)))
      (λ k cause. ⊎_elim (λ l. absurd (let q = end in omega arith)) (λ w. let q = w.0 in omega arith) (at_entry k i cause))

module _ {n : ℕ} {es : List ℕ} {start last count : ℕ} {named : List Bool} (few : n ≤ 4096) (s : Scanned n es start false last count named) where
  -- The variables of a block are scanned one after another.
  scan_to : {end : ℕ} {named' : List Bool} → NamedTo n es start named end named' → Scanned n es end false last count named'
  scan_to no_name = s
  scan_to (one_name e before l some judged) =
      let t = scan_to before in scan_named t l (sym t.opening_is) some few judged refl

  -- A fault among the variables is the first cause, and so is 3 where the prefix ends with them.
  pub block_fault : {end fault : ℕ} {named' : List Bool} → NamesEnd n es start named named' end fault → fault ≢ 0 → First (JoinedCause n es) fault end
  block_fault (closed z _ _ _) some = absurd (some z)
  block_fault {fault = fault} (faulty seen _ to l nonzero judged) some =
      let t = scan_to to in fault_at_variable t l fault (sym t.opening_is) nonzero judged some
  block_fault (unclosed z _ _) some = absurd (some z)

  pub block_unclosed : {end fault : ℕ} {named' : List Bool} → NamesEnd n es start named named' end fault → fault ≡ 0 → length es ≤ end
      → First (JoinedCause n es) 3 end
  block_unclosed (closed _ _ l _) fine done = absurd (omega arith)
  block_unclosed (faulty _ some _ _ _ _) fine done = absurd (some fine)
  block_unclosed (unclosed _ to _) fine done = fault_at_end (scan_to to) done refl

  -- A block that a 0 closes is scanned, and the next may open.
  pub block_closed : {end fault : ℕ} {named' : List Bool} → NamesEnd n es start named named' end fault → fault ≡ 0 → end < length es
      → Scanned n es (end + 1) true last count named'
  block_closed (closed _ to l z) fine more = let t = scan_to to in scan_close t l (sym t.opening_is) z
  block_closed (faulty _ some _ _ _ _) fine more = absurd (some fine)
  block_closed (unclosed _ _ q) fine more = absurd (omega arith)

-- A scan that is told with a test holds with the test's outcome in its place.
pub settled : {n : ℕ} {es : List ℕ} {i : ℕ} {opening : Bool} {named : List Bool} (mark last count : ℕ) (new : Bool) {tested : Bool} → tested ≡ new
    → Scanned n es i opening (cond tested mark last) (cond tested (count + 1) count) named
    → Scanned n es i opening (cond new mark last) (cond new (count + 1) count) named
settled {n} {es} {i} {opening} {named} mark last count new q s =
    subst (λ (b : Bool). Scanned n es i opening (cond b mark last) (cond b (count + 1) count) named) q s

-- Before the first entry nothing is scanned, and a block may open.
pub scan_none : (n : ℕ) (es : List ℕ) → Scanned n es 0 true 0 0 (replicate 4097 false)
scan_none n es =
    record {
      within = omega arith;
      clean = λ e l. absurd (omega arith);
      opening_is = refl;
      last_is = refl;
      counted = refl;
      few = omega arith;
      naming = named_none es;
    }
