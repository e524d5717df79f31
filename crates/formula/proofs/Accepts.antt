-- Acceptance decided by computing: a test on the lists that, where it comes out true, shows that check accepts.
use Prim.Native.Nat.{ℕ, zero, suc, ◌≤◌, ◌<◌, ◌+◌}
use mathlib.Core.Path.{◌≡◌, refl, sym, ap, ◌∙◌}
use mathlib.Core.Bool.{Bool, true, false, cond, not, ◌&&◌}
use mathlib.Core.List.{List, [], ◌∷◌}
use mathlib.Core.Logic.{inl, inr, ⊎_elim}
use native.Mathlib.Decide.{ℕ_discrete}
use native.Mathlib.Numerals.{add-one}
use native.Mathlib.Omega.{arith}
use borrow.Author.Tests.{eqb-true, eqb-false, leb-true, eq-eqb, ne_eqb, not-true}
use lib.Dec.{eqb, leb}
use lib.IntN.{ℤ, pos}
use lib.ListN.{length, get_or, drop, drop_of_length-le, set, replicate}
use lib.Seq.{drop-cons}
use Rattle.terms.specs.Literals.{variable_of}
use Rattle.terms.specs.Refusals.{None, NoneOf}
use Rattle.terms.proofs.Common.{clash}
use Rattle.terms.proofs.Verdicts.{at0_none}
use Rattle.formula.specs.Tables.{at, literal_at}
use Rattle.formula.specs.Causes.{PrefixCause, ClauseCause}
use Rattle.formula.specs.InnerOrders.{check_order}
use Rattle.formula.specs.Meaning.{has}
use Rattle.formula.specs.InnerScan.{IsMark, MarkFault}
use Rattle.formula.proofs.Scanned.{Scanned, scan_none, scan_mark, scan_close, scan_variable, none_in_prefix}
use Rattle.formula.proofs.Named.{unnamed}
use Rattle.formula.proofs.Literals.{Read, read_none, read_literal, none_in_clauses}
use Rattle.formula.proofs.Levelling.{get_d_set}

-- an entry that is a mark other than the one before, with room for a block
unfoldable pub good_mark : ℕ → ℕ → ℕ → Bool
good_mark entry mark count = cond (eqb entry 1) true (eqb entry 2) && not (eqb entry mark) && not (eqb count 64)

-- What is left of a prefix has no fault: `names` are the variables named so far.
unfoldable pub prefix_passes : ℕ → List ℕ → Bool → Bool → ℕ → ℕ → List ℕ → Bool
prefix_passes n [] opening fresh mark count names = opening
prefix_passes n (e ∷ es) true fresh mark count names = let rest = prefix_passes n es false true e (suc count) names in good_mark e mark count && rest
prefix_passes n (e ∷ es) false fresh mark count names =
    let closed = prefix_passes n es true false mark count names in
    let named = prefix_passes n es false false mark count (e ∷ names) in
    cond (eqb e 0) (not fresh && closed) (leb e n && not (has names e) && named)

-- What is left of a clause table has no fault.
unfoldable pub clauses_pass : ℕ → List ℤ → Bool → Bool
clauses_pass n [] inside = not inside
clauses_pass n (z ∷ ls) inside = let rest = clauses_pass n ls (not (eqb (variable_of z) 0)) in leb (variable_of z) n && rest

both : (a b : Bool) → (a && b) ≡ true → (a ≡ true) × (b ≡ true)
both true b t = (refl, t)
both false b t = absurd (clash t refl)

good_mark_lem : (entry mark count : ℕ) → good_mark entry mark count ≡ true → MarkFault entry mark count 0
unfolding good_mark
good_mark_lem entry mark count t =
    let (first, room) = both (cond (eqb entry 1) true (eqb entry 2) && not (eqb entry mark)) (not (eqb count 64)) t in
    let (is, other) = both (cond (eqb entry 1) true (eqb entry 2)) (not (eqb entry mark)) first in
    MarkFault.fine refl (one_or_two (ℕ_discrete entry 1) is) (eqb-false entry mark (not-true _ other)) (eqb-false count 64 (not-true _ room))
  where
    one_or_two : Dec (entry ≡ 1) → cond (eqb entry 1) true (eqb entry 2) ≡ true → IsMark entry
    one_or_two (yes q) is = inl q
    one_or_two (no other) is = inr (eqb-true entry 2 (sym (ap (λ b. cond b true (eqb entry 2)) (ne_eqb entry 1 other)) ∙ is))

-- the table of names has those of a list
abbrev Same : List Bool → List ℕ → Type 0
Same named names = (v : ℕ) → v < 4097 → get_or named v false ≡ has names v

-- One entry inside a block: what the test says of it, and how the scan goes on.
inside_entry : {n : ℕ} {es : List ℕ} {i : ℕ} {fresh : Bool} {mark count : ℕ} (names : List ℕ) {named : List Bool} → n ≤ 4096
    → Scanned n es i false fresh mark count named → i < length es → Same named names
    → prefix_passes n (at es i ∷ drop (suc i) es) false fresh mark count names ≡ true
    → (Scanned n es (i + 1) true fresh mark count named → prefix_passes n (drop (i + 1) es) true fresh mark count names ≡ true → None (PrefixCause n es))
    → (Scanned n es (i + 1) false false mark count (set named (at es i) true) → Same (set named (at es i) true) (at es i ∷ names)
    → prefix_passes n (drop (i + 1) es) false false mark count (at es i ∷ names) ≡ true → None (PrefixCause n es))
    → None (PrefixCause n es)
unfolding prefix_passes
inside_entry {n} {es} {i} {fresh} {mark} {count} names {named} few s more same t close name = by_entry (ℕ_discrete (at es i) 0)
  where
    closed : Bool
    closed = prefix_passes n (drop (suc i) es) true false mark count names

    goes_on : Bool
    goes_on = prefix_passes n (drop (suc i) es) false false mark count (at es i ∷ names)

    told : (b : Bool) → eqb (at es i) 0 ≡ b → cond b (not fresh && closed) (leb (at es i) n && not (has names (at es i)) && goes_on) ≡ true
    told b q = sym (ap (λ b. cond b (not fresh && closed) (leb (at es i) n && not (has names (at es i)) && goes_on)) q) ∙ t

    by_entry : Dec (at es i ≡ 0) → None (PrefixCause n es)
    by_entry (yes z) =
        let (stale, on) = both (not fresh) closed (told true (eq-eqb (at es i) 0 z)) in
        let old = not-true fresh stale in
        close (scan_close s more (sym s.opening_is) z old)
        (rw (add-one i) (ap (λ f. prefix_passes n (drop (suc i) es) true f mark count names) old ∙ on))
    by_entry (no some) =
        let (first, on) = both (leb (at es i) n && not (has names (at es i))) goes_on (told false (ne_eqb (at es i) 0 some)) in
        let (low, new) = both (leb (at es i) n) (not (has names (at es i))) first in
        let inside = leb-true (at es i) n low in
        let size = s.naming.size in
        name (scan_variable s more (sym s.opening_is) some inside few (same (at es i) (omega arith) ∙ not-true _ new))
        (λ v l. get_d_set named (at es i) v true false (omega arith) ∙ ap (λ r. cond (eqb (at es i) v) true r) (same v l))
        (rw (add-one i) on)

-- The scan goes on to its end where the test comes out true; m entries are left.
prefix_passes_lem : {n : ℕ} {es : List ℕ} → n ≤ 4096 → (m i : ℕ) (opening fresh : Bool) (mark count : ℕ) (names : List ℕ) (named : List Bool)
    → length es ≡ i + m → Scanned n es i opening fresh mark count named → Same named names
    → prefix_passes n (drop i es) opening fresh mark count names ≡ true → None (PrefixCause n es)
unfolding prefix_passes
prefix_passes_lem {n} {es} few zero i opening fresh mark count names named q s same t =
    none_in_prefix s (omega arith) (sym (ap (λ r. prefix_passes n r opening fresh mark count names) (drop_of_length-le es {i = i} (omega arith))) ∙ t)
prefix_passes_lem {n} {es} few (suc m) i true fresh mark count names named q s same t =
    let more : i < length es = omega arith in
    let (good, on) =
    both (good_mark (at es i) mark count) (prefix_passes n (drop (suc i) es) false true (at es i) (suc count) names)
    (sym (ap (λ r. prefix_passes n r true fresh mark count names) (drop-cons es i 0 more)) ∙ t) in
    prefix_passes_lem few m (i + 1) false true (at es i) (count + 1) names named (omega arith)
    (scan_mark s more (sym s.opening_is) (good_mark_lem (at es i) mark count good) refl) same (rw (add-one i, add-one count) on)
prefix_passes_lem {n} {es} few (suc m) i false fresh mark count names named q s same t =
    let more : i < length es = omega arith in
    inside_entry names few s more same (sym (ap (λ r. prefix_passes n r false fresh mark count names) (drop-cons es i 0 more)) ∙ t)
    (λ next on. prefix_passes_lem few m (i + 1) true fresh mark count names named (omega arith) next same on)
    (λ next same' on. prefix_passes_lem few m (i + 1) false false mark count (at es i ∷ names) (set named (at es i) true) (omega arith) next same' on)

clauses_pass_lem : {n : ℕ} {ls : List ℤ} (m i : ℕ) (inside : Bool) → length ls ≡ i + m → Read n ls i inside → clauses_pass n (drop i ls) inside ≡ true
    → None (ClauseCause n ls)
unfolding clauses_pass
clauses_pass_lem {n} {ls} zero i inside q r t =
    none_in_clauses r (omega arith) (not-true inside (sym (ap (λ z. clauses_pass n z inside) (drop_of_length-le ls {i = i} (omega arith))) ∙ t))
clauses_pass_lem {n} {ls} (suc m) i inside q r t =
    let more : i < length ls = omega arith in
    let (low, on) =
    both (leb (variable_of (literal_at ls i)) n) (clauses_pass n (drop (suc i) ls) (not (eqb (variable_of (literal_at ls i)) 0)))
    (sym (ap (λ z. clauses_pass n z inside) (drop-cons ls i (pos 0) more)) ∙ t) in
    clauses_pass_lem m (i + 1) (not (eqb (variable_of (literal_at ls i)) 0)) (omega arith)
    (read_literal r (variable_of (literal_at ls i)) more refl (leb-true _ n low)) (rw (add-one i) on)

-- All of check's causes are absent where n and the lengths are within the limits and both tests come out true.
pub accepts : (n : ℕ) (es : List ℕ) (ls : List ℤ) → n ≤ 4096 → length es ≤ 8192 → length ls ≤ 16384 → prefix_passes n es true false 0 0 [] ≡ true
    → clauses_pass n ls false ≡ true → NoneOf (check_order n es ls)
accepts n es ls few short small prefix clauses = (
  at0_none 1 (λ over. omega arith),
  (
    at0_none 2 (⊎_elim (λ over. omega arith) (λ over. omega arith)),
    (
      prefix_passes_lem few (length es) 0 true false 0 0 [] (replicate 4097 false) (omega arith) (scan_none n es) (λ v l. unnamed 4097 v) prefix,
      (clauses_pass_lem (length ls) 0 false (omega arith) (read_none n ls) clauses, tt),
    ),
  ),
)
