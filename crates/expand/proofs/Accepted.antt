-- Check accepts an expanded formula (rule 12.5): no cause of 1 to 11 holds of the tables that are written, under either reading rule.
use Prim.Native.Nat.{ℕ, zero, suc, ◌+◌, ◌≤◌, ◌<◌}
use mathlib.Core.Path.{◌≡◌, refl, sym, ap, ◌∙◌, subst}
use mathlib.Core.Bool.{Bool, true, false, cond, not, ◌&&◌}
use mathlib.Core.List.{List, [], ◌∷◌, ◌++◌, map}
use mathlib.Core.Logic.{◌⊎◌, inl, inr, ⊎_elim, by_cases, ◌≢◌}
use native.Mathlib.Decide.{ℕ_discrete, dec_le}
use native.Mathlib.Omega.{arith}
use borrow.Author.Tests.{eq-eqb, ne_eqb, eqb-true, eqb-false, le-leb}
use lib.Dec.{eqb, leb}
use lib.IntN.{ℤ, pos, negsuc, neg_ℤ}
use lib.ListN.{length, get_or, take}
use Rattle.std.specs.Prelude.{Ok, None, Some}
use Rattle.terms.specs.Literals.{variable_of}
use Rattle.terms.specs.Refusals.{None as NoCause, NoneOf}
use Rattle.terms.specs.declared.Counts.{Counts}
use Rattle.terms.proofs.Common.{clash, by_test}
use Rattle.terms.proofs.Overwritten.{overwritten_front}
use Rattle.terms.proofs.Verdicts.{at0_none}
use Rattle.formula.specs.Causes.{ClauseCause}
use Rattle.formula.specs.Lent.{Formula, formula_of}
use Rattle.formula.specs.InnerLevels.{SoundPrefix}
use Rattle.formula.specs.Meaning.{has, is_zero, clauses}
use Rattle.formula.specs.InnerScan.{IsMark}
use Rattle.formula.specs.Tables.{literal_at, cut, push}
use Rattle.formula.proofs.Accepts.{prefix_passes, clauses_pass, accepts}
use Rattle.formula.proofs.Sound.{sound_prefix}
use Rattle.formula_rules.specs.Joined.{joined_prefix}
use Rattle.formula_rules.specs.Rules.{read_as, read_by, ruled_prefix, check_order}
use Rattle.formula_rules.specs.InnerWriting.{closing}
use Rattle.formula_rules.proofs.Scanned.{mark_some}
use Rattle.formula_rules.proofs.Passing.{starts_zero, Passes, no_more, begin, go_on, close_block, name, passes}
use Rattle.formula_rules.proofs.Rest.{old_mark}
use Rattle.formula_rules.proofs.Short.{joined_short}
use Rattle.formula_rules.proofs.Accepted.{good_mark_lem, both_true, joined_accepted}
use Rattle.formula_rules.proofs.Orders.{accepted_two}
use Rattle.formula_rules.proofs.Agreement.{also_accepted, both_accept}
use Rattle.expand_clauses.specs.Expansion.{without, clause_table}
use Rattle.expand_clauses.specs.InnerCopies.{copy_from, copy_of, with_copy, expanded_prefix, renamed, named, has_copy, copies, expanded_list, expanded_clauses}
use Rattle.expand.specs.Promise.{ResultTables, expanded_by, ManyVariables, Long, LeavesFormula, Expands}
use Rattle.expand.specs.InnerWriting.{beginning}
use Rattle.expand.proofs.Blocking.{begin_none, begin_new}
use Rattle.expand.proofs.Laying.{left, left_expanded}
use Rattle.expand.proofs.Outcome.{expanded_same, copy_number}
use Rattle.expand.specs.InnerWriting.{expanded_with}

-- Copies as they are numbered: over the n variables and within the new count, and no two variables share one.
pub record Distinct (n most : ℕ) (copy : ℕ → ℕ) : Type 0 where
  pub grown : n ≤ most
  pub within : (v : ℕ) → copy v ≤ most
  pub over : (v : ℕ) → copy v ≢ 0 → n < copy v
  pub one : (v w : ℕ) → copy v ≢ 0 → copy v ≡ copy w → v ≡ w

from_over : (next : ℕ) (members : List ℕ) (v : ℕ) → copy_from next members v ≢ 0 → next ≤ copy_from next members v
unfolding copy_from
from_over next [] v some = absurd (some refl)
from_over next (member ∷ members) v some = by (eqb member v) some (from_over (suc next) members v)
  where
    by : (b : Bool) → cond b next (copy_from (suc next) members v) ≢ 0 → (copy_from (suc next) members v ≢ 0 → suc next ≤ copy_from (suc next) members v)
        → next ≤ cond b next (copy_from (suc next) members v)
    by true some on = omega arith
    by false some on = omega (arith, on some)

from_one : (next : ℕ) (members : List ℕ) (v w : ℕ) → copy_from next members v ≢ 0 → copy_from next members v ≡ copy_from next members w → v ≡ w
unfolding copy_from
from_one next [] v w some q = absurd (some refl)
from_one next (member ∷ members) v w some q = by (eqb member v) (eqb member w) refl refl some q (from_one (suc next) members v w)
  where
    by : (a b : Bool) → eqb member v ≡ a → eqb member w ≡ b → cond a next (copy_from (suc next) members v) ≢ 0
        → cond a next (copy_from (suc next) members v) ≡ cond b next (copy_from (suc next) members w)
        → (copy_from (suc next) members v ≢ 0 → copy_from (suc next) members v ≡ copy_from (suc next) members w → v ≡ w) → v ≡ w
    by true true e f some q on = sym (eqb-true member v e) ∙ eqb-true member w f
    by true false e f some q on = absurd (omega (arith, q, from_over (suc next) members w (λ z. some (q ∙ z))))
    by false true e f some q on = absurd (omega (arith, q, from_over (suc next) members v some))
    by false false e f some q on = on some q

pub numbered : (n : ℕ) (members : List ℕ) → Distinct n (n + length members) (copy_of n members)
numbered n members =
    record {
      grown = omega arith;
      within = copy_number n members;
      over = from_over (suc n) members;
      one = from_one (suc n) members;
    }

module _ {n most : ℕ} {copy : ℕ → ℕ} (distinct : Distinct n most copy) where
  -- What is written so far are variables that are named so far, and copies of such.
  record Written (names written : List ℕ) : Type 0 where
    low : (w : ℕ) → has names w ≡ true → w ≤ n
    each : (w : ℕ) → has written w ≡ true → (has names w ≡ true) ⊎ ((v : ℕ) × (has names v ≡ true) × (copy v ≡ w) × (w ≢ 0))

  has_same : (v w : ℕ) (list : List ℕ) → v ≡ w → has (v ∷ list) w ≡ true
  has_same v w list q = ap (λ (b : Bool). cond b true (has list w)) (eq-eqb v w q)

  has_other : (v w : ℕ) (list : List ℕ) → v ≢ w → has (v ∷ list) w ≡ has list w
  has_other v w list other = ap (λ (b : Bool). cond b true (has list w)) (ne_eqb v w other)

  has_more : (v w : ℕ) (list : List ℕ) → has list w ≡ true → has (v ∷ list) w ≡ true
  has_more v w list t = by_test (eqb v w) (λ s. has_same v w list (eqb-true v w s)) (λ f. has_other v w list (eqb-false v w f) ∙ t)

  module _ {names written : List ℕ} (s : Written names written) (v : ℕ) (some : v ≢ 0) (low : v ≤ n) (new : has names v ≡ false) where
    -- a variable that is not named yet is not written yet, nor is its copy
    fresh_variable : has written v ≡ false
    fresh_variable =
        by_test (has written v)
        (λ t. ⊎_elim (λ old. absurd (clash old new)) (λ w. let (u, _, q, _) = w in absurd (omega (arith, low, distinct.over u (λ z. some (sym q ∙ z)), q))) (s.each v t))
        (λ f. f)

    fresh_copy : copy v ≢ 0 → has (v ∷ written) (copy v) ≡ false
    fresh_copy c =
        has_other v (copy v) written (λ q. omega (arith, low, distinct.over v c, q))
        ∙ by_test (has written (copy v))
        (λ t. ⊎_elim (λ old. absurd (omega (arith, s.low (copy v) old, distinct.over v c)))
        (λ w. let (u, old, q, _) = w in absurd (clash old (ap (has names) (sym (distinct.one v u c (sym q))) ∙ new))) (s.each (copy v) t))
        (λ f. f)

    -- x is named and not written
    named_only : Written (v ∷ names) written
    named_only =
        record {
          low = λ w t. by_cases (ℕ_discrete v w) (λ q. omega (arith, low, q)) (λ other. s.low w (sym (has_other v w names other) ∙ t));
          each = λ w t. ⊎_elim (λ old. inl (has_more v w names old)) (λ o. let (u, old, q, r) = o in inr (u, has_more v u names old, q, r)) (s.each w t);
        }

    variable_written : Written (v ∷ names) (v ∷ written)
    variable_written =
        record {
          low = named_only.low;
          each = λ w t. by_cases (ℕ_discrete v w) (λ q. inl (has_same v w names q)) (λ other. named_only.each w (sym (has_other v w written other) ∙ t));
        }

    copy_written : copy v ≢ 0 → Written (v ∷ names) (copy v ∷ v ∷ written)
    copy_written c =
        record {
          low = named_only.low;
          each = λ w t. by_cases (ℕ_discrete (copy v) w) (λ q. inr (v, has_same v v names refl, q, λ z. c (q ∙ z)))
              (λ other. variable_written.each w (sym (has_other (copy v) w (v ∷ written) other) ∙ t));
        }

  -- one variable passes the test
  pass_one : (v : ℕ) (more : List ℕ) (fresh : Bool) (mark count : ℕ) (written : List ℕ) → v ≢ 0 → v ≤ most → has written v ≡ false
      → prefix_passes most more false false mark count (v ∷ written) ≡ true → prefix_passes most (v ∷ more) false fresh mark count written ≡ true
  unfolding prefix_passes
  pass_one v more fresh mark count written some low new on =
      ap (λ b. cond b (not fresh && prefix_passes most more true false mark count written)
      (leb v most && not (has written v) && prefix_passes most more false false mark count (v ∷ written))) (ne_eqb v 0 some)
      ∙ both_true (both_true (le-leb v most low) (ap not new)) on

  -- and so does a mark, behind the 0 that closes the block before
  pass_mark : (mark : ℕ) (more : List ℕ) (last count : ℕ) (written : List ℕ) → mark ≢ last → IsMark mark → count ≢ 64 → prefix_passes most more false true mark (suc count) written ≡ true
      → prefix_passes most ((closing last ++ (mark ∷ [])) ++ more) (eqb last 0) false last count written ≡ true
  unfolding prefix_passes closing
  pass_mark mark more zero count written other good few on = both_true (good_mark_lem mark zero count good other few) on
  pass_mark mark more (suc last) count written other good few on =
      ap (λ (o : Bool). prefix_passes most (0 ∷ mark ∷ more) o false (suc last) count written) (ne_eqb (suc last) 0 (λ z. omega arith))
      ∙ both_true (good_mark_lem mark (suc last) count good other few) on

  -- A variable with its copy passes.
  module _ {names written : List ℕ} (s : Written names written) (v : ℕ) (some : v ≢ 0) (low : v ≤ n) (new : has names v ≡ false) (more : List ℕ) (mark : ℕ) where
    pass_placed : (fresh : Bool) (count : ℕ) → ((after : List ℕ) → Written (v ∷ names) after
        → prefix_passes most more false false mark count after ≡ true) → prefix_passes most (with_copy copy v ++ more) false fresh mark count written ≡ true
    unfolding with_copy
    pass_placed fresh count on = by_test (eqb (copy v) 0) alone both
      where
        first : (rest : List ℕ) → prefix_passes most rest false false mark count (v ∷ written) ≡ true → prefix_passes most (v ∷ rest) false fresh mark count written ≡ true
        first rest = pass_one v rest fresh mark count written some (omega (arith, distinct.grown)) (fresh_variable s v some low new)

        alone : eqb (copy v) 0 ≡ true → prefix_passes most (cond (eqb (copy v) 0) (v ∷ []) (v ∷ copy v ∷ []) ++ more) false fresh mark count written ≡ true
        alone t =
            ap (λ b. prefix_passes most (cond b (v ∷ []) (v ∷ copy v ∷ []) ++ more) false fresh mark count written) t
            ∙ first more (on (v ∷ written) (variable_written s v some low new))

        both : eqb (copy v) 0 ≡ false → prefix_passes most (cond (eqb (copy v) 0) (v ∷ []) (v ∷ copy v ∷ []) ++ more) false fresh mark count written ≡ true
        both f =
            let c = eqb-false (copy v) 0 f in
            ap (λ b. prefix_passes most (cond b (v ∷ []) (v ∷ copy v ∷ []) ++ more) false fresh mark count written) f
            ∙ first (copy v ∷ more) (pass_one (copy v) more false mark count (v ∷ written) c (distinct.within v) (fresh_copy s v some low new c)
            (on (copy v ∷ v ∷ written) (copy_written s v some low new c)))

    -- So it does where its block goes on, and where it begins.
    pass_on : (last count : ℕ) → mark ≡ last → mark ≢ 0 → ((after : List ℕ) → Written (v ∷ names) after → prefix_passes most more false false mark count after ≡ true)
        → prefix_passes most (beginning mark last ++ (with_copy copy v ++ more)) (eqb last 0) false last count written ≡ true
    pass_on last count same m on =
        subst (λ (l : ℕ). prefix_passes most (beginning mark l ++ (with_copy copy v ++ more)) (eqb l 0) false l count written ≡ true) same
        (ap (λ (r : List ℕ). prefix_passes most (r ++ (with_copy copy v ++ more)) (eqb mark 0) false mark count written) (begin_none mark mark refl)
        ∙ ap (λ (o : Bool). prefix_passes most (with_copy copy v ++ more) o false mark count written) (ne_eqb mark 0 m)
        ∙ pass_placed false count on)

    pass_begun : (last count : ℕ) → mark ≢ last → IsMark mark → count ≢ 64 → ((after : List ℕ) → Written (v ∷ names) after → prefix_passes most more false false mark (suc count) after ≡ true)
        → prefix_passes most (beginning mark last ++ (with_copy copy v ++ more)) (eqb last 0) false last count written ≡ true
    pass_begun last count other good few on =
        ap (λ (r : List ℕ). prefix_passes most (r ++ (with_copy copy v ++ more)) (eqb last 0) false last count written) (begin_new mark last other)
        ∙ pass_mark mark (with_copy copy v ++ more) last count written other good few (pass_placed true (suc count) on)

  -- The result has no more blocks than the prefix, and one less where the block that is read has not begun yet.
  record Behind (last count written_last written_count : ℕ) : Type 0 where
    few : count ≤ 64
    most_count : written_count ≤ count
    less : written_last ≢ last → written_count < count

  ended : (last count : ℕ) (written : List ℕ) → prefix_passes most (closing last) (eqb last 0) false last count written ≡ true
  unfolding prefix_passes closing
  ended zero count written = refl
  ended (suc last) count written = ap (λ (o : Bool). prefix_passes most (0 ∷ []) o false (suc last) count written) (ne_eqb (suc last) 0 (λ z. omega arith))

  module _ (x : ℕ) where
    -- What is left to write passes the test.
    abbrev Goes : Bool → ℕ → ℕ → List ℕ → List ℕ → Type 0
    Goes true last count names es = (wlast wcount : ℕ) (written : List ℕ) → Behind last count wlast wcount → Written names written
        → prefix_passes most (left x copy None wlast es) (eqb wlast 0) false wlast wcount written ≡ true
    Goes false last count names es = (mark wlast wcount : ℕ) (written : List ℕ) → IsMark mark → (mark ≡ last) ⊎ (starts_zero es ≡ true) → Behind last count wlast wcount → Written names written
        → prefix_passes most (left x copy (Some mark) wlast es) (eqb wlast 0) false wlast wcount written ≡ true

    went : (last count : ℕ) (names more : List ℕ) (v : ℕ) → v ≢ 0 → v ≤ n → has names v ≡ false → Goes false last count (v ∷ names) more → Goes false last count names (v ∷ more)
    unfolding left starts_zero
    went last count names more v some low new on mark wlast wcount written good (inr t) b s = absurd (some (eqb-true v 0 t))
    went last count names more v some low new on mark wlast wcount written good (inl same) b s =
        ap (λ e. prefix_passes most (cond e (left x copy None wlast more)
        (cond (eqb v x) (left x copy (Some mark) wlast more) (beginning mark wlast ++ (with_copy copy v ++ left x copy (Some mark) mark more)))) (eqb
        wlast 0) false wlast wcount written) (ne_eqb v 0 some)
        ∙ by_test (eqb v x) gone stays
      where
        m : mark ≢ 0
        m = mark_some mark good

        gone : eqb v x ≡ true → prefix_passes most (cond (eqb v x) (left x copy (Some mark) wlast more)
            (beginning mark wlast ++ (with_copy copy v ++ left x copy (Some mark) mark more))) (eqb wlast 0) false wlast wcount written ≡ true
        gone t =
            ap (λ e. prefix_passes most (cond e (left x copy (Some mark) wlast more)
            (beginning mark wlast ++ (with_copy copy v ++ left x copy (Some mark) mark more))) (eqb wlast 0) false wlast wcount written) t
            ∙ on mark wlast wcount written good (inl same) b (named_only s v some low new)

        -- behind its own mark
        next : (wcount' : ℕ) → wcount' ≤ count → (after : List ℕ) → Written (v ∷ names) after → prefix_passes most (left x copy (Some mark) mark more) false false mark wcount' after ≡ true
        next wcount' l after s' =
            sym (ap (λ (o : Bool). prefix_passes most (left x copy (Some mark) mark more) o false mark wcount' after) (ne_eqb mark 0 m))
            ∙ on mark mark wcount' after good (inl same) (record { few = b.few; most_count = l; less = λ other. absurd (other same) }) s'

        laid : Dec (mark ≡ wlast) → prefix_passes most (beginning mark wlast ++ (with_copy copy v ++ left x copy (Some mark) mark more)) (eqb wlast 0) false wlast wcount written ≡ true
        laid (yes q) = pass_on s v some low new (left x copy (Some mark) mark more) mark wlast wcount q m (next wcount b.most_count)
        laid (no other) =
            let l = b.less (λ q. other (same ∙ sym q)) in
            let few = b.few in
            pass_begun s v some low new (left x copy (Some mark) mark more) mark wlast wcount other good (λ z. omega arith) (next (suc wcount) l)

        stays : eqb v x ≡ false → prefix_passes most (cond (eqb v x) (left x copy (Some mark) wlast more)
            (beginning mark wlast ++ (with_copy copy v ++ left x copy (Some mark) mark more))) (eqb wlast 0) false wlast wcount written ≡ true
        stays f =
            ap (λ e. prefix_passes most (cond e (left x copy (Some mark) wlast more)
            (beginning mark wlast ++ (with_copy copy v ++ left x copy (Some mark) mark more))) (eqb wlast 0) false wlast wcount written) f
            ∙ laid (ℕ_discrete mark wlast)

    goes : {opening : Bool} {last count : ℕ} {names es : List ℕ} → Passes n opening last count names es → Goes opening last count names es
    unfolding left
    goes no_more = λ wlast wcount written b s. ended wlast wcount written
    goes (begin {mark} {last} {count} good new few d) = λ wlast wcount written b s.
        goes d mark wlast wcount written good (inl refl) (record { few = omega (arith, b.few, few); most_count = omega (arith, b.most_count); less = λ _. omega (arith, b.most_count) }) s
    goes (go_on {mark} {last} {count} {names} {more} good old d) = λ wlast wcount written b s.
        goes d mark wlast wcount written good (by_test (starts_zero more) inr (λ f. inl (old_mark mark last more f old))) b s
    goes (close_block d) = λ mark wlast wcount written good is b s. goes d wlast wcount written b s
    goes (name {v} {last} {count} {names} {more} some low new d) = went last count names more v some low new (goes d)

    -- So for a whole prefix.
    prefix_passes_lem : {es : List ℕ} → SoundPrefix n es → prefix_passes most (expanded_prefix x copy es) true false 0 0 [] ≡ true
    prefix_passes_lem {es} sound =
        sym (ap (λ (r : List ℕ). prefix_passes most r true false 0 0 []) (left_expanded x copy sound))
        ∙ goes (passes (also_accepted sound.few sound.faultless)) 0 0 []
        (record { few = omega arith; most_count = omega arith; less = λ other. absurd (other refl) })
        (record { low = λ w t. absurd (clash t refl); each = λ w t. absurd (clash t refl) })

-- Literals whose variables are within a count, and clauses of such.
abbrev Low : ℕ → List ℤ → Type 0
Low n [] = Unit {0}
Low n (z ∷ zs) = (variable_of z ≤ n) × Low n zs

abbrev AllLow : ℕ → List (List ℤ) → Type 0
AllLow n [] = Unit {0}
AllLow n (c ∷ cs) = Low n c × AllLow n cs

low_table : {n : ℕ} (zs : List ℤ) → ((e : ℕ) → e < length zs → variable_of (get_or zs e (pos 0)) ≤ n) → Low n zs
low_table [] low = tt
low_table (z ∷ zs) low = (low 0 (omega arith), low_table zs (λ e l. low (suc e) (omega arith)))

cut_low : (n : ℕ) (zs : List ℤ) → Low n zs → AllLow n (cut (λ (literal : ℤ). is_zero (variable_of literal)) zs)
unfolding cut
cut_low n [] low = tt
cut_low n (z ∷ zs) low = go (is_zero (variable_of z)) (cut (λ (literal : ℤ). is_zero (variable_of literal)) zs) (cut_low n zs low.1)
  where
    go : (b : Bool) (cs : List (List ℤ)) → AllLow n cs → AllLow n (cond b ([] ∷ cs) (push z cs))
    go true cs all = (tt, all)
    go false [] all = tt
    go false (c ∷ cs) all = ((low.0, all.0), all.1)

clauses_low : {n : ℕ} (ls : List ℤ) → NoCause (ClauseCause n ls) → AllLow n (clauses ls)
unfolding clauses
clauses_low {n} ls none =
    cut_low n ls
    (low_table ls (λ e l. by_cases (dec_le (variable_of (literal_at ls e)) n) (λ low. low)
    (λ over. absurd (none 10 e (ClauseCause.outside refl l (λ z. let q = ap variable_of z in omega arith) (omega arith))))))

module _ {n most : ℕ} {copy : ℕ → ℕ} (distinct : Distinct n most copy) where
  negated : (k : ℕ) → k ≤ most → variable_of (neg_ℤ (pos k)) ≤ most
  negated zero l = omega arith
  negated (suc k) l = l

  renamed_low : (z : ℤ) → variable_of z ≤ n → variable_of (renamed copy z) ≤ most
  unfolding renamed
  renamed_low (pos v) low = by (eqb (copy v) 0)
    where
      by : (b : Bool) → variable_of (cond b (pos v) (pos (copy v))) ≤ most
      by true = omega (arith, low, distinct.grown)
      by false = distinct.within v
  renamed_low (negsuc v) low = by (eqb (copy (suc v)) 0)
    where
      by : (b : Bool) → variable_of (cond b (negsuc v) (neg_ℤ (pos (copy (suc v))))) ≤ most
      by true = omega (arith, low, distinct.grown)
      by false = negated (copy (suc v)) (distinct.within (suc v))

  named_low : (value : Bool) (z : ℤ) → variable_of z ≤ n → variable_of (named value copy z) ≤ most
  unfolding named
  named_low false z low = omega (arith, low, distinct.grown)
  named_low true z low = renamed_low z low

  copy_low : (value : Bool) (x : ℕ) (c : List ℤ) → Low n c → Low most (map (named value copy) (without x c))
  unfolding without
  copy_low value x [] low = tt
  copy_low value x (z ∷ zs) low = by (eqb (variable_of z) x) (copy_low value x zs low.1)
    where
      by : (b : Bool) → Low most (map (named value copy) (without x zs)) → Low most (map (named value copy) (cond b (without x zs) (z ∷ without x zs)))
      by true on = on
      by false on = (named_low value z low.0, on)

  copies_low : (value : Bool) (x : ℕ) (cs : List (List ℤ)) → AllLow n cs → AllLow most (copies value x copy cs)
  unfolding copies
  copies_low value x [] all = tt
  copies_low value x (c ∷ cs) all = by (has_copy value x copy c) (copies_low value x cs all.1)
    where
      by : (b : Bool) → AllLow most (copies value x copy cs) → AllLow most (cond b (map (named value copy) (without x c) ∷ copies value x copy cs) (copies value x copy cs))
      by true on = (copy_low value x c all.0, on)
      by false on = on

  append_low : (cs ds : List (List ℤ)) → AllLow most cs → AllLow most ds → AllLow most (cs ++ ds)
  append_low [] ds p q = q
  append_low (c ∷ cs) ds p q = (p.0, append_low cs ds p.1 q)

  clause_passes : (c table : List ℤ) (inside : Bool) → Low most c → clauses_pass most table false ≡ true → clauses_pass most (c ++ (pos 0 ∷ table)) inside ≡ true
  unfolding clauses_pass
  clause_passes [] table inside low on = both_true (le-leb 0 most (omega arith)) on
  clause_passes (z ∷ c) table inside low on = both_true (le-leb (variable_of z) most low.0) (clause_passes c table (not (eqb (variable_of z) 0)) low.1 on)

  table_passes : (cs : List (List ℤ)) → AllLow most cs → clauses_pass most (clause_table cs) false ≡ true
  unfolding clause_table clauses_pass
  table_passes [] all = refl
  table_passes (c ∷ cs) all = clause_passes c (clause_table cs) false all.0 (table_passes cs all.1)

  clauses_pass_lem : (x : ℕ) (ls : List ℤ) → NoCause (ClauseCause n ls) → clauses_pass most (expanded_clauses x copy ls) false ≡ true
  unfolding expanded_clauses expanded_list
  clauses_pass_lem x ls none =
      let all = clauses_low ls none in
      table_passes (copies false x copy (clauses ls) ++ copies true x copy (clauses ls))
      (append_low (copies false x copy (clauses ls)) (copies true x copy (clauses ls)) (copies_low false x (clauses ls) all)
      (copies_low true x (clauses ls) all))

-- An accepted formula expanded by the copies of some members, within the limits, is accepted.
numbered_accepted : (f : Formula) (x : ℕ) (members : List ℕ) → SoundPrefix f.n f.prefix → NoCause (ClauseCause f.n f.clauses)
    → (let g = expanded_with (f.n + length members) x (copy_of f.n members) f in ¬ ManyVariables g → ¬ Long g → NoneOf (check_order 1 g))
numbered_accepted f x members sound low few short =
    let g = expanded_with (f.n + length members) x (copy_of f.n members) f in
    let fits : ¬ (8192 < length g.prefix) = λ over. short (inl over) in
    let small : ¬ (16384 < length g.clauses) = λ over. short (inr over) in
    let passes' = prefix_passes_lem (numbered f.n members) x sound in (
      at0_none 23 (λ w. w.0 refl),
      accepts g.n g.prefix g.clauses (omega arith) (omega arith) (omega arith) passes' (clauses_pass_lem (numbered f.n members) x f.clauses low),
    )

expanded_accepted : (f : Formula) (x : ℕ) (members : List ℕ) → SoundPrefix f.n f.prefix → NoCause (ClauseCause f.n f.clauses)
    → ¬ ManyVariables (expanded_by f x members) → ¬ Long (expanded_by f x members) → NoneOf (check_order 1 (expanded_by f x members))
expanded_accepted f x members sound low few short =
    let same = expanded_same x members f in
    subst (λ (g : Formula). NoneOf (check_order 1 g)) same
    (numbered_accepted f x members sound low (λ over. few (subst ManyVariables same over)) (λ over. short (subst Long same over)))

-- The prefix as a rule reads it is sound where the rule accepts it.
read_sound : (rule n : ℕ) (es : List ℕ) (entries : ℕ) → NoneOf (ruled_prefix rule n es entries) → SoundPrefix n (read_as rule es)
unfolding read_as
read_sound rule n es entries none = by_cases (ℕ_discrete rule 1) one other
  where
    one : rule ≡ 1 → SoundPrefix n (read_as rule es)
    one is = subst (λ (r : ℕ). SoundPrefix n (read_as r es)) (sym is) (sound_prefix entries [] (subst (λ (r : ℕ). NoneOf (ruled_prefix r n es entries)) is none).1)

    other : rule ≢ 1 → SoundPrefix n (read_as rule es)
    other more =
        let (is, few, _, _, faultless) = accepted_two rule n es entries more none in
        let fits : length (joined_prefix es) ≤ 8192 = omega (arith, joined_short few faultless) in
        subst (λ (r : ℕ). SoundPrefix n (read_as r es)) (sym is) (record { few = few; short = fits; faultless = joined_accepted few fits faultless })

-- A formula that rule 1 accepts, rule 2 does.
other_rule : (g : Formula) → NoneOf (check_order 1 g) → NoneOf (check_order 2 g)
other_rule g none =
    let two = (both_accept g.n g.prefix (length g.clauses) (none.0, (none.1.0, (none.1.1.0, (none.1.1.1.0, tt))))).0 in
    (two.0, (two.1.0, (two.1.1.0, (two.1.1.1.0, (none.1.1.1.1.0, tt)))))

-- The formula that stands in front in the tables.
abbrev pub written : ResultTables → ℕ → ℕ → ℕ → Formula
written out count entries literals = formula_of count (take entries out.prefix) (take literals out.clauses)

-- What the call leaves where it accepts is the formula with x expanded.
pub result_is : (out out' : ResultTables) (count entries literals : ℕ) (g : Formula) → LeavesFormula out out' count entries literals g
    → g ≡ written out' count entries literals
result_is out out' count entries literals g leaves =
    let front : take entries out'.prefix ≡ g.prefix =
    ap (λ (k : ℕ). take k out'.prefix) leaves.entries_is ∙ ap (take (length g.prefix)) leaves.prefix_is
    ∙ overwritten_front g.prefix out.prefix in
    let fronts : take literals out'.clauses ≡ g.clauses =
    ap (λ (k : ℕ). take k out'.clauses) leaves.literals_is ∙ ap (take (length g.clauses)) leaves.clauses_is
    ∙ overwritten_front g.clauses out.clauses in
    λ i. formula_of (sym leaves.count_is i) (sym front i) (sym fronts i)

-- So it is a formula that check accepts, under rule 1 as under rule 2.
pub result_accepted : (rule : ℕ) (f : Formula) (x : ℕ) (out out' : ResultTables) (counts : Counts) → Expands rule f x out out' (Ok counts)
    → NoneOf (check_order 1 (written out' counts.n counts.prefix counts.clauses)) × NoneOf (check_order 2 (written out' counts.n counts.prefix counts.clauses))
result_accepted rule f x out out' counts (none, (members, set, leaves)) =
    let read = read_by rule f in
    let g = expanded_by read x members in
    let sound = read_sound rule f.n f.prefix (length f.clauses) (none.0, (none.1.0, (none.1.1.0, (none.1.1.1.0, tt)))) in
    let behind = none.1.1.1.1.1.1 in
    let few : ¬ ManyVariables g = λ over. behind.0 1 0 (refl, refl, (members, set, over)) in
    let short : ¬ Long g = λ over. behind.1.0 2 0 (refl, refl, (members, set, over)) in
    let accepted = expanded_accepted read x members sound none.1.1.1.1.0 few short in
    subst (λ (h : Formula). NoneOf (check_order 1 h) × NoneOf (check_order 2 h)) (result_is out out' counts.n counts.prefix counts.clauses g leaves)
    (accepted, other_rule g accepted)
