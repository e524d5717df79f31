-- The scan of rule 2 against joined blocks: at an entry with which a block may open, the last mark that the scan has passed is that of the last block
-- of what stands before, dropped and joined, and as many blocks have begun as there are. So a mark begins a block in the scan exactly if it begins
-- one by the rule.
use Prim.Native.Nat.{ℕ, zero, suc, ◌+◌, ◌≤◌, ◌<◌}
use mathlib.Core.Path.{◌≡◌, refl, sym, ap, ap₂, ◌∙◌}
use mathlib.Core.Bool.{Bool, true, false, cond, not, ◌&&◌}
use mathlib.Core.List.{List, [], ◌∷◌, ◌++◌}
use mathlib.Core.Logic.{◌≢◌}
use native.Mathlib.Decide.{ℕ_discrete}
use native.Mathlib.Omega.{arith}
use borrow.Author.Tests.{eq-eqb, ne_eqb, eqb-true, lt-ltb, ltb-true}
use lib.Dec.{eqb, ltb}
use lib.ListN.{length, take, drop}
use lib.Seq.{drop-cons}
use Rattle.terms.proofs.Common.{clash, by_test}
use Rattle.formula.specs.Meaning.{blocks, mark_of, is_zero}
use Rattle.formula.specs.Tables.{at, opens, cut, push}
use Rattle.formula_rules.specs.Joined.{in_front, joined_blocks, NoneEmpty}
use Rattle.formula_rules.specs.Rules.{joined_before, end_mark, BlockBegins}
use Rattle.formula_rules.specs.InnerScan.{empty_at, begins_after, last_mark, begins, begun_before}
use Rattle.formula_rules.proofs.Blocks.{AllWhole, blocks_whole, joined_whole}
use Rattle.formula_rules.proofs.Joining.{front_cases, joined_joins}

-- At an entry that opens a block the last mark and the count go on as the test says: a mark that begins no block is empty or the same again.
last_cases : (empty : Bool) (a l : ℕ) → cond (not empty) a l ≡ cond (not empty && not (eqb a l)) a l
last_cases true a l = refl
last_cases false a l = go (ℕ_discrete a l)
  where
    go : Dec (a ≡ l) → a ≡ cond (not (eqb a l)) a l
    go (yes q) = q ∙ sym (ap (λ b. cond (not b) a l) (eq-eqb a l q))
    go (no other) = sym (ap (λ b. cond (not b) a l) (ne_eqb a l other))

pub last_next : (es : List ℕ) (i : ℕ) → opens es i ≡ true → last_mark es (suc i) ≡ cond (begins_after es i (last_mark es i)) (at es i) (last_mark es i)
last_next es i open' = ap (λ o. cond (o && not (empty_at es i)) (at es i) (last_mark es i)) open' ∙ last_cases (empty_at es i) (at es i) (last_mark es i)

pub last_stays : (es : List ℕ) (i : ℕ) → opens es i ≡ false → last_mark es (suc i) ≡ last_mark es i
last_stays es i shut = ap (λ o. cond (o && not (empty_at es i)) (at es i) (last_mark es i)) shut

pub begins_open : (es : List ℕ) (i : ℕ) → opens es i ≡ true → begins es i ≡ begins_after es i (last_mark es i)
begins_open es i open' = ap (λ o. o && begins_after es i (last_mark es i)) open'

pub begun_next : (es : List ℕ) (i : ℕ) (new : Bool) → begins es i ≡ new → begun_before es (suc i) ≡ cond new (suc (begun_before es i)) (begun_before es i)
begun_next es i new q = ap (λ b. cond b (suc (begun_before es i)) (begun_before es i)) q

pub begins_shut : (es : List ℕ) (i : ℕ) → opens es i ≡ false → begins es i ≡ false
begins_shut es i shut = ap (λ o. o && begins_after es i (last_mark es i)) shut

-- The scan over blocks: the last mark after them, and how many begin among them, behind a block with the mark `last`.
unfoldable passed_mark : ℕ → List (List ℕ) → ℕ
passed_mark last [] = last
passed_mark last ([] ∷ later) = passed_mark last later
passed_mark last ((mark ∷ []) ∷ later) = passed_mark last later
passed_mark last ((mark ∷ v ∷ variables) ∷ later) = passed_mark mark later

unfoldable begun : ℕ → List (List ℕ) → ℕ
begun last [] = 0
begun last ([] ∷ later) = begun last later
begun last ((mark ∷ []) ∷ later) = begun last later
begun last ((mark ∷ v ∷ variables) ∷ later) = cond (eqb mark last) (begun mark later) (suc (begun mark later))

-- The same of joined blocks: the mark of the last, and how many there are, but for the first where it goes on with `last`.
last_of : ℕ → List (List ℕ) → ℕ
last_of last [] = last
last_of last (block ∷ later) = end_mark (block ∷ later)

fresh : ℕ → List (List ℕ) → ℕ
fresh last [] = 0
fresh last (block ∷ later) = cond (eqb (mark_of block) last) (length later) (suc (length later))

module _ (last mark v : ℕ) (variables : List ℕ) where
  front_last : (js : List (List ℕ)) → last_of last (in_front (mark ∷ v ∷ variables) js) ≡ last_of mark js
  unfolding in_front last_of
  front_last [] = refl
  front_last (next ∷ later) =
      front_cases mark v variables (λ js. last_of last js ≡ last_of mark (next ∷ later)) next later (joined later) (λ other. refl)
    where
      joined : (later : List (List ℕ)) → mark ≡ mark_of next → end_mark ((mark ∷ v ∷ (variables ++ drop 1 next)) ∷ later) ≡ end_mark (next ∷ later)
      joined [] same = same
      joined (block ∷ more) same = refl

  front_fresh : (js : List (List ℕ)) → fresh last (in_front (mark ∷ v ∷ variables) js) ≡ cond (eqb mark last) (fresh mark js) (suc (fresh mark js))
  unfolding in_front fresh
  front_fresh [] = refl
  front_fresh (next ∷ later) =
      front_cases mark v variables (λ js. fresh last js ≡ counted (eqb (mark_of next) mark)) next later
      (λ same. ap counted (sym (eq-eqb (mark_of next) mark (sym same)))) (λ other. ap counted (sym (ne_eqb (mark_of next) mark (λ q. other (sym q)))))
    where
      -- what is counted, by whether the next block goes on with the mark
      counted : Bool → ℕ
      counted b =
          let later-count = cond b (length later) (suc (length later)) in
          cond (eqb mark last) later-count (suc later-count)

passed_is : (last : ℕ) (bs : List (List ℕ)) → passed_mark last bs ≡ last_of last (joined_blocks bs)
unfolding passed_mark joined_blocks in_front last_of
passed_is last [] = refl
passed_is last ([] ∷ later) = passed_is last later
passed_is last ((mark ∷ []) ∷ later) = passed_is last later
passed_is last ((mark ∷ v ∷ variables) ∷ later) = passed_is mark later ∙ sym (front_last last mark v variables (joined_blocks later))

begun_is : (last : ℕ) (bs : List (List ℕ)) → begun last bs ≡ fresh last (joined_blocks bs)
unfolding begun joined_blocks in_front fresh
begun_is last [] = refl
begun_is last ([] ∷ later) = begun_is last later
begun_is last ((mark ∷ []) ∷ later) = begun_is last later
begun_is last ((mark ∷ v ∷ variables) ∷ later) =
    ap (λ k. cond (eqb mark last) k (suc k)) (begun_is mark later) ∙ sym (front_fresh last mark v variables (joined_blocks later))

-- Behind nothing all are counted, since no mark is 0.
fresh_all : (js : List (List ℕ)) → NoneEmpty js → AllWhole js → fresh 0 js ≡ length js
unfolding fresh
fresh_all [] full whole = refl
fresh_all ([] ∷ later) full whole = absurd (let l = full.0 in omega arith)
fresh_all ((mark ∷ variables) ∷ later) full whole = ap (λ b. cond b (length later) (suc (length later))) (ne_eqb mark 0 whole.0.0)

last_all : (js : List (List ℕ)) → last_of 0 js ≡ end_mark js
unfolding last_of
last_all [] = refl
last_all (block ∷ later) = refl

is_nil : List ℕ → Bool
is_nil [] = true
is_nil (entry ∷ more) = false

-- Up to an entry e with which a block may open, where no mark before is 0.
module _ (es : List ℕ) (e : ℕ) (within : e ≤ length es) (marks : (i : ℕ) → i < e → opens es i ≡ true → at es i ≢ 0) (opens-e : opens es e ≡ true) where
  -- the lists from entry i on, of so many entries
  abbrev left : ℕ → ℕ → List (List ℕ)
  left k i = cut is_zero (take k (drop i es))

  -- what the scan has at e, from an entry with which a block may open,
  record Outside (k i : ℕ) : Type 0 where
    last_is : last_mark es e ≡ passed_mark (last_mark es i) (left k i)
    begun_so : begun_before es e ≡ begun_before es i + begun (last_mark es i) (left k i)

  -- and from one inside a block: the first list is the rest of that
  record Inside (k i : ℕ) : Type 0 where
    below : i < e
    first : List ℕ
    later : List (List ℕ)
    is : left k i ≡ first ∷ later
    empty : is_nil first ≡ eqb (at es i) 0
    last_is : last_mark es e ≡ passed_mark (last_mark es i) later
    begun_so : begun_before es e ≡ begun_before es i + begun (last_mark es i) later

  module _ (k i : ℕ) (low : i < e) where
    here : take (suc k) (drop i es) ≡ at es i ∷ take k (drop (suc i) es)
    here = ap (take (suc k)) (drop-cons es i 0 (omega arith))

    cut_zero : at es i ≡ 0 → left (suc k) i ≡ [] ∷ left k (suc i)
    unfolding cut
    cut_zero z = ap (cut is_zero) here ∙ ap (λ b. cond b ([] ∷ left k (suc i)) (push (at es i) (left k (suc i)))) (eq-eqb (at es i) 0 z)

    cut_some : at es i ≢ 0 → left (suc k) i ≡ push (at es i) (left k (suc i))
    unfolding cut
    cut_some some = ap (cut is_zero) here ∙ ap (λ b. cond b ([] ∷ left k (suc i)) (push (at es i) (left k (suc i)))) (ne_eqb (at es i) 0 some)

    -- A mark: by whether 0 directly follows.
    at_mark : opens es i ≡ true → Inside k (suc i) → Outside (suc k) i
    unfolding passed_mark begun is_nil
    at_mark open' s = go s.first s.later s.is s.empty s.last_is s.begun_so
      where
        last : ℕ
        last = last_mark es i

        empty_is : (b : Bool) → eqb (at es (suc i)) 0 ≡ b → empty_at es i ≡ b
        empty_is b q = let l = s.below in ap (λ t. t && eqb (at es (suc i)) 0) (lt-ltb (suc i) (length es) (omega arith)) ∙ q

        new_last : (b : Bool) → empty_at es i ≡ b → last_mark es (suc i) ≡ cond (not b) (at es i) last
        new_last b q = ap (λ o. cond (o && not (empty_at es i)) (at es i) last) open' ∙ ap (λ b. cond (not b) (at es i) last) q

        new_begun : (b : Bool) → empty_at es i ≡ b → begun_before es (suc i) ≡ cond (not b && not (eqb (at es i) last)) (suc (begun_before es i)) (begun_before es i)
        new_begun b q =
            begun_next es i (not b && not (eqb (at es i) last)) (begins_open es i open' ∙ ap (λ b. not b && not (eqb (at es i) last)) q)

        whole : (first : List ℕ) (later : List (List ℕ)) → left k (suc i) ≡ first ∷ later → left (suc k) i ≡ (at es i ∷ first) ∷ later
        whole first later is = cut_some (marks i low open') ∙ ap (push (at es i)) is

        go : (first : List ℕ) (later : List (List ℕ)) → left k (suc i) ≡ first ∷ later → is_nil first ≡ eqb (at es (suc i)) 0
            → last_mark es e ≡ passed_mark (last_mark es (suc i)) later → begun_before es e ≡ begun_before es (suc i) + begun (last_mark es (suc i)) later
            → Outside (suc k) i
        go [] later is empty last-so begun_so =
            let none = empty_is true (sym empty) in
            record {
              last_is = last-so ∙ ap (λ l. passed_mark l later) (new_last true none) ∙ sym (ap (passed_mark last) (whole [] later is));
              begun_so = begun_so ∙ ap₂ (λ b l. b + begun l later) (new_begun true none) (new_last true none)
                  ∙ sym (ap (λ bs. begun_before es i + begun last bs) (whole [] later is));
            }
        go (v ∷ variables) later is empty last-so begun_so =
            let some = empty_is false (sym empty) in
            record {
              last_is = last-so ∙ ap (λ l. passed_mark l later) (new_last false some) ∙ sym (ap (passed_mark last) (whole (v ∷ variables) later is));
              begun_so = begun_so ∙ ap₂ (λ b l. b + begun l later) (new_begun false some) (new_last false some) ∙ one (eqb (at es i) last)
                  ∙ sym (ap (λ bs. begun_before es i + begun last bs) (whole (v ∷ variables) later is));
            }
          where
            one : (b : Bool) → cond (not b) (suc (begun_before es i)) (begun_before es i) + begun (at es i) later
                ≡ begun_before es i + cond b (begun (at es i) later) (suc (begun (at es i) later))
            one true = refl
            one false = omega arith

    -- A 0 that closes a block, and a variable.
    at_close : opens es i ≡ false → at es i ≡ 0 → Outside k (suc i) → Inside (suc k) i
    unfolding is_nil
    at_close shut z s =
        record {
          below = low;
          first = [];
          later = left k (suc i);
          is = cut_zero z;
          empty = sym (eq-eqb (at es i) 0 z);
          last_is = s.last_is ∙ ap (λ l. passed_mark l (left k (suc i))) (last_stays es i shut);
          begun_so = s.begun_so
              ∙ ap₂ (λ b l. b + begun l (left k (suc i))) (begun_next es i false (begins_shut es i shut)) (last_stays es i shut);
        }

    at_variable : opens es i ≡ false → at es i ≢ 0 → Inside k (suc i) → Inside (suc k) i
    unfolding is_nil
    at_variable shut some s =
        record {
          below = low;
          first = at es i ∷ s.first;
          later = s.later;
          is = cut_some some ∙ ap (push (at es i)) s.is;
          empty = sym (ne_eqb (at es i) 0 some);
          last_is = s.last_is ∙ ap (λ l. passed_mark l s.later) (last_stays es i shut);
          begun_so = s.begun_so ∙ ap₂ (λ b l. b + begun l s.later) (begun_next es i false (begins_shut es i shut)) (last_stays es i shut);
        }

  -- The scan from any entry on.
  scanned : (k i : ℕ) → e ≡ i + k → (opens es i ≡ true → Outside k i) × (opens es i ≡ false → Inside k i)
  unfolding cut passed_mark begun
  scanned zero i q =
      let same : e ≡ i = omega arith in (
        λ _. record { last_is = ap (last_mark es) same; begun_so = let b = ap (begun_before es) same in omega arith },
        λ shut. absurd (clash opens-e (ap (opens es) same ∙ shut)),
      )
  scanned (suc k) i q = by (scanned k (suc i) (omega arith)) (ℕ_discrete (at es i) 0)
    where
      low : i < e
      low = omega arith

      by : (opens es (suc i) ≡ true → Outside k (suc i)) × (opens es (suc i) ≡ false → Inside k (suc i)) → Dec (at es i ≡ 0)
          → (opens es i ≡ true → Outside (suc k) i) × (opens es i ≡ false → Inside (suc k) i)
      by (outside, inside) (yes z) =
          (λ open'. absurd (marks i low open' z), λ shut. at_close k i low shut z (outside (eq-eqb (at es i) 0 z)))
      by (outside, inside) (no some) =
          let on = inside (ne_eqb (at es i) 0 some) in
          (λ open'. at_mark k i low open' on, λ shut. at_variable k i low shut some on)

  -- So the last mark, and how many blocks have begun, are those of the joined blocks before e.
  all : Outside e 0
  all = (scanned e 0 (omega arith)).0 refl

  pub last_joined : last_mark es e ≡ end_mark (joined_before es e)
  unfolding blocks
  last_joined = all.last_is ∙ passed_is 0 (blocks (take e es)) ∙ last_all (joined_before es e)

  pub begun_joined : begun_before es e ≡ length (joined_before es e)
  unfolding blocks
  begun_joined =
      let none = joined_joins (blocks (take e es)) in
      let count = all.begun_so in
      let same = begun_is 0 (blocks (take e es)) ∙ fresh_all (joined_before es e) none.full (joined_whole (blocks (take e es)) (blocks_whole (take e es))) in
      omega arith

  -- A mark begins a block in the scan exactly if it begins one by the rule.
  pub scan_begins : e < length es → begins_after es e (last_mark es e) ≡ true → BlockBegins es e
  scan_begins more t =
      by_test (empty_at es e) (λ empty. absurd (clash t (ap (λ b. not b && not (eqb (at es e) (last_mark es e))) empty)))
      (λ full. record { full = next full; another = λ q. other full (sym (last_joined ∙ q)) })
    where
      next : empty_at es e ≡ false → suc e < length es → at es (suc e) ≢ 0
      next full l z = clash (ap₂ (λ a b. a && b) (lt-ltb (suc e) (length es) l) (eq-eqb (at es (suc e)) 0 z)) full

      other : empty_at es e ≡ false → at es e ≢ last_mark es e
      other full q =
          clash t (ap₂ (λ a b. not a && not b) full (eq-eqb (at es e) (last_mark es e) q))

  pub begins_scan : BlockBegins es e → begins_after es e (last_mark es e) ≡ true
  begins_scan b =
      by_test (empty_at es e) (λ empty. absurd (has_next (ltb (suc e) (length es)) (eqb (at es (suc e)) 0) refl refl empty))
      (λ full. ap₂ (λ a b. not a && not b) full (ne_eqb (at es e) (last_mark es e) (λ q. b.another (sym (q ∙ last_joined)))))
    where
      has_next : (l z : Bool) → ltb (suc e) (length es) ≡ l → eqb (at es (suc e)) 0 ≡ z → (l && z) ≡ true → ⊥
      has_next true true l z t = b.full (ltb-true (suc e) (length es) l) (eqb-true (at es (suc e)) 0 z)
      has_next true false l z t = clash t refl
      has_next false z' l z t = clash t refl
