-- Rows of what may be stepped on: the pass over the blocks, the pass over the lists, and that both together say whose list has x.
use Prim.Native.Nat.{ℕ, suc, ◌≤◌, ◌<◌, ◌+◌, ◌-◌}
use mathlib.Core.Path.{◌≡◌, refl, sym, ap, ◌∙◌, subst}
use mathlib.Core.Bool.{Bool, true, false, not, not-eq-not}
use mathlib.Core.List.{List}
use mathlib.Core.Logic.{◌⊎◌, inl, inr, ⊎_elim, ◌≢◌, by_cases}
use native.Mathlib.Decide.{ℕ_discrete, dec_lt, dec_le}
use native.Mathlib.Numerals.{add-one}
use native.Mathlib.Omega.{arith}
use borrow.Author.Tests.{eq-eqb, ne_eqb}
use lib.ListN.{length, get_or, set}
use Rattle.std.specs.Prelude.{Option, None, Some}
use Rattle.terms.specs.Refusals.{None as NoCause}
use Rattle.terms.proofs.Common.{clash}
use Rattle.formula.specs.Tables.{at, opens, MarkAt, VariableAt, NearestMark, EndsInside}
use Rattle.formula.specs.Meaning.{level, is_universal, is_existential}
use Rattle.formula.specs.InnerLevels.{SoundPrefix, Levelled}
use Rattle.formula.proofs.Ordered.{deeper_named}
use Rattle.forest_theory.specs.Tables.{row}
use Rattle.forest_tables.specs.Formula.{universal}
use Rattle.forest_tables.specs.InnerTabled.{existential_in}
use Rattle.forest_tables.proofs.Readings.{row_none, row_over, flag_in, flag_within, row_stored, row_kept}
use Rattle.forest_tables.proofs.Agreeing.{tables_agree, level_agrees, lawful, universal_within}
use Rattle.dqbf_lists.specs.Lists.{Bound, ListHas}
use Rattle.dqbf_lists.specs.Inner.{GivenAt}
use Rattle.dqbf_lists.specs.Causes.{ListCause, outside, in_block, ends_inside}
use Rattle.dqbf_lists.proofs.Listed.{given_at, given_by}
use Rattle.dqbf_lists.proofs.Placed.{universal_named}
use Rattle.dqbf_lists.proofs.Checked.{last_stays}
use Rattle.dqbf_sets.specs.Inner.{Told, ToldRows, Over, WithGiven}

-- The rows of 1 to passed tell of whom P holds.
abbrev pub ToldUpto : (ℕ → Type 0) → ℕ → List ℕ → ℕ → Type 0
ToldUpto P n rows passed = (v : ℕ) → 1 ≤ v → v ≤ passed → Told P v (row n rows v)

module _ {P : ℕ → Type 0} {n : ℕ} where
  pub told_more : (rows : List ℕ) {passed : ℕ} → n ≤ length rows → ToldUpto P n rows passed → passed < n → (v r : ℕ) → v ≡ passed + 1 → Told P v r
      → ToldUpto P n (set rows passed r) (passed + 1)
  told_more rows {passed} long told less v r is here = λ w a b. by w a b (ℕ_discrete w v)
    where
      at' : v - 1 ≡ passed
      at' = omega arith

      stored : row n (set rows passed r) v ≡ r
      stored = subst (λ (k : ℕ). row n (set rows k r) v ≡ r) at' (row_stored n rows v r (λ z. omega arith) (omega arith) (omega arith))

      by : (w : ℕ) → 1 ≤ w → w ≤ passed + 1 → Dec (w ≡ v) → Told P w (row n (set rows passed r) w)
      by w a b (yes q) = subst (λ (u : ℕ). Told P u (row n (set rows passed r) u)) (sym q) (subst (Told P v) (sym stored) here)
      by w a b (no other) =
          let kept = subst (λ (k : ℕ). row n (set rows k r) w ≡ row n rows w) at' (row_kept n rows v r w (λ z. omega arith) other) in
          subst (Told P w) (sym kept) (told w a (omega arith))

  pub told_all : (rows : List ℕ) {passed : ℕ} → ((v : ℕ) → P v → (1 ≤ v) × (v ≤ n)) → ToldUpto P n rows passed → n ≤ passed → ToldRows P n rows
  told_all rows {passed} within told done v =
      by_cases (dec_le v n) inside (λ l. inr (row_over n rows v (omega arith), λ p. let b = (within v p).1 in omega arith))
    where
      inside : v ≤ n → Told P v (row n rows v)
      inside l =
          by_cases (ℕ_discrete v 0) (λ z. inr (row_none n rows v z, λ p. let a = (within v p).0 in omega arith))
          (λ some. told v (omega arith) (omega arith))

-- what the blocks open stands from 1 to n
pub block_within : (n : ℕ) (levels : List ℕ) (universals : List Bool) (floor v : ℕ) → Over n levels universals floor v → (1 ≤ v) × (v ≤ n)
unfolding existential_in
block_within n levels universals floor v p = let (a, b, t) = flag_within n v (not (get_or universals v false)) p.0 in (a, b)

-- a list of v has x in an entry before i
pub record GivenBefore (ds : List ℕ) (x i v : ℕ) : Type 0 where
  pub given : GivenAt ds x v
  pub before : given.place < i

-- the row of v says that v has x by now, or it stays, and v has not
abbrev GivenRow : ℕ → List ℕ → ℕ → ℕ → List ℕ → List ℕ → ℕ → Type 0
GivenRow n ds x i old new v = ((row n new v ≡ 1) × GivenBefore ds x i v) ⊎ ((row n new v ≡ row n old v) × (GivenBefore ds x i v → ⊥))

-- no list is open at entry i; or one is, and y is its existential
abbrev OpenAt : List ℕ → ℕ → Option ℕ → Type 0
OpenAt ds i None = opens ds i ≡ true
OpenAt ds i (Some y) = (opens ds i ≡ false) × ((m : ℕ) × NearestMark ds m i × (at ds m ≡ y))

-- The rows say, besides what they said at first, whose own list has x before entry i.
pub record Opening (n : ℕ) (ds : List ℕ) (x i : ℕ) (open' : Option ℕ) (old new : List ℕ) : Type 0 where
  pub at_i : OpenAt ds i open'
  pub rows : (v : ℕ) → GivenRow n ds x i old new v

-- An entry that is not x gives x to no further list.
given_later : {ds : List ℕ} {x i v : ℕ} → GivenBefore ds x i v → GivenBefore ds x (suc i) v
given_later g = record { given = g.given; before = let l = g.before in omega arith }

given_same : {ds : List ℕ} {x i v : ℕ} → (VariableAt ds i → at ds i ≡ x → ⊥) → GivenBefore ds x (suc i) v → GivenBefore ds x i v
given_same {ds} {x} {i} none g =
    by_cases (ℕ_discrete g.given.place i)
    (λ q. absurd (none (subst (VariableAt ds) q g.given.has_x.0) (ap (at ds) (sym q) ∙ g.given.has_x.1)))
    (λ other. record { given = g.given; before = let l = g.before in omega arith })

module _ {n : ℕ} {es ds : List ℕ} (sound : NoCause (ListCause n es ds)) {x i : ℕ} {open' : Option ℕ} {old new : List ℕ}
    (o : Opening n ds x i open' old new) (more : i < length ds) where
  same_rows : (VariableAt ds i → at ds i ≡ x → ⊥) → (v : ℕ) → GivenRow n ds x (suc i) old new v
  same_rows none v = ⊎_elim (λ h. inl (h.0, given_later h.1)) (λ h. inr (h.0, λ g. h.1 (given_same none g))) (o.rows v)

  -- An entry that opens a list is the existential of it.
  pub open_y : open' ≡ None → Opening n ds x (i + 1) (Some (at ds i)) old new
  open_y closed =
      let here : opens ds i ≡ true = subst (OpenAt ds i) closed o.at_i in
      rw (add-one i)
      record {
        at_i = (
          ne_eqb (at ds i) 0 (λ z. sound 25 i (outside refl (more, here) (inl z))),
          (i, (omega arith, here, λ c after before. absurd (omega arith)), refl),
        );
        rows = same_rows (λ var _. clash here var.1);
      }

  -- Inside the list of y.
  module _ {y : ℕ} (is : open' ≡ Some y) where
    shut : opens ds i ≡ false
    shut = (subst (OpenAt ds i) is o.at_i).0

    own : (m : ℕ) × NearestMark ds m i × (at ds m ≡ y)
    own = (subst (OpenAt ds i) is o.at_i).1

    -- it goes on behind an entry that is no 0
    goes_on : at ds i ≢ 0 → OpenAt ds (suc i) (Some y)
    goes_on some = let (m, mark, at_m) = own in (ne_eqb (at ds i) 0 some, (m, last_stays ds m i shut mark, at_m))

    pub open_other : at ds i ≢ x → at ds i ≢ 0 → Opening n ds x (i + 1) (Some y) old new
    open_other other some = rw (add-one i) record { at_i = goes_on some; rows = same_rows (λ var q. other q) }

    pub open_close : at ds i ≢ x → at ds i ≡ 0 → Opening n ds x (i + 1) None old new
    open_close other none = rw (add-one i) record { at_i = eq-eqb (at ds i) 0 none; rows = same_rows (λ var q. other q) }

    -- the existential of the list that is open is one of 1 to n
    pub y_within : (y ≢ 0) × (y ≤ n)
    y_within =
        let (m, mark, at_m) = own in
        let there : MarkAt ds m = (let l = mark.0 in omega arith, mark.1) in
        let over : ¬ (n < at ds m) = λ k. sound 25 m (outside refl there (inr k)) in
        (λ z. sound 25 m (outside refl there (inl (at_m ∙ z))), omega arith)

    pub open_x : at ds i ≡ x → x ≢ 0 → n ≤ length new → Opening n ds x (i + 1) (Some y) old (set new (y - 1) 1)
    open_x here some long = rw (add-one i) record { at_i = goes_on here_some; rows = λ v. by v (ℕ_discrete v y) }
      where
        here_some : at ds i ≢ 0
        here_some z = some (sym here ∙ z)

        given : GivenBefore ds x (suc i) y
        given =
            let (m, mark, at_m) = own in
            record {
              given =
                  record {
                    begin = m;
                    place = i;
                    for_y = ((let l = mark.0 in omega arith, mark.1), at_m);
                    has_x = ((more, shut, here_some), here);
                    one = (
                      mark.0,
                      λ c after upto. by_cases (ℕ_discrete c i) (λ e. ap (opens ds) e ∙ shut) (λ other. mark.2 c after (omega arith)),
                    );
                  };
              before = omega arith;
            }

        -- whoever gets x by this entry is the existential of the list that is open
        owner : (v : ℕ) (g : GivenAt ds x v) → g.place ≡ i → v ≡ y
        owner v g q =
            let (m, mark, at_m) = own in
            by_cases (dec_lt g.begin m) (λ l. absurd (clash mark.1 (g.one.1 m l (let k = mark.0 in omega arith))))
            (λ l.
            by_cases (dec_lt m g.begin) (λ k. absurd (clash g.for_y.0.1 (mark.2 g.begin k (let b = g.one.0 in omega arith))))
            (λ k. let e : g.begin ≡ m = omega arith in sym g.for_y.1 ∙ ap (at ds) e ∙ at_m))

        -- and no other existential does
        not_yet : (v : ℕ) → v ≢ y → GivenBefore ds x (suc i) v → GivenBefore ds x i v
        not_yet v other g =
            let apart : g.given.place ≢ i = λ e. other (owner v g.given e) in
            let l = g.before in
            record { given = g.given; before = omega arith }

        by : (v : ℕ) → Dec (v ≡ y) → GivenRow n ds x (suc i) old (set new (y - 1) 1) v
        by v (yes q) =
            let (nonzero, low) = y_within in
            let stored = row_stored n new y 1 nonzero low (omega arith) in
            inl (ap (row n (set new (y - 1) 1)) q ∙ stored, subst (GivenBefore ds x (suc i)) (sym q) given)
        by v (no other) =
            let kept = row_kept n new y 1 v y_within.0 other in
            ⊎_elim (λ h. inl (kept ∙ h.0, given_later h.1)) (λ h. inr (kept ∙ h.0, λ g. h.1 (not_yet v other g))) (o.rows v)

pub open_all : {n : ℕ} {ds : List ℕ} {x i : ℕ} {open' : Option ℕ} {old new : List ℕ} → Opening n ds x i open' old new → length ds ≤ i → WithGiven ds x n old new
open_all o done v =
    ⊎_elim (λ h. inl (h.0, h.1.given))
    (λ h. inr (h.0, λ g. h.1 (record { given = g; before = let l = g.has_x.0.0 in omega arith }))) (o.rows v)

-- Blocks and lists together.
module _ {n : ℕ} {es ds levels : List ℕ} {universals : List Bool} (sound : SoundPrefix n es) (table : Levelled es levels universals)
    (listed : NoCause (ListCause n es ds)) {x : ℕ} (u : universal n es x ≡ true) where
  -- one with a list of its own is in no block, and so existential
  given_existential : (y : ℕ) → GivenAt ds x y → is_existential n es y ≡ true
  unfolding is_existential
  given_existential y g =
      let there = g.for_y.0 in
      let is = g.for_y.1 in
      let some : y ≢ 0 = λ z. listed 25 g.begin (outside refl there (inl (is ∙ z))) in
      let over : ¬ (n < at ds g.begin) = λ k. listed 25 g.begin (outside refl there (inr k)) in
      let low : y ≤ n = omega arith in
      let blocked : Bound es y → ⊥ = λ b. listed 25 g.begin (in_block refl there (subst (Bound es) (sym is) b)) in
      let free : is_universal es y ≡ false = (not-eq-not {b = false}).0 (λ t. blocked (universal_named es y t)) in
      flag_in n y (not (is_universal es y)) some low ∙ ap not free

  pub rows_open : (floor : ℕ) (old new : List ℕ) → floor ≡ get_or levels x 0 → ToldRows (Over n levels universals floor) n old → WithGiven ds x n old new
      → ToldRows (ListHas n es ds x) n new
  rows_open floor old new is own given v =
      ⊎_elim (λ h. inl (h.0, record { existential = given_existential v h.1; listed = inr (given_by closed h.1) }))
      (λ h.
      ⊎_elim (λ b. inl (h.0 ∙ b.0, in_blocks b.1))
      (λ b. inr (h.0 ∙ b.0, λ l. ⊎_elim (λ d. b.1 (back l.existential d.1)) (λ g. h.1 (given_at g)) l.listed)) (own v))
      (given v)
    where
      closed : ¬ EndsInside 0 ds
      closed inside = listed 11 (length ds) (ends_inside refl refl inside)

      same : (v : ℕ) → existential_in n universals v ≡ is_existential n es v
      same = (tables_agree sound table).ex

      few : n ≤ 4096
      few = sound.few

      floor_is : floor ≡ level es x
      floor_is = is ∙ level_agrees sound table x (universal_within n es x u).1

      lev : is_existential n es v ≡ true → get_or levels v 0 ≡ level es v
      lev e = (tables_agree sound table).lev v (same v ∙ e)

      in_blocks : Over n levels universals floor v → ListHas n es ds x v
      in_blocks (e, deep) =
          let ex = sym (same v) ∙ e in
          let q = lev ex in
          let f = floor_is in
          let deeper : level es x < level es v = omega arith in
          let low = ((lawful n es).within v ex).1 in
          let up = (universal_within n es x u).1 in
          let k = few in
          let (place, _, there, at_v) = deeper_named sound x v (omega arith) (omega arith) deeper in
          record { existential = ex; listed = inl ((place, there, at_v), deeper) }

      back : is_existential n es v ≡ true → level es x < level es v → Over n levels universals floor v
      back ex deep = let q = lev ex in let f = floor_is in (same v ∙ ex, omega arith)
