-- The tops of all variables over a floor: each from that of the parent of its class, along the prefix.
use Prim.Native.Nat.{ℕ, suc, ◌+◌, ◌-◌, ◌≤◌, ◌<◌}
use mathlib.Core.Path.{◌≡◌, refl, sym, ap, ◌∙◌, subst}
use mathlib.Core.Bool.{Bool, true, false, cond, true≢false}
use mathlib.Core.List.{List}
use mathlib.Core.Logic.{◌≢◌, ⊎_elim, by_cases}
use native.Mathlib.Decide.{ℕ_discrete, dec_le, dec_lt}
use native.Mathlib.Numerals.{add-one}
use native.Mathlib.Omega.{arith}
use borrow.Author.Count.{below_more}
use borrow.Author.Tests.{eq-eqb, ne_eqb}
use lib.Dec.{eqb}
use lib.ListN.{length, get_or, set, replicate}
use Rattle.terms.proofs.Common.{clash}
use Rattle.formula.specs.Tables.{at, opens, marks_before, VariableAt}
use Rattle.formula.specs.Causes.{outside}
use Rattle.formula.specs.Meaning.{level}
use Rattle.formula.specs.InnerLevels.{SoundPrefix}
use Rattle.formula.proofs.Levelling.{mark_there}
use Rattle.formula.proofs.Blocked.{marks_rise}
use Rattle.formula.proofs.Ordered.{NamedFrom, named?, once, level_at, level_most, closed_end, deeper_named}
use Rattle.forest_theory.specs.Reach.{Variables}
use Rattle.forest_theory.specs.InnerVariables.{Lawful}
use Rattle.forest_theory.specs.Tables.{Table, row, lent, WellFormed, Above, start, rise}
use Rattle.forest_theory.proofs.Climb.{above_class}
use Rattle.forest_tables.specs.Formula.{variables}
use Rattle.forest_tables.specs.InnerCounting.{FormedBy}
use Rattle.forest_climb.specs.InnerSearch.{Searched, Under, top_by, TopRow, TopRows, Behind, TopsOver}
use Rattle.forest_tables.proofs.Readings.{new_zero, row_none, row_over, row_at, row_stored, row_kept}
use Rattle.forest_tables.proofs.Agreeing.{lawful}

module _ {X : Variables} {W : Table} {floor v : ℕ} where
  -- No top: not existential, or not deeper than the floor.
  top_universal : X.ex v ≡ false → TopRow X W floor v 0
  top_universal un = record { found = λ u. absurd (clash u.0 un); none = λ _. refl }

  top_shallow : X.lev v ≤ floor → TopRow X W floor v 0
  top_shallow low = record { found = λ u. absurd (let d = u.1 in omega arith); none = λ _. refl }

module _ {X : Variables} {W : Table} (law : Lawful X) (formed : WellFormed X W) {floor v : ℕ} (ex : X.ex v ≡ true) where
  -- A member has the top of its class.
  top_class : (c e : ℕ) → c ≡ W.cls v → TopRow X W floor c e → TopRow X W floor v e
  top_class c e is r =
      let class = (formed.right v).class ex in
      let name = subst (λ d. X.ex d ≡ true) (sym is) class.name.existential in
      let itself : W.cls c ≡ W.cls v = ap W.cls is ∙ class.name.itself in
      let block : X.lev c ≡ X.lev v = ap X.lev is ∙ class.block in
      record {
        found = λ u. let (k, s) = r.found (name, (let d = u.1 in omega arith)) in (k, subst (λ d. Searched X W floor d e k) itself s);
        none = λ shallow. r.none (λ u. shallow (ex, (let d = u.1 in omega arith)));
      }

  module _ (named : W.cls v ≡ v) (deep : floor < X.lev v) where
    -- A class name has what the search from it finds.
    top_found : {e k : ℕ} → Searched X W floor v e k → TopRow X W floor v e
    top_found {e} {k} s = record { found = λ _. (k, subst (λ d. Searched X W floor d e k) (sym named) s); none = λ shallow. absurd (shallow (ex, deep)) }

    module _ (p e : ℕ) (is : p ≡ W.par v) (r : TopRow X W floor p e) where
      parent_row : TopRow X W floor (W.par v) e
      parent_row = subst (λ q. TopRow X W floor q e) is r

      -- Its parent has no top: it is 0 or not deeper, and the search stops at once.
      top_itself : e ≡ 0 → TopRow X W floor v v
      top_itself none =
          top_found
          (record {
            above = start;
            deeper = deep;
            stop = λ some. by_cases (dec_le (X.lev (W.par v)) floor) (λ l. l) (λ l. absurd (nowhere some (omega arith)));
          })
        where
          nowhere : W.par v ≢ 0 → floor < X.lev (W.par v) → ⊥
          nowhere some l =
              let is = ((formed.right v).parent some).name.existential in
              let (k, s) = parent_row.found (is, l) in
              let low = (law.within e (above_class formed ((formed.right (W.par v)).class is).name s.above).existential).0 in
              omega arith

      -- Its parent has one: it is the same.
      top_parent : e ≢ 0 → TopRow X W floor v e
      top_parent some = go (X.ex (W.par v)) refl (dec_lt floor (X.lev (W.par v)))
        where
          go : (b : Bool) → X.ex (W.par v) ≡ b → Dec (floor < X.lev (W.par v)) → TopRow X W floor v e
          go true is (yes l) =
              let (k, s) = parent_row.found (is, l) in
              let parent : W.par v ≢ 0 = λ z. let low = (law.within (W.par v) is).0 in omega arith in
              let itself = ((formed.right v).parent parent).name.itself in
              top_found (record { above = rise parent (subst (λ d. Above W e d k) itself s.above); deeper = s.deeper; stop = s.stop })
          go true is (no l) = absurd (some (parent_row.none (λ u. l u.1)))
          go false un d = absurd (some (parent_row.none (λ u. clash u.0 un)))

-- How the top of a variable is told from its class and the top of the parent: none, the class itself, and that of the parent.
pub top_by_none : {c r : ℕ} (above : ℕ) → r ≡ c → r ≡ 0 → r ≡ top_by c above
unfolding top_by
top_by_none {c} above is z = z ∙ sym (ap (λ b. cond b 0 (cond (eqb above 0) c above)) (eq-eqb c 0 (sym is ∙ z)))

top_by_some : (c above : ℕ) → c ≢ 0 → top_by c above ≡ cond (eqb above 0) c above
unfolding top_by
top_by_some c above some = ap (λ b. cond b 0 (cond (eqb above 0) c above)) (ne_eqb c 0 some)

pub top_by_class : {c above a r : ℕ} → r ≡ c → r ≢ 0 → a ≡ above → a ≡ 0 → r ≡ top_by c above
top_by_class {c} {above} is some there z =
    is ∙ sym (top_by_some c above (λ q. some (is ∙ q)) ∙ ap (λ b. cond b c above) (eq-eqb above 0 (sym there ∙ z)))

pub top_by_above : {c above a r : ℕ} → r ≡ c → r ≢ 0 → a ≡ above → a ≢ 0 → a ≡ top_by c above
top_by_above {c} {above} is some there other =
    there ∙ sym (top_by_some c above (λ q. some (is ∙ q)) ∙ ap (λ b. cond b c above) (ne_eqb above 0 (λ q. other (there ∙ q))))

-- Where the first n rows are 0, so are all that are read.
row_zero : (n : ℕ) (rows : List ℕ) → ((v : ℕ) → v < n → get_or rows v 0 ≡ 0) → (y : ℕ) → row n rows y ≡ 0
row_zero n rows zeros y =
    by_cases (ℕ_discrete y 0) (row_none n rows y)
    (λ some. by_cases (dec_le y n) (λ l. row_at n rows y some l ∙ zeros (y - 1) (omega arith)) (λ l. row_over n rows y (omega arith)))

-- Over a level that no existential is deeper than there are no tops.
pub tops_over : {X : Variables} {W : Table} (floor k : ℕ) → ((v : ℕ) → X.ex v ≡ true → X.lev v ≤ floor) → TopsOver X W floor 0 (replicate {A = ℕ} k 0)
tops_over {X} {W} floor k low =
    record {
      rows =
          λ y. subst (TopRow X W floor y) (sym (row_zero X.count (replicate {A = ℕ} k 0) (λ v _. new_zero k v) y))
          (record { found = λ u. absurd (let l = low y u.0 in let d = u.1 in omega arith); none = λ _. refl });
      most = omega arith;
      none = λ v some most. absurd (omega arith);
    }

-- The rows on the way along the prefix: a variable that is named before entry i has its top, and any other 0.
pub record Topping (n : ℕ) (es classes parents : List ℕ) (floor : ℕ) (tops : List ℕ) (i : ℕ) : Type 0 where
  pub rows : (e : ℕ) → e < i → VariableAt es e → TopRow (variables n es) (lent (variables n es) classes parents) floor (at es e) (row n tops (at es e))
  pub rest : (v : ℕ) → ((e : ℕ) → e < i → VariableAt es e → at es e ≢ v) → row n tops v ≡ 0

module _ (n : ℕ) (es classes parents : List ℕ) (floor : ℕ) where
  abbrev X : Variables
  X = variables n es

  abbrev W : Table
  W = lent X classes parents

  -- What stands before the first block that is deeper than the floor has no top.
  topping_from : SoundPrefix n es → (tops : List ℕ) (place : ℕ) → marks_before es place ≡ floor → ((v : ℕ) → v < n → get_or tops v 0 ≡ 0)
      → Topping n es classes parents floor tops place
  topping_from sound tops place is zeros =
      record {
        rows =
            λ e l there. subst (TopRow X W floor (at es e)) (sym (row_zero n tops zeros (at es e)))
            (top_shallow (let own = level_at sound e there in let rise = marks_rise es e place (omega arith) in omega arith));
        rest = λ v none. row_zero n tops zeros v;
      }

  -- An entry that names nothing.
  topping_over : {tops : List ℕ} {i : ℕ} → (VariableAt es i → ⊥) → Topping n es classes parents floor tops i → Topping n es classes parents floor tops (i + 1)
  topping_over {tops} {i} none t =
      record {
        rows = below_more (λ e. VariableAt es e → TopRow X W floor (at es e) (row n tops (at es e))) i t.rows (λ there. absurd (none there));
        rest = λ v unnamed. t.rest v (λ e l. unnamed e (omega arith));
      }

  module _ (sound : SoundPrefix n es) {tops : List ℕ} {i : ℕ} (there : VariableAt es i) (t : Topping n es classes parents floor tops i) where
    module _ (formed : FormedBy n es classes parents) (x : ℕ) (small : x ≤ 4096) (low : floor ≡ level es x) where
      -- The variables of lesser blocks have their tops already.
      lesser : (u : ℕ) → u ≤ 4096 → level es u < marks_before es i → TopRow X W floor u (row n tops u)
      lesser u within less = ⊎_elim named unnamed (named? es u)
        where
          named : NamedFrom es 0 u → TopRow X W floor u (row n tops u)
          named (e, _, at-e, is) =
              by_cases (dec_lt e i) (λ l. subst (λ w. TopRow X W floor w (row n tops w)) is (t.rows e l at-e))
              (λ l. absurd (let rise = marks_rise es i e (omega arith) in let own = sym (ap (level es) is) ∙ level_at sound e at-e in omega arith))

          unnamed : (NamedFrom es 0 u → ⊥) → TopRow X W floor u (row n tops u)
          unnamed none = subst (TopRow X W floor u) (sym (t.rest u (λ e l at-e q. none (e, omega arith, at-e, q))))
              (record { found = λ under. absurd (none (deeper_named sound x u small within (let d = under.1 in omega arith))); none = λ _. refl })

      nothing : TopRow X W floor 0 (row n tops 0)
      nothing = subst (TopRow X W floor 0) (sym (row_none n tops 0 refl)) (go (X.ex 0) refl)
        where
          go : (b : Bool) → X.ex 0 ≡ b → TopRow X W floor 0 0
          go true ex = absurd (let a = ((lawful n es).within 0 ex).0 in omega arith)
          go false un = top_universal un

      module _ (deep : floor < marks_before es i) where
        -- The top of the class of the variable that is named here.
        class_top : (c : ℕ) → X.ex c ≡ true → W.cls c ≡ c → level es c ≡ marks_before es i → (above : ℕ) → above ≡ row n tops (W.par c)
            → TopRow X W floor c (cond (eqb above 0) c above)
        class_top c ex named block above is = go (ℕ_discrete above 0)
          where
            deeper : floor < level es c
            deeper = omega arith

            parent : TopRow X W floor (W.par c) above
            parent =
                subst (TopRow X W floor (W.par c)) (sym is)
                (by_cases (ℕ_discrete (W.par c) 0) (λ z. subst (λ u. TopRow X W floor u (row n tops u)) (sym z) nothing)
                (λ some. let p = (formed.right c).parent some in let few = sound.few in let less = p.less in lesser (W.par c)
                (let w = ((lawful n es).within (W.par c) p.name.existential).1 in omega arith) (omega arith)))

            go : Dec (above ≡ 0) → TopRow X W floor c (cond (eqb above 0) c above)
            go (yes z) =
                subst (λ b. TopRow X W floor c (cond b c above)) (sym (eq-eqb above 0 z))
                (top_itself (lawful n es) formed ex named deeper (W.par c) above refl parent z)
            go (no some) =
                subst (λ b. TopRow X W floor c (cond b c above)) (sym (ne_eqb above 0 some))
                (top_parent (lawful n es) formed ex named deeper (W.par c) above refl parent some)

        abbrev own_class : ℕ
        own_class = W.cls (at es i)

        -- the top that top_by gives the variable named here, by whether it has a class
        abbrev Told : Bool → Type 0
        Told b =
            let above = row n tops (W.par own_class) in
            TopRow X W floor (at es i) (cond b 0 (cond (eqb above 0) own_class above))

        -- So that variable has its own.
        named_top : TopRow X W floor (at es i) (top_by (row n classes (at es i)) (row n tops (row n parents (row n classes (at es i)))))
        unfolding lent top_by
        named_top = go (X.ex (at es i)) refl
          where
            go : (b : Bool) → X.ex (at es i) ≡ b → Told (eqb own_class 0)
            go true ex =
                let class = (formed.right (at es i)).class ex in
                let name = class.name in
                let some : own_class ≢ 0 = λ z. let a = ((lawful n es).within own_class name.existential).0 in omega arith in
                subst Told (sym (ne_eqb own_class 0 some)) (top_class (lawful n es) formed ex own_class _ refl
                (class_top own_class name.existential name.itself (class.block ∙ level_at sound i there) _ refl))
            go false un = subst Told (sym (eq-eqb own_class 0 ((formed.right (at es i)).universal un).0)) (top_universal un)

        topping_more : (top : ℕ) → n ≤ length tops → at es i ≤ n
            → top ≡ top_by (row n classes (at es i)) (row n tops (row n parents (row n classes (at es i))))
            → Topping n es classes parents floor (set tops (at es i - 1) top) (i + 1)
        topping_more top long within is =
            record {
              rows = below_more (λ e. VariableAt es e → TopRow X W floor (at es e) (row n (set tops (at es i - 1) top) (at es e))) i
                  (λ e l at-e. subst (TopRow X W floor (at es e))
                  (sym (row_kept n tops (at es i) top (at es e) there.2 (once sound e i at-e there l))) (t.rows e l at-e))
                  (λ _. subst (TopRow X W floor (at es i)) (sym (row_stored n tops (at es i) top there.2 within long ∙ is)) named_top);
              rest =
                  λ v unnamed. row_kept n tops (at es i) top v there.2 (λ q. unnamed i (omega arith) there (sym q))
                  ∙ t.rest v (λ e l. unnamed e (omega arith));
            }

  -- Where the whole prefix is passed every variable has its top: what is deeper than x is named.
  pub topping_all : SoundPrefix n es → {tops : List ℕ} {i : ℕ} → length es ≤ i → Topping n es classes parents floor tops i → (x : ℕ)
      → x ≤ 4096 → floor ≡ level es x → TopRows X W floor tops
  topping_all sound {tops} {i} done t x small low y =
      ⊎_elim (λ d. let (e, _, at-e, is) = d in let within = at-e.0 in subst (λ w. TopRow X W floor w (row n tops w)) is (t.rows e (omega arith) at-e))
      (λ none. subst (TopRow X W floor y) (sym (t.rest y (λ e l at-e q. none (e, omega arith, at-e, q))))
      (record { found = λ under. absurd (none (named under)); none = λ _. refl })) (named? es y)
    where
      named : Under X floor y → NamedFrom es 0 y
      named (ex, deep) =
          let within = ((lawful n es).within y ex).1 in
          let few = sound.few in
          deeper_named sound x y small (omega arith) (omega arith)

-- What stands behind an entry.
module _ (es : List ℕ) (i : ℕ) where
  opens_next : opens es (i + 1) ≡ eqb (at es i) 0
  opens_next = ap (opens es) (add-one i)

  marks_next : {b : Bool} → opens es i ≡ b → marks_before es (i + 1) ≡ cond b (suc (marks_before es i)) (marks_before es i)
  marks_next q = ap (marks_before es) (add-one i) ∙ ap (λ b. cond b (suc (marks_before es i)) (marks_before es i)) q

-- A place that has no more marks before it than a level says stands within the prefix, or at its end.
pub place_within : {n : ℕ} {es : List ℕ} → SoundPrefix n es → (place x : ℕ) → x ≤ 4096 → marks_before es place ≤ level es x → place ≤ length es
place_within {es = es} sound place x small low =
    by_cases (dec_le place (length es)) (λ l. l) (λ over.
    let most = level_most sound x small in
    let last = marks_next es (length es) (closed_end sound (length es) (omega arith)) in
    let rise = marks_rise es (length es + 1) place (omega arith) in
    absurd (omega arith))

-- The loop along the prefix, from where the blocks deeper than the floor begin: whether a block opens at entry i, and the rows.
pub record Passing (n : ℕ) (es classes parents : List ℕ) (floor : ℕ) (tops : List ℕ) (opening : Bool) (i : ℕ) : Type 0 where
  pub opening_is : opening ≡ opens es i
  pub deep : floor ≤ marks_before es i
  pub inside : opening ≡ false → floor < marks_before es i
  pub topping : Topping n es classes parents floor tops i

module _ (n : ℕ) (es classes parents : List ℕ) (floor : ℕ) where
  pub passing_from : SoundPrefix n es → (tops : List ℕ) (place : ℕ) → Behind es floor place → ((v : ℕ) → v < n → get_or tops v 0 ≡ 0)
      → Passing n es classes parents floor tops true place
  passing_from sound tops place (open', is) zeros =
      record {
        opening_is = sym open';
        deep = omega arith;
        inside = λ shut. absurd (true≢false shut);
        topping = topping_from n es classes parents floor sound tops place is zeros;
      }

  module _ {tops : List ℕ} {opening : Bool} {i : ℕ} (sound : SoundPrefix n es) (p : Passing n es classes parents floor tops opening i)
      (more : i < length es) where
    -- A mark opens a block, and is no 0.
    pub passing_mark : opening ≡ true → Passing n es classes parents floor tops false (i + 1)
    passing_mark open' =
        let opened = sym p.opening_is ∙ open' in
        let marks = marks_next es i opened in
        let deep = p.deep in
        record {
          opening_is = sym (opens_next es i ∙ ne_eqb (at es i) 0 (mark_there sound i more opened));
          deep = omega arith;
          inside = λ _. omega arith;
          topping = topping_over n es classes parents floor (λ there. clash opened there.1) p.topping;
        }

    module _ (shut : opening ≡ false) where
      shut_here : opens es i ≡ false
      shut_here = sym p.opening_is ∙ shut

      -- A 0 closes it.
      pub passing_close : at es i ≡ 0 → Passing n es classes parents floor tops true (i + 1)
      passing_close none =
          let marks = marks_next es i shut_here in
          let deep = p.deep in
          record {
            opening_is = sym (opens_next es i ∙ eq-eqb (at es i) 0 none);
            deep = omega arith;
            inside = λ q. absurd (true≢false q);
            topping = topping_over n es classes parents floor (λ there. there.2 none) p.topping;
          }

      -- Any other entry names a variable, which is deeper than the floor.
      module _ (some : at es i ≢ 0) where
        there : VariableAt es i
        there = (more, shut_here, some)

        pub named_within : at es i ≤ n
        named_within = by_cases (dec_le (at es i) n) (λ l. l) (λ over. absurd (sound.faultless 7 i (outside refl there (omega arith))))

        pub passing_top : FormedBy n es classes parents → (x : ℕ) → x ≤ 4096 → floor ≡ level es x → (top : ℕ) → n ≤ length tops
            → top ≡ top_by (row n classes (at es i)) (row n tops (row n parents (row n classes (at es i))))
            → Passing n es classes parents floor (set tops (at es i - 1) top) opening (i + 1)
        passing_top formed x small low top long is =
            let marks = marks_next es i shut_here in
            let inside = p.inside shut in
            record {
              opening_is = shut ∙ sym (opens_next es i ∙ ne_eqb (at es i) 0 some);
              deep = omega arith;
              inside = λ _. omega arith;
              topping = topping_more n es classes parents floor sound there p.topping formed x small low inside top long named_within is;
            }

-- On the way to where the blocks deeper than the floor begin: so many are left to be passed, one more with that which is open.
pub record Seeking (es : List ℕ) (floor left i : ℕ) : Type 0 where
  pub between : opens es i ≡ true → marks_before es i + left ≡ floor
  pub inside : opens es i ≡ false → (marks_before es i + left ≡ floor + 1) × (1 ≤ left)

pub seeking_none : (es : List ℕ) (left place : ℕ) → opens es place ≡ true → Seeking es (marks_before es place + left) left place
seeking_none es left place open' = record { between = λ _. refl; inside = λ shut. absurd (clash open' shut) }

module _ {n : ℕ} {es : List ℕ} (sound : SoundPrefix n es) {floor left i : ℕ} (s : Seeking es floor left i) where
  -- A 0 closes a block, ...
  pub seeking_close : i < length es → at es i ≡ 0 → Seeking es floor (left - 1) (i + 1)
  seeking_close more none = go (opens es i) refl
    where
      go : (b : Bool) → opens es i ≡ b → Seeking es floor (left - 1) (i + 1)
      go true open' = absurd (mark_there sound i more open' none)
      go false shut =
          let marks = marks_next es i shut in
          let (sum, some) = s.inside shut in
          record { between = λ _. omega arith; inside = λ shut'. absurd (clash (opens_next es i ∙ eq-eqb (at es i) 0 none) shut') }

  -- ... and any other entry leaves it open or opens one.
  pub seeking_on : at es i ≢ 0 → left ≢ 0 → Seeking es floor left (i + 1)
  seeking_on some rest = go (opens es i) refl
    where
      go : (b : Bool) → opens es i ≡ b → Seeking es floor left (i + 1)
      go true open' =
          let marks = marks_next es i open' in
          let sum = s.between open' in
          record { between = λ open''. absurd (clash open'' (opens_next es i ∙ ne_eqb (at es i) 0 some)); inside = λ _. (omega arith, omega arith) }
      go false shut =
          let marks = marks_next es i shut in
          let (sum, more) = s.inside shut in
          record { between = λ open''. absurd (clash open'' (opens_next es i ∙ ne_eqb (at es i) 0 some)); inside = λ _. (omega arith, omega arith) }

  -- At the end none is left, if there are as many blocks.
  pub seeking_end : length es ≤ i → (x : ℕ) → x ≤ 4096 → floor ≡ level es x → Behind es floor i
  seeking_end done x small low = go (opens es i) refl
    where
      go : (b : Bool) → opens es i ≡ b → Behind es floor i
      go true open' =
          let sum = s.between open' in
          let most = level_most sound x small in
          let rise = marks_rise es (length es) i done in
          (open', omega arith)
      go false shut = absurd (clash (closed_end sound i done) shut)
