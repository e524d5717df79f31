-- The passes over the rows: what each has done before row v, that a row more keeps it, and what it comes to at the end.
use Prim.Native.Nat.{ℕ, suc, ◌+◌, ◌-◌, ◌≤◌, ◌<◌}
use mathlib.Core.Path.{◌≡◌, refl, sym, ◌∙◌, ap, subst}
use mathlib.Core.Bool.{Bool, true, false, cond, not, ◌&&◌}
use mathlib.Core.List.Memᴰ
use mathlib.Core.List.{List, [], ◌∷◌, ◌++◌, map, map-append, append_assoc, append-nil}
use mathlib.Core.Logic.{◌≢◌, by_cases}
use native.Mathlib.Decide.{ℕ_discrete, dec_lt}
use native.Mathlib.Numerals.{add-one}
use native.Mathlib.Omega.{arith}
use borrow.Author.Tests.{le-ltb, lt-leb, le-leb}
use lib.Dec.{ltb, leb}
use lib.IntN.{ℤ}
use lib.ListN.{length, get_or, take, drop, set, replicate, length-replicate, length-set, length-append, drop_of_length-le, get_or-eq_default}
use lib.Seq.{get_or-set_same, get_or-set_other, set-get_or}
use Rattle.terms.specs.Limits.{most_variables, prefix_entries}
use Rattle.terms.specs.InnerLimits.{variable_rows}
use Rattle.terms.proofs.Common.{below_suc}
use Rattle.formula.specs.InnerLevels.{SoundPrefix, Levelled}
use Rattle.formula.specs.InnerLookup.{NextZero}
use Rattle.formula.specs.Meaning.{clauses, level, is_universal, is_existential, connected}
use Rattle.formula.specs.Tables.{cut, push}
use Rattle.formula.proofs.Lookups.{clauses_closed, clauses_unclosed}
use Rattle.formula.proofs.Ordered.{marks_within, level_most}
use Rattle.forest_tables.specs.Formula.{joined}
use Rattle.forest_tables.proofs.Readings.{new_zero}
use Rattle.forest_theory.specs.Reach.{Variables, From, Joined, Reach, here}
use Rattle.forest_theory.specs.Tables.{row}
use Rattle.forest_theory.proofs.Reach.{joined_sym}
use Rattle.forest_theory.proofs.Rows.{row_out}
use Rattle.forest_theory.proofs.Represent.{Link, to_class, to_parent}
use Rattle.grow_union_find.specs.InnerLoose.{Loose, Kept, table, ranked, Growing, Grew}
use Rattle.grow_passes.specs.InnerRows.{EndsAt, depth_of, Depths, Holds, Settled}
use Rattle.grow_union_find.proofs.Inside.{inside_links, equal_trans, equal_snoc, equal_added}
use Rattle.grow_union_find.proofs.Ways.{kept_none, kept_trans, halved_row}

-- A table holds no more lists than it has entries.
cut_length : {A : Type 0} (is_nought : A → Bool) (xs : List A) → length (cut is_nought xs) ≤ length xs
unfolding cut
cut_length is_nought [] = omega arith
cut_length {A} is_nought (x ∷ xs) = go (is_nought x) (cut_length is_nought xs)
  where
    pushed : (cs : List (List A)) → length (push x cs) ≡ length cs
    pushed [] = refl
    pushed (c ∷ cs) = refl

    go : (b : Bool) → length (cut is_nought xs) ≤ length xs → length (cond b ([] ∷ cut is_nought xs) (push x (cut is_nought xs))) ≤ suc (length xs)
    go true h = omega arith
    go false h = omega (arith, pushed (cut is_nought xs))

pub many_most : (ls : List ℤ) → length (clauses ls) ≤ length ls
unfolding clauses
many_most ls = cut_length _ ls

-- A store up to n leaves the rows past n.
ends_set : {n : ℕ} {T : List ℕ} → EndsAt n T → (v x : ℕ) → v ≤ n → EndsAt n (set T v x)
ends_set {T = T} e v x l = record { few = e.few; size = length-set T v x ∙ e.size; past = λ u h. get_or-set_other T v u x 0 (λ q. omega arith) ∙ e.past u h }

-- A new table ends anywhere; one that lent rows are read into ends at n; and class rows end where the depths do.
pub ends_new : {n : ℕ} → n ≤ most_variables → EndsAt n (replicate {A = ℕ} variable_rows 0)
ends_new few = record { few = few; size = length-replicate {A = ℕ} variable_rows 0; past = λ v h. new_zero variable_rows v }

pub ends_read : {n : ℕ} (rows : List ℕ) {T : List ℕ} → n ≤ most_variables → length T ≡ variable_rows → ((v : ℕ) → get_or T v 0 ≡ row n rows v) → EndsAt n T
ends_read {n} rows few size read = record { few = few; size = size; past = λ v h. read v ∙ row_out n v rows (λ _. h) }

pub ends_classes : {n : ℕ} {depths C P : List ℕ} → EndsAt n depths → Growing depths C P → EndsAt n C
ends_classes {n} {depths} {C} e g = record { few = e.few; size = g.sizes.1; past = past }
  where
    past : (v : ℕ) → n < v → get_or C v 0 ≡ 0
    past v h = (g.loose.universal v (le-ltb 0 (get_or depths v 0) (omega (arith, e.past v h)))).0

-- The rows before v have what f says, and so do those past n.
pub record FilledTo (n : ℕ) (f : ℕ → ℕ) (T : List ℕ) (v : ℕ) : Type 0 where
  pub rows : (u : ℕ) → u < v → get_or T u 0 ≡ f u
  pub past : (u : ℕ) → n < u → get_or T u 0 ≡ f u

-- Depths from levels and quantifiers.
pub levels_most : {n : ℕ} {es levels : List ℕ} {universals : List Bool} → SoundPrefix n es → Levelled es levels universals → (v : ℕ)
    → get_or levels v 0 ≤ prefix_entries + 1
levels_most {es = es} {levels = levels} sound l v = by_cases (dec_lt v variable_rows)
    (λ h. omega (arith, l.level_is v (omega arith), level_most sound v (omega arith), marks_within es (length es), sound.short))
    (λ h. omega (arith, get_or-eq_default levels 0 {n = v} (omega (arith, l.sizes.0))))

pub depths_are : {n : ℕ} {es levels depths : List ℕ} {universals : List Bool} → SoundPrefix n es → Levelled es levels universals → length depths ≡ variable_rows
    → ((v : ℕ) → v < variable_rows → get_or depths v 0 ≡ depth_of n v (get_or levels v 0) (get_or universals v false)) → Depths n es depths
unfolding is_existential
depths_are {n} {es} {levels} {depths} {universals} sound l size is = record { size = size; depth_is = λ v. by_cases (dec_lt v variable_rows) (small v) (large v) }
  where
    small : (v : ℕ) → v < variable_rows → get_or depths v 0 ≡ cond (leb 1 v && leb v n && not (is_universal es v)) (level es v + 1) 0
    small v h = is v h ∙ ap (λ (k : ℕ). depth_of n v k (get_or universals v false)) (l.level_is v (omega arith))
        ∙ ap (depth_of n v (level es v)) (l.universal_is v (omega arith))

    large : (v : ℕ) → ¬ (v < variable_rows) → get_or depths v 0 ≡ cond (leb 1 v && leb v n && not (is_universal es v)) (level es v + 1) 0
    large v h = get_or-eq_default depths 0 {n = v} (omega arith)
        ∙ sym (rw (le-leb 1 v (omega arith), lt-leb v n (omega (arith, sound.few))))

-- Rows with each existential in a class of its own, with no parent, stand for no clause.
pub single_holds : {n : ℕ} {depths C P : List ℕ} → EndsAt n depths → get_or depths 0 0 ≡ 0 → length C ≡ variable_rows → length P ≡ variable_rows
    → ((u : ℕ) → get_or C u 0 ≡ cond (ltb 0 (get_or depths u 0)) u 0) → ((u : ℕ) → get_or P u 0 ≡ 0) → Holds depths C P []
single_holds {depths = depths} {C = C} {P = P} ends none size_c size_p class parent = record {
  growing = record {
    sizes = (ends.size, size_c, size_p);
    none = none;
    loose = record {
      universal = λ u e. (class u ∙ ap (λ (b : Bool). cond b u 0) e, parent u);
      class = λ u ex. record { most = omega (arith, own u ex); existential = ap X.ex (own u ex) ∙ ex; block = ap X.lev (own u ex) };
      parent = λ u n. absurd (n (parent u));
    };
  };
  equal = record {
    there = record { does = λ i a b fa fb j. absurd (Memᴰ.not-nil j.listed) };
    back = inside_links joined_sym ties;
  };
}
  where
    X : Variables
    X = ranked depths

    own : (u : ℕ) → X.ex u ≡ true → get_or C u 0 ≡ u
    own u ex = class u ∙ ap (λ (b : Bool). cond b u 0) ex

    ties : (i u z : ℕ) → From X i u → From X i z → Link X (table C P) u z → Reach (Joined []) (From X i) u z
    ties i u z fu fz (to_class ex e) = subst (λ (w : ℕ). Reach (Joined []) (From X i) u w) (sym (own u ex) ∙ e) here
    ties i u z fu fz (to_parent n e) = absurd (n (parent u))

-- The clauses before entry `start` are put in.
pub record PutSome (depths : List ℕ) (ls : List ℤ) (C P : List ℕ) (start taken : ℕ) : Type 0 where
  pub within : start ≤ length ls
  pub few : taken ≤ start
  pub done : List (List ℤ)
  pub number : taken ≡ length done
  pub split : clauses ls ≡ done ++ clauses (drop start ls)
  pub holds : Holds depths C P (map connected done)

pub put_none : {depths C P : List ℕ} (ls : List ℤ) → Holds depths C P [] → PutSome depths ls C P 0 0
put_none ls h = record { within = omega arith; few = omega arith; done = []; number = refl; split = refl; holds = h }

-- One clause more.
holds_more : {depths C P C' P' : List ℕ} {cs : List (List ℕ)} {clause : List ℕ} → Holds depths C P cs → Grew depths C P clause C' P'
    → Holds depths C' P' (cs ++ (clause ∷ []))
holds_more h g = record { growing = g.growing; equal = equal_trans equal_snoc (equal_trans (equal_added h.equal) g.equal) }

module _ {depths : List ℕ} {ls : List ℤ} {C P : List ℕ} {start taken : ℕ} (s : PutSome depths ls C P start taken) where
  pub put_clause : {C' P' : List ℕ} (z : ℕ) → NextZero ls start z → z < length ls
      → Grew depths C P (connected (take (z - start) (drop start ls))) C' P' → PutSome depths ls C' P' (z + 1) (taken + 1)
  put_clause {C'} {P'} z next l g =
      let clause = take (z - start) (drop start ls) in
      record {
        within = omega arith;
        few = omega (arith, s.few, next.from);
        done = s.done ++ (clause ∷ []);
        number = let more = length-append s.done (clause ∷ []) in omega (arith, s.number);
        split = s.split ∙ ap (λ cs. s.done ++ cs) (clauses_closed ls start z next l) ∙ sym (append_assoc s.done (clause ∷ []) (clauses (drop (z + 1) ls)));
        holds = rw (map-append connected s.done (clause ∷ [])) (holds_more s.holds g);
      }

  -- What is left has no clause: all are in.
  put_end : clauses (drop start ls) ≡ [] → Holds depths C P (joined ls) × (taken ≡ length (clauses ls))
  unfolding joined
  put_end none =
      let all = s.split ∙ ap (λ cs. s.done ++ cs) none ∙ append-nil s.done in
      (rw all s.holds, s.number ∙ sym (ap length all))

  -- The table ends, with or without an open clause.
  pub put_over : length ls ≤ start → Holds depths C P (joined ls) × (taken ≡ length (clauses ls))
  unfolding clauses cut
  put_over done = put_end (ap clauses (drop_of_length-le ls done))

  pub put_open : (z : ℕ) → NextZero ls start z → length ls ≤ z → Holds depths C P (joined ls) × (taken ≡ length (clauses ls))
  put_open z next l = put_end (clauses_unclosed ls start z next l)

-- The class rows before v name their classes, and all rows stand for what they stood for.
pub record SettledTo (n : ℕ) (C₀ C : List ℕ) (v : ℕ) : Type 0 where
  pub ends : EndsAt n C
  pub falls : (u : ℕ) → get_or C u 0 ≤ u
  pub names : (u : ℕ) → u < v → get_or C (get_or C u 0) 0 ≡ get_or C u 0
  pub kept : (X : Variables) (P : List ℕ) → X.ex 0 ≡ false → Loose X (table C₀ P) → Kept X (table C₀ P) (table C P)

pub settle_none : {n : ℕ} {C : List ℕ} → EndsAt n C → ((u : ℕ) → get_or C u 0 ≤ u) → SettledTo n C C 0
settle_none ends falls = record { ends = ends; falls = falls; names = λ u l. absurd (omega arith); kept = λ X P none loose. kept_none loose }

module _ {n : ℕ} {C₀ C : List ℕ} {v : ℕ} (s : SettledTo n C₀ C v) where
  -- The row of v takes over the exact row that it points to.
  pub settle_one : v ≤ n → SettledTo n C₀ (set C v (get_or C (get_or C v 0) 0)) (v + 1)
  settle_one more =
      rw (add-one v)
      record { ends = ends_set s.ends v x more; falls = falls; names = below_suc (λ u. get_or D (get_or D u 0) 0 ≡ get_or D u 0) v before at_v; kept = kept }
    where
      x : ℕ
      x = get_or C (get_or C v 0) 0

      D : List ℕ
      D = set C v x

      inside : v < length C
      inside = omega arith

      new : get_or D v 0 ≡ x
      new = get_or-set_same C v x 0 inside

      old : (u : ℕ) → u ≢ v → get_or D u 0 ≡ get_or C u 0
      old u d = get_or-set_other C v u x 0 d

      least : x ≤ v
      least = omega (arith, s.falls v, s.falls (get_or C v 0))

      falls : (u : ℕ) → get_or D u 0 ≤ u
      falls u = by_cases (ℕ_discrete u v) (λ e. subst (λ (w : ℕ). get_or D w 0 ≤ w) (sym e) (omega (arith, new, least))) (λ d. omega (arith, old u d, s.falls u))

      before : (u : ℕ) → u < v → get_or D (get_or D u 0) 0 ≡ get_or D u 0
      before u l =
          let e = old u (λ q. omega arith) in
          ap (λ (w : ℕ). get_or D w 0) e ∙ old (get_or C u 0) (λ q. omega (arith, s.falls u)) ∙ s.names u l ∙ sym e

      at_v : get_or D (get_or D v 0) 0 ≡ get_or D v 0
      at_v = by_cases (ℕ_discrete (get_or C v 0) v)
          (λ e. let q : x ≡ v = ap (λ (w : ℕ). get_or C w 0) e ∙ e in ap (λ (w : ℕ). get_or D w 0) (new ∙ q))
          (λ d. let below : get_or C v 0 < v = omega (arith, s.falls v) in
          ap (λ (w : ℕ). get_or D w 0) new ∙ old x (λ q. omega (arith, s.falls (get_or C v 0))) ∙ s.names (get_or C v 0) below ∙ sym new)

      kept : (X : Variables) (P : List ℕ) → X.ex 0 ≡ false → Loose X (table C₀ P) → Kept X (table C₀ P) (table D P)
      kept X P none loose = kept_trans k (by_cases (ℕ_discrete x (get_or C v 0)) stays (go (X.ex v) refl))
        where
          k : Kept X (table C₀ P) (table C P)
          k = s.kept X P none loose

          stays : x ≡ get_or C v 0 → Kept X (table C P) (table D P)
          stays e = subst (λ (E : List ℕ). Kept X (table C P) (table E P)) (sym (ap (set C v) e ∙ set-get_or C v 0)) (kept_none k.loose)

          go : (b : Bool) → X.ex v ≡ b → x ≢ get_or C v 0 → Kept X (table C P) (table D P)
          go true ex d = halved_row X C P v k.loose ex (λ e. d (ap (λ (w : ℕ). get_or C w 0) e)) inside
          go false ex d = absurd (d (ap (λ (w : ℕ). get_or C w 0) (k.loose.universal v ex).0 ∙ (k.loose.universal 0 none).0
              ∙ sym (k.loose.universal v ex).0))

  pub settled : n < v → Settled C₀ C
  settled all = record { names = λ u. by_cases (dec_lt n u) past (λ l. s.names u (omega arith)); kept = s.kept }
    where
      past : {u : ℕ} → n < u → get_or C (get_or C u 0) 0 ≡ get_or C u 0
      past {u} l =
          let e = s.ends.past u l in
          let z : get_or C 0 0 ≡ 0 = omega (arith, s.falls 0) in
          ap (λ (w : ℕ). get_or C w 0) e ∙ z ∙ sym e
