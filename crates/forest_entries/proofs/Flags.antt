-- Tables of flags: one flag more, and the tops of the variables of clauses that are passed one after the other.
use Prim.Native.Nat.{ℕ, ◌+◌, ◌-◌, ◌≤◌, ◌<◌}
use mathlib.Core.Path.{◌≡◌, refl, sym, ap, ◌∙◌, subst}
use mathlib.Core.Bool.{Bool, true, false, not-eq-not}
use mathlib.Core.List.Memᴰ
use mathlib.Core.List.{List, [], ◌∷◌, map, Memᴰ}
use mathlib.Core.Logic.{◌≢◌, ◌⊎◌, inl, inr, ⊎_elim, ◌↔◌, by_cases}
use native.Mathlib.Decide.{ℕ_discrete, dec_lt}
use native.Mathlib.Omega.{arith}
use borrow.Author.Count.{below_more}
use lib.IntN.{ℤ, pos}
use lib.ListN.{length, get_or, take, drop, replicate, length-drop, length-replicate, get_or-replicate, get_or-eq_default}
use lib.Seq.{get_or-take, get_or-drop, length-take-le}
use Rattle.terms.specs.Literals.{variable_of}
use Rattle.terms.specs.InnerLimits.{variable_rows}
use Rattle.terms.proofs.Common.{clash}
use Rattle.formula.specs.Tables.{literal_at}
use Rattle.formula.specs.Meaning.{clauses, always_true, connected}
use Rattle.formula.specs.InnerLookup.{NextZero}
use Rattle.formula.proofs.Lookups.{clauses_closed}
use Rattle.formula.proofs.Signs.{connected_none, connected_all}
use Rattle.forest_entries.specs.declared.Signs.{Signs}
use Rattle.forest_tables.specs.Formula.{signed, SharesBy}
use Rattle.forest_entries.specs.InnerFlags.{Has, HasLiteral, By, Connects, Flagged, Via, Blank}
use Rattle.forest_entries.proofs.Sides.{signed_variable, mem_at, one_sign}

-- A flag that is set is within its table.
pub flag_long : (flags : List Bool) (v : ℕ) → get_or flags v false ≡ true → v < length flags
flag_long flags v t = by_cases (dec_lt v (length flags)) (λ l. l) (λ l. absurd (clash t (get_or-eq_default flags false {n = v} (omega arith))))

-- Nothing flagged, where nothing in the table's range is to be.
pub flag_nothing : {P : ℕ → Type 0} (old : List Bool) → ((v : ℕ) → v < length old → P v → ⊥) → Flagged P old old
flag_nothing old none = record { size = refl; flags = λ v l. (λ t. inl t, ⊎_elim (λ t. t) (λ p. absurd (none v l p))) }

-- The same flags by an equivalent condition, and flags set one after another.
pub flag_as : {P Q : ℕ → Type 0} {old new : List Bool} → Flagged P old new → ((v : ℕ) → P v ↔ Q v) → Flagged Q old new
flag_as f same =
    record {
      size = f.size;
      flags = λ v l.
          let m = f.flags v l in
          (λ t. ⊎_elim inl (λ p. inr ((same v).0 p)) (m.0 t), ⊎_elim (λ o. m.1 (inl o)) (λ q. m.1 (inr ((same v).1 q))));
    }

pub flag_then : {P Q : ℕ → Type 0} {old mid new : List Bool} → Flagged P old mid → Flagged Q mid new → Flagged (λ v. P v ⊎ Q v) old new
flag_then f g =
    record {
      size = g.size ∙ f.size;
      flags = λ v l.
          let m = f.flags v l in
          let n = g.flags v (let q = f.size in omega arith) in (
            λ t. ⊎_elim (λ o. ⊎_elim inl (λ p. inr (inl p)) (m.0 o)) (λ q. inr (inr q)) (n.0 t),
            ⊎_elim (λ o. n.1 (inl (m.1 (inl o)))) (⊎_elim (λ p. n.1 (inl (m.1 (inr p)))) (λ q. n.1 (inr q))),
          );
    }

-- Past the end and at the next 0 there is no literal.
pub literal_past : (ls : List ℤ) (e : ℕ) → length ls ≤ e → variable_of (literal_at ls e) ≡ 0
literal_past ls e l = ap variable_of (get_or-eq_default ls (pos 0) {n = e} l)

pub next_none : {ls : List ℤ} {s z : ℕ} → NextZero ls s z → variable_of (literal_at ls z) ≡ 0
next_none {ls} {s} {z} next = by_cases (dec_lt z (length ls)) (λ l. next.closes l) (λ l. literal_past ls z (omega arith))

-- There is one next 0.
pub next_one : {ls : List ℤ} {s z y : ℕ} → NextZero ls s z → NextZero ls s y → z ≡ y
next_one {ls} {s} {z} {y} a b =
    by_cases (dec_lt z y) (λ l. absurd (b.literals z a.from l (next_none a)))
    (λ l. by_cases (dec_lt y z) (λ g. absurd (a.literals y b.from g (next_none b))) (λ g. omega arith))

-- On the way from `start` to the next 0: every entry passed is a literal.
pub record Unclosed (ls : List ℤ) (start i : ℕ) : Type 0 where
  pub from : start ≤ i
  pub within : start ≤ length ls → i ≤ length ls
  pub literals : (e : ℕ) → e < i → start ≤ e → variable_of (literal_at ls e) ≢ 0

pub unclosed_none : (ls : List ℤ) (start : ℕ) → Unclosed ls start start
unclosed_none ls start = record { from = omega arith; within = λ w. w; literals = λ e l s. absurd (omega arith) }

-- The variable v was read at entry i: it is passed if it is not 0, and the way ends at a 0, or with the table.
module _ {ls : List ℤ} {start i : ℕ} (u : Unclosed ls start i) where
  pub unclosed_more : {v : ℕ} → i < length ls → v ≡ variable_of (literal_at ls i) → v ≢ 0 → Unclosed ls start (i + 1)
  unclosed_more less read some =
      let from = u.from in
      record { from = omega arith; within = λ w. omega arith; literals = below_more _ i u.literals (λ _ q. some (read ∙ q)) }

  pub unclosed_zero : {v : ℕ} → v ≡ variable_of (literal_at ls i) → v ≡ 0 → NextZero ls start i
  unclosed_zero read none = record { from = u.from; within = u.within; literals = λ e s l. u.literals e l s; closes = λ _. sym read ∙ none }

  pub unclosed_end : length ls ≤ i → NextZero ls start i
  unclosed_end done = record { from = u.from; within = u.within; literals = λ e s l. u.literals e l s; closes = λ l. absurd (omega arith) }

-- The entries of a clause, passed one after the other.
pub has_none : (ls : List ℤ) (start v : ℕ) → Has ls start start v → ⊥
has_none ls start v h = let a = h.from in let b = h.before in omega arith

has_more : (ls : List ℤ) (start i v : ℕ) → start ≤ i → (Has ls start i v ⊎ (v ≡ variable_of (literal_at ls i))) ↔ Has ls start (i + 1) v
has_more ls start i v low = (
  ⊎_elim (λ h. record { place = h.place; from = h.from; before = let l = h.before in omega arith; is = h.is })
      (λ q. record { place = i; from = low; before = omega arith; is = sym q }),
  back,
)
  where
    back : Has ls start (i + 1) v → Has ls start i v ⊎ (v ≡ variable_of (literal_at ls i))
    back h =
        by_cases (ℕ_discrete h.place i) (λ q. inr (sym h.is ∙ ap (λ e. variable_of (literal_at ls e)) q))
        (λ other. inl (record { place = h.place; from = h.from; before = let l = h.before in omega arith; is = h.is }))

-- the same with the variable as it was read
pub has_next : (ls : List ℤ) (start i v : ℕ) → start ≤ i → v ≡ variable_of (literal_at ls i) → (w : ℕ) → (Has ls start i w ⊎ (w ≡ v)) ↔ Has ls start (i + 1) w
has_next ls start i v low is w = (
  ⊎_elim (λ h. (has_more ls start i w low).0 (inl h)) (λ q. (has_more ls start i w low).0 (inr (q ∙ is))),
  λ h. ⊎_elim inl (λ q. inr (q ∙ sym is)) ((has_more ls start i w low).1 h),
)

-- The literals and the variables of the entries from start up to z, as lists.
module _ (ls : List ℤ) (start z : ℕ) (from : start ≤ z) (to : z ≤ length ls) where
  clause_size : length (take (z - start) (drop start ls)) ≡ z - start
  clause_size = length-take-le (z - start) (drop start ls) (rw (length-drop start ls) (omega arith))

  clause_entry : (i : ℕ) → i < z - start → get_or (take (z - start) (drop start ls)) i (pos 0) ≡ literal_at ls (start + i)
  clause_entry i l = get_or-take (z - start) (drop start ls) i (pos 0) l ∙ get_or-drop start ls i (pos 0)

  pub clause_literal : (literal : ℤ) → Memᴰ literal (take (z - start) (drop start ls)) ↔ HasLiteral ls start z literal
  clause_literal literal = (there, back)
    where
      there : Memᴰ literal (take (z - start) (drop start ls)) → HasLiteral ls start z literal
      there m =
          let (i, l, q) = (mem_at (pos 0) literal (take (z - start) (drop start ls))).0 m in
          let less : i < z - start = subst (λ k. i < k) clause_size l in
          record { place = start + i; from = omega arith; before = omega arith; is = sym (clause_entry i less) ∙ q }

      back : HasLiteral ls start z literal → Memᴰ literal (take (z - start) (drop start ls))
      back h =
          let a = h.from in
          let b = h.before in
          let less : h.place - start < z - start = omega arith in
          let there' : start + (h.place - start) ≡ h.place = omega arith in
          (mem_at (pos 0) literal (take (z - start) (drop start ls))).1 (
            h.place - start,
            subst (λ k. h.place - start < k) (sym clause_size) less,
            clause_entry (h.place - start) less ∙ ap (λ e. literal_at ls e) there' ∙ h.is,
          )

  clause_has : (v : ℕ) → Memᴰ v (map variable_of (take (z - start) (drop start ls))) ↔ Has ls start z v
  clause_has v = (
    λ m. let (literal, l, q) = Memᴰ.of_map variable_of (take (z - start) (drop start ls)) m in
        let h = (clause_literal literal).0 l in
        record { place = h.place; from = h.from; before = h.before; is = ap variable_of h.is ∙ q },
    λ h. subst (λ w. Memᴰ w (map variable_of (take (z - start) (drop start ls)))) h.is
        (Memᴰ.map variable_of ((clause_literal (literal_at ls h.place)).1 (record { place = h.place; from = h.from; before = h.before; is = refl }))),
  )

module _ (ls : List ℤ) (start z : ℕ) (from : start ≤ z) (to : z ≤ length ls) where
  -- A clause that is not always true connects the variables it has, and any other none.
  pub connects_all : always_true (take (z - start) (drop start ls)) ≡ false → (v : ℕ) → Connects ls start z v ↔ Has ls start z v
  connects_all q v =
      subst (λ vs. Memᴰ v vs ↔ Has ls start z v) (sym (connected_all (take (z - start) (drop start ls)) q)) (clause_has ls start z from to v)

  connects_none : always_true (take (z - start) (drop start ls)) ≡ true → (v : ℕ) → Connects ls start z v → ⊥
  connects_none q v m = Memᴰ.not-nil (subst (λ vs. Memᴰ v vs) (connected_none (take (z - start) (drop start ls)) q) m)

  -- So one that connects anything is not always true, and has what it connects.
  pub connects_open : (v : ℕ) → Connects ls start z v → always_true (take (z - start) (drop start ls)) ≡ false
  connects_open v m = (not-eq-not {b = false}).0 (λ t. connects_none t v m)

  pub connects_has : (v : ℕ) → Connects ls start z v → Has ls start z v
  connects_has v m = (connects_all (connects_open v m) v).0 m

-- What shares one of the clauses from `start` on with the literal of x with a sign shares the one up to the next 0, or one after it.
module _ (ls : List ℤ) (sign : Bool) (x start z : ℕ) (next : NextZero ls start z) (closed : z < length ls) where
  pub signed_split : (v : ℕ)
      → SharesBy (drop start ls) sign x v ↔ ((HasLiteral ls start z (signed sign x) × Connects ls start z v) ⊎ SharesBy (drop (z + 1) ls) sign x v)
  signed_split v = (there, back)
    where
      cut : clauses (drop start ls) ≡ take (z - start) (drop start ls) ∷ clauses (drop (z + 1) ls)
      cut = clauses_closed ls start z next closed

      has : Memᴰ (signed sign x) (take (z - start) (drop start ls)) ↔ HasLiteral ls start z (signed sign x)
      has = clause_literal ls start z next.from (omega arith) (signed sign x)

      there : SharesBy (drop start ls) sign x v → (HasLiteral ls start z (signed sign x) × Connects ls start z v) ⊎ SharesBy (drop (z + 1) ls) sign x v
      there s =
          ⊎_elim (λ q. inl (has.0 (subst (Memᴰ (signed sign x)) q s.literal), subst (λ c. Memᴰ v (connected c)) q s.connects))
          (λ later. inr (record { clause = s.clause; listed = later; literal = s.literal; connects = s.connects }))
          (Memᴰ.cases_cons (subst (Memᴰ s.clause) cut s.listed))

      back : (HasLiteral ls start z (signed sign x) × Connects ls start z v) ⊎ SharesBy (drop (z + 1) ls) sign x v → SharesBy (drop start ls) sign x v
      back =
          ⊎_elim
          (λ h.
          record {
            clause = take (z - start) (drop start ls);
            listed = subst (Memᴰ (take (z - start) (drop start ls))) (sym cut) (Memᴰ.head refl);
            literal = has.1 h.0;
            connects = h.1;
          })
          (λ s.
          record {
            clause = s.clause;
            listed = subst (Memᴰ s.clause) (sym cut) (Memᴰ.tail s.listed);
            literal = s.literal;
            connects = s.connects;
          })

-- A clause that connects anything has x in one sign only.
pub sides_apart : (ls : List ℤ) (x start z : ℕ) → NextZero ls start z → z ≤ length ls → (v : ℕ) → HasLiteral ls start z (signed true x)
    → HasLiteral ls start z (signed false x) → Connects ls start z v → ⊥
sides_apart ls x start z next to v p q c =
    let literal = clause_literal ls start z next.from to in
    let some : x ≢ 0 = λ zero'. next.literals p.place p.from p.before (ap variable_of p.is ∙ signed_variable true x ∙ zero') in
    one_sign (take (z - start) (drop start ls)) x v some ((literal (signed true x)).1 p) ((literal (signed false x)).1 q) c

-- The tops of those variables of which P holds: nothing more where P holds of nothing more, and those of two together.
pub via_as : {n : ℕ} {tops : List ℕ} {P Q : ℕ → Type 0} {e : ℕ} → ((v : ℕ) → P v → Q v) → Via n tops P e → Via n tops Q e
via_as more t = record { for = t.for; holds = more t.for t.holds; is = t.is; some = t.some }

pub via_or : {n : ℕ} {tops : List ℕ} {P Q : ℕ → Type 0} {e : ℕ} → Via n tops (λ v. P v ⊎ Q v) e → Via n tops P e ⊎ Via n tops Q e
via_or {n} {tops} {P} {Q} {e} t = go t.holds
  where
    go : P t.for ⊎ Q t.for → Via n tops P e ⊎ Via n tops Q e
    go (inl p) = inl (record { for = t.for; holds = p; is = t.is; some = t.some })
    go (inr q) = inr (record { for = t.for; holds = q; is = t.is; some = t.some })

-- The tops of what a clause connects: those of what it has, and none where it is always true.
module _ (n : ℕ) (tops : List ℕ) (ls : List ℤ) (start z : ℕ) (from : start ≤ z) (to : z ≤ length ls) where
  pub flag_connected : {old new : List Bool} → always_true (take (z - start) (drop start ls)) ≡ false
      → Flagged (Via n tops (Has ls start z)) old new → Flagged (Via n tops (Connects ls start z)) old new
  flag_connected q f = flag_as f (λ e. (via_as (λ v. (connects_all ls start z from to q v).1), via_as (λ v. (connects_all ls start z from to q v).0)))

  pub flag_unconnected : (old : List Bool) → always_true (take (z - start) (drop start ls)) ≡ true → Flagged (Via n tops (Connects ls start z)) old old
  flag_unconnected old q = flag_nothing old (λ e l t. connects_none ls start z from to q t.for t.holds)

-- The clauses from `start` on that have x by some signs are the one up to the next 0, if it has, and those after it.
signs_split : (ls : List ℤ) (signs : Signs) (x start z : ℕ) → NextZero ls start z → z < length ls → (v : ℕ)
    → By signs (λ sign. SharesBy (drop start ls) sign x v)
    ↔ ((By signs (λ sign. HasLiteral ls start z (signed sign x)) × Connects ls start z v) ⊎ By signs (λ sign. SharesBy (drop (z + 1) ls) sign x v))
signs_split ls Signs.Either x start z next closed v = (
  ⊎_elim (λ a. ⊎_elim (λ h. inl (inl h.0, h.1)) (λ r. inr (inl r)) (positive.0 a))
      (λ b. ⊎_elim (λ h. inl (inr h.0, h.1)) (λ r. inr (inr r)) (negative.0 b)),
  ⊎_elim (λ h. ⊎_elim (λ a. inl (positive.1 (inl (a, h.1)))) (λ b. inr (negative.1 (inl (b, h.1)))) h.0)
      (⊎_elim (λ a. inl (positive.1 (inr a))) (λ b. inr (negative.1 (inr b)))),
)
  where
    positive : SharesBy (drop start ls) true x v ↔ ((HasLiteral ls start z (signed true x) × Connects ls start z v) ⊎ SharesBy (drop (z + 1) ls) true x v)
    positive = signed_split ls true x start z next closed v

    negative : SharesBy (drop start ls) false x v ↔ ((HasLiteral ls start z (signed false x) × Connects ls start z v) ⊎ SharesBy (drop (z + 1) ls) false x v)
    negative = signed_split ls false x start z next closed v
signs_split ls Signs.Positive x start z next closed v = signed_split ls true x start z next closed v
signs_split ls Signs.Negative x start z next closed v = signed_split ls false x start z next closed v

signs_none : (ls : List ℤ) (signs : Signs) (x v : ℕ) → clauses ls ≡ [] → By signs (λ sign. SharesBy ls sign x v) → ⊥
signs_none ls signs x v none = go signs
  where
    each : (sign : Bool) → SharesBy ls sign x v → ⊥
    each sign s = Memᴰ.not-nil (subst (Memᴰ s.clause) none s.listed)

    go : (signs : Signs) → By signs (λ sign. SharesBy ls sign x v) → ⊥
    go Signs.Either = ⊎_elim (each true) (each false)
    go Signs.Positive = each true
    go Signs.Negative = each false

-- What is flagged, and what is to come, are the flags at first and the tops of all that share a clause with x by the signs.
pub record Sharing (n : ℕ) (tops : List ℕ) (ls : List ℤ) (signs : Signs) (x : ℕ) (old new : List Bool) (start : ℕ) : Type 0 where
  pub size : length new ≡ length old
  pub flags : (e : ℕ) → e < length old
      → ((get_or new e false ≡ true) ⊎ Via n tops (λ y. By signs (λ sign. SharesBy (drop start ls) sign x y)) e)
      ↔ ((get_or old e false ≡ true) ⊎ Via n tops (λ y. By signs (λ sign. SharesBy ls sign x y)) e)

pub share_none : (n : ℕ) (tops : List ℕ) (ls : List ℤ) (signs : Signs) (x : ℕ) (old : List Bool) → Sharing n tops ls signs x old old 0
share_none n tops ls signs x old = record { size = refl; flags = λ v l. (λ s. s, λ s. s) }

module _ {n : ℕ} {tops : List ℕ} {ls : List ℤ} {signs : Signs} {x : ℕ} {old new : List Bool} {start : ℕ} (s : Sharing n tops ls signs x old new start) where
  -- A clause that has x by the signs: the tops of the variables that it connects are flagged.
  pub share_has : {next : List Bool} (z : ℕ) → NextZero ls start z → z < length ls
      → By signs (λ sign. HasLiteral ls start z (signed sign x)) → Flagged (Via n tops (Connects ls start z)) new next
      → Sharing n tops ls signs x old next (z + 1)
  share_has z closes less here f =
      record {
        size = f.size ∙ s.size;
        flags = λ e l.
            let m = s.flags e l in
            let k = f.flags e (let q = s.size in omega arith) in
            let split = signs_split ls signs x start z closes less in (
              ⊎_elim (λ t. ⊎_elim (λ o. m.0 (inl o)) (λ h. m.0 (inr (via_as (λ v h'. (split v).1 (inl (here, h'))) h))) (k.0 t))
                  (λ r. m.0 (inr (via_as (λ v r'. (split v).1 (inr r')) r))),
              λ t. ⊎_elim (λ o. inl (k.1 (inl o)))
                  (λ r. ⊎_elim (λ h. inl (k.1 (inr (via_as (λ v b. b.1) h)))) inr (via_or (via_as (λ v r'. (split v).0 r') r))) (m.1 t),
            );
      }

  -- A clause that does not, or that connects nothing: no top is flagged.
  pub share_not : (z : ℕ) → NextZero ls start z → z < length ls
      → ((v : ℕ) → By signs (λ sign. HasLiteral ls start z (signed sign x)) → Connects ls start z v → ⊥)
      → Sharing n tops ls signs x old new (z + 1)
  share_not z closes less none =
      record {
        size = s.size;
        flags = λ e l.
            let m = s.flags e l in
            let split = signs_split ls signs x start z closes less in (
              ⊎_elim (λ o. m.0 (inl o)) (λ r. m.0 (inr (via_as (λ v r'. (split v).1 (inr r')) r))),
              λ t. ⊎_elim inl (λ r. inr (via_as (λ v r'. ⊎_elim (λ h. absurd (none v h.0 h.1)) (λ later. later) ((split v).0 r')) r)) (m.1 t),
            );
      }

  -- No clause is left.
  pub share_all : clauses (drop start ls) ≡ [] → Flagged (Via n tops (λ y. By signs (λ sign. SharesBy ls sign x y))) old new
  share_all none =
      record {
        size = s.size;
        flags =
            λ e l. (
              λ t. (s.flags e l).0 (inl t),
              λ t. ⊎_elim (λ o. o) (λ r. absurd (signs_none (drop start ls) signs x r.for none r.holds)) ((s.flags e l).1 t),
            );
      }

-- A table in which no flag is set, and past its end there is none.
pub blank_of : {flags : List Bool} → length flags ≡ variable_rows → ((v : ℕ) → v < length flags → get_or flags v false ≡ false) → Blank flags
blank_of {flags} size none =
    record { size = size; blank = λ v. by_cases (dec_lt v (length flags)) (none v) (λ l. get_or-eq_default flags false {n = v} (omega arith)) }

-- A new table of flags.
pub fresh : Blank (replicate variable_rows false)
fresh =
    let size = length-replicate variable_rows false in
    blank_of size (λ v l. get_or-replicate variable_rows v false false (omega arith))
