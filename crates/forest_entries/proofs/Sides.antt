-- The signs of a variable in the clauses: every literal has one, a clause that connects has a variable in one sign only, and what shares a clause with
-- a variable shares one with it in some sign.
use Prim.Native.Nat.{ℕ, zero, suc, ◌+◌, ◌≤◌, ◌<◌}
use mathlib.Core.Path.{◌≡◌, refl, sym, ap, ap₂, ◌∙◌, subst}
use mathlib.Core.Bool.{Bool, true, false, not-eq-not}
use mathlib.Core.List.{List, [], ◌∷◌, map, Memᴰ}
use mathlib.Core.Logic.{◌≢◌, ◌⊎◌, inl, inr, ⊎_elim, ◌↔◌, by_cases}
use native.Mathlib.Decide.{ℕ_discrete, dec_lt}
use native.Mathlib.Nat.{not-suc-le-zero}
use native.Mathlib.Omega.{arith}
use borrow.Author.Tests.{eq-eqb, ltb-true}
use lib.Dec.{T}
use lib.IntN.{ℤ, pos, negsuc}
use lib.ListN.{length, get_or}
use lib.Signed.{lt_z}
use Rattle.terms.specs.Literals.{variable_of}
use Rattle.terms.proofs.Common.{clash}
use Rattle.formula.specs.Meaning.{clauses, opposite, always_true, connected}
use Rattle.formula.proofs.Signs.{pair_true, connected_none, connected_all}
use Rattle.formula.specs.Tables.{literal_at}
use Rattle.forest_entries.specs.declared.Side.{Side}
use Rattle.forest_entries.specs.declared.Signs.{Signs}
use Rattle.forest_tables.specs.Formula.{signed, joined, Shares, SharesBy}
use Rattle.forest_entries.specs.InnerFlags.{HasLiteral, Sided, By, side_by}

-- The variable of a literal of x is x, and every literal is one of its variable.
pub signed_variable : (sign : Bool) (x : ℕ) → variable_of (signed sign x) ≡ x
unfolding signed
signed_variable true x = refl
signed_variable false zero = refl
signed_variable false (suc x) = refl

pub sign_of : (z : ℤ) → (sign : Bool) × (z ≡ signed sign (variable_of z))
unfolding signed
sign_of (pos v) = (true, refl)
sign_of (negsuc v) = (false, refl)

-- A negative number is the negation of its variable, and any other its variable.
pub negative_sign : {y z : ℤ} → y ≡ z → lt_z y (pos 0) ≡ true → z ≡ signed false (variable_of z)
unfolding signed
negative_sign {z = z} same t = of z (sym (ap (λ (w : ℤ). lt_z w (pos 0)) same) ∙ t)
  where
    of : (z : ℤ) → lt_z z (pos 0) ≡ true → z ≡ signed false (variable_of z)
    of (pos v) t = absurd (not-suc-le-zero (ltb-true v 0 t))
    of (negsuc v) t = refl

pub positive_sign : {y z : ℤ} → y ≡ z → lt_z y (pos 0) ≡ false → z ≡ signed true (variable_of z)
unfolding signed
positive_sign {z = z} same t = of z (sym (ap (λ (w : ℤ). lt_z w (pos 0)) same) ∙ t)
  where
    of : (z : ℤ) → lt_z z (pos 0) ≡ false → z ≡ signed true (variable_of z)
    of (pos v) t = refl
    of (negsuc v) t = absurd (subst T t tt)

-- The two literals of a variable are opposite.
signs_opposite : (x : ℕ) → x ≢ 0 → (opposite (signed true x) (signed false x) ≡ true) × (opposite (signed false x) (signed true x) ≡ true)
unfolding signed opposite
signs_opposite zero some = absurd (some refl)
signs_opposite (suc x) some = (eq-eqb (suc x) (suc x) refl, eq-eqb (suc x) (suc x) refl)

opposite_other : (z : ℤ) → opposite z z ≡ false
unfolding opposite
opposite_other (pos v) = refl
opposite_other (negsuc v) = refl

-- What a list has stands at some place.
pub mem_at : {A : Type 0} (d a : A) (list : List A) → Memᴰ a list ↔ ((i : ℕ) × (i < length list) × (get_or list i d ≡ a))
mem_at d a [] = (λ m. absurd (mathlib.Core.List.Memᴰ.not-nil m), λ h. absurd (let l = h.1 in omega arith))
mem_at d a (b ∷ list) = (
  λ m. ⊎_elim (λ q. (0, omega arith, sym q)) (λ m'. let (i, less, q) = (mem_at d a list).0 m' in (suc i, omega arith, q)) (mathlib.Core.List.Memᴰ.cases_cons m),
  λ h. back h.0 h.1 h.2 (mem_at d a list).1,
)
  where
    back : (i : ℕ) → i < suc (length list) → get_or (b ∷ list) i d ≡ a
        → ((i : ℕ) × (i < length list) × (get_or list i d ≡ a) → Memᴰ a list) → Memᴰ a (b ∷ list)
    back zero less q later = mathlib.Core.List.Memᴰ.head (sym q)
    back (suc i) less q later = mathlib.Core.List.Memᴰ.tail (later (i, omega arith, q))

-- A clause with both literals of a variable is always true, and so connects nothing.
both_signs : (clause : List ℤ) (x : ℕ) → x ≢ 0 → Memᴰ (signed true x) clause → Memᴰ (signed false x) clause → always_true clause ≡ true
both_signs clause x some m k =
    let (d, dl, dq) = (mem_at (pos 0) (signed true x) clause).0 m in
    let (e, el, eq) = (mem_at (pos 0) (signed false x) clause).0 k in
    let (there, back) = signs_opposite x some in
    by_cases (dec_lt d e) (λ l. pair_true clause d e l el (ap₂ opposite dq eq ∙ there))
    (λ g. by_cases (dec_lt e d) (λ l. pair_true clause e d l dl (ap₂ opposite eq dq ∙ back))
    (λ h. let q : d ≡ e = omega arith in
    absurd (clash there (ap (λ z. opposite z (signed false x)) (sym dq ∙ ap (λ i. get_or clause i (pos 0)) q ∙ eq) ∙ opposite_other (signed false x)))))

pub connected_open : (clause : List ℤ) (v : ℕ) → Memᴰ v (connected clause) → always_true clause ≡ false
connected_open clause v m = (not-eq-not {b = false}).0 (λ t. mathlib.Core.List.Memᴰ.not-nil (subst (Memᴰ v) (connected_none clause t) m))

pub one_sign : (clause : List ℤ) (x v : ℕ) → x ≢ 0 → Memᴰ (signed true x) clause → Memᴰ (signed false x) clause → Memᴰ v (connected clause) → ⊥
one_sign clause x v some m k c = clash (both_signs clause x some m k) (connected_open clause v c)

-- What shares a clause with a literal of x shares it with x, and what shares one with x shares it with one of its literals.
pub shares_x : {ls : List ℤ} (sign : Bool) {x y : ℕ} (s : SharesBy ls sign x y) → Memᴰ x (connected s.clause)
shares_x sign {x} {y} s =
    let all = connected_all s.clause (connected_open s.clause y s.connects) in
    subst (Memᴰ x) (sym all) (subst (λ v. Memᴰ v (map variable_of s.clause)) (signed_variable sign x) (mathlib.Core.List.Memᴰ.map variable_of s.literal))

pub shares_some : {ls : List ℤ} (sign : Bool) {x y : ℕ} → SharesBy ls sign x y → Shares ls x y
unfolding joined
shares_some sign s = record { clause = connected s.clause; listed = mathlib.Core.List.Memᴰ.map connected s.listed; left = shares_x sign s; right = s.connects }

pub shares_signed : {ls : List ℤ} {x y : ℕ} → Shares ls x y → SharesBy ls true x y ⊎ SharesBy ls false x y
unfolding joined
shares_signed {ls} {x} {y} j =
    let (clause, m, is) = mathlib.Core.List.Memᴰ.of_map connected (clauses ls) j.listed in
    let here : Memᴰ x (connected clause) = subst (Memᴰ x) (sym is) j.left in
    let (z, mz, vz) = mathlib.Core.List.Memᴰ.of_map variable_of clause (subst (Memᴰ x) (connected_all clause (connected_open clause x here)) here) in
    let (sign, q) = sign_of z in
    either sign
    (record {
      clause = clause;
      listed = m;
      literal = subst (λ l. Memᴰ l clause) (q ∙ ap (signed sign) vz) mz;
      connects = subst (Memᴰ y) (sym is) j.right;
    })
  where
    either : (sign : Bool) → SharesBy ls sign x y → SharesBy ls true x y ⊎ SharesBy ls false x y
    either true s = inl s
    either false s = inr s

-- The side of the entries passed so far is that of the last entry with x, and any other entry changes nothing.
module _ (ls : List ℤ) (start x : ℕ) where
  module _ (i : ℕ) (low : start ≤ i) where
    pub sided_here : (side : Side) (z : ℤ) → z ≡ literal_at ls i → variable_of z ≡ x → Sided side (λ sign. z ≡ signed sign (variable_of z))
        → Sided side (λ sign. HasLiteral ls start (i + 1) (signed sign x))
    sided_here side z is own s = go side s
      where
        here : (sign : Bool) → z ≡ signed sign (variable_of z) → HasLiteral ls start (i + 1) (signed sign x)
        here sign q = record { place = i; from = low; before = omega arith; is = sym is ∙ q ∙ ap (signed sign) own }

        go : (side : Side) → Sided side (λ sign. z ≡ signed sign (variable_of z)) → Sided side (λ sign. HasLiteral ls start (i + 1) (signed sign x))
        go Side.Neither s = let (sign, q) = sign_of z in absurd (s sign q)
        go Side.Positive s = here true s
        go Side.Negative s = here false s

    pub sided_past : (side : Side) → variable_of (literal_at ls i) ≢ x → Sided side (λ sign. HasLiteral ls start i (signed sign x))
        → Sided side (λ sign. HasLiteral ls start (i + 1) (signed sign x))
    sided_past side other s = go side s
      where
        longer : (sign : Bool) → HasLiteral ls start i (signed sign x) → HasLiteral ls start (i + 1) (signed sign x)
        longer sign h = record { place = h.place; from = h.from; before = let b = h.before in omega arith; is = h.is }

        shorter : (sign : Bool) → HasLiteral ls start (i + 1) (signed sign x) → HasLiteral ls start i (signed sign x)
        shorter sign h =
            by_cases (ℕ_discrete h.place i)
            (λ q. absurd (other (ap (λ e. variable_of (literal_at ls e)) (sym q) ∙ ap variable_of h.is ∙ signed_variable sign x)))
            (λ ne. record { place = h.place; from = h.from; before = let b = h.before in omega arith; is = h.is })

        go : (side : Side) → Sided side (λ sign. HasLiteral ls start i (signed sign x)) → Sided side (λ sign. HasLiteral ls start (i + 1) (signed sign x))
        go Side.Neither s = λ sign h. s sign (shorter sign h)
        go Side.Positive s = longer true s
        go Side.Negative s = longer false s

-- A side that a scan is for has one of its signs, and any other none, where no two sides can be had at once.
pub side_has : (signs : Signs) (side : Side) (P : Bool → Type 0) → side_by signs side ≡ true → Sided side P → By signs P
unfolding side_by
side_has Signs.Either Side.Neither P q s = absurd (clash refl (sym q))
side_has Signs.Either Side.Positive P q s = inl s
side_has Signs.Either Side.Negative P q s = inr s
side_has Signs.Positive Side.Neither P q s = absurd (clash refl (sym q))
side_has Signs.Positive Side.Positive P q s = s
side_has Signs.Positive Side.Negative P q s = absurd (clash refl (sym q))
side_has Signs.Negative Side.Neither P q s = absurd (clash refl (sym q))
side_has Signs.Negative Side.Positive P q s = absurd (clash refl (sym q))
side_has Signs.Negative Side.Negative P q s = s

pub side_not : (signs : Signs) (side : Side) (P : Bool → Type 0) → side_by signs side ≡ false → Sided side P → (P true → P false → ⊥) → By signs P → ⊥
unfolding side_by
side_not Signs.Either Side.Neither P q s apart = ⊎_elim (s true) (s false)
side_not Signs.Either Side.Positive P q s apart = absurd (clash refl q)
side_not Signs.Either Side.Negative P q s apart = absurd (clash refl q)
side_not Signs.Positive Side.Neither P q s apart = s true
side_not Signs.Positive Side.Positive P q s apart = absurd (clash refl q)
side_not Signs.Positive Side.Negative P q s apart = λ p. apart p s
side_not Signs.Negative Side.Neither P q s apart = s false
side_not Signs.Negative Side.Positive P q s apart = λ p. apart s p
side_not Signs.Negative Side.Negative P q s apart = absurd (clash refl q)

-- a clause that has x in neither sign is for no scan
pub side_neither : (signs : Signs) → side_by signs Side.Neither ≡ false
unfolding side_by
side_neither Signs.Either = refl
side_neither Signs.Positive = refl
side_neither Signs.Negative = refl
