-- Where the variables of a block stand in the table: what block k names has a place with k marks before it. So no two blocks of an accepted prefix
-- name one variable.
use Prim.Native.Nat.{ℕ, zero, suc, ◌+◌, ◌≤◌, ◌<◌}
use mathlib.Core.Path.{◌≡◌, refl, sym, ap, subst, ◌∙◌}
use mathlib.Core.Bool.{Bool, true, false, cond}
use mathlib.Core.List.{List, [], ◌∷◌}
use mathlib.Core.Logic.{◌≢◌, by_cases}
use native.Mathlib.Decide.{ℕ_discrete, dec_le}
use native.Mathlib.Omega.{arith}
use borrow.Author.Tests.{eq-eqb, ne_eqb}
use lib.ListN.{length, get_or, drop, drop_of_length-le}
use lib.Seq.{drop-cons}
use Rattle.terms.proofs.Common.{clash}
use Rattle.formula.specs.Tables.{at, opens, cut, push, marks_before, VariableAt}
use Rattle.formula.specs.Causes.{named_before}
use Rattle.formula.specs.Meaning.{is_zero, blocks, has, names}
use Rattle.formula.specs.InnerLevels.{SoundPrefix}

-- marks only grow in number
pub marks_rise : (es : List ℕ) (e f : ℕ) → e ≤ f → marks_before es e ≤ marks_before es f
marks_rise es e zero l = let q : e ≡ 0 = omega arith in subst (λ (k : ℕ). marks_before es k ≤ 0) (sym q) (omega arith)
marks_rise es e (suc f) l = by (λ k. marks_rise es e f k) (ℕ_discrete e (suc f))
  where
    one : (b : Bool) (m : ℕ) → m ≤ cond b (suc m) m
    one true m = omega arith
    one false m = omega arith

    by : (e ≤ f → marks_before es e ≤ marks_before es f) → Dec (e ≡ suc f) → marks_before es e ≤ marks_before es (suc f)
    by on (yes q) = subst (λ (k : ℕ). marks_before es e ≤ marks_before es k) q (omega arith)
    by on (no other) =
        let before = on (omega arith) in
        let here = one (opens es f) (marks_before es f) in
        omega arith

module _ (es : List ℕ) (v : ℕ) where
  -- a place that names v, with so many marks before it
  abbrev pub Place : ℕ → Type 0
  Place marks = (e : ℕ) × VariableAt es e × (at es e ≡ v) × (marks_before es e ≡ marks)

  -- List j of those that are left names v, by whether a block may open: where none may, the first list is the rest of a block.
  abbrev NamedIn : Bool → List (List ℕ) → ℕ → Type 0
  NamedIn true cs j = names (get_or cs j []) v ≡ true
  NamedIn false cs zero = has (get_or cs 0 []) v ≡ true
  NamedIn false cs (suc j) = names (get_or cs (suc j) []) v ≡ true

  -- how many marks stand before its variables
  abbrev marks_to : Bool → ℕ → ℕ → ℕ
  marks_to true i j = marks_before es i + suc j
  marks_to false i j = marks_before es i + j

  none_left : (o : Bool) (j : ℕ) → NamedIn o [] j → ⊥
  none_left true j t = clash t refl
  none_left false zero t = clash t refl
  none_left false (suc j) t = clash t refl

  module _ (i : ℕ) (more : i < length es)
      (next : (o : Bool) → opens es (suc i) ≡ o → (j : ℕ) → NamedIn o (cut is_zero (drop (suc i) es)) j → Place (marks_to o (suc i) j)) where
    moved : {k k' : ℕ} → k ≡ k' → Place k → Place k'
    moved q p = subst (λ (k : ℕ). Place k) q p

    -- a 0: the list is closed, and a block may open
    at_zero : (o : Bool) → opens es i ≡ o → at es i ≡ 0 → (j : ℕ) → NamedIn o ([] ∷ cut is_zero (drop (suc i) es)) j → Place (marks_to o i j)
    at_zero true open' z zero t = absurd (clash t refl)
    at_zero true open' z (suc j) t =
        let one : marks_before es (suc i) ≡ suc (marks_before es i) = ap (λ b. cond b (suc (marks_before es i)) (marks_before es i)) open' in
        moved (omega arith) (next true (eq-eqb (at es i) 0 z) j t)
    at_zero false shut z zero t = absurd (clash t refl)
    at_zero false shut z (suc j) t =
        let none : marks_before es (suc i) ≡ marks_before es i = ap (λ b. cond b (suc (marks_before es i)) (marks_before es i)) shut in
        moved (omega arith) (next true (eq-eqb (at es i) 0 z) j t)

    -- any other entry stands in front of the first list
    module _ (some : at es i ≢ 0) where
      inside : opens es (suc i) ≡ false
      inside = ne_eqb (at es i) 0 some

      pushed : (o : Bool) → opens es i ≡ o → (cs : List (List ℕ)) → ((j : ℕ) → NamedIn false cs j → Place (marks_to false (suc i) j)) → (j : ℕ)
          → NamedIn o (push (at es i) cs) j → Place (marks_to o i j)
      pushed o is [] on j t = absurd (none_left o j t)
      pushed true open' (first ∷ later) on j t =
          let one : marks_before es (suc i) ≡ suc (marks_before es i) = ap (λ b. cond b (suc (marks_before es i)) (marks_before es i)) open' in
          moved (omega arith) (on j (behind j t))
        where
          behind : (j : ℕ) → NamedIn true ((at es i ∷ first) ∷ later) j → NamedIn false (first ∷ later) j
          behind zero t = t
          behind (suc j) t = t
      pushed false shut (first ∷ later) on zero t = go (ℕ_discrete (at es i) v)
        where
          go : Dec (at es i ≡ v) → Place (marks_before es i + 0)
          go (yes q) = (i, (more, shut, some), q, omega arith)
          go (no other) =
              let none : marks_before es (suc i) ≡ marks_before es i = ap (λ b. cond b (suc (marks_before es i)) (marks_before es i)) shut in
              moved (omega arith) (on zero (sym (ap (λ b. cond b true (has first v)) (ne_eqb (at es i) v other)) ∙ t))
      pushed false shut (first ∷ later) on (suc j) t =
          let none : marks_before es (suc i) ≡ marks_before es i = ap (λ b. cond b (suc (marks_before es i)) (marks_before es i)) shut in
          moved (omega arith) (on (suc j) t)

    at_entry : (o : Bool) → opens es i ≡ o → (j : ℕ) → NamedIn o (cut is_zero (drop i es)) j → Place (marks_to o i j)
    unfolding cut
    at_entry o is j t = go (ℕ_discrete (at es i) 0)
      where
        r : List ℕ
        r = drop (suc i) es

        by : (b : Bool) → is_zero (at es i) ≡ b → NamedIn o (cond b ([] ∷ cut is_zero r) (push (at es i) (cut is_zero r))) j
        by b q =
            subst (λ (b : Bool). NamedIn o (cond b ([] ∷ cut is_zero r) (push (at es i) (cut is_zero r))) j) q
            (subst (λ (l : List ℕ). NamedIn o (cut is_zero l) j) (drop-cons es i 0 more) t)

        go : Dec (at es i ≡ 0) → Place (marks_to o i j)
        go (yes z) = at_zero o is z j (by true (eq-eqb (at es i) 0 z))
        go (no some) = pushed some o is (cut is_zero r) (next false (ne_eqb (at es i) 0 some)) j (by false (ne_eqb (at es i) 0 some))

  place_from : (m i : ℕ) → length es ≡ i + m → (o : Bool) → opens es i ≡ o → (j : ℕ) → NamedIn o (cut is_zero (drop i es)) j → Place (marks_to o i j)
  unfolding cut
  place_from zero i q o is j t =
      absurd (none_left o j (subst (λ (l : List ℕ). NamedIn o (cut is_zero l) j) (drop_of_length-le es {i = i} (omega arith)) t))
  place_from (suc m) i q o is j t = at_entry i (omega arith) (λ o' is' j' t'. place_from m (suc i) (omega arith) o' is' j' t') o is j t

-- What a block names has a place, with as many marks before it as the block's number, counted from 1.
pub block_place : (es : List ℕ) (v j : ℕ) → names (get_or (blocks es) j []) v ≡ true → Place es v (suc j)
unfolding blocks
block_place es v j t =
    let (e, there, is, marks) = place_from es v (length es) 0 (omega arith) true refl j t in
    let number : 0 + suc j ≡ suc j = omega arith in
    (e, there, is, marks ∙ number)

-- no two of some lists name v
abbrev pub Once : List (List ℕ) → ℕ → Type 0
Once bs v = (i j : ℕ) → i < j → names (get_or bs i []) v ≡ true → names (get_or bs j []) v ≡ true → ⊥

pub named_once : {n : ℕ} {es : List ℕ} → SoundPrefix n es → (v : ℕ) → Once (blocks es) v
named_once {es = es} sound v i j l first second =
    let (e, at-e, is-e, marks-e) = block_place es v i first in
    let (f, at_f, is_f, marks-f) = block_place es v j second in
    by_cases (dec_le f e) (λ back. let rise = marks_rise es f e back in omega arith)
    (λ on. sound.faultless 8 f (named_before e refl at_f (omega arith) at-e (is-e ∙ sym is_f)))
