-- At most one top: of the entries of a clause passed one after the other, and of the two signs of a universal.
use Prim.Native.Nat.{ℕ}
use mathlib.Core.Path.{◌≡◌, refl, sym, ap, ◌∙◌, subst}
use mathlib.Core.List.{List}
use mathlib.Core.Logic.{◌⊎◌, inl, inr, ⊎_elim, ◌↔◌}
use Rattle.std.specs.Prelude.{Option, None, Ok, Err}
use Rattle.terms.specs.declared.Variable.{Variable}
use Rattle.forest_theory.specs.Tables.{row}
use Rattle.forest_entries.specs.InnerFlags.{Via}
use Rattle.forest_entries.proofs.Flags.{via_as, via_or}
use Rattle.sets_occurrences.specs.InnerSoleTops.{Sole, Is, SoleOf}

-- The same tops by an equivalent condition.
pub sole_as : {P Q : ℕ → Type 0} → ((e : ℕ) → P e ↔ Q e) → (r : Sole) → SoleOf r P → SoleOf r Q
sole_as same (Ok top) p = λ e. (λ t. (same e).0 ((p e).0 t), λ q. (p e).1 ((same e).1 q))
sole_as same (Err several) p = tt

-- One variable more: its top is one of theirs, if it has one.
module _ {n : ℕ} {tops : List ℕ} {P Q Top : ℕ → Type 0} {v : ℕ} (more : (w : ℕ) → (P w ⊎ (w ≡ v)) ↔ Q w)
    (above : (e : ℕ) → Top e ↔ Is (row n tops v) e) where
  via_next : (e : ℕ) → Via n tops Q e ↔ (Via n tops P e ⊎ Top e)
  via_next e = (
    λ t. ⊎_elim inl (λ o. inr ((above e).1 (sym o.is ∙ ap (row n tops) o.holds, o.some))) (via_or (via_as (λ w h. (more w).1 h) t)),
    ⊎_elim (via_as (λ w h. (more w).0 (inl h)))
        (λ s. let own = (above e).0 s in record { for = v; holds = (more v).0 (inr refl); is = sym own.0; some = own.1 }),
  )

  pub sole_next : {Old Sole Now : ℕ → Type 0} → ((e : ℕ) → Sole e ↔ (Old e ⊎ Via n tops P e))
      → ((e : ℕ) → Now e ↔ (Sole e ⊎ Top e)) → (e : ℕ) → Now e ↔ (Old e ⊎ Via n tops Q e)
  sole_next before joined e =
      let b = before e in
      let j = joined e in
      let m = via_next e in (
        λ t. ⊎_elim (λ s. ⊎_elim inl (λ p. inr (m.1 (inl p))) (b.0 s)) (λ s. inr (m.1 (inr s))) (j.0 t),
        ⊎_elim (λ o. j.1 (inl (b.1 (inl o)))) (λ q. ⊎_elim (λ p. j.1 (inl (b.1 (inr p)))) (λ s. j.1 (inr s)) (m.0 q)),
      )

-- Of what two have at most one each, both have that which is the same.
pub both_tops : {P Q Both One Other : ℕ → Type 0} → ((e : ℕ) → Both e ↔ (One e × Other e))
    → ((e : ℕ) → One e ↔ P e) → ((e : ℕ) → Other e ↔ Q e) → (e : ℕ) → Both e ↔ (P e × Q e)
both_tops same p q e = (λ i. let (a, b) = (same e).0 i in ((p e).0 a, (q e).0 b), λ (a, b). (same e).1 ((p e).1 a, (q e).1 b))

-- Where one of them has none, neither have both.
pub both_none : {P R : ℕ → Type 0} {top : Option Variable} → top ≡ None → ((e : ℕ) → R e → P e) → SoleOf (Ok top) P → SoleOf (Ok None) R
both_none {P} none less sole e = (λ i. absurd i, λ r. (subst (λ t. SoleOf (Ok t) P) none sole e).1 (less e r))
