-- What a scheme takes of the two signs of x: of the flags of each, and of the rows that are left where both are asked for.
use Prim.Native.Nat.{ℕ, ◌-◌, ◌≤◌, ◌<◌}
use mathlib.Core.Path.{◌≡◌, refl, sym, ap, ◌∙◌}
use mathlib.Core.Bool.{Bool, true, false, cond, not-eq-not}
use mathlib.Core.List.{List, ◌++◌}
use mathlib.Core.Logic.{◌≢◌, inl, inr, ⊎_elim, ◌↔◌, by_cases}
use native.Mathlib.Decide.{ℕ_discrete, dec_le}
use native.Mathlib.Omega.{arith}
use lib.ListN.{length, get_or, take, drop, get_or-append, get_or-eq_default}
use lib.Seq.{get_or-take}
use Rattle.terms.specs.declared.Scheme.{Scheme}
use Rattle.terms.proofs.Common.{clash}
use Rattle.forest_theory.specs.Tables.{row}
use Rattle.forest_tables.proofs.Readings.{row_none, row_over, row_at}
use Rattle.forest_entries.specs.declared.Signs.{Signs}
use Rattle.forest_entries.specs.InnerFlags.{By, Flagged, Takes, Via, Blank, if_flagged, Entering}
use Rattle.forest_entries.proofs.Flags.{via_as, via_or}

pub flags_are : {P : ℕ → Type 0} {old new : List Bool} → Blank old → Flagged P old new → (v : ℕ) → v ≤ 4096 → (get_or new v false ≡ true) ↔ P v
flags_are b f v l =
    let here = f.flags v (let q = b.size in omega arith) in
    (λ t. ⊎_elim (λ o. absurd (clash o (b.blank v))) (λ p. p) (here.0 t), λ p. here.1 (inr p))

-- The tops by either sign are flagged.
pub entering_either : {n : ℕ} (tops : List ℕ) (P : Bool → ℕ → Type 0) {old new : List Bool} → Blank old
    → Flagged (Via n tops (λ y. By Signs.Either (λ sign. P sign y))) old new
    → Entering n (λ e. Takes Scheme.Standard (λ sign. Via n tops (P sign) e)) tops tops new
entering_either tops P blank f =
    record {
      tells = λ e l. let t = flags_are blank f e l in (λ q. via_or (t.0 q), λ s. t.1 (⊎_elim (via_as (λ y. inl)) (via_as (λ y. inr)) s));
      same = λ y. refl;
    }

-- The tops by one sign are all that is left in the rows, and of these the tops by the other are flagged.
module _ {n : ℕ} (tops kept : List ℕ) (P : Bool → ℕ → Type 0) {blank first cleared new : List Bool} (b : Blank blank)
    (f : Flagged (Via n tops (P true)) blank first)
    (k : (v : ℕ) → row n kept v ≡ if_flagged first (row n tops v)) (b' : Blank cleared) (g : Flagged (Via n kept (P false)) cleared new) where
  -- a row that is left has a top that is flagged by the first sign
  left_row : (v e : ℕ) → row n kept v ≡ e → e ≢ 0 → (get_or first e false ≡ true) × (row n tops v ≡ e)
  unfolding if_flagged
  left_row v e is some = go (get_or first (row n tops v) false) refl (sym (k v) ∙ is)
    where
      go : (c : Bool) → get_or first (row n tops v) false ≡ c → cond c (row n tops v) 0 ≡ e → (get_or first e false ≡ true) × (row n tops v ≡ e)
      go true t q = (ap (λ d. get_or first d false) (sym q) ∙ t, q)
      go false t q = absurd (some (sym q))

  left_tells : (e : ℕ) → e ≤ 4096 → (get_or new e false ≡ true) ↔ (Via n tops (P true) e × Via n tops (P false) e)
  unfolding if_flagged
  left_tells e l = (
    λ q. let t = (flags_are b' g e l).0 q in
        let (one, is) = left_row t.for e t.is t.some in
        ((flags_are b f e l).0 one, record { for = t.for; holds = t.holds; is = is; some = t.some }),
    λ s. let (p, q) = s in
        let one = (flags_are b f e l).1 p in
        (flags_are b' g e l).1
        (record {
          for = q.for;
          holds = q.holds;
          is = k q.for ∙ ap (λ d. cond (get_or first d false) d 0) q.is ∙ ap (λ c. cond c e 0) one;
          some = q.some;
        }),
  )

  pub entering_both : Entering n (λ e. Takes Scheme.Strict (λ sign. Via n tops (P sign) e)) tops kept new
  unfolding if_flagged
  entering_both = record { tells = left_tells; same = λ y. go y (get_or first (row n tops y) false) refl }
    where
      none : get_or new 0 false ≡ false
      none = (not-eq-not {b = false}).0 (λ t. ((flags_are b' g 0 (omega arith)).0 t).some refl)

      out : (e : ℕ) → get_or first e false ≡ false → get_or new e false ≡ false
      out e f' =
          by_cases (dec_le e 4096) (λ l. (not-eq-not {b = false}).0 (λ t. let h = (flags_are b' g e l).0 t in clash (left_row h.for e h.is h.some).0 f'))
          (λ l. get_or-eq_default new false {n = e} (let q = g.size in let s = b'.size in omega arith))

      go : (y : ℕ) (c : Bool) → get_or first (row n tops y) false ≡ c → get_or new (row n kept y) false ≡ get_or new (row n tops y) false
      go y true t = ap (λ d. get_or new d false) (k y ∙ ap (λ c. cond c (row n tops y) 0) t)
      go y false t = ap (λ d. get_or new d false) (k y ∙ ap (λ c. cond c (row n tops y) 0) t) ∙ none ∙ sym (out (row n tops y) t)

nothing : (flags : List Bool) → if_flagged flags 0 ≡ 0
unfolding if_flagged
nothing flags = go (get_or flags 0 false)
  where
    go : (b : Bool) → cond {A = ℕ} b 0 0 ≡ 0
    go true = refl
    go false = refl

-- Where the first n rows are 0 for a top that is not flagged, and stay else, so is the row of every variable.
pub kept_rows : (n : ℕ) (flags : List Bool) (old items : List ℕ) → n ≤ length old → length items ≡ n
    → ((k : ℕ) → k < n → get_or items k 0 ≡ if_flagged flags (get_or (take n old) k 0)) → (v : ℕ)
    → row n (items ++ drop n old) v ≡ if_flagged flags (row n old v)
kept_rows n flags old items long size done v =
    by_cases (ℕ_discrete v 0) (λ z. rw (row_none n (items ++ drop n old) v z, row_none n old v z) (sym (nothing flags)))
    (λ some. by_cases (dec_le v n)
    (λ l.
    row_at n (items ++ drop n old) v some l ∙ get_or-append items (drop n old) 0 (v - 1) (omega arith) ∙ done (v - 1) (omega arith)
    ∙ ap (if_flagged flags) (get_or-take n old (v - 1) 0 (omega arith) ∙ sym (row_at n old v some l)))
    (λ over. rw (row_over n (items ++ drop n old) v (omega arith), row_over n old v (omega arith)) (sym (nothing flags))))
