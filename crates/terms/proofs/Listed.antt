-- Laws of ascending lists: two of the same numbers are one, a list of numbers from 1 to n has at most n, and a number can be put in.
use Prim.Native.Nat.{ℕ, suc, ◌+◌, ◌≤◌, ◌<◌}
use mathlib.Core.Path.{◌≡◌, refl, sym, ap, ◌∙◌}
use mathlib.Core.List.Memᴰ
use mathlib.Core.List.{List, [], ◌∷◌, Memᴰ}
use mathlib.Core.Logic.{◌⊎◌, inl, inr, ⊎_elim, ◌↔◌, by_cases}
use native.Mathlib.Decide.{dec_lt}
use native.Mathlib.Omega.{arith}
use lib.ListN.{length}
use Rattle.terms.specs.Listed.{Ascending, Listed}

-- Two ascending lists of the same numbers are one.
pub listed_one : {P : ℕ → Type 0} (list other : List ℕ) → Listed P list → Listed P other → list ≡ other
listed_one list other l o = same list other l.ascending o.ascending (λ v m. o.all v (l.each v m)) (λ v m. l.all v (o.each v m))
  where
    same : (r s : List ℕ) → Ascending r → Ascending s → ((v : ℕ) → Memᴰ v r → Memᴰ v s) → ((v : ℕ) → Memᴰ v s → Memᴰ v r) → r ≡ s
    same [] [] up up' there back = refl
    same [] (b ∷ s) up up' there back = absurd (Memᴰ.not-nil (back b (Memᴰ.head refl)))
    same (a ∷ r) [] up up' there back = absurd (Memᴰ.not-nil (there a (Memᴰ.head refl)))
    same (a ∷ r) (b ∷ s) up up' there back =
        let q : a ≡ b =
        ⊎_elim (λ e. e) (λ m. ⊎_elim (λ e. sym e) (λ m'. let l = up'.0 a m in let l' = up.0 b m' in absurd (omega arith))
        (Memᴰ.cases_cons (back b (Memᴰ.head refl)))) (Memᴰ.cases_cons (there a (Memᴰ.head refl))) in
        ap (λ h. h ∷ r) q ∙ ap (λ t. b ∷ t)
        (same r s up.1 up'.1
        (λ v m. ⊎_elim (λ e. let l = up.0 v m in absurd (omega arith)) (λ m'. m') (Memᴰ.cases_cons (there v (Memᴰ.tail m))))
        (λ v m. ⊎_elim (λ e. let l = up'.0 v m in absurd (omega arith)) (λ m'. m') (Memᴰ.cases_cons (back v (Memᴰ.tail m)))))

-- A list of numbers from 1 to n has at most n of them.
ascending_most : (low n : ℕ) (list : List ℕ) → Ascending list → ((v : ℕ) → Memᴰ v list → (low < v) × (v ≤ n)) → low ≤ n → low + length list ≤ n
ascending_most low n [] up within l = omega arith
ascending_most low n (a ∷ list) up within l =
    let here = within a (Memᴰ.head refl) in
    let over = here.0 in
    let rest = ascending_most a n list up.1 (λ v m. (up.0 v m, (within v (Memᴰ.tail m)).1)) here.1 in
    omega arith

pub listed_most : (P : ℕ → Type 0) (n : ℕ) (list : List ℕ) → ((v : ℕ) → P v → (1 ≤ v) × (v ≤ n)) → Listed P list → length list ≤ n
listed_most P n list within l = let most = ascending_most 0 n list l.ascending (λ v m. let (a, b) = within v (l.each v m) in (a, b)) (omega arith) in omega arith

-- more is the ascending list with w put in.
pub record Inserted (w : ℕ) (list more : List ℕ) : Type 0 where
  pub ascending : Ascending more
  pub size : length more ≡ suc (length list)
  pub each : (v : ℕ) → Memᴰ v more ↔ ((v ≡ w) ⊎ Memᴰ v list)

-- A number that the list does not have can be put in.
pub insert : (w : ℕ) (list : List ℕ) → Ascending list → (Memᴰ w list → ⊥) → (more : List ℕ) × Inserted w list more
insert w [] up out = (
  w ∷ [],
  record {
    ascending = (λ b m. absurd (Memᴰ.not-nil m), tt);
    size = refl;
    each = λ v. (λ m. Memᴰ.cases_cons m, λ s. ⊎_elim (λ e. Memᴰ.head e) (λ m. Memᴰ.tail m) s);
  },
)
insert w (a ∷ list) up out = by_cases (dec_lt w a) before (λ l. after l (insert w list up.1 (λ m. out (Memᴰ.tail m))))
  where
    before : w < a → (more : List ℕ) × Inserted w (a ∷ list) more
    before l = (
      w ∷ a ∷ list,
      record {
        ascending = (λ b m. ⊎_elim (λ e. omega arith) (λ n. let l' = up.0 b n in omega arith) (Memᴰ.cases_cons m), up);
        size = refl;
        each = λ v. (λ m. Memᴰ.cases_cons m, λ s. ⊎_elim (λ e. Memᴰ.head e) (λ m. Memᴰ.tail m) s);
      },
    )

    after : (w < a → ⊥) → (rest : List ℕ) × Inserted w list rest → (more : List ℕ) × Inserted w (a ∷ list) more
    after l (rest, i) = (
      a ∷ rest,
      record {
        ascending = (λ b m. ⊎_elim (λ e. let other : w ≡ a → ⊥ = λ q. out (Memᴰ.head q) in omega arith) (λ n. up.0 b n) ((i.each b).0 m), i.ascending);
        size = ap suc i.size;
        each = λ v. (
          λ m. ⊎_elim (λ e. inr (Memᴰ.head e)) (λ n. ⊎_elim (λ e. inl e) (λ k. inr (Memᴰ.tail k)) ((i.each v).0 n)) (Memᴰ.cases_cons m),
          λ s. ⊎_elim (λ e. Memᴰ.tail ((i.each v).1 (inl e))) (λ m. ⊎_elim (λ e. Memᴰ.head e) (λ n. Memᴰ.tail ((i.each v).1 (inr n))) (Memᴰ.cases_cons m)) s,
        );
      },
    )
