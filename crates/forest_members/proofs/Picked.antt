-- The picked numbers as a list: how the loops that count and write them go on, and that the list is ascending and holds exactly them.
use Prim.Native.Nat.{ℕ, zero, suc, ◌+◌, ◌-◌, ◌*◌, ◌≤◌, ◌<◌}
use mathlib.Core.Path.{◌≡◌, refl, sym, ap, ap₂, ◌∙◌, subst}
use mathlib.Core.Bool.{Bool, true, false, cond}
use mathlib.Core.List.{List, [], ◌∷◌, ◌++◌, append-nil, Memᴰ}
use mathlib.Core.List.Memᴰ
use mathlib.Core.Logic.{⊎_elim, ◌↔◌}
use native.Mathlib.Decide.{ℕ_discrete}
use native.Mathlib.Numerals.{add-one}
use native.Mathlib.Omega.{arith}
use lib.ListN.{length, set, length-append}
use lib.Seq.{sets}
use Rattle.terms.proofs.Common.{sets_append}
use Rattle.terms.specs.Listed.{Ascending, Listed}
use Rattle.forest_theory.specs.Counts.{sum}
use Rattle.forest_theory.proofs.Counts.{sum_more}
use Rattle.forest_members.specs.InnerPicked.{picked, NoneUpto}

-- One number more: it is added if it is picked.
pub picked_more : (f : ℕ → Bool) (m : ℕ) → f (m + 1) ≡ true → picked f (m + 1) ≡ picked f m ++ ((m + 1) ∷ [])
unfolding picked
picked_more f m = rw (add-one m) (λ q. ap (λ b. picked f m ++ cond b (suc m ∷ []) []) q)

pub picked_same : (f : ℕ → Bool) (m : ℕ) → f (m + 1) ≡ false → picked f (m + 1) ≡ picked f m
unfolding picked
picked_same f m = rw (add-one m) (λ q. ap (λ b. picked f m ++ cond b (suc m ∷ []) []) q ∙ append-nil (picked f m))

pub length_more : (f : ℕ → Bool) (m : ℕ) → f (m + 1) ≡ true → length (picked f (m + 1)) ≡ length (picked f m) + 1
length_more f m q = ap length (picked_more f m q) ∙ length-append (picked f m) ((m + 1) ∷ [])

-- Where none is picked the list is empty.
pub picked_none : (f : ℕ → Bool) (m : ℕ) → NoneUpto f m → picked f m ≡ []
unfolding picked
picked_none f zero none = refl
picked_none f (suc m) none =
    ap (λ b. picked f m ++ cond b (suc m ∷ []) []) (none (suc m) (omega arith) (omega arith)) ∙ append-nil (picked f m)
    ∙ picked_none f m (λ v a b. none v a (omega arith))

-- No more are picked than there are numbers, and none is lost on the way.
pub picked_most : (f : ℕ → Bool) (m : ℕ) → length (picked f m) ≤ m
unfolding picked
picked_most f zero = omega arith
picked_most f (suc m) = go (f (suc m)) (picked_most f m)
  where
    go : (b : Bool) → length (picked f m) ≤ m → length (picked f m ++ cond b (suc m ∷ []) []) ≤ suc m
    go true l = rw (length-append (picked f m) (suc m ∷ [])) (omega arith)
    go false l = rw (append-nil (picked f m)) (omega arith)

pub picked_grows : (f : ℕ → Bool) (m k : ℕ) → length (picked f m) ≤ length (picked f (m + k))
unfolding picked
picked_grows f m zero = let q : m + zero ≡ m = omega arith in rw q (omega arith)
picked_grows f m (suc k) = let q : m + suc k ≡ suc (m + k) = omega arith in
    rw (q, length-append (picked f (m + k)) (cond (f (suc (m + k))) (suc (m + k) ∷ []) [])) (omega (arith, picked_grows f m k))

-- A store behind a run of stores lengthens it.
pub sets_more : (before : List ℕ) (at a : ℕ) (list : List ℕ) → set (sets before at list) (at + length list) a ≡ sets before at (list ++ (a ∷ []))
sets_more before at a list = sym (sets_append before at list (a ∷ []))

-- What is picked is from 1 to m and has f, and all of that is picked.
pub picked_flag : (f : ℕ → Bool) (m v : ℕ) → Memᴰ v (picked f m) → (1 ≤ v) × (v ≤ m) × (f v ≡ true)
unfolding picked
picked_flag f zero v m∈ = absurd (Memᴰ.not-nil m∈)
picked_flag f (suc m) v m∈ =
    ⊎_elim (λ old. let (a, b, t) = picked_flag f m v old in (a, omega arith, t)) (new (f (suc m)) refl) (Memᴰ.append_cases (picked f m) m∈)
  where
    new : (b : Bool) → f (suc m) ≡ b → Memᴰ v (cond b (suc m ∷ []) []) → (1 ≤ v) × (v ≤ suc m) × (f v ≡ true)
    new true q here = let e = Memᴰ.eq_of_singleton here in (omega arith, omega arith, ap f e ∙ q)
    new false q here = absurd (Memᴰ.not-nil here)

pub flag_picked : (f : ℕ → Bool) (m v : ℕ) → 1 ≤ v → v ≤ m → f v ≡ true → Memᴰ v (picked f m)
unfolding picked
flag_picked f zero v a b t = absurd (omega arith)
flag_picked f (suc m) v a b t = go (ℕ_discrete v (suc m)) (λ l. flag_picked f m v a l t)
  where
    go : Dec (v ≡ suc m) → (v ≤ m → Memᴰ v (picked f m)) → Memᴰ v (picked f m ++ cond (f (suc m)) (suc m ∷ []) [])
    go (yes q) old = Memᴰ.append_right (picked f m) (rw (sym (ap f q) ∙ t) (Memᴰ.head q))
    go (no other) old = Memᴰ.append_left (cond (f (suc m)) (suc m ∷ []) []) (old (omega arith))

ascending_snoc : (list : List ℕ) (w : ℕ) → Ascending list → ((v : ℕ) → Memᴰ v list → v < w) → Ascending (list ++ (w ∷ []))
ascending_snoc [] w up low = (λ b m. absurd (Memᴰ.not-nil m), tt)
ascending_snoc (a ∷ list) w up low = (
  λ b m. ⊎_elim (λ old. up.0 b old) (λ new. let q = Memᴰ.eq_of_singleton new in let l = low a (Memᴰ.head refl) in omega arith)
      (Memᴰ.append_cases list m),
  ascending_snoc list w up.1 (λ v m. low v (Memᴰ.tail m)),
)

picked_up : (f : ℕ → Bool) (m : ℕ) → Ascending (picked f m)
unfolding picked
picked_up f zero = tt
picked_up f (suc m) = go (f (suc m)) (picked_up f m)
  where
    go : (b : Bool) → Ascending (picked f m) → Ascending (picked f m ++ cond b (suc m ∷ []) [])
    go true up = ascending_snoc (picked f m) (suc m) up (λ v m∈. let l = (picked_flag f m v m∈).1 in omega arith)
    go false up = rw (append-nil (picked f m)) up

-- If f tells of the numbers from 1 to n whether P holds, the list of P is what is picked.
pub picked_listed : {P : ℕ → Type 0} (f : ℕ → Bool) (n : ℕ) → ((v : ℕ) → P v → (1 ≤ v) × (v ≤ n))
    → ((v : ℕ) → 1 ≤ v → v ≤ n → (f v ≡ true) ↔ P v) → Listed P (picked f n)
picked_listed f n within tells =
    record {
      ascending = picked_up f n;
      each = λ v m. let (a, b, t) = picked_flag f n v m in (tells v a b).0 t;
      all = λ v p. let (a, b) = within v p in flag_picked f n v a b ((tells v a b).1 p);
    }

-- What the loop that counts knows, and the one that writes: both count from a first entry on.
pub record Counted (n : ℕ) (f : ℕ → Bool) (first count passed : ℕ) : Type 0 where
  pub most : passed ≤ n
  pub counted : count ≡ first + length (picked f passed)

pub count_none : (n : ℕ) (f : ℕ → Bool) (first from : ℕ) → from ≤ n → NoneUpto f from → Counted n f first first from
count_none n f first from low none = record { most = low; counted = let q = ap length (picked_none f from none) in omega arith }

module _ {n : ℕ} {f : ℕ → Bool} {first count passed : ℕ} (c : Counted n f first count passed) (more : passed < n) {v : ℕ} {b : Bool}
    (is : v ≡ passed + 1) (told : b ≡ f v) where
  flag : f (passed + 1) ≡ b
  flag = ap f (sym is) ∙ sym told

  pub count_more : b ≡ true → Counted n f first (count + 1) (passed + 1)
  count_more yes' = record { most = omega arith; counted = let one = length_more f passed (flag ∙ yes') in let here = c.counted in omega arith }

  pub count_same : b ≡ false → Counted n f first count (passed + 1)
  count_same no' = record { most = omega arith; counted = c.counted ∙ ap (λ l. first + length l) (sym (picked_same f passed (flag ∙ no'))) }

  -- there is room for one number more
  pub count_room : (room : ℕ) → b ≡ true → first + length (picked f n) ≤ room → count < room
  count_room room yes' fits =
      let q : (passed + 1) + (n - (passed + 1)) ≡ n = omega arith in
      let grows = subst (λ m. length (picked f (passed + 1)) ≤ length (picked f m)) q (picked_grows f (passed + 1) (n - (passed + 1))) in
      let one = length_more f passed (flag ∙ yes') in
      let here = c.counted in
      omega arith

  pub write_more : (old : List ℕ) {out : List ℕ} → out ≡ sets old first (picked f passed) → b ≡ true
      → set out count (passed + 1) ≡ sets old first (picked f (passed + 1))
  write_more old written yes' =
      ap (λ (o : List ℕ). set o count (passed + 1)) written ∙ ap (λ (i : ℕ). set (sets old first (picked f passed)) i (passed + 1)) c.counted
      ∙ sets_more old first (passed + 1) (picked f passed) ∙ sym (ap (sets old first) (picked_more f passed (flag ∙ yes')))

  pub write_same : (old : List ℕ) {out : List ℕ} → out ≡ sets old first (picked f passed) → b ≡ false → out ≡ sets old first (picked f (passed + 1))
  write_same old written no' = written ∙ sym (ap (sets old first) (picked_same f passed (flag ∙ no')))

pub count_all : {n : ℕ} {f : ℕ → Bool} {first count passed : ℕ} → Counted n f first count passed → n ≤ passed → count ≡ first + length (picked f n)
count_all {n} {f} {first} {passed = passed} c done = let q : passed ≡ n = let m = c.most in omega arith in c.counted ∙ ap (λ m. first + length (picked f m)) q

-- The sum over those picked before v, each at most 4,096.
pub record Summed (n : ℕ) (f : ℕ → Bool) (g : ℕ → ℕ) (v total : ℕ) : Type 0 where
  pub within : v ≤ n + 1
  pub summed : total ≡ sum g (picked f (v - 1))
  pub most : total ≤ (v - 1) * 4096

module _ {n : ℕ} {f : ℕ → Bool} {g : ℕ → ℕ} where
  pub sum_none : Summed n f g 1 0
  unfolding sum picked
  sum_none = record { within = omega arith; summed = refl; most = omega arith }

  module _ {v total : ℕ} (some : 1 ≤ v) (low : v ≤ n) (s : Summed n f g v total) where
    last : v - 1 + 1 ≡ v
    last = omega arith

    pub sum_more_flagged : {here : ℕ} → ((v : ℕ) → g v ≤ 4096) → f v ≡ true → here ≡ g v → Summed n f g (v + 1) (total + here)
    sum_more_flagged {here} small flag is =
        let most = s.most in
        let one = small v in
        let q : v + 1 - 1 ≡ v - 1 + 1 = omega arith in
        record {
          within = omega arith;
          summed = rw q (ap₂ (λ (a b : ℕ). a + b) s.summed (is ∙ ap g (sym last))
              ∙ sym (ap (sum g) (picked_more f (v - 1) (ap f last ∙ flag)) ∙ sum_more g (picked f (v - 1)) (v - 1 + 1)));
          most = omega arith;
        }

    pub sum_same : f v ≡ false → Summed n f g (v + 1) total
    sum_same flag =
        let most = s.most in
        let q : v + 1 - 1 ≡ v - 1 + 1 = omega arith in
        record { within = omega arith; summed = rw q (s.summed ∙ sym (ap (sum g) (picked_same f (v - 1) (ap f last ∙ flag)))); most = omega arith }

  pub sum_all : {v total : ℕ} → Summed n f g v total → n < v → total ≡ sum g (picked f n)
  sum_all {v} s done =
      let within = s.within in
      let all : v - 1 ≡ n = omega arith in
      s.summed ∙ ap (λ m. sum g (picked f m)) all
