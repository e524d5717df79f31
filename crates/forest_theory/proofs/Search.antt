-- Reach is decided by computing: the list of what is reached, the test, and the set of a universal.
use Prim.Native.Nat.{ℕ, zero, suc, ◌+◌, ◌≤◌, ◌<◌}
use mathlib.Core.Path.{◌≡◌, refl, sym, ◌∙◌, ap, subst}
use mathlib.Core.Bool.{Bool, true, false, ◌||◌, ◌&&◌, true≢false, false≢true}
use mathlib.Core.List.Memᴰ
use mathlib.Core.List.{List, [], ◌∷◌, ◌++◌, Memᴰ}
use mathlib.Core.Logic.{◌⊎◌, inl, inr, ⊎_elim, ◌↔◌, by_cases}
use native.Mathlib.Decide.{ℕ_discrete}
use native.Mathlib.Omega.{arith}
use lib.ListN.{length}
use lib.Dec.{eqb, leb}
use borrow.Author.Tests.{leb-true, le-leb, eqb-true, eq-eqb}
use Rattle.forest_theory.specs.Reach.{Variables, From, Joined, Reach, here, step, Depends}
use Rattle.forest_theory.specs.InnerVariables.{Lawful}
use Rattle.forest_theory.specs.InnerSearch.{has, meets, keep, Found, nowhere, found, put_back, find, see, spread, reached, reaches, is_from, sift, set_of}
use Rattle.forest_theory.proofs.Choice.{choice, either, both, or_right}

-- What holds of the head and of all in the tail holds of all in the list.
pub cons_all : (P : ℕ → Type 0) {x : ℕ} {xs : List ℕ} → P x → ((n : ℕ) → Memᴰ n xs → P n) → (n : ℕ) → Memᴰ n (x ∷ xs) → P n
cons_all P p h n m = ⊎_elim (λ e. subst P (sym e) p) (h n) (Memᴰ.cases_cons m)

-- What passes the test of membership is a member.
pub has_member_lem : {v : ℕ} (xs : List ℕ) → has v xs ≡ true → Memᴰ v xs
unfolding has
has_member_lem [] e = absurd (false≢true e)
has_member_lem {v} (x ∷ xs) e = ⊎_elim (λ h. Memᴰ.head (eqb-true v x h)) (λ h. Memᴰ.tail (has_member_lem xs h)) (either (eqb v x) (has v xs) e)

-- What is a member passes it.
pub member_has : {v : ℕ} {xs : List ℕ} → Memᴰ v xs → has v xs ≡ true
unfolding has
member_has {v} (Memᴰ.head {x = x} e) = rw (eq-eqb v x e)
member_has {v} (Memᴰ.tail {x = x} {xs = xs} m) = or_right (eqb v x) (has v xs) (member_has m)

-- Lists that pass the test have a number in common.
meets_member : (xs ys : List ℕ) → meets xs ys ≡ true → (u : ℕ) × Memᴰ u xs × Memᴰ u ys
unfolding meets
meets_member [] ys t = absurd (false≢true t)
meets_member (x ∷ xs) ys t = ⊎_elim (λ h. (x, Memᴰ.head refl, has_member_lem ys h))
    (λ h. let m = meets_member xs ys h in (m.0, Memᴰ.tail m.1, m.2)) (either (has x ys) (meets xs ys) t)

-- Lists with a number in common pass it.
member_meets : {u : ℕ} {xs ys : List ℕ} → Memᴰ u xs → Memᴰ u ys → meets xs ys ≡ true
unfolding meets
member_meets {ys = ys} (Memᴰ.head {x = x} {xs = xs} q) m = ap (λ (b : Bool). b || meets xs ys) (member_has (Memᴰ.cast (sym q) m))
member_meets {ys = ys} (Memᴰ.tail {x = x} {xs = xs} l) m = or_right (has x ys) (meets xs ys) (member_meets l m)

-- What is kept passed the test.
keep_member : {w : ℕ} (e : ℕ → Bool) (ws : List ℕ) → Memᴰ w (keep e ws) → Memᴰ w ws × (e w ≡ true)
unfolding keep
keep_member e [] m = absurd (Memᴰ.not-nil m)
keep_member {w} e (x ∷ ws) m = choice (λ (l : List ℕ). Memᴰ w l → Memᴰ w (x ∷ ws) × (e w ≡ true)) (e x)
    (λ t h. ⊎_elim (λ q. (Memᴰ.head q, ap e q ∙ t)) (λ n. later (keep_member e ws n)) (Memᴰ.cases_cons h)) (λ t h. later (keep_member e ws h)) m
  where
    later : Memᴰ w ws × (e w ≡ true) → Memᴰ w (x ∷ ws) × (e w ≡ true)
    later p = (Memᴰ.tail p.0, p.1)

-- What passes is kept.
member_keep : {w : ℕ} {ws : List ℕ} (e : ℕ → Bool) → Memᴰ w ws → e w ≡ true → Memᴰ w (keep e ws)
unfolding keep
member_keep {w} e (Memᴰ.head {x = x} q) t = rw (sym (ap e q) ∙ t) (Memᴰ.head q)
member_keep {w} e (Memᴰ.tail {x = x} m) t = choice (Memᴰ w) (e x) (λ b. Memᴰ.tail (member_keep e m t)) (λ b. member_keep e m t)

-- What a search for a clause comes to: none has any of what is seen; or one has, and the other clauses are the rest of the list.
data Sight (seen : List ℕ) (cs : List (List ℕ)) : Found → Type 0 where
  unmet : ((c : List ℕ) → Memᴰ c cs → meets seen c ≡ false) → Sight seen cs nowhere
  met : {c : List ℕ} {ds : List (List ℕ)} → meets seen c ≡ true → Memᴰ c cs → ((d : List ℕ) → Memᴰ d ds → Memᴰ d cs)
      → ((d : List ℕ) → Memᴰ d cs → (d ≡ c) ⊎ Memᴰ d ds) → length ds < length cs → Sight seen cs (found c ds)

-- The search comes to that.
find_sight : (seen : List ℕ) (cs : List (List ℕ)) → Sight seen cs (find seen cs)
unfolding find put_back
find_sight seen [] = unmet (λ c m. absurd (Memᴰ.not-nil m))
find_sight seen (c ∷ cs) = choice (Sight seen (c ∷ cs)) (meets seen c)
    (λ t. met t (Memᴰ.head refl) (λ d m. Memᴰ.tail m) (λ d m. Memᴰ.cases_cons m) (omega arith))
    (λ f. later f (find_sight seen cs))
  where
    later : {F : Found} → meets seen c ≡ false → Sight seen cs F → Sight seen (c ∷ cs) (put_back c F)
    later f (unmet h) = unmet (λ d m. ⊎_elim (λ q. ap (meets seen) q ∙ f) (h d) (Memᴰ.cases_cons m))
    later f (met t m sub all l) = met t (Memᴰ.tail m)
        (λ d n. ⊎_elim (λ q. Memᴰ.head q) (λ k. Memᴰ.tail (sub d k)) (Memᴰ.cases_cons n))
        (λ d n. ⊎_elim (λ q. inr (Memᴰ.head q)) (λ k. ⊎_elim (λ q. inl q) (λ r. inr (Memᴰ.tail r)) (all d k)) (Memᴰ.cases_cons n)) (omega arith)

-- What is seen stays seen.
spread_seen : {u : ℕ} (e : ℕ → Bool) (fuel : ℕ) (cs : List (List ℕ)) (seen : List ℕ) → Memᴰ u seen → Memᴰ u (spread e fuel cs seen)
unfolding spread see
spread_seen e zero cs seen m = m
spread_seen {u} e (suc fuel) cs seen m = go (find seen cs) (λ ds more k. spread_seen e fuel ds more k)
  where
    go : (F : Found) → ((ds : List (List ℕ)) (more : List ℕ) → Memᴰ u more → Memᴰ u (spread e fuel ds more))
        → Memᴰ u (see (λ others more. spread e fuel others more) e seen F)
    go nowhere on = m
    go (found c ds) on = on ds (keep e c ++ seen) (Memᴰ.append_right (keep e c) m)

module _ {E : ℕ → Type 0} {e : ℕ → Bool} (test : (v : ℕ) → E v ↔ (e v ≡ true)) where
  -- All that is seen is reached, if it was at first.
  spread_reach : {v : ℕ} (all : List (List ℕ)) (fuel : ℕ) (cs : List (List ℕ)) (seen : List ℕ) → ((c : List ℕ) → Memᴰ c cs → Memᴰ c all)
      → ((u : ℕ) → Memᴰ u seen → Reach (Joined all) E v u) → (y : ℕ) → Memᴰ y (spread e fuel cs seen) → Reach (Joined all) E v y
  unfolding spread see
  spread_reach all zero cs seen sub r y m = r y m
  spread_reach {v} all (suc fuel) cs seen sub r y m = go (find seen cs) (find_sight seen cs) (λ ds more s h. spread_reach all fuel ds more s h y) m
    where
      on_reach : {c : List ℕ} → meets seen c ≡ true → Memᴰ c cs → (w : ℕ) → Memᴰ w (keep e c ++ seen) → Reach (Joined all) E v w
      on_reach {c} t k w n = ⊎_elim
          (λ h. let a = keep_member e c h in
          let b = meets_member seen c t in
          step (r b.0 b.1) (record { clause = c; listed = sub c k; left = b.2; right = a.0 }) ((test w).1 a.1))
          (r w) (Memᴰ.append_cases (keep e c) n)

      go : (F : Found) → Sight seen cs F → ((ds : List (List ℕ)) (more : List ℕ) → ((c : List ℕ) → Memᴰ c ds → Memᴰ c all)
          → ((u : ℕ) → Memᴰ u more → Reach (Joined all) E v u) → Memᴰ y (spread e fuel ds more) → Reach (Joined all) E v y)
          → Memᴰ y (see (λ others more. spread e fuel others more) e seen F) → Reach (Joined all) E v y
      go nowhere (unmet h) on n = r y n
      go (found c ds) (met t k others rest l) on n = on ds (keep e c ++ seen) (λ d i. sub d (others d i)) (on_reach t k) n

  -- With fuel enough, a clause that has some of what is seen in the end has all seen that may be stepped on.
  spread_closed : (fuel : ℕ) (cs : List (List ℕ)) (seen : List ℕ) → length cs ≤ fuel → (c : List ℕ) → Memᴰ c cs
      → (u w : ℕ) → Memᴰ u c → Memᴰ u (spread e fuel cs seen) → Memᴰ w c → e w ≡ true → Memᴰ w (spread e fuel cs seen)
  unfolding spread see
  spread_closed zero [] seen h c m u w mu su mw t = absurd (Memᴰ.not-nil m)
  spread_closed zero (d ∷ cs) seen h c m u w mu su mw t = absurd (omega arith)
  spread_closed (suc fuel) cs seen h c m u w mu su mw t = go (find seen cs) (find_sight seen cs)
      (λ ds more l k s. spread_closed fuel ds more l c k u w mu s mw t) su
    where
      go : (F : Found) → Sight seen cs F
          → ((ds : List (List ℕ)) (more : List ℕ) → length ds ≤ fuel → Memᴰ c ds → Memᴰ u (spread e fuel ds more)
          → Memᴰ w (spread e fuel ds more))
          → Memᴰ u (see (λ others more. spread e fuel others more) e seen F) → Memᴰ w (see (λ others more. spread e fuel others more) e seen F)
      go nowhere (unmet un) on s = absurd (true≢false (sym (member_meets s mu) ∙ un c m))
      go (found d ds) (met k i others rest l) on s = ⊎_elim
          (λ q. spread_seen e fuel ds (keep e d ++ seen) (Memᴰ.append_left seen (member_keep e (rw q at mw) t)))
          (λ n. on ds (keep e d ++ seen) (omega arith) n s) (rest c m)

  -- What is listed is reached.
  reached_reach : (cs : List (List ℕ)) {v y : ℕ} → Memᴰ y (reached e cs v) → Reach (Joined cs) E v y
  unfolding reached
  reached_reach cs {v} {y} m = spread_reach cs (length cs) cs (v ∷ []) (λ c k. k)
      (λ u k. subst (Reach (Joined cs) E v) (sym (Memᴰ.eq_of_singleton k)) here) y m

  -- What is reached is listed.
  reach_reached : (cs : List (List ℕ)) {v y : ℕ} → Reach (Joined cs) E v y → Memᴰ y (reached e cs v)
  unfolding reached
  reach_reached cs {v} here = spread_seen e (length cs) cs (v ∷ []) (Memᴰ.head refl)
  reach_reached cs {v} (step {y = a} {z = b} r j f) = spread_closed (length cs) cs (v ∷ []) (omega arith) j.clause j.listed a b j.left
      (reach_reached cs r) j.right ((test b).0 f)

  -- The test decides reach.
  pub reaches_true : {cs : List (List ℕ)} {v y : ℕ} → (reaches e cs v y ≡ true) ↔ Reach (Joined cs) E v y
  unfolding reaches
  reaches_true {cs} {v} {y} = (λ t. reached_reach cs (has_member_lem (reached e cs v) t), λ r. member_has (reach_reached cs r))

  -- And refutes it.
  pub reaches_false : {cs : List (List ℕ)} {v y : ℕ} → reaches e cs v y ≡ false → Reach (Joined cs) E v y → ⊥
  reaches_false f r = true≢false (sym (reaches_true.1 r) ∙ f)

-- The test of block i or deeper.
pub from_test : {X : Variables} {i : ℕ} (v : ℕ) → From X i v ↔ (is_from X i v ≡ true)
unfolding is_from
from_test {X} {i} v = (
  λ f. rw (f.existential, le-leb i (X.lev v) f.deep),
  λ t. let b = both (X.ex v) (leb i (X.lev v)) t in record { existential = b.0; deep = leb-true i (X.lev v) b.1 },
)

-- What is sifted out passed the test.
sift_member : {y : ℕ} (n s : ℕ) (p : ℕ → Bool) → Memᴰ y (sift n s p) → p y ≡ true
unfolding sift
sift_member zero s p m = absurd (Memᴰ.not-nil m)
sift_member {y} (suc n) s p m = choice (λ (l : List ℕ). Memᴰ y l → p y ≡ true) (p s)
    (λ t h. ⊎_elim (λ q. ap p q ∙ t) (sift_member n (suc s) p) (Memᴰ.cases_cons h)) (λ t h. sift_member n (suc s) p h) m

-- What passes is in.
member_sift : {y : ℕ} (n s : ℕ) (p : ℕ → Bool) → s ≤ y → y < s + n → p y ≡ true → Memᴰ y (sift n s p)
unfolding sift
member_sift zero s p l h t = absurd (omega arith)
member_sift {y} (suc n) s p l h t = by_cases (ℕ_discrete y s)
    (λ q. rw (sym (ap p q) ∙ t) (Memᴰ.head q))
    (λ d. let m = member_sift n (suc s) p (omega arith) (omega arith) t in choice (Memᴰ y) (p s) (λ b. Memᴰ.tail m) (λ b. m))

-- The computed set of x is the set of x.
pub set_of_depends : {X : Variables} → Lawful X → {cs : List (List ℕ)} {x y : ℕ} → Memᴰ y (set_of X cs x) ↔ Depends X (Joined cs) x y
unfolding set_of
set_of_depends {X} lawful {cs} {x} {y} =
    let all = reached (is_from X (X.lev x)) cs x in (
      λ m. let b = both (X.ex y) (has y all) (sift_member X.count 1 (λ y. X.ex y && has y all) m) in
          record { existential = b.0; reached = reached_reach from_test cs (has_member_lem all b.1) },
      λ d. let w = lawful.within y d.existential in
          let in_all : has y all ≡ true = member_has (reach_reached from_test cs d.reached) in
          member_sift X.count 1 (λ y. X.ex y && has y all) w.0 (omega (arith, w.1)) (rw d.existential in_all),
    )
