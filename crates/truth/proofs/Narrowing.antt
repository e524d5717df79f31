-- Narrowing to resolution-path sets: first one universal, then the others one after the other, of which each leaves as it is what others were narrowed to.
use Prim.Native.Nat.{ℕ, zero, suc, ◌≤◌}
use mathlib.Core.Path.{◌≡◌, refl, sym, ◌∙◌, ap, ap₂, subst}
use mathlib.Core.Bool.{Bool, true, false, not, cond, Bool-discrete}
use mathlib.Core.List.Memᴰ
use mathlib.Core.List.{List, [], ◌∷◌, Memᴰ}
use mathlib.Core.Logic.Dec
use mathlib.Core.Logic.{⊎_elim, ◌≢◌, ◌↔◌, by_cases, ite, if_pos, if_neg}
use native.Mathlib.Decide.{ℕ_discrete, map_dec}
use native.Mathlib.Omega.{arith}
use lib.IntN.{ℤ}
use Rattle.terms.proofs.Common.{by_test, clash}
use Rattle.forest_tables.specs.Formula.{signed}
use Rattle.truth.specs.Strategies.{Assignment, AllSatisfied, Strategy, Local, Wins, True}
use Rattle.truth.specs.Game.{put}
use Rattle.truth.specs.Paths.{Way, InPaths, MayUse, PathSet}
use Rattle.truth.specs.Narrowing.{NarrowedAt, NarrowedTo}
use Rattle.truth.proofs.Literals.{agreeing}
use Rattle.truth.proofs.Decisions.{member?}
use Rattle.truth.proofs.Values.{put_at, put_other, put_same, put_own}
use Rattle.truth.proofs.Deciding.{way?}
use Rattle.truth.proofs.Mixing.{Mixed, mixed_satisfies}

-- What may use less may use more.
pub widen : {ex : ℕ → Bool} {may more : ℕ → ℕ → Type 0} {clauses : List (List ℤ)}
    → ((x y : ℕ) → ex x ≡ false → ex y ≡ true → may x y → more x y) → True ex may clauses → True ex more clauses
widen wider t = record { strategy = t.strategy; local = λ y e u w same. t.local y e u w (λ x f m. same x f (wider x y f e m)); wins = t.wins }

-- Two values that differ.
other_value : (a b : Bool) → a ≢ b → b ≡ not a
other_value true true n = absurd (n refl)
other_value true false n = refl
other_value false true n = refl
other_value false false n = absurd (n refl)

-- One universal x. E holds of the existentials that may depend on it, and may be told; `may` may be narrower than what E was made of, for other universals.
module _ {ex : ℕ → Bool} {may : ℕ → ℕ → Type 0} {clauses : List (List ℤ)} (x : ℕ) (universal : ex x ≡ false) (E : ℕ → Type 0)
    (decide : (v : ℕ) → Dec (E v)) (covers : (y : ℕ) → ex y ≡ true → may x y → E y) (covered : (y : ℕ) → E y → may x y) (t : True ex may clauses) where
  -- a path leads from a literal of x to the literal of y with a value's sign
  abbrev Leads : Bool → ℕ → Bool → Type 0
  Leads sign y value = Way clauses E (signed sign x) (signed value y)

  leads? : (sign : Bool) (y : ℕ) (value : Bool) → Dec (Leads sign y value)
  leads? sign y value = way? clauses E decide (signed sign x) (signed value y)

  -- The old values with x put to a value.
  old : Bool → Strategy
  old b y u = t.strategy y (put x b u)

  -- The new ones where x is true: the old one where a path leads to it from the negation of x, else that with x false.
  high : Strategy
  high y u = ite (leads? false y (old true y u)) (old true y u) (old false y u)

  -- And where x is false: the old one where a path leads to it from x, else the new one with x true.
  low : Strategy
  low y u = ite (leads? true y (old false y u)) (old false y u) (high y u)

  new : Strategy
  new y u = cond (u x) (high y u) (low y u)

  -- The play of a strategy with x put.
  with_x : Strategy → Bool → Assignment → Assignment
  with_x f b u v = cond (ex v) (f v u) (put x b u v)

  at_x : (f : Strategy) (b : Bool) (u : Assignment) → with_x f b u x ≡ b
  unfolding with_x
  at_x f b u = rw universal (put_at x b u refl)

  at_ex : (f : Strategy) (b : Bool) (u : Assignment) {v : ℕ} → ex v ≡ true → with_x f b u v ≡ f v u
  unfolding with_x
  at_ex f b u e = rw e

  at_other : (f g : Strategy) (b c : Bool) (u : Assignment) {v : ℕ} → v ≢ x → ex v ≡ false → with_x f b u v ≡ with_x g c u v
  unfolding with_x
  at_other f g b c u n e = rw e (put_other x b u n ∙ sym (put_other x c u n))

  -- Plays are mixed as their strategies are.
  mixed : (sign : Bool) (f g h : Strategy) (u : Assignment)
      → ((y : ℕ) → ex y ≡ true → f y u ≢ g y u → E y)
      → ((y : ℕ) → Leads sign y (g y u) → h y u ≡ g y u)
      → ((y : ℕ) → (Leads sign y (g y u) → ⊥) → h y u ≡ f y u)
      → Mixed clauses E x sign (with_x f sign u) (with_x g (not sign) u) (with_x h (not sign) u)
  mixed sign f g h u differ keeps falls =
      record {
        a_x = at_x f sign u;
        differ = λ v n d. by_test (ex v) (λ e. differ v e (λ q. d (at_ex f sign u e ∙ q ∙ sym (as_g e))))
            (λ e. absurd (d (at_other f g sign (not sign) u n e)));
        c_x = at_x h (not sign) u ∙ sym (at_x g (not sign) u);
        keeps = λ v n w. by_test (ex v)
            (λ e. at_ex h (not sign) u e ∙ keeps v (subst (Leads sign v) (as_g e) w) ∙ sym (as_g e)) (at_other h g (not sign) (not sign) u n);
        falls = λ v n w. by_test (ex v)
            (λ e. at_ex h (not sign) u e ∙ falls v (λ k. w (subst (Leads sign v) (sym (as_g e)) k)) ∙ sym (at_ex f sign u e))
            (at_other h f (not sign) sign u n);
      }
    where
      as_g : {v : ℕ} → ex v ≡ true → with_x g (not sign) u v ≡ g v u
      as_g e = at_ex g (not sign) u e

  -- The old values with x false and with x true differ only where E holds.
  old_differ : (u : Assignment) (y : ℕ) → ex y ≡ true → old false y u ≢ old true y u → E y
  unfolding old
  old_differ u y e n = by_cases (decide y) (λ k. k) (λ none. absurd (n (t.local y e (put x false u) (put x true u) (unseen none))))
    where
      unseen : (E y → ⊥) → (z : ℕ) → ex z ≡ false → may z y → put x false u z ≡ put x true u z
      unseen none z f m =
          by_cases (ℕ_discrete z x) (λ q. absurd (none (covers y e (subst (λ (k : ℕ). may k y) q m)))) (λ k. put_other x false u k ∙ sym (put_other x true u k))

  -- With x true: the lemma for the negation of x, from the old plays.
  high_mixed : (u : Assignment) → Mixed clauses E x false (with_x (old false) false u) (with_x (old true) true u) (with_x high true u)
  unfolding high
  high_mixed u =
      mixed false (old false) (old true) high u (old_differ u)
      (λ y w. if_pos (leads? false y (old true y u)) w (old true y u) (old false y u))
      (λ y n. if_neg (leads? false y (old true y u)) n (old true y u) (old false y u))

  high_differ : (u : Assignment) (y : ℕ) → ex y ≡ true → high y u ≢ old false y u
      → Leads false y (old true y u) × (high y u ≡ old true y u) × E y
  unfolding high
  high_differ u y e n = by_cases (leads? false y (old true y u))
      (λ w. let q : high y u ≡ old true y u = if_pos (leads? false y (old true y u)) w (old true y u) (old false y u) in
      (w, q, old_differ u y e (λ s. n (q ∙ sym s))))
      (λ none. absurd (n (if_neg (leads? false y (old true y u)) none (old true y u) (old false y u))))

  -- With x false: the same lemma with the two literals of x and the two plays exchanged.
  low_mixed : (u : Assignment) → Mixed clauses E x true (with_x high true u) (with_x (old false) false u) (with_x low false u)
  unfolding low
  low_mixed u =
      mixed true high (old false) low u (λ y e n. (high_differ u y e n).2)
      (λ y w. if_pos (leads? true y (old false y u)) w (old false y u) (high y u))
      (λ y n. if_neg (leads? true y (old false y u)) n (old false y u) (high y u))

  -- The new values with x false and with x true differ only for what depends on x by paths.
  new_differ : (u : Assignment) (y : ℕ) → ex y ≡ true → low y u ≢ high y u → InPaths clauses E x y
  unfolding low
  new_differ u y e n = by_cases (leads? true y (old false y u)) on
      (λ none. absurd (n (if_neg (leads? true y (old false y u)) none (old false y u) (high y u))))
    where
      on : Leads true y (old false y u) → InPaths clauses E x y
      on w =
          let q : low y u ≡ old false y u = if_pos (leads? true y (old false y u)) w (old false y u) (high y u) in
          let (v, r, allowed) = high_differ u y e (λ s. n (q ∙ sym s)) in
          record {
            allowed = allowed;
            sign = old false y u;
            from_x = w;
            from_negation = subst (Leads false y) (other_value (old false y u) (old true y u) (λ s. n (q ∙ s ∙ sym r))) v;
          }

  -- Winning: the old plays win, so those with x true and with x false do, of which every new play is one.
  old_wins : (b : Bool) (u : Assignment) → AllSatisfied (with_x (old b) b u) clauses
  unfolding with_x old
  old_wins b u = t.wins (put x b u)

  high_wins : (u : Assignment) → AllSatisfied (with_x high true u) clauses
  high_wins u clause m =
      mixed_satisfies (way? clauses E decide (signed false x)) (high_mixed u) clause m (old_wins false u clause m) (old_wins true u clause m)

  low_wins : (u : Assignment) → AllSatisfied (with_x low false u) clauses
  low_wins u clause m =
      mixed_satisfies (way? clauses E decide (signed true x)) (low_mixed u) clause m (high_wins u clause m) (old_wins false u clause m)

  new_wins : Wins ex clauses new
  unfolding with_x new
  new_wins u clause m = by_test (u x)
      (λ q. agreeing (λ l i. rw (q, put_own x true u _ q)) (high_wins u clause m))
      (λ q. agreeing (λ l i. rw (q, put_own x false u _ q)) (low_wins u clause m))

  -- Locality: the values use of other universals what the old ones did.
  AgreeBut : ℕ → Assignment → Assignment → Type 0
  AgreeBut y u w = (z : ℕ) → z ≢ x → ex z ≡ false → may z y → u z ≡ w z

  old_local : (b : Bool) (y : ℕ) → ex y ≡ true → (u w : Assignment) → AgreeBut y u w → old b y u ≡ old b y w
  unfolding old AgreeBut
  old_local b y e u w same = t.local y e (put x b u) (put x b w) (λ z f m. put_same x b u w z (λ n. same z n f m))

  high_local : (y : ℕ) → ex y ≡ true → (u w : Assignment) → AgreeBut y u w → high y u ≡ high y w
  unfolding high
  high_local y e u w same = ap₂ (λ (a b : Bool). ite (leads? false y a) a b) (old_local true y e u w same) (old_local false y e u w same)

  low_local : (y : ℕ) → ex y ≡ true → (u w : Assignment) → AgreeBut y u w → low y u ≡ low y w
  unfolding low
  low_local y e u w same = ap₂ (λ (a b : Bool). ite (leads? true y a) a b) (old_local false y e u w same) (high_local y e u w same)

  new_as_high : (u : Assignment) (y : ℕ) → low y u ≡ high y u → new y u ≡ high y u
  unfolding new
  new_as_high u y q = by_test (u x) (λ s. rw s) (λ s. rw s q)

  new_same : (u w : Assignment) (y : ℕ) → u x ≡ w x → high y u ≡ high y w → low y u ≡ low y w → new y u ≡ new y w
  unfolding new
  new_same u w y q h l = rw (q, h, l)

  new_local : Local ex (NarrowedAt x (InPaths clauses E x) may) new
  unfolding AgreeBut
  new_local y e u w same = by_cases (Bool-discrete (low y u) (high y u))
      (λ q. new_as_high u y q ∙ high_same ∙ sym (new_as_high w y (sym low_same ∙ q ∙ high_same)))
      (λ n. let d = new_differ u y e n in new_same u w y (same x universal (covered y d.allowed, λ q. d)) high_same low_same)
    where
      others : (z : ℕ) → z ≢ x → ex z ≡ false → may z y → u z ≡ w z
      others z n f m = same z f (m, λ q. absurd (n q))

      high_same : high y u ≡ high y w
      high_same = high_local y e u w others

      low_same : low y u ≡ low y w
      low_same = low_local y e u w others

  narrow_one : True ex (NarrowedAt x (InPaths clauses E x) may) clauses
  narrow_one = record { strategy = new; local = new_local; wins = new_wins }

-- The numbers 1 to n.
pub numbers : ℕ → List ℕ
numbers zero = []
numbers (suc n) = suc n ∷ numbers n

pub numbers_all : (n v : ℕ) → 1 ≤ v → v ≤ n → Memᴰ v (numbers n)
unfolding numbers
numbers_all zero v a b = absurd (omega arith)
numbers_all (suc n) v a b = by_cases (ℕ_discrete v (suc n)) (λ q. Memᴰ.head q) (λ k. Memᴰ.tail (numbers_all n v a (omega arith)))

-- Whether an existential may depend on x can be told, where it can of any two.
use? : {ex : ℕ → Bool} {may : ℕ → ℕ → Type 0} → ((x y : ℕ) → Dec (may x y)) → (x v : ℕ) → Dec (MayUse ex may x v)
use? {ex} decide x v = map_dec (λ p. record { existential = p.0; allowed = p.1 }) (λ m. (m.existential, m.allowed))
    (Dec.and (Bool-discrete (ex v) true) (decide x v))

-- What may depend on what, with the universals of a list narrowed.
abbrev Narrows : (ℕ → Bool) → (ℕ → ℕ → Type 0) → List (List ℤ) → List ℕ → ℕ → ℕ → Type 0
Narrows ex may clauses xs z y = may z y × (Memᴰ z xs → PathSet ex may clauses z y)

module _ {ex : ℕ → Bool} {may : ℕ → ℕ → Type 0} {clauses : List (List ℤ)} (decide : (x y : ℕ) → Dec (may x y)) where
  -- One universal, the others as they were.
  pub narrowed_at : (x : ℕ) → True ex may clauses ↔ True ex (NarrowedAt x (PathSet ex may clauses x) may) clauses
  narrowed_at x = (there, widen (λ z y f e p. p.0))
    where
      there : True ex may clauses → True ex (NarrowedAt x (PathSet ex may clauses x) may) clauses
      there t = by_test (ex x)
          (λ e. widen (λ z y f k p. (p, λ q. absurd (clash e (ap ex (sym q) ∙ f)))) t)
          (λ e. narrow_one x e (MayUse ex may x) (use? decide x) (λ y k m. record { existential = k; allowed = m }) (λ y m. m.allowed) t)

  -- The universals of a list.
  narrowed_listed : (xs : List ℕ) → True ex may clauses → True ex (λ z y. Narrows ex may clauses xs z y) clauses
  narrowed_listed [] t = widen (λ z y f e p. (p, λ i. absurd (Memᴰ.not-nil i))) t
  narrowed_listed (x ∷ xs) t = by_cases (member? ℕ_discrete x xs) (λ i. widen (again i) (narrowed_listed xs t))
      (λ n. by_test (ex x) (λ e. widen (idle e) (narrowed_listed xs t)) (λ e. widen both (more n e (narrowed_listed xs t))))
    where
      -- x comes again in the list, or is no universal
      again : Memᴰ x xs → (z y : ℕ) → ex z ≡ false → ex y ≡ true → Narrows ex may clauses xs z y → Narrows ex may clauses (x ∷ xs) z y
      again i z y f e p = (p.0, λ j. ⊎_elim (λ q. p.1 (Memᴰ.cast q i)) p.1 (Memᴰ.cases_cons j))

      idle : ex x ≡ true → (z y : ℕ) → ex z ≡ false → ex y ≡ true → Narrows ex may clauses xs z y → Narrows ex may clauses (x ∷ xs) z y
      idle s z y f e p = (p.0, λ j. ⊎_elim (λ q. absurd (clash s (ap ex (sym q) ∙ f))) p.1 (Memᴰ.cases_cons j))

      -- x is narrowed behind the others
      more : (Memᴰ x xs → ⊥) → ex x ≡ false → True ex (λ z y. Narrows ex may clauses xs z y) clauses
          → True ex (NarrowedAt x (PathSet ex may clauses x) (λ z y. Narrows ex may clauses xs z y)) clauses
      more n e s =
          narrow_one x e (MayUse ex may x) (use? decide x) (λ y k m. record { existential = k; allowed = m.0 })
          (λ y m. (m.allowed, λ i. absurd (n i))) s

      both : (z y : ℕ) → ex z ≡ false → ex y ≡ true → Narrows ex may clauses xs z y × (z ≡ x → PathSet ex may clauses x y) → Narrows ex may clauses (x ∷ xs) z y
      both z y f e p =
          (p.0.0, λ j. ⊎_elim (λ q. subst (λ (k : ℕ). PathSet ex may clauses k y) (sym q) (p.1 q)) p.0.1 (Memᴰ.cases_cons j))

  -- All of them, where those that something may depend on are in a list.
  pub narrowed_to : (xs : List ℕ) → ((x y : ℕ) → ex x ≡ false → ex y ≡ true → may x y → Memᴰ x xs)
      → True ex may clauses ↔ True ex (NarrowedTo (PathSet ex may clauses) may) clauses
  narrowed_to xs all = (λ t. widen (λ z y f e p. (p.0, p.1 (all z y f e p.0))) (narrowed_listed xs t), widen (λ z y f e p. p.0))
