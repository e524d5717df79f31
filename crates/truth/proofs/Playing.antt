-- The game is won exactly if some strategy wins in which each existential sees the universals that have their turns before it. There: what the game comes
-- to, for universals as an assignment has them, is a strategy. Back: the strategy's values are given turn by turn, and none changes later.
use Prim.Native.Nat.{ℕ}
use mathlib.Core.Path.{◌≡◌, refl, sym, ◌∙◌, ap, subst}
use mathlib.Core.Bool.{Bool, true, false, cond}
use mathlib.Core.List.Memᴰ
use mathlib.Core.List.{List, [], ◌∷◌, Memᴰ}
use mathlib.Core.Logic.{◌⊎◌, inl, inr, ⊎_elim, ◌≢◌, by_cases}
use native.Mathlib.Decide.{ℕ_discrete}
use lib.IntN.{ℤ}
use Rattle.terms.specs.Literals.{variable_of}
use Rattle.terms.proofs.Common.{clash}
use Rattle.truth.specs.Strategies.{Assignment, Satisfied, AllSatisfied, True}
use Rattle.truth.specs.Game.{put, Turn, Game, Earlier, now, after, Distinct, Closed}
use Rattle.truth.proofs.Literals.{agreeing}
use Rattle.truth.proofs.Decisions.{member?}
use Rattle.truth.proofs.Values.{put_at, put_other}

-- Both have turns that are one before the other.
pub earlier_first : {x y : ℕ} {vs : List ℕ} → Earlier x y vs → Memᴰ x vs
earlier_first (now q m) = Memᴰ.head (sym q)
earlier_first (after e) = Memᴰ.tail (earlier_first e)

pub earlier_second : {x y : ℕ} {vs : List ℕ} → Earlier x y vs → Memᴰ y vs
earlier_second (now q m) = Memᴰ.tail m
earlier_second (after e) = Memᴰ.tail (earlier_second e)

-- Of two that have turns one has it first.
pub one_first : {x y : ℕ} {vs : List ℕ} → x ≢ y → Memᴰ x vs → Memᴰ y vs → Earlier x y vs ⊎ Earlier y x vs
one_first n (Memᴰ.head q) m = ⊎_elim (λ r. absurd (n (q ∙ sym r))) (λ i. inl (now (sym q) i)) (Memᴰ.cases_cons m)
one_first n (Memᴰ.tail i) (Memᴰ.head q) = inr (now (sym q) i)
one_first n (Memᴰ.tail i) (Memᴰ.tail j) = ⊎_elim (λ e. inl (after e)) (λ e. inr (after e)) (one_first n i j)

-- A turn taken: an existential's value is there, and a universal's is asked for.
module _ (G : Bool → Type 0) where
  taken : (e : Bool) → ((b : Bool) → G b → Assignment) → Turn e G → Bool → Assignment
  taken true on g c = on g.0 g.1
  taken false on g c = on c (g c)

  taken_has : (P : Assignment → Type 0) (e : Bool) (on : (b : Bool) → G b → Assignment) (g : Turn e G) (c : Bool)
      → ((b : Bool) (h : G b) → (e ≡ false → b ≡ c) → P (on b h)) → P (taken e on g c)
  unfolding taken
  taken_has P true on g c each = each g.0 g.1 (λ q. absurd (clash refl q))
  taken_has P false on g c each = each c (g c) (λ q. refl)

  taken_two : (Q : Assignment → Assignment → Type 0) (e : Bool) (on on' : (b : Bool) → G b → Assignment) (g : Turn e G) (c d : Bool)
      → (e ≡ false → c ≡ d) → ((b : Bool) (h : G b) → Q (on b h) (on' b h)) → Q (taken e on g c) (taken e on' g d)
  unfolding taken
  taken_two Q true on on' g c d same each = each g.0 g.1
  taken_two Q false on on' g c d same each = subst (λ (k : Bool). Q (on c (g c)) (on' k (g k))) (same refl) (each c (g c))

module _ (ex : ℕ → Bool) (clauses : List (List ℤ)) where
  -- There: the values at the end, where the universals take theirs by u.
  outcome : (vs : List ℕ) (a : Assignment) → Game ex clauses vs a → Assignment → Assignment
  outcome [] a g u = a
  outcome (v ∷ vs) a g u = taken (λ b. Game ex clauses vs (put v b a)) (ex v) (λ b h. outcome vs (put v b a) h u) g (u v)

  -- What holds of the outcome of every rest holds of the outcome.
  outcome_has : (P : Assignment → Type 0) (v : ℕ) (vs : List ℕ) (a : Assignment) (g : Game ex clauses (v ∷ vs) a) (u : Assignment)
      → ((b : Bool) (h : Game ex clauses vs (put v b a)) → (ex v ≡ false → b ≡ u v) → P (outcome vs (put v b a) h u)) → P (outcome (v ∷ vs) a g u)
  unfolding outcome
  outcome_has P v vs a g u each =
      taken_has (λ b. Game ex clauses vs (put v b a)) P (ex v) (λ b h. outcome vs (put v b a) h u) g (u v) each

  outcome_satisfies : (vs : List ℕ) (a : Assignment) (g : Game ex clauses vs a) (u : Assignment) → AllSatisfied (outcome vs a g u) clauses
  unfolding outcome
  outcome_satisfies [] a g u clause m = g clause m
  outcome_satisfies (v ∷ vs) a g u clause m =
      outcome_has (λ c. Satisfied c clause) v vs a g u (λ b h q. outcome_satisfies vs (put v b a) h u clause m)

  -- What has no turn keeps its value, and a universal has its own by u.
  outcome_keeps : (vs : List ℕ) (a : Assignment) (g : Game ex clauses vs a) (u : Assignment) (y : ℕ) → (Memᴰ y vs → ⊥) → outcome vs a g u y ≡ a y
  unfolding outcome
  outcome_keeps [] a g u y n = refl
  outcome_keeps (v ∷ vs) a g u y n =
      outcome_has (λ c. c y ≡ a y) v vs a g u
      (λ b h q. outcome_keeps vs (put v b a) h u y (λ m. n (Memᴰ.tail m)) ∙ put_other v b a (λ e. n (Memᴰ.head e)))

  outcome_universal : (vs : List ℕ) (a : Assignment) (g : Game ex clauses vs a) (u : Assignment) (x : ℕ) → ex x ≡ false → Memᴰ x vs
      → outcome vs a g u x ≡ u x
  outcome_universal [] a g u x f m = absurd (Memᴰ.not-nil m)
  outcome_universal (v ∷ vs) a g u x f m =
      outcome_has (λ c. c x ≡ u x) v vs a g u
      (λ b h q. by_cases (member? ℕ_discrete x vs) (outcome_universal vs (put v b a) h u x f)
      (λ n. outcome_keeps vs (put v b a) h u x n
      ∙ ⊎_elim (λ e. put_at v b a e ∙ q (ap ex (sym e) ∙ f) ∙ ap u (sym e)) (λ k. absurd (n k)) (Memᴰ.cases_cons m)))

  -- An existential has its value by the universals before it.
  outcome_local : (vs : List ℕ) (a : Assignment) (g : Game ex clauses vs a) (u w : Assignment) (y : ℕ) → ex y ≡ true
      → ((x : ℕ) → ex x ≡ false → Earlier x y vs → u x ≡ w x) → outcome vs a g u y ≡ outcome vs a g w y
  unfolding outcome
  outcome_local [] a g u w y e same = refl
  outcome_local (v ∷ vs) a g u w y e same =
      let rest : (b : Bool) (h : Game ex clauses vs (put v b a)) → outcome vs (put v b a) h u y ≡ outcome vs (put v b a) h w y =
      λ b h. outcome_local vs (put v b a) h u w y e (λ x f r. same x f (after r)) in
      by_cases (member? ℕ_discrete y vs) (λ m. alike (λ f. same v f (now refl m)) rest)
      (λ n. by_cases (ℕ_discrete y v) (λ q. alike (λ f. absurd (clash e (ap ex q ∙ f))) rest) (λ k. keeps n k u ∙ sym (keeps n k w)))
    where
      alike : (ex v ≡ false → u v ≡ w v)
          → ((b : Bool) (h : Game ex clauses vs (put v b a)) → outcome vs (put v b a) h u y ≡ outcome vs (put v b a) h w y)
          → outcome (v ∷ vs) a g u y ≡ outcome (v ∷ vs) a g w y
      alike q on =
          taken_two (λ b. Game ex clauses vs (put v b a)) (λ c d. c y ≡ d y) (ex v)
          (λ b h. outcome vs (put v b a) h u) (λ b h. outcome vs (put v b a) h w) g (u v) (w v) q on

      keeps : (Memᴰ y vs → ⊥) → y ≢ v → (z : Assignment) → outcome (v ∷ vs) a g z y ≡ a y
      keeps n k z = outcome_keeps (v ∷ vs) a g z y (λ m. ⊎_elim k n (Memᴰ.cases_cons m))

  pub game_strategy : (vs : List ℕ) (a : Assignment) → Closed clauses vs → Game ex clauses vs a → True ex (λ x y. Earlier x y vs) clauses
  game_strategy vs a closed g =
      record {
        strategy = λ y u. outcome vs a g u y;
        local = λ y e u w same. outcome_local vs a g u w y e same;
        wins = λ u clause m. agreeing (λ l i. own u (variable_of l) (closed clause m l i)) (outcome_satisfies vs a g u clause m);
      }
    where
      own : (u : Assignment) (v : ℕ) → Memᴰ v vs → outcome vs a g u v ≡ cond (ex v) (outcome vs a g u v) (u v)
      own u v m = go (ex v) refl
        where
          go : (e : Bool) → ex v ≡ e → outcome vs a g u v ≡ cond e (outcome vs a g u v) (u v)
          go true e = refl
          go false e = outcome_universal vs a g u v e m

  -- Back, for a strategy that wins.
  module _ (all : List ℕ) (closed : Closed clauses all) (t : True ex (λ x y. Earlier x y all) clauses) where
    -- Of all turns some are done and the rest is to come; the values given to existentials are those of the strategy, whatever comes.
    record Done (done rest : List ℕ) (a : Assignment) : Type 0 where
      both : (v : ℕ) → Memᴰ v all → Memᴰ v done ⊎ Memᴰ v rest
      apart : (v : ℕ) → Memᴰ v done → Memᴰ v rest → ⊥
      before : (x y : ℕ) → Memᴰ y rest → Earlier x y all → Memᴰ x done ⊎ Earlier x y rest
      settled : (y : ℕ) → Memᴰ y done → ex y ≡ true → (c : Assignment) → ((x : ℕ) → Memᴰ x done → c x ≡ a x) → t.strategy y c ≡ a y

    done_none : (a : Assignment) → Done [] all a
    done_none a =
        record {
          both = λ v m. inr m;
          apart = λ v m i. Memᴰ.not-nil m;
          before = λ x y m e. inr e;
          settled = λ y m e c same. absurd (Memᴰ.not-nil m);
        }

    done_more : {done rest : List ℕ} {v : ℕ} {a : Assignment} (b : Bool) → Distinct (v ∷ rest) → (ex v ≡ true → b ≡ t.strategy v a)
        → Done done (v ∷ rest) a → Done (v ∷ done) rest (put v b a)
    done_more {done} {rest} {v} {a} b distinct right d =
        record {
          both = λ w m. ⊎_elim (λ i. inl (Memᴰ.tail i))
              (λ i. ⊎_elim (λ q. inl (Memᴰ.head q)) inr (Memᴰ.cases_cons i)) (d.both w m);
          apart = λ w m i. ⊎_elim (λ q. distinct.0 (Memᴰ.cast (sym q) i)) (λ k. d.apart w k (Memᴰ.tail i)) (Memᴰ.cases_cons m);
          before = λ x y m e. ⊎_elim (λ i. inl (Memᴰ.tail i)) (next x y) (d.before x y (Memᴰ.tail m) e);
          settled = λ y m e c same. ⊎_elim (mine y e c same) (old y e c same) (Memᴰ.cases_cons m);
        }
      where
        next : (x y : ℕ) → Earlier x y (v ∷ rest) → Memᴰ x (v ∷ done) ⊎ Earlier x y rest
        next x y (now q m) = inl (Memᴰ.head (sym q))
        next x y (after e) = inr e

        none_before : (x : ℕ) → Earlier x v (v ∷ rest) → ⊥
        none_before x (now q m) = distinct.0 m
        none_before x (after e) = distinct.0 (earlier_second e)

        other : (x : ℕ) → Memᴰ x done → x ≢ v
        other x m q = d.apart x m (Memᴰ.head q)

        kept : (c : Assignment) → ((x : ℕ) → Memᴰ x (v ∷ done) → c x ≡ put v b a x) → (x : ℕ) → Memᴰ x done → c x ≡ a x
        kept c same x m = same x (Memᴰ.tail m) ∙ put_other v b a (other x m)

        mine : (y : ℕ) → ex y ≡ true → (c : Assignment) → ((x : ℕ) → Memᴰ x (v ∷ done) → c x ≡ put v b a x) → y ≡ v
            → t.strategy y c ≡ put v b a y
        mine y e c same q =
            let ev = ap ex (sym q) ∙ e in
            let seen : (x : ℕ) → Earlier x v all → Memᴰ x done =
            λ x r. ⊎_elim (λ m. m) (λ s. absurd (none_before x s)) (d.before x v (Memᴰ.head refl) r) in
            ap (λ (k : ℕ). t.strategy k c) q ∙ t.local v ev c a (λ x f r. kept c same x (seen x r)) ∙ sym (right ev) ∙ sym (put_at v b a q)

        old : (y : ℕ) → ex y ≡ true → (c : Assignment) → ((x : ℕ) → Memᴰ x (v ∷ done) → c x ≡ put v b a x) → Memᴰ y done
            → t.strategy y c ≡ put v b a y
        old y e c same m = d.settled y m e c (kept c same) ∙ sym (put_other v b a (other y m))

    play : (done rest : List ℕ) (a : Assignment) → Distinct rest → Done done rest a → Game ex clauses rest a
    play done [] a distinct d = λ clause m. agreeing (λ l i. own (variable_of l) (closed clause m l i)) (t.wins a clause m)
      where
        own : (v : ℕ) → Memᴰ v all → cond (ex v) (t.strategy v a) (a v) ≡ a v
        own v m = go (ex v) refl
          where
            go : (e : Bool) → ex v ≡ e → cond e (t.strategy v a) (a v) ≡ a v
            go true e = d.settled v (⊎_elim (λ i. i) (λ i. absurd (Memᴰ.not-nil i)) (d.both v m)) e a (λ x i. refl)
            go false e = refl
    play done (v ∷ rest) a distinct d = go (ex v) refl (λ b right. play (v ∷ done) rest (put v b a) distinct.1 (done_more b distinct right d))
      where
        go : (e : Bool) → ex v ≡ e → ((b : Bool) → (ex v ≡ true → b ≡ t.strategy v a) → Game ex clauses rest (put v b a))
            → Turn e (λ b. Game ex clauses rest (put v b a))
        go true e on = (t.strategy v a, on (t.strategy v a) (λ q. refl))
        go false e on = λ b. on b (λ q. absurd (clash q e))

    pub strategy_game : (a : Assignment) → Distinct all → Game ex clauses all a
    strategy_game a distinct = play [] all a distinct (done_none a)
