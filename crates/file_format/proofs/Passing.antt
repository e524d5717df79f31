-- The kinds of a file passed so far, and the kind before alone: a kind may come behind the one before exactly if with it the kinds are still the first of a
-- file's. So the first cause of 20 by the kinds passed is the first by the kind before, and there is none by the one where there is none by the other.
use Rattle.std.proofs.Common.{◌≡◌, ℕ, ◌+◌, ◌<◌, ◌≤◌, Bool, true, false, ◌||◌, eqb, ◌≢◌, ◌↔◌, List, [], ◌∷◌, ◌++◌, length, get_or, sym, refl}
use Rattle.std.proofs.Common.{ap, ◌∙◌, subst, inl, inr, ⊎_elim, arith, eq-eqb, ne_eqb, eqb-true}
use mathlib.Core.Logic.{by_cases}
use native.Mathlib.Decide.{dec_lt}
use Rattle.terms.specs.Refusals.{Causes, First}
use Rattle.terms.proofs.Common.{clash, by_test}
use Rattle.terms.proofs.Orders.{Carries}
use Rattle.forest_theory.proofs.Choice.{either, or_right}
use Rattle.file_format.specs.Layout.{prefix_kind, clauses_kind, rows_kind, sets_kind, closing_kind}
use Rattle.file_format.specs.Places.{kind_at, next_at, Passed, RecordAt, Whole, KindsInOrder}
use Rattle.file_format.specs.Causes.{OrderCause}
use Rattle.file_format.specs.InnerPlaces.{Reached, may_follow, last_of, StepCause}

-- Which kind may follow, by the kind before.
module _ (before kind : ℕ) where
  or_none : (b : Bool) → b || false ≡ b
  or_none true = refl
  or_none false = refl

  pub after_start : before ≡ 0 → may_follow before kind ≡ eqb kind prefix_kind
  unfolding may_follow
  after_start e = rw e (or_none (eqb kind prefix_kind))

  pub after_prefix : before ≡ prefix_kind → may_follow before kind ≡ eqb kind clauses_kind
  unfolding may_follow
  after_prefix e = rw e (or_none (eqb kind clauses_kind))

  pub after_clauses : before ≡ clauses_kind → may_follow before kind ≡ eqb kind rows_kind
  unfolding may_follow
  after_clauses e = rw e (or_none (eqb kind rows_kind))

  pub after_rows : before ≡ rows_kind → may_follow before kind ≡ eqb kind sets_kind || eqb kind closing_kind
  unfolding may_follow
  after_rows e = rw e (or_none (eqb kind sets_kind || eqb kind closing_kind))

  pub after_sets : before ≡ sets_kind → may_follow before kind ≡ eqb kind closing_kind
  unfolding may_follow
  after_sets e = rw e

  pub after_other : before ≢ 0 → before ≢ prefix_kind → before ≢ clauses_kind → before ≢ rows_kind → before ≢ sets_kind
      → may_follow before kind ≡ false
  unfolding may_follow
  after_other a b c d e =
      rw (ne_eqb before 0 a, ne_eqb before prefix_kind b, ne_eqb before clauses_kind c, ne_eqb before rows_kind d, ne_eqb before sets_kind e)

-- Kinds that are the first of a file's, one by one.
data Stage (kinds : List ℕ) : Type 0 where
  none : kinds ≡ [] → Stage kinds
  one : kinds ≡ 1 ∷ [] → Stage kinds
  two : kinds ≡ 1 ∷ 2 ∷ [] → Stage kinds
  three : kinds ≡ 1 ∷ 2 ∷ 3 ∷ [] → Stage kinds
  four : kinds ≡ 1 ∷ 2 ∷ 3 ∷ 4 ∷ [] → Stage kinds
  closed : kinds ≡ 1 ∷ 2 ∷ 3 ∷ 65535 ∷ [] → Stage kinds
  all : kinds ≡ 1 ∷ 2 ∷ 3 ∷ 4 ∷ 65535 ∷ [] → Stage kinds

other_length : {xs ys : List ℕ} {A : Type 0} → length xs ≢ length ys → xs ≡ ys → A
other_length differ q = absurd (differ (ap length q))

stage : (kinds : List ℕ) → KindsInOrder kinds → Stage kinds
stage [] b = none refl
stage (a ∷ []) b = ⊎_elim (λ q. one q) (λ q. one q) b
stage (a ∷ b' ∷ []) b = ⊎_elim (λ q. two q) (λ q. two q) b
stage (a ∷ b' ∷ c ∷ []) b = ⊎_elim (λ q. three q) (λ q. three q) b
stage (a ∷ b' ∷ c ∷ d ∷ []) b = ⊎_elim (λ q. four q) (λ q. closed q) b
stage (a ∷ b' ∷ c ∷ d ∷ e ∷ []) b = ⊎_elim (λ q. all q) (λ q. other_length (λ l. omega arith) q) b
stage (a ∷ b' ∷ c ∷ d ∷ e ∷ f ∷ more) b = ⊎_elim (λ q. other_length (λ l. omega arith) q) (λ q. other_length (λ l. omega arith) q) b

-- One kind more.
nth : (i : ℕ) {xs ys : List ℕ} → xs ≡ ys → get_or xs i 0 ≡ get_or ys i 0
nth i q = ap (λ (xs : List ℕ). get_or xs i 0) q

abbrev Steps : List ℕ → Type 0
Steps kinds = (k : ℕ) → (may_follow (last_of 0 kinds) k ≡ true) ↔ KindsInOrder (kinds ++ (k ∷ []))

-- where one kind alone may follow
sole : (before allowed : ℕ) (more : ℕ → List ℕ) → ((k : ℕ) → may_follow before k ≡ eqb k allowed) → (KindsInOrder (more allowed))
    → ((k : ℕ) → KindsInOrder (more k) → k ≡ allowed) → (k : ℕ) → (may_follow before k ≡ true) ↔ KindsInOrder (more k)
sole before allowed more is begins only k =
    (λ t. subst (λ (j : ℕ). KindsInOrder (more j)) (sym (eqb-true k allowed (sym (is k) ∙ t))) begins, λ b. is k ∙ eq-eqb k allowed (only k b))

stage_step : {kinds : List ℕ} → Stage kinds → Steps kinds
stage_step (none q) = subst Steps (sym q)
    (sole 0 1 (λ k. k ∷ []) (λ k. after_start 0 k refl) (inl refl) (λ k. ⊎_elim (λ e. nth 0 e) (λ e. nth 0 e)))
stage_step (one q) = subst Steps (sym q)
    (sole 1 2 (λ k. 1 ∷ k ∷ []) (λ k. after_prefix 1 k refl) (inl refl) (λ k. ⊎_elim (λ e. nth 1 e) (λ e. nth 1 e)))
stage_step (two q) = subst Steps (sym q)
    (sole 2 3 (λ k. 1 ∷ 2 ∷ k ∷ []) (λ k. after_clauses 2 k refl) (inl refl) (λ k. ⊎_elim (λ e. nth 2 e) (λ e. nth 2 e)))
stage_step (three q) = subst Steps (sym q) (λ k. (
  λ t.
      ⊎_elim (λ e. inl (ap (λ (j : ℕ). 1 ∷ 2 ∷ 3 ∷ j ∷ []) (eqb-true k sets_kind e))) (λ e. inr (ap (λ (j : ℕ). 1 ∷ 2 ∷ 3 ∷ j ∷ []) (eqb-true k closing_kind e)))
      (either (eqb k sets_kind) (eqb k closing_kind) (sym (after_rows 3 k refl) ∙ t)),
  λ b. after_rows 3 k refl ∙ ⊎_elim (λ e. ap (λ (b : Bool). b || eqb k closing_kind) (eq-eqb k sets_kind (nth 3 e)))
      (λ e. or_right (eqb k sets_kind) (eqb k closing_kind) (eq-eqb k closing_kind (nth 3 e))) b,
))
stage_step (four q) = subst Steps (sym q)
    (sole 4 65535 (λ k. 1 ∷ 2 ∷ 3 ∷ 4 ∷ k ∷ []) (λ k. after_sets 4 k refl) (inl refl)
    (λ k. ⊎_elim (λ e. nth 4 e) (λ e. other_length (λ l. omega arith) e)))
stage_step (closed q) = subst Steps (sym q) (λ k. (
  λ t. absurd (clash t (after_other 65535 k (λ z. omega arith) (λ z. omega arith) (λ z. omega arith) (λ z. omega arith) (λ z. omega arith))),
  λ b. ⊎_elim (λ e. let no : ◌≡◌ {A = ℕ} 65535 4 = nth 3 e in absurd (omega arith)) (λ e. other_length (λ l. omega arith) e) b,
))
stage_step (all q) = subst Steps (sym q) (λ k. (
  λ t. absurd (clash t (after_other 65535 k (λ z. omega arith) (λ z. omega arith) (λ z. omega arith) (λ z. omega arith) (λ z. omega arith))),
  λ b. ⊎_elim (λ e. other_length (λ l. omega arith) e) (λ e. other_length (λ l. omega arith) e) b,
))

-- All kinds are there exactly if the last is 65,535.
whole_closing : (kinds : List ℕ) → Whole kinds → last_of 0 kinds ≡ closing_kind
whole_closing kinds w = ⊎_elim (λ q. ap (last_of 0) q) (λ q. ap (last_of 0) q) w

closing_whole : {kinds : List ℕ} → Stage kinds → last_of 0 kinds ≡ closing_kind → Whole kinds
closing_whole (none q) last = let l = ap (last_of 0) q in absurd (omega arith)
closing_whole (one q) last = let l = ap (last_of 0) q in absurd (omega arith)
closing_whole (two q) last = let l = ap (last_of 0) q in absurd (omega arith)
closing_whole (three q) last = let l = ap (last_of 0) q in absurd (omega arith)
closing_whole (four q) last = let l = ap (last_of 0) q in absurd (omega arith)
closing_whole (closed q) last = inr q
closing_whole (all q) last = inl q

last_more : (k : ℕ) (kinds : List ℕ) (last : ℕ) → last_of k (kinds ++ (last ∷ [])) ≡ last
last_more k [] last = refl
last_more k (next ∷ more) last = last_more next more last

-- Two families of causes of one number that agree wherever neither has a cause earlier have the same first, or none both.
module _ (C D : Causes) (number : ℕ) (of-C : (k e : ℕ) → C k e → k ≡ number) (of-D : (k e : ℕ) → D k e → k ≡ number)
    (there : (k e : ℕ) → ((p : ℕ) → p < e → (j : ℕ) → C j p → ⊥) → C k e → D k e)
    (back : (k e : ℕ) → ((p : ℕ) → p < e → (j : ℕ) → C j p → ⊥) → D k e → C k e) where
  first_there : (k e : ℕ) → First C k e → First D k e
  first_there k e f =
      let clean : (p : ℕ) → p < e → (j : ℕ) → C j p → ⊥ = λ p l j c. let m = f.leftmost j p c in omega arith in
      record {
        holds = there k e clean f.holds;
        leftmost = λ j p d. by_cases (dec_lt p e)
            (λ l. let m = f.leftmost j p (back j p (λ q less. clean q (omega arith)) d) in omega arith) (λ l. omega arith);
        lowest = λ j d. let a = of-C k e f.holds in let b = of-D j e d in omega arith;
      }

  carries_over : Carries (C ∷ []) (D ∷ [])
  carries_over =
      record {
        none = λ clear. (λ k e d. clear.0 k e (back k e (λ p _ j c. clear.0 j p c) d), tt);
        first = λ k e f. ⊎_elim (λ first. inl (first_there k e first)) (λ rest. absurd rest.1) f;
      }

module _ (file : List ℕ) where
  pub next_past : (p : ℕ) → p + 6 ≤ next_at file p
  unfolding next_at
  next_past p = omega arith

  -- The kinds passed tell the kind before, and where a kind is before there are kinds passed.
  pub passed_reached : {kinds : List ℕ} {place : ℕ} → Passed file kinds place → Reached file (last_of 0 kinds) place
  passed_reached (Passed.start z) = Reached.start refl z
  passed_reached (Passed.behind kinds p passed fits at) =
      Reached.behind (last_of 0 kinds) p (passed_reached passed) fits (last_more 0 kinds (kind_at file p)) at

  pub reached_passed : {before place : ℕ} → Reached file before place → (kinds : List ℕ) × Passed file kinds place × (last_of 0 kinds ≡ before)
  reached_passed (Reached.start b z) = ([], Passed.start z, sym b)
  reached_passed (Reached.behind earlier p r fits k at) =
      let (kinds, passed, _) = reached_passed r in
      (kinds ++ (kind_at file p ∷ []), Passed.behind kinds p passed fits at, last_more 0 kinds (kind_at file p) ∙ sym k)

  pub record_reached : {before place : ℕ} → Reached file before place → place < length file → RecordAt file place
  record_reached r on = let (kinds, passed, _) = reached_passed r in record { kinds = kinds; passed = passed; goes_on = on }

  -- Where each kind up to a limit may follow, the kinds passed up to there are the first of a file's.
  module _ (limit : ℕ) (may : (kinds : List ℕ) (p : ℕ) → Passed file kinds p → p < limit → p < length file → KindsInOrder kinds
      → may_follow (last_of 0 kinds) (kind_at file p) ≡ true) where
    begun : (kinds : List ℕ) (p : ℕ) → Passed file kinds p → p ≤ limit → KindsInOrder kinds
    begun _ q (Passed.start z) l = inl refl
    begun _ q (Passed.behind kinds p passed fits at) l =
        let past = next_past p in
        let b = begun kinds p passed (omega arith) in
        (stage_step (stage kinds b) (kind_at file p)).0 (may kinds p passed (omega arith) (omega arith) b)

  -- So they are where no place before has a cause, of either kind.
  begun_steps : (e : ℕ) → ((p : ℕ) → p < e → (j : ℕ) → StepCause file j p → ⊥) → (kinds : List ℕ) → Passed file kinds e → KindsInOrder kinds
  begun_steps e clean kinds passed = begun e
      (λ ks p r l on b. by_test (may_follow (last_of 0 ks) (kind_at file p)) (λ t. t) (λ f. absurd (clean p l 20 (StepCause.wrong (last_of 0 ks) refl (passed_reached r) on f))))
      kinds e passed (omega arith)

  begun_orders : (e : ℕ) → ((p : ℕ) → p < e → (j : ℕ) → OrderCause file j p → ⊥) → (kinds : List ℕ) → Passed file kinds e → KindsInOrder kinds
  begun_orders e clean kinds passed = begun e
      (λ ks p r l on b.
      let k = kind_at file p in
      by_test (may_follow (last_of 0 ks) k) (λ t. t)
      (λ f. absurd (clean p l 20 (OrderCause.wrong ks refl r on (λ more. clash ((stage_step (stage ks b) k).1 more) f)))))
      kinds e passed (omega arith)

  -- And where they are, the causes there are the same.
  step_order : {k e : ℕ} → ((kinds : List ℕ) → Passed file kinds e → KindsInOrder kinds) → StepCause file k e → OrderCause file k e
  step_order {k} {e} begins (StepCause.wrong before n r on no') =
      let (kinds, passed, last) = reached_passed r in
      OrderCause.wrong kinds n passed on
      (λ more. clash (ap (λ (b : ℕ). may_follow b (kind_at file e)) (sym last) ∙ (stage_step (stage kinds (begins kinds passed)) (kind_at file e)).1 more) no')
  step_order begins (StepCause.missing before n r end other) =
      let (kinds, passed, last) = reached_passed r in
      OrderCause.missing kinds n passed end (λ w. other (sym last ∙ whole_closing kinds w))

  order_step : {k e : ℕ} → ((kinds : List ℕ) → Passed file kinds e → KindsInOrder kinds) → OrderCause file k e → StepCause file k e
  order_step {k} {e} begins (OrderCause.wrong kinds n passed on no') =
      let at = stage kinds (begins kinds passed) in
      by_test (may_follow (last_of 0 kinds) (kind_at file e)) (λ t. absurd (no' ((stage_step at (kind_at file e)).0 t)))
      (λ f. StepCause.wrong (last_of 0 kinds) n (passed_reached passed) on f)
  order_step begins (OrderCause.missing kinds n passed end no') =
      let at = stage kinds (begins kinds passed) in
      StepCause.missing (last_of 0 kinds) n (passed_reached passed) end (λ q. no' (closing_whole at q))

  step_number : (k e : ℕ) → StepCause file k e → k ≡ 20
  step_number k e (StepCause.wrong _ n _ _ _) = n
  step_number k e (StepCause.missing _ n _ _ _) = n

  order_number : (k e : ℕ) → OrderCause file k e → k ≡ 20
  order_number k e (OrderCause.wrong _ n _ _ _) = n
  order_number k e (OrderCause.missing _ n _ _ _) = n

  -- Both ways: what is judged by the kind before is judged by the kinds passed.
  pub steps_orders : Carries (StepCause file ∷ []) (OrderCause file ∷ [])
  steps_orders =
      carries_over (StepCause file) (OrderCause file) 20 step_number order_number (λ k e clean c. step_order (begun_steps e clean) c) (λ k e clean c. order_step (begun_steps e clean) c)

  pub orders_steps : Carries (OrderCause file ∷ []) (StepCause file ∷ [])
  orders_steps =
      carries_over (OrderCause file) (StepCause file) 20 order_number step_number (λ k e clean c. order_step (begun_orders e clean) c) (λ k e clean c. step_order (begun_orders e clean) c)
