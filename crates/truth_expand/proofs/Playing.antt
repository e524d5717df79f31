-- The two arguments, onward and back: what each play of one formula says of the other, and that so both hold, or neither.
use Prim.Native.Nat.{ℕ}
use mathlib.Core.Path.{◌≡◌, refl, sym, ◌∙◌, ap}
use mathlib.Core.Bool.{Bool, true, false, cond, ◌||◌, false≢true}
use mathlib.Core.List.Memᴰ
use mathlib.Core.List.{List, Memᴰ}
use mathlib.Core.Logic.{◌⊎◌, inl, inr, ⊎_elim, ◌≢◌, ◌↔◌, by_cases}
use native.Mathlib.Decide.{ℕ_discrete}
use borrow.Author.Tests.{eq-eqb, ne_eqb}
use lib.IntN.{ℤ}
use Rattle.terms.specs.Literals.{variable_of}
use Rattle.terms.proofs.Common.{by_test, clash}
use Rattle.formula.specs.Meaning.{always_true}
use Rattle.forest_theory.proofs.Choice.{neither}
use Rattle.expand_clauses.specs.Expansion.{satisfied, has_x, without}
use Rattle.expand_clauses.specs.InnerCopies.{has_member, named, has_copy, copies}
use Rattle.truth.specs.Strategies.{Assignment, literal_value, Satisfied, played, Local, Wins, True}
use Rattle.truth.specs.Game.{put}
use Rattle.truth.specs.Narrowing.{NarrowedAt}
use Rattle.truth.proofs.Literals.{always_satisfied}
use Rattle.truth.proofs.Values.{put_at, put_other, put_same}
use Rattle.truth_expand.proofs.Copies.{clause_copy, Naming, same, new, naming, without_member, member_without}
use Rattle.truth_expand.proofs.Copies.{no_x, satisfied_by, by_satisfied, no_member, copies_member, member_copies, copy_open, first_copy, second_copy}
use Rattle.truth_expand.proofs.Expanding.{expanded_of, Expanding, apart, joint}

module _ {ex ex' : ℕ → Bool} {may may' : ℕ → ℕ → Type 0} {x : ℕ} {copy : ℕ → ℕ} {clauses : List (List ℤ)}
    (E : Expanding ex ex' may may' x copy clauses) where
  -- a member's copy is a copy
  is_copy : (y : ℕ) → copy y ≢ 0 → E.original (copy y) ≢ 0
  is_copy y some q = let (p, n) = E.of_copy y some in n (sym p ∙ q)

  -- ONWARD
  module _ (t : True ex (NarrowedAt x (λ y. copy y ≢ 0) may) clauses) where
    apart_x : (u : Assignment) {w : ℕ} → w ≡ x → apart E t w u ≡ false
    unfolding apart
    apart_x u {w} e = rw (eq-eqb w x e)

    apart_kept : (u : Assignment) {w : ℕ} → w ≢ x → E.original w ≡ 0 → apart E t w u ≡ t.strategy w (put x false u)
    unfolding apart
    apart_kept u {w} n o = rw (ne_eqb w x n, eq-eqb (E.original w) 0 o)

    apart_copy : (u : Assignment) {w : ℕ} → E.original w ≢ 0 → apart E t w u ≡ t.strategy (E.original w) (put x true u)
    unfolding apart
    apart_copy u {w} o = rw (ne_eqb w x (λ e. o (ap E.original e ∙ E.fresh_x)), ne_eqb (E.original w) 0 o)

    apart_local : Local ex' may' (apart E t)
    apart_local w e u v agree = by_cases (ℕ_discrete w x) (λ q. apart_x u q ∙ sym (apart_x v q))
        (λ n. by_cases (ℕ_discrete (E.original w) 0) (own n) copied)
      where
        own : w ≢ x → E.original w ≡ 0 → apart E t w u ≡ apart E t w v
        own n o =
            let e₀ = sym (E.kept w n o) ∙ e in
            apart_kept u n o
            ∙ t.local w e₀ (put x false u) (put x false v)
            (λ z f m. put_same x false u v z (λ k. let r = E.onward z w f k e₀ m.0 in agree z r.0 r.1))
            ∙ sym (apart_kept v n o)

        copied : E.original w ≢ 0 → apart E t w u ≡ apart E t w v
        copied o =
            let (is, nonzero) = E.copy_of_lem w o in
            let some : copy (E.original w) ≢ 0 = λ q. nonzero (sym is ∙ q) in
            let e₀ = (E.member (E.original w) some).existential in
            apart_copy u o
            ∙ t.local (E.original w) e₀ (put x true u) (put x true v)
            (λ z f m. put_same x true u v z (λ k. let r = E.onward z (E.original w) f k e₀ m.0 in agree z r.0 (rw is at (r.2 some))))
            ∙ sym (apart_copy v o)

    -- A literal as a copy names it has in the new play the value of the literal in the old play with x put.
    apart_literal : (u : Assignment) (b : Bool) (l m : ℤ) → variable_of l ≢ x → E.original (variable_of l) ≡ 0 → Naming copy b l m
        → literal_value l (played ex t.strategy (put x b u) (variable_of l)) ≡ true → literal_value m (played ex' (apart E t) u (variable_of m)) ≡ true
    apart_literal u b l m n o (same q none) h = rw q (ap (literal_value l) values ∙ h)
      where
        -- what is no member does not see x
        unseen : (z : ℕ) → (z ≡ x → copy (variable_of l) ≢ 0) → put x false u z ≡ put x b u z
        unseen z p = by_cases (ℕ_discrete z x)
            (λ e. by_test b (λ y. absurd (p e (none y))) (λ f. put_at x false u e ∙ sym f ∙ sym (put_at x b u e)))
            (λ k. put_other x false u k ∙ sym (put_other x b u k))

        by_kind : (e : Bool) → ex (variable_of l) ≡ e
            → cond e (apart E t (variable_of l) u) (u (variable_of l)) ≡ cond e (t.strategy (variable_of l) (put x b u)) (put x b u (variable_of l))
        by_kind true e = apart_kept u n o ∙ t.local (variable_of l) e (put x false u) (put x b u) (λ z f p. unseen z p.1)
        by_kind false e = sym (put_other x b u n)

        values : played ex' (apart E t) u (variable_of l) ≡ played ex t.strategy (put x b u) (variable_of l)
        values = rw (E.kept (variable_of l) n o) (by_kind (ex (variable_of l)) refl)
    apart_literal u b l m n o (new on some w s) h =
        s (played ex' (apart E t) u (variable_of m)) ∙ ap (literal_value l) (ap (played ex' (apart E t) u) w ∙ values) ∙ h
      where
        values : played ex' (apart E t) u (copy (variable_of l)) ≡ played ex t.strategy (put x b u) (variable_of l)
        values = rw (E.copied (copy (variable_of l)) (is_copy (variable_of l) some), (E.member (variable_of l) some).existential)
            (apart_copy u (is_copy (variable_of l) some) ∙ ap (λ (k : ℕ). t.strategy k (put x true u)) (E.of_copy (variable_of l) some).0
            ∙ ap (λ (c : Bool). t.strategy (variable_of l) (put x c u)) (sym on))

    -- So the copy of a clause is satisfied: the literal that is true is none of x, which would satisfy the clause.
    apart_satisfies : (u : Assignment) (b : Bool) (c : List ℤ) → Memᴰ c clauses → has_copy b x copy c ≡ true
        → Satisfied (played ex' (apart E t) u) (clause_copy b x copy c)
    apart_satisfies u b c m k =
        let w = t.wins (put x b u) c m in
        let n = other w.literal w.member w.holds in
        record {
          literal = named b copy w.literal;
          member = Memᴰ.map (named b copy) (member_without x n w.member);
          holds = apart_literal u b w.literal (named b copy w.literal) n (E.fresh c w.literal m w.member) (naming copy b w.literal) w.holds;
        }
      where
        at_x : (l : ℤ) → variable_of l ≡ x → played ex t.strategy (put x b u) (variable_of l) ≡ b
        at_x l e = rw (ap ex e ∙ E.universal) (put_at x b u e)

        other : (l : ℤ) → Memᴰ l c → literal_value l (played ex t.strategy (put x b u) (variable_of l)) ≡ true → variable_of l ≢ x
        other l i h e = clash (by_satisfied b x i e (ap (literal_value l) (sym (at_x l e)) ∙ h)) (copy_open b x copy c k)

    expands_onward : True ex' may' (expanded_of x copy clauses)
    expands_onward =
        record {
          strategy = (apart E t);
          local = apart_local;
          wins = λ u d m. ⊎_elim (of_copies u false d) (of_copies u true d) (Memᴰ.append_cases (copies false x copy clauses) m);
        }
      where
        of_copies : (u : Assignment) (b : Bool) (d : List ℤ) → Memᴰ d (copies b x copy clauses) → Satisfied (played ex' (apart E t) u) d
        of_copies u b d m = let (c, i, k, q) = copies_member b x copy clauses m in rw q (apart_satisfies u b c i k)

  -- BACK
  module _ (t : True ex' may' (expanded_of x copy clauses)) where
    joint_own : (u : Assignment) {y : ℕ} → (u x ≡ true → copy y ≡ 0) → joint E t y u ≡ t.strategy y u
    unfolding joint
    joint_own u {y} none = by_cases (ℕ_discrete (copy y) 0)
        (λ q. rw (eq-eqb (copy y) 0 q))
        (λ n. rw (ne_eqb (copy y) 0 n) (by_test (u x) (λ e. absurd (n (none e))) (λ e. rw e)))

    joint_copy : (u : Assignment) {y : ℕ} → u x ≡ true → copy y ≢ 0 → joint E t y u ≡ t.strategy (copy y) u
    unfolding joint
    joint_copy u {y} e n = rw (ne_eqb (copy y) 0 n, e)

    -- An existential of the formula is one of the expanded one.
    stays_ex : (y : ℕ) → ex y ≡ true → ex' y ≡ true
    stays_ex y e = E.kept y (λ q. clash e (ap ex q ∙ E.universal)) (E.fresh_ex y e) ∙ e

    joint_local : Local ex may (joint E t)
    joint_local y e u w agree = by_cases (ℕ_discrete (copy y) 0)
        (λ q. joint_own u (λ s. q) ∙ own ∙ sym (joint_own w (λ s. q)))
        (λ n. let ux : u x ≡ w x = agree x E.universal (E.member y n).allowed in by_test (u x)
        (λ s. joint_copy u s n ∙ copied n ∙ sym (joint_copy w (sym ux ∙ s) n))
        (λ s. joint_own u (λ s'. absurd (clash s' s)) ∙ own ∙ sym (joint_own w (λ s'. absurd (clash s' (sym ux ∙ s))))))
      where
        own : t.strategy y u ≡ t.strategy y w
        own = t.local y (stays_ex y e) u w (λ z f m. let r = E.back z y f e m in agree z r.0 r.1)

        copied : copy y ≢ 0 → t.strategy (copy y) u ≡ t.strategy (copy y) w
        copied n = t.local (copy y) (E.copied (copy y) (is_copy y n)) u w (λ z f m. let r = E.back_copy z y f n m in agree z r.0 r.1)

    -- A literal whose name in the copy for the value of x is true is true; so it is by the first copy, if it is of no member.
    joint_literal : (u : Assignment) (b : Bool) (l m : ℤ) → variable_of l ≢ x → E.original (variable_of l) ≡ 0
        → (u x ≡ true → (b ≡ true) ⊎ (copy (variable_of l) ≡ 0)) → (b ≡ true → u x ≡ true) → Naming copy b l m
        → literal_value m (played ex' t.strategy u (variable_of m)) ≡ true → literal_value l (played ex (joint E t) u (variable_of l)) ≡ true
    joint_literal u b l m n o right left (same q none) h = ap (literal_value l) values ∙ (rw q at h)
      where
        values : played ex (joint E t) u (variable_of l) ≡ played ex' t.strategy u (variable_of l)
        values = rw (E.kept (variable_of l) n o, joint_own u (λ s. ⊎_elim none (λ z. z) (right s)))
    joint_literal u b l m n o right left (new on some w s) h =
        ap (literal_value l) (values ∙ sym (ap (played ex' t.strategy u) w)) ∙ sym (s (played ex' t.strategy u (variable_of m))) ∙ h
      where
        values : played ex (joint E t) u (variable_of l) ≡ played ex' t.strategy u (copy (variable_of l))
        values = rw (E.copied (copy (variable_of l)) (is_copy (variable_of l) some), (E.member (variable_of l) some).existential) (joint_copy u (left on) some)

    joint_satisfies : (u : Assignment) (b : Bool) (c : List ℤ) → Memᴰ c clauses
        → ((l : ℤ) → Memᴰ l c → u x ≡ true → (b ≡ true) ⊎ (copy (variable_of l) ≡ 0)) → (b ≡ true → u x ≡ true)
        → Satisfied (played ex' t.strategy u) (clause_copy b x copy c) → Satisfied (played ex (joint E t) u) c
    joint_satisfies u b c m right left s =
        let (l, i, q) = Memᴰ.of_map (named b copy) (without x c) s.member in
        let (j, n) = without_member x c i in
        record {
          literal = l;
          member = j;
          holds = joint_literal u b l s.literal n (E.fresh c l m j) (right l j) left (rw q at (naming copy b l)) s.holds;
        }

    -- A clause is satisfied by x, or by its copy for the value of x; and if it has neither x nor a member, its first copy says the same.
    joint_wins : Wins ex clauses (joint E t)
    joint_wins u c m = by_test (always_true c) (always_satisfied (played ex (joint E t) u) c)
        (λ a. by_test (satisfied (u x) x c) by_x (λ f. by_test (u x) (on_true a f) (on_false a f)))
      where
        first : Memᴰ (clause_copy false x copy c) (copies false x copy clauses) → Satisfied (played ex' t.strategy u) (clause_copy false x copy c)
        first i = t.wins u (clause_copy false x copy c) (Memᴰ.append_left (copies true x copy clauses) i)

        second : Memᴰ (clause_copy true x copy c) (copies true x copy clauses) → Satisfied (played ex' t.strategy u) (clause_copy true x copy c)
        second i = t.wins u (clause_copy true x copy c) (Memᴰ.append_right (copies false x copy clauses) i)

        by_x : satisfied (u x) x c ≡ true → Satisfied (played ex (joint E t) u) c
        by_x q =
            let (l, i, e, h) = satisfied_by (u x) x c q in
            record { literal = l; member = i; holds = ap (literal_value l) (value_x (variable_of l) e) ∙ h }
          where
            value_x : (v : ℕ) → v ≡ x → played ex (joint E t) u v ≡ u x
            value_x v e = rw (ap ex e ∙ E.universal) (ap u e)

        on_false : always_true c ≡ false → satisfied (u x) x c ≡ false → u x ≡ false → Satisfied (played ex (joint E t) u) c
        on_false a f e =
            let open-false = ap (λ (b : Bool). satisfied b x c) (sym e) ∙ f in
            joint_satisfies u false c m (λ l i s. absurd (clash s e)) (λ s. absurd (false≢true s))
            (first (member_copies false x copy m (first_copy x copy c a open-false)))

        on_true : always_true c ≡ false → satisfied (u x) x c ≡ false → u x ≡ true → Satisfied (played ex (joint E t) u) c
        on_true a f e = by_test (has_x x c || has_member copy c)
            (λ h. joint_satisfies u true c m (λ l i s. inl refl) (λ s. e)
            (second (member_copies true x copy m (second_copy x copy c a (ap (λ (b : Bool). satisfied b x c) (sym e) ∙ f) h))))
            (λ h. let (none-x, none) = neither (has_x x c) (has_member copy c) h in
            joint_satisfies u false c m (λ l i s. inr (no_member copy none i)) (λ s. absurd (false≢true s))
            (first (member_copies false x copy m (first_copy x copy c a (unsatisfied none-x)))))
          where
            unsatisfied : has_x x c ≡ false → satisfied false x c ≡ false
            unsatisfied none = by_test (satisfied false x c) (λ q. let (l, i, e, h) = satisfied_by false x c q in absurd (no_x x none i e)) (λ q. q)

    expands_back : True ex may clauses
    expands_back = record { strategy = (joint E t); local = joint_local; wins = joint_wins }

  pub expanding_keeps : True ex may clauses ↔ True ex' may' (expanded_of x copy clauses)
  expanding_keeps = (λ t. expands_onward (E.narrowed t), expands_back)
