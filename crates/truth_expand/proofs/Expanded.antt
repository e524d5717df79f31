-- An accepted formula holds exactly if the one does that expanding a universal by members that serve leaves.
use Prim.Native.Nat.{ℕ, suc, ◌+◌, ◌≤◌, ◌<◌}
use mathlib.Core.Path.{◌≡◌, sym, ◌∙◌, ap, subst}
use mathlib.Core.Bool.{true, false, not}
use mathlib.Core.List.{List, map, Memᴰ}
use mathlib.Core.Logic.{⊎_elim, ◌≢◌, ◌↔◌, by_cases}
use native.Mathlib.Decide.{ℕ_discrete, dec_le}
use native.Mathlib.Omega.{arith}
use borrow.Author.Tests.{not-true}
use lib.ListN.{length}
use Rattle.terms.specs.Literals.{variable_of}
use Rattle.terms.specs.Refusals.{None}
use Rattle.terms.proofs.Common.{clash}
use Rattle.formula.specs.Causes.{ClauseCause}
use Rattle.formula.specs.Lent.{Formula}
use Rattle.formula.specs.InnerLevels.{SoundPrefix}
use Rattle.formula.specs.Meaning.{blocks, level, is_universal, is_existential, clauses}
use Rattle.forest_tables.specs.Formula.{universal}
use Rattle.forest_tables.proofs.Readings.{flag_none, flag_over, flag_in, flag_within}
use Rattle.forest_tables.proofs.Agreeing.{universal_within}
use Rattle.forest.proofs.Demands.{universal_alone}
use Rattle.expand_clauses.specs.InnerCopies.{copy_of, with_copy, placed, expanded_block, expanded_prefix}
use Rattle.expand.specs.Promise.{expanded_by}
use Rattle.expand.specs.InnerWriting.{expanded_with}
use Rattle.expand.proofs.Outcome.{expanded_same}
use Rattle.expand.proofs.Accepted.{numbered}
use Rattle.truth.specs.Game.{Earlier, Distinct}
use Rattle.truth.specs.Paths.{MayUse}
use Rattle.truth.specs.Narrowing.{NarrowedAt}
use Rattle.truth.proofs.Decisions.{member?}
use Rattle.truth.proofs.Playing.{one_first}
use Rattle.truth.proofs.Claims.{more_may_depend}
use Rattle.truth_formula.specs.Holds.{MayDepend, TrueIf, Holds}
use Rattle.truth_formula.proofs.Entries.{literal_within}
use Rattle.truth_expand.specs.Serves.{Serves}
use Rattle.truth_expand.proofs.Expanding.{Expanding}
use Rattle.truth_expand.proofs.Playing.{expanding_keeps}
use Rattle.truth_expand.proofs.Numbers.{member_copy, copy_member, original_of, original_low, original_copy, copy_original, original_out}
use Rattle.truth_expand.proofs.Order.{order, Marked, in_marked, order_joined, marked_joined}
use Rattle.truth_expand.proofs.Levels.{earlier_level, level_earlier, marked_universal, unnamed_universal, universal_named, behind_named}
use Rattle.truth_expand.proofs.Placing.{with_own, with_copy_lem, with_cases, placed_cases, placed_earlier, placed_distinct, order_expanded, marked_expanded}
use Rattle.truth_expand.proofs.Named.{named_once}
use Rattle.truth_expand.proofs.Tables.{blocks_expanded, clauses_expanded}

module _ (f : Formula) (x : ℕ) (members : List ℕ) (u : universal f.n f.prefix x ≡ true) (serves : Serves f x members)
    (sound : SoundPrefix f.n f.prefix) (table : None (ClauseCause f.n f.clauses)) where
  abbrev es : List ℕ
  es = f.prefix

  abbrev copy : ℕ → ℕ
  copy = copy_of f.n members

  abbrev es' : List ℕ
  es' = expanded_prefix x (copy_of f.n members) f.prefix

  abbrev n' : ℕ
  n' = f.n + length members

  once : Distinct (order (blocks es))
  once = (named_once sound).once

  -- The order of what the new blocks name, and that they name nothing twice.
  order_is : order (blocks es') ≡ placed x copy (order (blocks es))
  order_is = ap order (blocks_expanded x copy es) ∙ order_joined (map (expanded_block x copy) (blocks es)) ∙ order_expanded x copy (blocks es)

  once' : Distinct (order (blocks es'))
  once' =
      let copies = numbered f.n members in
      rw order_is (placed_distinct x copy f.n copies.over copies.one (order (blocks es)) (λ v i. ((named_once sound).within v i).1) once)

  -- What is kept and what is a copy has its quantifier.
  quantifier : {v w : ℕ} → v ≢ x → Memᴰ v (order (blocks es)) → Memᴰ w (with_copy copy v) → is_universal es' w ≡ is_universal es v
  quantifier {v} {w} k i j =
      let (m, marked) = in_marked (blocks es) i in
      let marked' : Marked m w (blocks es') = rw (blocks_expanded x copy es) (marked_joined (marked_expanded x copy k j marked)) in
      marked_universal es' once' marked' ∙ sym (marked_universal es once marked)

  -- what is one of 1 to n is named only if it was
  named_own : {v : ℕ} → v ≤ f.n → Memᴰ v (order (blocks es')) → Memᴰ v (order (blocks es))
  named_own {v} l i =
      let (w, j, _, h) = placed_cases x copy (order (blocks es)) (rw order_is at i) in
      ⊎_elim (λ q. subst (λ (k : ℕ). Memᴰ k (order (blocks es))) (sym q) j)
      (λ q. let over = (numbered f.n members).over w q.1 in let e = q.0 in absurd (omega arith)) (with_cases x copy w h)

  quantifier_kept : (v : ℕ) → v ≢ x → v ≤ f.n → is_universal es' v ≡ is_universal es v
  quantifier_kept v k l = by_cases (member? ℕ_discrete v (order (blocks es)))
      (λ i. quantifier k i (with_own x copy v))
      (λ m. unnamed_universal es' once' (λ i. m (named_own l i)) ∙ sym (unnamed_universal es once m))

  -- An existential is no x, and one of 1 to n.
  not_x : (v : ℕ) → is_existential f.n es v ≡ true → v ≢ x
  not_x v e q = clash e (ap (is_existential f.n es) q ∙ (universal_alone f.n es x u).universal)

  existential_is : {v : ℕ} → is_existential f.n es v ≡ true → (1 ≤ v) × (v ≤ f.n) × (is_universal es v ≡ false)
  unfolding is_existential
  existential_is {v} e = let (a, b, t) = flag_within f.n v (not (is_universal es v)) e in (a, b, not-true (is_universal es v) t)

  -- A variable with a copy is a member, and so named.
  member_uses : (y : ℕ) → copy y ≢ 0 → MayUse (is_existential f.n es) (MayDepend f) x y
  member_uses y c =
      let i = copy_member (suc f.n) members y c in record { existential = serves.existential y i; allowed = serves.may_depend y i }

  member_named : (y : ℕ) → copy y ≢ 0 → Memᴰ y (order (blocks es))
  member_named y c = behind_named es once x (universal_within f.n es x u).2 (member_uses y c).allowed.deeper

  -- Of a universal z and an existential y, or its copy y', the one is before the other exactly if it was.
  module _ (z y y' : ℕ) (ey : is_existential f.n es y ≡ true) (iy : Memᴰ y (order (blocks es))) (like : Memᴰ y' (with_copy copy y))
      (uz : is_universal es z ≡ true) (zx : z ≢ x) where
    differ : is_universal es z ≢ is_universal es y
    differ q = clash uz (q ∙ (existential_is ey).2)

    differ' : is_universal es' z ≢ is_universal es' y'
    differ' q = differ (sym (quantifier zx (universal_named es once uz) (with_own x copy z)) ∙ q ∙ quantifier (not_x y ey) iy like)

    level_onward : level es z < level es y → level es' z < level es' y'
    level_onward l =
        let before = level_earlier es once (universal_named es once uz) iy differ l in
        earlier_level es' once' (rw order_is (placed_earlier x copy zx (not_x y ey) (with_own x copy z) like before)) differ'

    level_back : level es' z < level es' y' → level es z < level es y
    level_back l = ⊎_elim (λ e. earlier_level es once e differ) (λ e. absurd (other_way e))
        (one_first (λ q. differ (ap (is_universal es) q)) (universal_named es once uz) iy)
      where
        other_way : Earlier y z (order (blocks es)) → ⊥
        other_way e =
            let behind : Earlier y' z (order (blocks es')) = rw order_is (placed_earlier x copy (not_x y ey) zx like (with_own x copy z) e) in
            let k = earlier_level es' once' behind (λ q. differ' (sym q)) in
            omega arith

  -- A universal of the one, but x, is a universal of the other.
  universal_onward : (z : ℕ) → z ≢ x → universal f.n es z ≡ true → (is_existential n' es' z ≡ false) × (universal n' es' z ≡ true)
  unfolding is_existential universal
  universal_onward z zx t =
      let (a, b, uz) = universal_within f.n es z t in
      let q = quantifier_kept z zx b ∙ uz in (
        flag_in n' z (not (is_universal es' z)) (λ k. omega arith) (omega arith) ∙ ap not q,
        flag_in n' z (is_universal es' z) (λ k. omega arith) (omega arith) ∙ q,
      )

  universal_back : (z : ℕ) → universal n' es' z ≡ true → (universal f.n es z ≡ true) × (z ≢ x) × (is_universal es z ≡ true)
  unfolding universal
  universal_back z t =
      let uz = (universal_within n' es' z t).2 in
      let (v, i, vx, h) = placed_cases x copy (order (blocks es)) (rw order_is at (universal_named es' once' uz)) in
      let q = quantifier vx i h in
      ⊎_elim
      (λ e. let (a, b) = (named_once sound).within v i in
      let own = ap (is_universal es) e ∙ sym q ∙ uz in
      (flag_in f.n z (is_universal es z) (λ k. omega arith) (omega arith) ∙ own, (λ s. vx (sym e ∙ s)), own))
      (λ e. absurd (clash uz (q ∙ (existential_is (member_uses v e.1).existential).2))) (with_cases x copy v h)

  universal_not : (z : ℕ) → universal f.n es z ≡ true → is_existential f.n es z ≡ false
  universal_not z t = (universal_alone f.n es z t).universal

  -- Quantifiers within the new count.
  kept_existential : (v : ℕ) → v ≢ x → original_of f.n members v ≡ 0 → is_existential n' es' v ≡ is_existential f.n es v
  unfolding is_existential
  kept_existential v k o = by_cases (ℕ_discrete v 0)
      (λ z. flag_none n' v (not (is_universal es' v)) z ∙ sym (flag_none f.n v (not (is_universal es v)) z))
      (λ z. by_cases (dec_le v f.n)
      (λ l. flag_in n' v (not (is_universal es' v)) z (omega arith) ∙ ap not (quantifier_kept v k l) ∙ sym (flag_in f.n v (not (is_universal es v)) z l))
      (λ m. let over = original_out f.n members v nonzero o (omega arith) in
      flag_over n' v (not (is_universal es' v)) over ∙ sym (flag_over f.n v (not (is_universal es v)) (omega arith))))
    where
      nonzero : (w : ℕ) → Memᴰ w members → w ≢ 0
      nonzero w i q = let (a, _, _) = existential_is {v = w} (serves.existential w i) in omega arith

  copy_existential : (w : ℕ) → original_of f.n members w ≢ 0 → is_existential n' es' w ≡ true
  unfolding is_existential
  copy_existential w o =
      let v = original_of f.n members w in
      let (is, over, most) = copy_original f.n members w serves.ascending o in
      let c : copy v ≢ 0 = λ z. omega arith in
      let e = (member_uses v c).existential in
      let i : Memᴰ w (with_copy copy v) = subst (λ (k : ℕ). Memᴰ k (with_copy copy v)) is (with_copy_lem x copy v c) in
      flag_in n' w (not (is_universal es' w)) (λ z. omega arith) most
      ∙ ap not (quantifier (not_x v e) (member_named v c) i ∙ (existential_is e).2)

  narrowed_to_copies : Holds f → TrueIf f (NarrowedAt x (λ y. copy y ≢ 0) (MayDepend f))
  narrowed_to_copies t =
      more_may_depend (λ z y g e p. (p.0, λ q. member_copy (suc f.n) (λ k. omega arith) (p.1 q))) (serves.narrowed t)

  expanding : Expanding (is_existential f.n es) (is_existential n' es') (MayDepend f) (MayDepend (expanded_with n' x copy f)) x copy (clauses f.clauses)
  expanding =
      record {
        universal = universal_not x u;
        member = member_uses;
        narrowed = narrowed_to_copies;
        original = original_of f.n members;
        of_copy = λ v c. (original_copy f.n members v c, λ z. let (a, _, _) = existential_is (member_uses v c).existential in omega arith);
        copy_of_lem = λ w o. let (is, over, _) = copy_original f.n members w serves.ascending o in (is, λ z. omega arith);
        fresh_x = original_low f.n members x (universal_within f.n es x u).1;
        fresh_ex = λ v e. original_low f.n members v (existential_is e).1;
        fresh = λ clause l m i. original_low f.n members (variable_of l) (literal_within table clause m l i).1;
        kept = kept_existential;
        copied = copy_existential;
        onward = λ z y g zx e b.
            let (ez, uz') = universal_onward z zx b.universal in
            let uz = (universal_within f.n es z b.universal).2 in
            let iy = behind_named es once z uz b.deeper in (
              ez,
              record { universal = uz'; deeper = level_onward z y y e iy (with_own x copy y) uz zx b.deeper },
              λ c. record { universal = uz'; deeper = level_onward z y (copy y) e iy (with_copy_lem x copy y c) uz zx b.deeper },
            );
        back = λ z y g e b.
            let (tz, zx, uz) = universal_back z b.universal in
            let behind = behind_named es' once' z (universal_within n' es' z b.universal).2 b.deeper in
            let iy = named_own (existential_is e).1 behind in
            (universal_not z tz, record { universal = tz; deeper = level_back z y y e iy (with_own x copy y) uz zx b.deeper });
        back_copy = λ z y g c b.
            let (tz, zx, uz) = universal_back z b.universal in
            let e = (member_uses y c).existential in
            (universal_not z tz, record { universal = tz; deeper = level_back z y (copy y) e (member_named y c) (with_copy_lem x copy y c) uz zx b.deeper });
      }

  by_copies : Holds f ↔ Holds (expanded_with n' x copy f)
  by_copies = rw (clauses_expanded x copy f.clauses table) (expanding_keeps expanding)

  pub expansion_holds : Holds f ↔ Holds (expanded_by f x members)
  expansion_holds = subst (λ (g : Formula). Holds f ↔ Holds g) (expanded_same x members f) by_copies
