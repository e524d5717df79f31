-- Where rule 1 accepts a prefix, so does rule 2, and reads it as it stands: everything then agrees (rule 6.3).
use Rattle.terms.specs.Says.{Verdict}
use Prim.Native.Nat.{ℕ, zero, suc, ◌≤◌, ◌<◌, ◌+◌}
use mathlib.Core.Path.{◌≡◌, refl, sym, ap, ◌∙◌, subst}
use mathlib.Core.Bool.{Bool, true, false, cond, not, ◌&&◌}
use mathlib.Core.List.{List, [], ◌∷◌, ◌++◌, append-nil}
use mathlib.Core.Logic.{◌⊎◌, inl, inr, ⊎_elim, ◌≢◌, ◌↔◌}
use native.Mathlib.Decide.{ℕ_discrete}
use native.Mathlib.Numerals.{add-one}
use native.Mathlib.Omega.{arith}
use borrow.Author.Tests.{eq-eqb, ne_eqb, eqb-true, ltb-true}
use lib.Dec.{eqb, ltb}
use lib.ListN.{length, get_or, drop, drop_of_length-le, set, replicate}
use lib.Seq.{drop-cons}
use Rattle.terms.specs.Refusals.{Causes, None, NoneOf, Judged}
use Rattle.terms.proofs.Common.{clash, by_test}
use Rattle.terms.proofs.Verdicts.{at0_none, judged_unique}
use Rattle.formula.specs.Causes.{PrefixCause, ClauseCause}
use Rattle.formula.specs.Lent.{Formula}
use Rattle.formula.specs.InnerScan.{IsMark, MarkFault}
use Rattle.formula.specs.Tables.{at, opens, marks_before}
use Rattle.formula.proofs.Scanned as first
use Rattle.formula_rules.specs.Joined.{joined_prefix}
use Rattle.formula_rules.specs.Rules.{read_as, JoinedCause, ruled_prefix, check_order}
use Rattle.formula_rules.specs.InnerScan.{empty_at, begins_after, last_mark, begun_before}
use Rattle.formula_rules.specs.InnerWriting.{closing}
use Rattle.formula_rules.proofs.Begun.{begun_joined}
use Rattle.formula_rules.proofs.Scanned.{mark_some}
use Rattle.formula_rules.proofs.Passing.{starts_zero, new_mark, starts_empty, passes}
use Rattle.formula_rules.proofs.Rest.{rest, rest_joined}
use Rattle.terms.proofs.Orders.{Carries, carry_judged, exchanged}

-- what a mark is judged to be, in the scan of rule 1
judge : (entry mark count : ℕ) → MarkFault entry mark count 0 ⊎ ((number : ℕ) × (number ≢ 0) × MarkFault entry mark count number)
judge entry mark count = kind (ℕ_discrete entry 1) (ℕ_discrete entry 2)
  where
    good : IsMark entry → Dec (entry ≡ mark) → Dec (count ≡ 64) → MarkFault entry mark count 0 ⊎ ((number : ℕ) × (number ≢ 0) × MarkFault entry mark count number)
    good is (yes same) d = inr (5, λ z. omega arith, MarkFault.same_mark refl is same)
    good is (no other) (yes many) = inr (6, λ z. omega arith, MarkFault.too_many refl is other many)
    good is (no other) (no few) = inl (MarkFault.fine refl is other few)

    kind : Dec (entry ≡ 1) → Dec (entry ≡ 2) → MarkFault entry mark count 0 ⊎ ((number : ℕ) × (number ≢ 0) × MarkFault entry mark count number)
    kind (yes one) d = good (inl one) (ℕ_discrete entry mark) (ℕ_discrete count 64)
    kind (no a) (yes two) = good (inr two) (ℕ_discrete entry mark) (ℕ_discrete count 64)
    kind (no a) (no b) = inr (4, λ z. omega arith, MarkFault.no_mark refl a b)

fine_mark : {entry mark count : ℕ} → MarkFault entry mark count 0 → IsMark entry × (entry ≢ mark)
fine_mark (MarkFault.fine _ good other _) = (good, other)
fine_mark (MarkFault.no_mark q _ _) = absurd (omega arith)
fine_mark (MarkFault.same_mark q _ _) = absurd (omega arith)
fine_mark (MarkFault.too_many q _ _ _) = absurd (omega arith)

module _ {n : ℕ} {es : List ℕ} (few : n ≤ 4096) (none : None (PrefixCause n es)) where
  -- a block is not empty
  full : (i : ℕ) → i < length es → opens es i ≡ true → at es i ≢ 0 → starts_zero (drop (suc i) es) ≡ false
  full i more open' some = by_test (empty_at es i) empty (λ f. starts_empty es i ∙ f)
    where
      empty : empty_at es i ≡ true → starts_zero (drop (suc i) es) ≡ false
      empty t =
          by_test (ltb (suc i) (length es))
          (λ l. by_test (eqb (at es (suc i)) 0) (λ z. absurd
          (none 9 (suc i) (PrefixCause.empty_block i refl refl (more, open')
          (ltb-true (suc i) (length es) l, ne_eqb (at es i) 0 some, eqb-true (at es (suc i)) 0 z)))) (λ f. absurd (clash t (ap
          (λ b. ltb (suc i) (length es) && b) f ∙ ap (λ b. b && false) l))))
          (λ f. absurd (clash t (ap (λ b. b && eqb (at es (suc i)) 0) f)))

  -- What is left to write is what is left of the prefix, behind the 0 of the open block, which is not written yet.
  left : Bool → ℕ → List ℕ → List ℕ
  left true mark more = closing mark ++ more
  left false mark more = more

  closed : (mark : ℕ) (more : List ℕ) → mark ≢ 0 → closing mark ++ more ≡ 0 ∷ more
  unfolding closing
  closed zero more some = absurd (some refl)
  closed (suc mark) more some = refl

  same_from : (m i : ℕ) (opening fresh : Bool) (mark count : ℕ) (named : List Bool) → length es ≡ i + m
      → first.Scanned n es i opening fresh mark count named → (opening ≡ false → mark ≢ 0) → rest opening mark (drop i es) ≡ left opening mark (drop i es)
  unfolding rest left
  same_from zero i opening fresh mark count named q s inside =
      ap (rest opening mark) past ∙ ended opening refl ∙ sym (ap (left opening mark) past)
    where
      past : drop i es ≡ []
      past = drop_of_length-le es {i = i} (omega arith)

      ended : (b : Bool) → opening ≡ b → closing mark ≡ left b mark []
      ended true o = sym (append-nil (closing mark))
      ended false o = absurd (none 3 i (first.fault_at_end s (omega arith) o).holds)
  same_from (suc m) i true fresh mark count named q s inside =
      let more : i < length es = omega arith in
      let open' = sym s.opening_is in
      ⊎_elim (λ right. by_mark more open' right (same_from m (i + 1) false true (at es i) (count + 1) named (omega arith)
      (first.scan_mark s more open' right refl) (λ _. mark_some (at es i) (fine_mark right).0)))
      (λ w. let (number, wrong, fault) = w in absurd (none number i (first.fault_at_mark s more number open' fault wrong).holds))
      (judge (at es i) mark count)
    where
      by_mark : i < length es → opens es i ≡ true → MarkFault (at es i) mark count 0 → rest false (at es i) (drop (i + 1) es) ≡ drop (i + 1) es → rest true mark (drop i es) ≡ closing mark ++ drop i es
      by_mark more open' right on =
          let (good, other) = fine_mark right in
          let here = drop-cons es i 0 more in
          let on' : rest false (at es i) (drop (suc i) es) ≡ drop (suc i) es = subst (λ (k : ℕ). rest false (at es i) (drop k es) ≡ drop k es) (add-one i) on in
          let new : new_mark (at es i) mark (drop (suc i) es) ≡ true = ap (λ b. not b && not (eqb (at es i) mark))
          (full i more open' (mark_some (at es i) good)) ∙ ap not (ne_eqb (at es i) mark other) in
          ap (rest true mark) here
          ∙ ap (λ b. cond b (closing mark ++ (at es i ∷ rest false (at es i) (drop (suc i) es))) (rest false mark (drop (suc i) es))) new
          ∙ ap (λ (r : List ℕ). closing mark ++ (at es i ∷ r)) on' ∙ sym (ap (λ (r : List ℕ). closing mark ++ r) here)
  same_from (suc m) i false fresh mark count named q s inside =
      let there : i < length es = omega arith in
      let off = sym s.opening_is in
      by_entry (λ stale z. same_from m (i + 1) true fresh mark count named (omega arith) (first.scan_close s there off z stale) (λ c. absurd (clash refl c)))
      (λ some low new. same_from m (i + 1) false false mark count (set named (at es i) true) (omega arith) (first.scan_variable s there off some low few new) inside)
      (ℕ_discrete (at es i) 0)
    where
      more : i < length es
      more = omega arith

      shut : opens es i ≡ false
      shut = sym s.opening_is

      here : drop i es ≡ at es i ∷ drop (i + 1) es
      here = drop-cons es i 0 more ∙ ap (λ (k : ℕ). at es i ∷ drop k es) (sym (add-one i))

      step : (b : Bool) → eqb (at es i) 0 ≡ b → rest false mark (drop i es) ≡ cond b (rest true mark (drop (i + 1) es)) (at es i ∷ rest false mark (drop (i + 1) es))
      step b is = ap (rest false mark) here ∙ ap (λ b. cond b (rest true mark (drop (i + 1) es)) (at es i ∷ rest false mark (drop (i + 1) es))) is

      by_entry : (fresh ≡ false → at es i ≡ 0 → rest true mark (drop (i + 1) es) ≡ closing mark ++ drop (i + 1) es)
          → (at es i ≢ 0 → at es i ≤ n → get_or named (at es i) false ≡ false → rest false mark (drop (i + 1) es) ≡ drop (i + 1) es) → Dec
          (at es i ≡ 0) → rest false mark (drop i es) ≡ drop i es
      by_entry close name (yes z) =
          let stale : fresh ≡ false = by_test fresh (λ t. absurd (none 9 i (first.fault_at_close s more shut z t).holds)) (λ f. f) in
          step true (eq-eqb (at es i) 0 z) ∙ close stale z ∙ closed mark (drop (i + 1) es) (inside refl) ∙ sym (here ∙ ap (λ (e : ℕ). e ∷ drop (i + 1) es) z)
      by_entry close name (no some) =
          let over : ¬ (n < at es i) = λ l. none 7 i (PrefixCause.outside refl (more, shut, some) l) in
          let low : at es i ≤ n = omega arith in
          let new : get_or named (at es i) false ≡ false = by_test (get_or named (at es i) false)
          (λ t. absurd (let (b, l, var, same) = s.naming.names (at es i) t in none 8 i
          (PrefixCause.named_before b refl (more, shut, some) l var same))) (λ f. f) in
          step false (ne_eqb (at es i) 0 some) ∙ ap (λ (r : List ℕ). at es i ∷ r) (name some low new) ∙ sym here

  same_rest : rest true 0 es ≡ es
  unfolding left closing
  same_rest = same_from (length es) 0 true false 0 0 (replicate 4097 false) (omega arith) (first.scan_none n es) (λ shut. absurd (clash refl shut))

  -- Blocks are no more once empty ones are dropped and neighbours joined.
  marks_most : (e : ℕ) → e ≤ length es → marks_before es e ≤ 64
  marks_most zero l = omega arith
  marks_most (suc e) l = by_test (opens es e) (λ t. opened t (marks_most e (omega arith)))
      (λ f. subst (λ (k : ℕ). k ≤ 64) (sym (ap (λ o. cond o (suc (marks_before es e)) (marks_before es e)) f)) (marks_most e (omega arith)))
    where
      opened : opens es e ≡ true → marks_before es e ≤ 64 → marks_before es (suc e) ≤ 64
      opened t low =
          let other : marks_before es e ≢ 64 = λ many. none 6 e (PrefixCause.too_many_blocks refl (omega arith, t) many) in
          subst (λ (k : ℕ). k ≤ 64) (sym (ap (λ o. cond o (suc (marks_before es e)) (marks_before es e)) t)) (omega arith)

  begun_most : (e : ℕ) → begun_before es e ≤ marks_before es e
  begun_most zero = omega arith
  begun_most (suc e) = go (opens es e) (begins_after es e (last_mark es e)) (begun_most e)
    where
      go : (o b : Bool) {x y : ℕ} → x ≤ y → cond (o && b) (suc x) x ≤ cond o (suc y) y
      go true true l = omega arith
      go true false l = omega arith
      go false b l = l

  marks_some : {e : ℕ} → e < length es → (i : ℕ) → i < e → opens es i ≡ true → at es i ≢ 0
  marks_some l i less open' z = none 4 i (PrefixCause.no_mark refl (omega arith, open') (λ q. omega arith) (λ q. omega arith))

  -- So rule 2 has nothing against a prefix that rule 1 accepts,
  pub also_accepted : None (JoinedCause n es)
  also_accepted k e (JoinedCause.ends_inside q p inside) = none 3 e (PrefixCause.ends_inside refl p inside)
  also_accepted k e (JoinedCause.no_mark q m a b) = none 4 e (PrefixCause.no_mark refl m a b)
  also_accepted k e (JoinedCause.too_many_blocks q m new many) =
      let most = marks_most e (omega (arith, m.0)) in
      let least = begun_most e in
      let within = m.0 in
      let is = begun_joined es e (omega arith) (marks_some within) m.1 in
      none 6 e (PrefixCause.too_many_blocks refl m (omega arith))
  also_accepted k e (JoinedCause.outside q v over) = none 7 e (PrefixCause.outside refl v over)
  also_accepted k e (JoinedCause.named_before b q v l w same) = none 8 e (PrefixCause.named_before b refl v l w same)

  -- and reads it as it stands.
  pub same_prefix : joined_prefix es ≡ es
  same_prefix = sym (rest_joined (passes also_accepted)) ∙ same_rest

-- Where rule 1 accepts n, the lengths and the prefix, so does rule 2, and both read the same prefix.
pub both_accept : (n : ℕ) (es : List ℕ) (entries : ℕ) → NoneOf (ruled_prefix 1 n es entries) → NoneOf (ruled_prefix 2 n es entries) × (read_as 2 es ≡ read_as 1 es)
unfolding read_as
both_accept n es entries none =
    let over : ¬ (4096 < n) = λ l. none.1.0 1 0 (refl, refl, l) in
    let few : n ≤ 4096 = omega arith in
    let sound = none.1.1.1.0 in
    ((at0_none 23 (λ w. w.1 refl), (none.1.0, (none.1.1.0, (also_accepted few sound, tt)))), same_prefix few sound)

-- So every promise that holds by any order that says the same is the same under both rules.
module _ (S : List Causes → List ℕ → Type 0) (carry : (order order' : List Causes) (es : List ℕ) → Carries order order' → S order es → S order' es)
    (later : List ℕ → List Causes) (n : ℕ) (es : List ℕ) (entries : ℕ) (none : NoneOf (ruled_prefix 1 n es entries)) where
  agrees : (rule other : ℕ) → NoneOf (ruled_prefix rule n es entries) → NoneOf (ruled_prefix other n es entries) → read_as rule es ≡ read_as other es
      → S (ruled_prefix rule n es entries ++ later (read_as rule es)) (read_as rule es) → S (ruled_prefix other n es entries ++ later (read_as other es)) (read_as other es)
  agrees rule other from to same holds =
      carry (ruled_prefix rule n es entries ++ later (read_as other es)) (ruled_prefix other n es entries ++ later (read_as other es)) (read_as other es)
      (exchanged (ruled_prefix rule n es entries) (ruled_prefix other n es entries) (later (read_as other es)) from to)
      (subst (λ (read : List ℕ). S (ruled_prefix rule n es entries ++ later read) read) same holds)

  pub one_to_two : S (ruled_prefix 1 n es entries ++ later (read_as 1 es)) (read_as 1 es) → S (ruled_prefix 2 n es entries ++ later (read_as 2 es)) (read_as 2 es)
  one_to_two = let (also, same) = both_accept n es entries none in agrees 1 2 none also (sym same)

  pub two_to_one : S (ruled_prefix 2 n es entries ++ later (read_as 2 es)) (read_as 2 es) → S (ruled_prefix 1 n es entries ++ later (read_as 1 es)) (read_as 1 es)
  two_to_one = let (also, same) = both_accept n es entries none in agrees 2 1 also none same

  pub rules_agree : S (ruled_prefix 1 n es entries ++ later (read_as 1 es)) (read_as 1 es) ↔ S (ruled_prefix 2 n es entries ++ later (read_as 2 es)) (read_as 2 es)
  rules_agree = (one_to_two, two_to_one)

-- Check's promise is one of these.
pub check_agrees : (f : Formula) → NoneOf (ruled_prefix 1 f.n f.prefix (length f.clauses)) → (v : Verdict)
    → Judged (check_order 1 f) v ↔ Judged (check_order 2 f) v
check_agrees f none v =
    rules_agree (λ order read. Judged order v) (λ order order' read c judged. carry_judged order order' c v judged)
    (λ read. ClauseCause f.n f.clauses ∷ []) f.n f.prefix (length f.clauses) none

-- What check promises leaves nothing open: two verdicts that it allows for one input are equal (rule 18.1).
pub check_settled : (rule : ℕ) (f : Formula) (v w : Verdict) → Judged (check_order rule f) v → Judged (check_order rule f) w → v ≡ w
check_settled rule f = judged_unique (check_order rule f)
