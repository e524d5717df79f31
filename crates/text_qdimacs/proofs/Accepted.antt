-- Tables that check accepts can be written, and read back: each block and each clause is closed, and every number has at most five digits.
use Prim.Native.Nat.{ℕ, zero, suc, ◌+◌, ◌-◌, ◌≤◌, ◌<◌}
use mathlib.Core.Path.{◌≡◌, refl, sym, ap, ◌∙◌, subst}
use mathlib.Core.Bool.{Bool, true, false}
use mathlib.Core.List.{List, [], ◌∷◌}
use mathlib.Core.Logic.{◌≢◌, ◌⊎◌, inl, inr, ⊎_elim}
use native.Mathlib.Decide.{ℕ_discrete}
use native.Mathlib.Omega.{arith}
use borrow.Author.Tests.{eq-eqb, ne_eqb, eqb-false}
use lib.Dec.{eqb}
use lib.IntN.{ℤ, pos, nat_abs}
use lib.ListN.{length, drop, drop_of_length-le}
use lib.Seq.{drop-cons}
use Rattle.terms.specs.Literals.{variable_of}
use Rattle.terms.proofs.Common.{by_test}
use Rattle.terms.specs.Refusals.{None, NoneOf}
use Rattle.formula.specs.Tables.{at, literal_at, opens, EndsInside}
use Rattle.formula.specs.Causes.{PrefixCause, ClauseCause}
use Rattle.formula.specs.Lent.{Formula}
use Rattle.formula_rules.specs.Rules.{JoinedCause, check_order}
use Rattle.formula_rules.proofs.Orders.{limits, by_rule}
use Rattle.formula_rules.proofs.Passing.{Passes, no_more, begin, go_on, close_block, name, passes, mark_is as joined-mark}
use Rattle.formula.proofs.Scanned.{open_end}
use Rattle.formula.proofs.Literals.{no_variable}
use Rattle.text_write.specs.InnerBytes.{SmallEntries, SmallLiterals}
use Rattle.text_qdimacs.proofs.Holdable.{Blocks, no_block, block, block_end, variable, Clauses, no_clause, clause_end, literal, Holdable}
use Rattle.text_write.proofs.Stores.{count_most}

-- Numbers in groups, each closed by 0, are of any family G that has these: no group, the first number of one, the closing 0, and a later number.
module _ (es : List ℕ) (G : Bool → List ℕ → Type 0) (empty : G true [])
    (first : (i : ℕ) → i < length es → opens es i ≡ true → (at es i ≢ 0) × ((more : List ℕ) → G false more → G true (at es i ∷ more)))
    (closing : (more : List ℕ) → G true more → G false (0 ∷ more))
    (later : (i : ℕ) → i < length es → opens es i ≡ false → at es i ≢ 0 → (more : List ℕ) → G false more → G false (at es i ∷ more))
    (ends : (i : ℕ) → length es ≡ i → opens es i ≡ false → ⊥) where
  -- from an entry on, by whether a group may open there
  pub groups_from : (m i : ℕ) → length es ≡ i + m → G (opens es i) (drop i es)
  groups_from zero i q =
      by_test (opens es i) (λ t. subst (λ b. G b (drop i es)) (sym t) (subst (G true) (sym (drop_of_length-le es {i = i} (omega arith))) empty))
      (λ f. absurd (ends i (omega arith) f))
  groups_from (suc m) i q = let more : i < length es = omega arith in step more (groups_from m (suc i) (omega arith))
    where
      tail : List ℕ
      tail = drop (suc i) es

      step : i < length es → G (opens es (suc i)) tail → G (opens es i) (drop i es)
      step more rest =
          subst (G (opens es i)) (sym (drop-cons es i 0 more))
          (by_test (opens es i)
          (λ t. subst (λ b. G b (at es i ∷ tail)) (sym t) (begins (first i more t)))
          (λ f. subst (λ b. G b (at es i ∷ tail)) (sym f) (goes_on f (ℕ_discrete (at es i) 0))))
        where
          begins : (at es i ≢ 0) × ((more : List ℕ) → G false more → G true (at es i ∷ more)) → G true (at es i ∷ tail)
          begins (some, front) = front tail (subst (λ b. G b tail) (ne_eqb (at es i) 0 some) rest)

          goes_on : opens es i ≡ false → Dec (at es i ≡ 0) → G false (at es i ∷ tail)
          goes_on f (yes z) = subst (λ v. G false (v ∷ tail)) (sym z) (closing tail (subst (λ b. G b tail) (eq-eqb (at es i) 0 z) rest))
          goes_on f (no some) = later i more f some tail (subst (λ b. G b tail) (ne_eqb (at es i) 0 some) rest)

module _ {n : ℕ} {es : List ℕ} (few : n ≤ 4096) (none : None (PrefixCause n es)) where
  -- an accepted mark is 1 or 2, and an accepted variable is at most n
  mark_is : (i : ℕ) → i < length es → opens es i ≡ true → (at es i ≡ 1) ⊎ (at es i ≡ 2)
  mark_is i more open' = go (ℕ_discrete (at es i) 1) (ℕ_discrete (at es i) 2)
    where
      go : Dec (at es i ≡ 1) → Dec (at es i ≡ 2) → (at es i ≡ 1) ⊎ (at es i ≡ 2)
      go (yes q) d = inl q
      go (no a) (yes q) = inr q
      go (no a) (no b) = absurd (none 4 i (PrefixCause.no_mark refl (more, open') a b))

  variable_most : (i : ℕ) → i < length es → opens es i ≡ false → at es i ≢ 0 → at es i < 100000
  variable_most i more shut some = let low : ¬ (n < at es i) = λ over. none 7 i (PrefixCause.outside refl (more, shut, some) over) in omega arith

  nonzero : {v : ℕ} → (v ≡ 1) ⊎ (v ≡ 2) → v ≢ 0
  nonzero (inl one) z = omega arith
  nonzero (inr two) z = omega arith

  accepted_blocks : Blocks true es
  accepted_blocks =
      groups_from es Blocks no_block (λ i more t. (nonzero (mark_is i more t), λ tail b. block (mark_is i more t) b)) (λ tail b. block_end b)
      (λ i more f some tail b. variable some (variable_most i more f some) b)
      (λ i q f. none 3 (length es) (PrefixCause.ends_inside refl refl (open_end es i (omega arith) f))) (length es) 0 (omega arith)

  pub small_entries : SmallEntries es
  small_entries i more = by_test (opens es i) (λ t. marked (mark_is i more t)) (λ f. named f (ℕ_discrete (at es i) 0))
    where
      marked : (at es i ≡ 1) ⊎ (at es i ≡ 2) → at es i < 100000
      marked (inl one) = omega arith
      marked (inr two) = omega arith

      named : opens es i ≡ false → Dec (at es i ≡ 0) → at es i < 100000
      named f (yes z) = omega arith
      named f (no some) = variable_most i more f some

-- a clause may begin at entry i
begins : List ℤ → ℕ → Bool
begins ls zero = true
begins ls (suc e) = eqb (variable_of (literal_at ls e)) 0

inside_end : (ls : List ℤ) (m : ℕ) → length ls ≡ m → begins ls m ≡ false → EndsInside (pos 0) ls
unfolding begins
inside_end ls zero q f = absurd (let z : ◌≡◌ {A = ℕ} 0 1 = cc in omega arith)
inside_end ls (suc m) q f =
    let last : length ls - 1 ≡ m = omega arith in
    (omega arith, λ z. eqb-false _ 0 f (ap (λ e. variable_of (literal_at ls e)) (sym last) ∙ ap variable_of z))

module _ {n : ℕ} {ls : List ℤ} (few : n ≤ 4096) (none : None (ClauseCause n ls)) where
  literal_most : (i : ℕ) → i < length ls → nat_abs (literal_at ls i) < 100000
  literal_most i more = go (ℕ_discrete (variable_of (literal_at ls i)) 0)
    where
      go : Dec (variable_of (literal_at ls i) ≡ 0) → nat_abs (literal_at ls i) < 100000
      go (yes z) = omega arith
      go (no some) =
          let low : ¬ (n < variable_of (literal_at ls i)) = λ over. none 10 i (ClauseCause.outside refl more (λ q. some (ap variable_of q)) over) in
          omega arith

  clauses_from : (m i : ℕ) → length ls ≡ i + m → Clauses (begins ls i) (drop i ls)
  unfolding begins
  clauses_from zero i q =
      by_test (begins ls i)
      (λ t. subst (λ b. Clauses b (drop i ls)) (sym t) (subst (Clauses true) (sym (drop_of_length-le ls {i = i} (omega arith))) no_clause))
      (λ f. absurd (none 11 (length ls) (ClauseCause.ends_inside refl refl (inside_end ls i (omega arith) f))))
  clauses_from (suc m) i q =
      let more : i < length ls = omega arith in step more (clauses_from m (suc i) (omega arith)) (ℕ_discrete (variable_of (literal_at ls i)) 0)
    where
      step : i < length ls → Clauses (begins ls (suc i)) (drop (suc i) ls) → Dec (variable_of (literal_at ls i) ≡ 0) → Clauses (begins ls i) (drop i ls)
      step more rest (yes z) =
          subst (Clauses (begins ls i)) (sym (drop-cons ls i (pos 0) more ∙ ap (λ v. v ∷ drop (suc i) ls) (no_variable (literal_at ls i) z)))
          (clause_end (subst (λ b. Clauses b (drop (suc i) ls)) (eq-eqb (variable_of (literal_at ls i)) 0 z) rest))
      step more rest (no some) =
          subst (Clauses (begins ls i)) (sym (drop-cons ls i (pos 0) more))
          (literal some (literal_most i more) (subst (λ b. Clauses b (drop (suc i) ls)) (ne_eqb (variable_of (literal_at ls i)) 0 some) rest))

  pub small_literals : SmallLiterals ls
  small_literals i more = literal_most i more

-- Every entry of a prefix that rule 2 accepts has at most five digits ...
small_two : {n : ℕ} {es : List ℕ} → n ≤ 4096 → None (JoinedCause n es) → SmallEntries es
small_two {n} {es} few none i more =
    by_test (opens es i) (λ t. ⊎_elim (λ (one : at es i ≡ 1). omega arith) (λ (two : at es i ≡ 2). omega arith) (joined-mark none i more t))
    (λ f. named f (ℕ_discrete (at es i) 0))
  where
    named : opens es i ≡ false → Dec (at es i ≡ 0) → at es i < 100000
    named f (yes z) = omega arith
    named f (no some) = let low : ¬ (n < at es i) = λ over. none 7 i (JoinedCause.outside refl (more, f, some) over) in omega arith

-- ... and its blocks are such as a text can hold.
blocks_two : {n : ℕ} {opening : Bool} {last count : ℕ} {names es : List ℕ} → n ≤ 4096 → Passes n opening last count names es → Blocks opening es
blocks_two few no_more = no_block
blocks_two few (begin good new room d) = block good (blocks_two few d)
blocks_two few (go_on good old d) = block good (blocks_two few d)
blocks_two few (close_block d) = block_end (blocks_two few d)
blocks_two few (name some low new d) = variable some (omega arith) (blocks_two few d)

-- So are those of a formula that either rule accepts.
module _ (rule : ℕ) (f : Formula) (none : NoneOf (check_order rule f)) where
  pub small : SmallEntries f.prefix × SmallLiterals f.clauses
  small =
      let (few, _, _) = limits rule f none in (
        ⊎_elim (λ (one : None (PrefixCause f.n f.prefix)). small_entries few one) (λ (two : None (JoinedCause f.n f.prefix)). small_two few two)
            (by_rule rule f none),
        small_literals few none.1.1.1.1.0,
      )

  pub holdable : Holdable f.n f.prefix f.clauses
  unfolding begins
  holdable =
      let (few, _, short) = limits rule f none in
      let count = count_most f.clauses in
      record {
        number = omega arith;
        count = omega arith;
        blocks =
            ⊎_elim (λ (one : None (PrefixCause f.n f.prefix)). accepted_blocks few one)
            (λ (two : None (JoinedCause f.n f.prefix)). blocks_two few (passes two)) (by_rule rule f none);
        all_clauses = clauses_from few none.1.1.1.1.0 (length f.clauses) 0 (omega arith);
      }
