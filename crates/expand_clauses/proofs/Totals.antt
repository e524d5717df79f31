-- The literal total of an expanded formula, from the input (rule 12.4): what the copies of each clause have together.
use Prim.Native.Nat.{ℕ, suc, ◌+◌, ◌-◌}
use mathlib.Core.Path.{◌≡◌, refl, sym, ap, ap₂, ◌∙◌}
use mathlib.Core.Bool.{Bool, true, false, cond, not, ◌||◌}
use mathlib.Core.List.{List, [], ◌∷◌, ◌++◌, map}
use native.Mathlib.Omega.{arith}
use borrow.Author.Tests.{eqb-true, eq-eqb}
use lib.Dec.{eqb}
use lib.IntN.{ℤ, pos, negsuc}
use lib.ListN.{length, length-map, length-append}
use Rattle.std.proofs.Math.Bool.{or-true}
use Rattle.terms.specs.Literals.{variable_of}
use Rattle.terms.proofs.Common.{clash, by_test}
use Rattle.formula.specs.Meaning.{clauses, opposite, denied, always_true}
use Rattle.expand_clauses.specs.Expansion.{made_true, satisfied, has_x, without, clause_table}
use Rattle.expand_clauses.specs.InnerCopies.{has_member, named, has_copy, copies, expanded_list, expanded_clauses}
use Rattle.expand_clauses.specs.Total.{literals, x_literals}
use Rattle.expand_clauses.specs.InnerCopies.{counts, total_of, literal_total}
use Rattle.expand_clauses.proofs.Testing.{copy_always, copy_satisfied, copy_touched, copy_first}

-- x leaves all literals but its own
without_length : (x : ℕ) (clause : List ℤ) → length (without x clause) + x_literals x clause ≡ length clause
unfolding without x_literals
without_length x [] = refl
without_length x (literal ∷ more) = by (eqb (variable_of literal) x) (without_length x more)
  where
    by : (b : Bool) → length (without x more) + x_literals x more ≡ length more
        → length (cond b (without x more) (literal ∷ without x more)) + (cond b 1 0 + x_literals x more) ≡ suc (length more)
    by true q = omega arith
    by false q = omega arith

without_none : (x : ℕ) (clause : List ℤ) → has_x x clause ≡ false → x_literals x clause ≡ 0
unfolding has_x x_literals
without_none x [] f = refl
without_none x (literal ∷ more) f = by (eqb (variable_of literal) x) f (without_none x more)
  where
    by : (b : Bool) → (b || has_x x more) ≡ false → (has_x x more ≡ false → x_literals x more ≡ 0) → cond b 1 0 + x_literals x more ≡ 0
    by true f on = absurd (clash refl f)
    by false f on = omega (arith, on f)

-- A clause with x is satisfied by one of its values; one without it by none.
module _ (x : ℕ) where
  made_none : (value : Bool) (z : ℤ) → eqb (variable_of z) x ≡ false → made_true value x z ≡ false
  unfolding made_true
  made_none true (pos v) f = f
  made_none false (pos v) f = refl
  made_none true (negsuc v) f = refl
  made_none false (negsuc v) f = f

  satisfied_none : (value : Bool) (clause : List ℤ) → has_x x clause ≡ false → satisfied value x clause ≡ false
  unfolding has_x satisfied
  satisfied_none value [] f = refl
  satisfied_none value (z ∷ more) f = by (satisfied_none value more) (eqb (variable_of z) x) refl f
    where
      by : (has_x x more ≡ false → satisfied value x more ≡ false) → (b : Bool) → eqb (variable_of z) x ≡ b → (b || has_x x more) ≡ false
          → (made_true value x z || satisfied value x more) ≡ false
      by on true q f = absurd (clash refl f)
      by on false q f = ap (λ b. b || satisfied value x more) (made_none value z q) ∙ on f

  either : (z : ℤ) → eqb (variable_of z) x ≡ true → (made_true true x z || made_true false x z) ≡ true
  unfolding made_true
  either (pos v) t = ap (λ b. b || false) t
  either (negsuc v) t = t

  satisfied_some : (clause : List ℤ) → has_x x clause ≡ true → (satisfied true x clause || satisfied false x clause) ≡ true
  unfolding has_x satisfied
  satisfied_some [] t = absurd (clash t refl)
  satisfied_some (z ∷ more) t = by (satisfied_some more) (eqb (variable_of z) x) refl t
    where
      left : (a c b d : Bool) → (a || b) ≡ true → ((a || c) || (b || d)) ≡ true
      left true c b d q = refl
      left false c true d q = or-true c
      left false c false d q = absurd (clash q refl)

      right : (a c b d : Bool) → (c || d) ≡ true → ((a || c) || (b || d)) ≡ true
      right true c b d q = refl
      right false true b d q = refl
      right false false true d q = refl
      right false false false d q = q

      by : (has_x x more ≡ true → (satisfied true x more || satisfied false x more) ≡ true) → (b : Bool) → eqb (variable_of z) x ≡ b
          → (b || has_x x more) ≡ true → ((made_true true x z || satisfied true x more) || (made_true false x z || satisfied false x more)) ≡ true
      by on true q t = left (made_true true x z) (satisfied true x more) (made_true false x z) (satisfied false x more) (either z q)
      by on false q t = right (made_true true x z) (satisfied true x more) (made_true false x z) (satisfied false x more) (on t)

  -- Two literals of x, one true and one false, are opposite; so a clause that both values satisfy is always true.
  opposite_made : (value : Bool) (a b : ℤ) → made_true value x a ≡ true → made_true (not value) x b ≡ true → opposite a b ≡ true
  unfolding made_true opposite
  opposite_made true (pos v) (pos w) p q = absurd (clash q refl)
  opposite_made true (pos v) (negsuc w) p q = eq-eqb v (suc w) (eqb-true v x p ∙ sym (eqb-true (suc w) x q))
  opposite_made true (negsuc v) b p q = absurd (clash p refl)
  opposite_made false (pos v) b p q = absurd (clash p refl)
  opposite_made false (negsuc v) (pos w) p q = eq-eqb (suc v) w (eqb-true (suc v) x p ∙ sym (eqb-true w x q))
  opposite_made false (negsuc v) (negsuc w) p q = absurd (clash q refl)

  denied_made : (value : Bool) (a : ℤ) (clause : List ℤ) → made_true value x a ≡ true → satisfied (not value) x clause ≡ true
      → denied a clause ≡ true
  unfolding denied satisfied
  denied_made value a [] p q = absurd (clash q refl)
  denied_made value a (b ∷ more) p q = by (denied_made value a more p) (made_true (not value) x b) refl q
    where
      by : (satisfied (not value) x more ≡ true → denied a more ≡ true) → (t : Bool) → made_true (not value) x b ≡ t
          → (t || satisfied (not value) x more) ≡ true → (opposite a b || denied a more) ≡ true
      by on true e q = ap (λ o. o || denied a more) (opposite_made value a b p e)
      by on false e q = ap (λ d. opposite a b || d) (on q) ∙ or-true (opposite a b)

  -- no literal is made true by both values
  one_value : (z : ℤ) → made_true true x z ≡ true → made_true false x z ≡ true → ⊥
  unfolding made_true
  one_value (pos v) e f = clash f refl
  one_value (negsuc v) e f = clash e refl

  both_always : (clause : List ℤ) → satisfied true x clause ≡ true → satisfied false x clause ≡ true → always_true clause ≡ true
  unfolding always_true satisfied
  both_always [] p q = absurd (clash p refl)
  both_always (z ∷ more) p q = by (both_always more) (made_true true x z) (made_true false x z) refl refl p q
    where
      by : (satisfied true x more ≡ true → satisfied false x more ≡ true → always_true more ≡ true) → (a b : Bool)
          → made_true true x z ≡ a → made_true false x z ≡ b → (a || satisfied true x more) ≡ true → (b || satisfied false x more) ≡ true
          → (denied z more || always_true more) ≡ true
      by on true true e f p q = absurd (one_value z e f)
      by on true false e f p q = ap (λ d. d || always_true more) (denied_made true z more e q)
      by on false true e f p q = ap (λ d. d || always_true more) (denied_made false z more f p)
      by on false false e f p q = ap (λ d. denied z more || d) (on p q) ∙ or-true (denied z more)

module _ (x : ℕ) (copy : ℕ → ℕ) where
  -- how many literals the copy of a clause with x at a value has
  abbrev share : Bool → List ℤ → ℕ
  share value clause = cond (has_copy value x copy clause) (length (without x clause)) 0

  copies_cons : (value : Bool) (clause : List ℤ) (later : List (List ℤ))
      → literals (copies value x copy (clause ∷ later)) ≡ share value clause + literals (copies value x copy later)
  unfolding copies literals
  copies_cons value clause later = by (has_copy value x copy clause)
    where
      by : (b : Bool)
          → literals (cond b (map (named value copy) (without x clause) ∷ copies value x copy later) (copies value x copy later))
          ≡ cond b (length (without x clause)) 0 + literals (copies value x copy later)
      by true = ap (λ (k : ℕ). k + literals (copies value x copy later)) (length-map (without x clause) (named value copy))
      by false = omega arith

  -- Both copies of a clause have together what it counts.
  module _ (clause : List ℤ) where
    share_is : (value b : Bool) → b ≡ has_copy value x copy clause → share value clause ≡ cond b (length (without x clause)) 0
    share_is value b q = ap (λ (t : Bool). cond t (length (without x clause)) 0) (sym q)

    shares_always : always_true clause ≡ true → share false clause + share true clause ≡ counts x copy clause
    unfolding counts
    shares_always t =
        ap₂ ◌+◌ (share_is false false (copy_always false x copy clause t)) (share_is true false (copy_always true x copy clause t))
        ∙ sym (ap (λ b. cond b 0 (cond (has_x x clause) (length clause - x_literals x clause)
        (cond (has_member copy clause) (length clause + length clause) (length clause)))) t)

    module _ (f : always_true clause ≡ false) where
      counted : counts x copy clause ≡ cond (has_x x clause) (length clause - x_literals x clause)
          (cond (has_member copy clause) (length clause + length clause) (length clause))
      unfolding counts
      counted =
          ap (λ b. cond b 0 (cond (has_x x clause) (length clause - x_literals x clause)
          (cond (has_member copy clause) (length clause + length clause) (length clause)))) f

      counted_x : has_x x clause ≡ true → counts x copy clause ≡ length (without x clause)
      counted_x h =
          let q = without_length x clause in
          let r : length clause - x_literals x clause ≡ length (without x clause) = omega arith in
          counted
          ∙ ap (λ b. cond b (length clause - x_literals x clause) (cond (has_member copy clause) (length clause + length clause) (length clause))) h
          ∙ r

      shares_true : has_x x clause ≡ true → satisfied true x clause ≡ true → share false clause + share true clause ≡ counts x copy clause
      shares_true h s =
          let none : satisfied false x clause ≡ false = by_test (satisfied false x clause) (λ t. absurd (clash (both_always x clause s t) f)) (λ e. e) in
          let r : length (without x clause) + 0 ≡ length (without x clause) = omega arith in
          ap₂ ◌+◌ (share_is false true (copy_first false x copy clause f none refl)) (share_is true false (copy_satisfied true x copy clause f s))
          ∙ r ∙ sym (counted_x h)

      shares_false : has_x x clause ≡ true → satisfied true x clause ≡ false → share false clause + share true clause ≡ counts x copy clause
      shares_false h s =
          let one : satisfied false x clause ≡ true = sym (ap (λ b. b || satisfied false x clause) s) ∙ satisfied_some x clause h in
          let r : 0 + length (without x clause) ≡ length (without x clause) = omega arith in
          ap₂ ◌+◌ (share_is false false (copy_satisfied false x copy clause f one))
          (share_is true true (copy_touched true x copy clause f s refl (sym (ap (λ b. b || has_member copy clause) h))))
          ∙ r ∙ sym (counted_x h)

      shares_without : has_x x clause ≡ false → share false clause + share true clause ≡ counts x copy clause
      shares_without h =
          ap₂ ◌+◌ (share_is false true (copy_first false x copy clause f (satisfied_none x false clause h) refl))
          (share_is true (has_member copy clause)
          (copy_touched true x copy clause f (satisfied_none x true clause h) refl (sym (ap (λ b. b || has_member copy clause) h))))
          ∙ by (has_member copy clause)
          ∙ sym (counted
          ∙ ap (λ b. cond b (length clause - x_literals x clause) (cond (has_member copy clause) (length clause + length clause) (length clause))) h)
        where
          all : length (without x clause) ≡ length clause
          all = let q = without_length x clause in let r = without_none x clause h in omega arith

          by : (b : Bool) → length (without x clause) + cond b (length (without x clause)) 0 ≡ cond b (length clause + length clause) (length clause)
          by true = ap₂ ◌+◌ all all
          by false = omega (arith, all)

    shares : share false clause + share true clause ≡ counts x copy clause
    shares =
        by_test (always_true clause) shares_always
        (λ f. by_test (has_x x clause) (λ h. by_test (satisfied true x clause) (shares_true f h) (shares_false f h)) (shares_without f))

  total_of_lem : (cs : List (List ℤ)) → literals (copies false x copy cs) + literals (copies true x copy cs) ≡ total_of x copy cs
  unfolding copies literals total_of
  total_of_lem [] = refl
  total_of_lem (clause ∷ later) =
      let a = copies_cons false clause later in
      let b = copies_cons true clause later in
      let s = shares clause in
      let r = total_of_lem later in
      omega arith

-- some clauses and others after them
literals_append : (cs ds : List (List ℤ)) → literals (cs ++ ds) ≡ literals cs + literals ds
unfolding literals
literals_append [] ds = omega arith
literals_append (c ∷ cs) ds = let q = literals_append cs ds in omega arith

-- The literal total of the result is that of the input.
pub literal_total_lem : (x : ℕ) (copy : ℕ → ℕ) (ls : List ℤ) → literals (expanded_list x copy ls) ≡ literal_total x copy ls
unfolding expanded_list literal_total
literal_total_lem x copy ls = literals_append (copies false x copy (clauses ls)) (copies true x copy (clauses ls)) ∙ total_of_lem x copy (clauses ls)

table_length : (cs : List (List ℤ)) → length (clause_table cs) ≡ literals cs + length cs
unfolding clause_table literals
table_length [] = refl
table_length (c ∷ cs) = let q = table_length cs in let r = length-append c (pos 0 ∷ clause_table cs) in omega arith

-- So the clause table has that many entries and one more for each clause.
pub entries_total : (x : ℕ) (copy : ℕ → ℕ) (ls : List ℤ)
    → length (expanded_clauses x copy ls) ≡ literal_total x copy ls + length (expanded_list x copy ls)
unfolding expanded_clauses
entries_total x copy ls = table_length (expanded_list x copy ls) ∙ ap (λ (k : ℕ). k + length (expanded_list x copy ls)) (literal_total_lem x copy ls)
