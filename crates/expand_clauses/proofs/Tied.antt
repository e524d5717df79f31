-- The expanded formula by the members of a list, and by the numbers of their copies: one formula, block by block and clause by clause; and so the literal
-- total of the one is that of the other.
use Prim.Native.Nat.{ℕ, suc, ◌+◌, ◌-◌}
use mathlib.Core.Path.{◌≡◌, refl, sym, ap, ◌∙◌}
use mathlib.Core.Bool.{Bool, true, false, cond, not, ◌&&◌, ◌||◌}
use mathlib.Core.List.{List, [], ◌∷◌, ◌++◌, map}
use native.Mathlib.Omega.{arith}
use borrow.Author.Tests.{eq-eqb, ne_eqb}
use lib.Dec.{eqb}
use lib.IntN.{ℤ, pos, negsuc, neg_ℤ}
use lib.ListN.{length}
use Rattle.terms.specs.Literals.{variable_of}
use Rattle.formula.specs.Meaning.{blocks, clauses, always_true}
use Rattle.formula_rules.specs.Joined.{joined_blocks, table_of}
use Rattle.expand_clauses.specs.Expansion.{is_member, member_number, copy_of, satisfied, has_x, without, clause_table}
use Rattle.expand_clauses.specs.Expansion as plain
use Rattle.expand_clauses.specs.Total.{literals, x_literals}
use Rattle.expand_clauses.specs.Total as total
use Rattle.expand_clauses.specs.InnerCopies as inner
use Rattle.expand_clauses.proofs.Totals.{literal_total_lem, entries_total}

-- The number that a variable has, with its copy or without, from any number on.
number_from : (next : ℕ) (members : List ℕ) (v : ℕ) → inner.copy_from next members v ≡ cond (is_member members v) (next + member_number members v) 0
unfolding inner.copy_from is_member member_number
number_from next [] v = refl
number_from next (member ∷ members) v =
    go (eqb member v) (is_member members v) (inner.copy_from (suc next) members v) (member_number members v) (number_from (suc next) members v)
  where
    go : (b i : Bool) (later place : ℕ) → later ≡ cond i (suc next + place) 0 → cond b next later ≡ cond (b || i) (next + cond b 0 (suc place)) 0
    go true i later place q = let e : next ≡ next + 0 = omega arith in e
    go false true later place q = let e : suc next + place ≡ next + suc place = omega arith in q ∙ e
    go false false later place q = q

module _ (n : ℕ) (members : List ℕ) where
  abbrev copy : ℕ → ℕ
  copy = inner.copy_of n members

  -- A variable has a number exactly if it is a member, and then that of its copy.
  number_is : (v : ℕ) → copy v ≡ cond (is_member members v) (copy_of n members v) 0
  number_is v = go (is_member members v) (member_number members v) (number_from (suc n) members v)
    where
      go : (i : Bool) (place : ℕ) → copy v ≡ cond i (suc n + place) 0 → copy v ≡ cond i (n + 1 + place) 0
      go true place q = let e : suc n + place ≡ n + 1 + place = omega arith in q ∙ e
      go false place q = q

  -- By cases on whether it is one.
  by_member : {A : Type 0} (v : ℕ) (with : ℕ → A) (none : A) → cond (eqb (copy v) 0) none (with (copy v)) ≡ cond (is_member members v) (with (copy_of n members v)) none
  by_member {A} v with none = go (is_member members v) (copy v) (member_number members v) (number_is v)
    where
      go : (i : Bool) (number k : ℕ) → number ≡ cond i (n + 1 + k) 0 → cond (eqb number 0) none (with number) ≡ cond i (with (n + 1 + k)) none
      go true number k q = ap (λ (b : Bool). cond b none (with number)) (ne_eqb number 0 (λ z. omega arith)) ∙ ap with q
      go false number k q = ap (λ (b : Bool). cond b none (with number)) (eq-eqb number 0 q)

  test_same : (v : ℕ) → not (eqb (copy v) 0) ≡ is_member members v
  test_same v = go (is_member members v) (copy v) (member_number members v) (number_is v)
    where
      go : (i : Bool) (number k : ℕ) → number ≡ cond i (n + 1 + k) 0 → not (eqb number 0) ≡ i
      go true number k q = ap not (ne_eqb number 0 (λ z. omega arith))
      go false number k q = ap not (eq-eqb number 0 q)

  -- The prefix.
  with_same : (v : ℕ) → inner.with_copy copy v ≡ plain.with_copy n members v
  unfolding inner.with_copy plain.with_copy
  with_same v = by_member v (λ number. v ∷ number ∷ []) (v ∷ [])

  placed_same : (x : ℕ) (vs : List ℕ) → inner.placed x copy vs ≡ plain.placed x n members vs
  unfolding inner.placed plain.placed
  placed_same x [] = refl
  placed_same x (v ∷ vs) = λ i. cond (eqb v x) (placed_same x vs i) (with_same v i ++ placed_same x vs i)

  block_same : (x : ℕ) (block : List ℕ) → inner.expanded_block x copy block ≡ plain.expanded_block x n members block
  unfolding inner.expanded_block plain.expanded_block
  block_same x [] = refl
  block_same x (mark ∷ vs) = λ i. mark ∷ placed_same x vs i

  pub prefix_same : (x : ℕ) (es : List ℕ) → inner.expanded_prefix x copy es ≡ plain.expanded_prefix x n members es
  unfolding inner.expanded_prefix plain.expanded_prefix
  prefix_same x es = λ i. table_of (joined_blocks (map (λ (block : List ℕ). block_same x block i) (blocks es)))

  -- The clauses.
  has_same : (clause : List ℤ) → inner.has_member copy clause ≡ plain.has_member members clause
  unfolding inner.has_member plain.has_member
  has_same [] = refl
  has_same (literal ∷ more) = λ i. test_same (variable_of literal) i || has_same more i

  renamed_same : (literal : ℤ) → inner.renamed copy literal ≡ plain.renamed n members literal
  unfolding inner.renamed plain.renamed
  renamed_same (pos v) = by_member v (λ number. pos number) (pos v)
  renamed_same (negsuc v) = by_member (suc v) (λ number. neg_ℤ (pos number)) (negsuc v)

  named_same : (value : Bool) (literal : ℤ) → inner.named value copy literal ≡ plain.named value n members literal
  unfolding inner.named plain.named
  named_same false literal = refl
  named_same true literal = renamed_same literal

  copied_same : (value : Bool) (x : ℕ) (clause : List ℤ) → inner.has_copy value x copy clause ≡ plain.has_copy value x members clause
  unfolding inner.has_copy plain.has_copy
  copied_same value x clause = λ i. not (always_true clause) && not (satisfied value x clause) && (not value || (has_x x clause || has_same clause i))

  copies_same : (value : Bool) (x : ℕ) (cs : List (List ℤ)) → inner.copies value x copy cs ≡ plain.copies value x n members cs
  unfolding inner.copies plain.copies
  copies_same value x [] = refl
  copies_same value x (clause ∷ later) = λ i.
      cond (copied_same value x clause i) (map (λ (literal : ℤ). named_same value literal i) (without x clause) ∷ copies_same value x later i)
      (copies_same value x later i)

  pub list_same : (x : ℕ) (ls : List ℤ) → inner.expanded_list x copy ls ≡ plain.expanded_list x n members ls
  unfolding inner.expanded_list plain.expanded_list
  list_same x ls = λ i. copies_same false x (clauses ls) i ++ copies_same true x (clauses ls) i

  pub clauses_same : (x : ℕ) (ls : List ℤ) → inner.expanded_clauses x copy ls ≡ plain.expanded_clauses x n members ls
  unfolding inner.expanded_clauses plain.expanded_clauses
  clauses_same x ls = λ i. clause_table (list_same x ls i)

  -- The literal total, from the input: that of the clauses of the result, whose table has one entry more for each clause.
  counts_same : (x : ℕ) (clause : List ℤ) → inner.counts x copy clause ≡ total.counts x members clause
  unfolding inner.counts total.counts
  counts_same x clause = λ i.
      cond (always_true clause) 0
      (cond (has_x x clause) (length clause - x_literals x clause) (cond (has_same clause i) (length clause + length clause) (length clause)))

  totals_same : (x : ℕ) (cs : List (List ℤ)) → inner.total_of x copy cs ≡ total.total_of x members cs
  unfolding inner.total_of total.total_of
  totals_same x [] = refl
  totals_same x (clause ∷ later) = λ i. counts_same x clause i + totals_same x later i

  total_same : (x : ℕ) (ls : List ℤ) → inner.literal_total x copy ls ≡ total.literal_total x members ls
  unfolding inner.literal_total total.literal_total
  total_same x ls = totals_same x (clauses ls)

  pub total_of_members : (x : ℕ) (ls : List ℤ) → literals (plain.expanded_list x n members ls) ≡ total.literal_total x members ls
  total_of_members x ls = sym (ap literals (list_same x ls)) ∙ literal_total_lem x copy ls ∙ total_same x ls

  pub entries_of_members : (x : ℕ) (ls : List ℤ)
      → length (plain.expanded_clauses x n members ls) ≡ total.literal_total x members ls + length (plain.expanded_list x n members ls)
  entries_of_members x ls =
      sym (ap length (clauses_same x ls)) ∙ entries_total x copy ls ∙ (λ i. total_same x ls i + length (list_same x ls i))
