-- The clause table of an expanded formula, cut at its zeros, gives its clauses: no literal of them is 0.
use Prim.Native.Nat.{ℕ, zero, suc}
use mathlib.Core.Path.{◌≡◌, refl, sym, ap, ◌∙◌}
use mathlib.Core.Bool.{Bool, true, false, cond}
use mathlib.Core.List.{List, [], ◌∷◌, ◌++◌, map}
use mathlib.Core.Logic.{◌≢◌}
use borrow.Author.Tests.{eqb-false, ne_eqb}
use lib.Dec.{eqb}
use lib.IntN.{ℤ, pos, negsuc, neg_ℤ}
use Rattle.terms.specs.Literals.{variable_of}
use Rattle.formula.specs.Meaning.{is_zero, clauses}
use Rattle.formula.specs.Tables.{cut, push}
use Rattle.expand_clauses.specs.Expansion.{without, clause_table}
use Rattle.expand_clauses.specs.Expansion as plain
use Rattle.expand_clauses.specs.InnerCopies.{copy_of, renamed, named, has_copy, copies, expanded_list, expanded_clauses}
use Rattle.expand_clauses.proofs.Tied.{list_same, clauses_same}

-- no literal of a clause is 0, and none of some clauses
abbrev Some : List ℤ → Type 0
Some [] = Unit {0}
Some (z ∷ zs) = (variable_of z ≢ 0) × Some zs

abbrev AllSome : List (List ℤ) → Type 0
AllSome [] = Unit {0}
AllSome (c ∷ cs) = Some c × AllSome cs

-- So it is in the clauses of any table,
clauses_some : (ls : List ℤ) → AllSome (clauses ls)
unfolding clauses cut
clauses_some [] = tt
clauses_some (z ∷ ls) = by (is_zero (variable_of z)) refl (clauses ls) (clauses_some ls)
  where
    by : (b : Bool) → is_zero (variable_of z) ≡ b → (cs : List (List ℤ)) → AllSome cs → AllSome (cond b ([] ∷ cs) (push z cs))
    by true q cs all = (tt, all)
    by false q [] all = tt
    by false q (c ∷ cs) all = ((eqb-false (variable_of z) 0 q, all.0), all.1)

module _ (x : ℕ) (copy : ℕ → ℕ) where
  -- in a literal that is named,
  renamed_some : (z : ℤ) → variable_of z ≢ 0 → variable_of (renamed copy z) ≢ 0
  unfolding renamed
  renamed_some (pos v) some = by (eqb (copy v) 0) refl
    where
      by : (b : Bool) → eqb (copy v) 0 ≡ b → variable_of (cond b (pos v) (pos (copy v))) ≢ 0
      by true q = some
      by false q = eqb-false (copy v) 0 q
  renamed_some (negsuc v) some = by (eqb (copy (suc v)) 0) refl
    where
      negated : (k : ℕ) → k ≢ 0 → variable_of (neg_ℤ (pos k)) ≢ 0
      negated zero other = other
      negated (suc k) other = other

      by : (b : Bool) → eqb (copy (suc v)) 0 ≡ b → variable_of (cond b (negsuc v) (neg_ℤ (pos (copy (suc v))))) ≢ 0
      by true q = some
      by false q = negated (copy (suc v)) (eqb-false (copy (suc v)) 0 q)

  named_some : (value : Bool) (z : ℤ) → variable_of z ≢ 0 → variable_of (named value copy z) ≢ 0
  unfolding named
  named_some false z some = some
  named_some true z some = renamed_some z some

  copy_some : (value : Bool) (c : List ℤ) → Some c → Some (map (named value copy) (without x c))
  unfolding without
  copy_some value [] some = tt
  copy_some value (z ∷ zs) some = by (eqb (variable_of z) x) (copy_some value zs some.1)
    where
      by : (b : Bool) → Some (map (named value copy) (without x zs)) → Some (map (named value copy) (cond b (without x zs) (z ∷ without x zs)))
      by true on = on
      by false on = (named_some value z some.0, on)

  -- and in the copies of clauses.
  copies_some : (value : Bool) (cs : List (List ℤ)) → AllSome cs → AllSome (copies value x copy cs)
  unfolding copies
  copies_some value [] all = tt
  copies_some value (c ∷ cs) all = by (has_copy value x copy c) (copies_some value cs all.1)
    where
      by : (b : Bool) → AllSome (copies value x copy cs)
          → AllSome (cond b (map (named value copy) (without x c) ∷ copies value x copy cs) (copies value x copy cs))
      by true on = (copy_some value c all.0, on)
      by false on = on

append_some : (cs ds : List (List ℤ)) → AllSome cs → AllSome ds → AllSome (cs ++ ds)
append_some [] ds p q = q
append_some (c ∷ cs) ds p q = (p.0, append_some cs ds p.1 q)

-- A clause is cut off at the 0 that closes it.
cut_first : (c table : List ℤ) → Some c → clauses (c ++ (pos 0 ∷ table)) ≡ c ∷ clauses table
unfolding clauses cut
cut_first [] table some = refl
cut_first (z ∷ zs) table some =
    ap (λ b. cond b ([] ∷ clauses (zs ++ (pos 0 ∷ table))) (push z (clauses (zs ++ (pos 0 ∷ table))))) (ne_eqb (variable_of z) 0 some.0)
    ∙ ap (push z) (cut_first zs table some.1)

table_cut : (cs : List (List ℤ)) → AllSome cs → clauses (clause_table cs) ≡ cs
unfolding clause_table clauses cut
table_cut [] all = refl
table_cut (c ∷ cs) all = cut_first c (clause_table cs) all.0 ∙ ap (λ ds. c ∷ ds) (table_cut cs all.1)

by_copies : (x : ℕ) (copy : ℕ → ℕ) (ls : List ℤ) → clauses (expanded_clauses x copy ls) ≡ expanded_list x copy ls
unfolding expanded_clauses expanded_list
by_copies x copy ls =
    let all = clauses_some ls in
    table_cut (copies false x copy (clauses ls) ++ copies true x copy (clauses ls))
    (append_some (copies false x copy (clauses ls)) (copies true x copy (clauses ls)) (copies_some x copy false (clauses ls) all)
    (copies_some x copy true (clauses ls) all))

pub clauses_expanded : (x n : ℕ) (members : List ℕ) (ls : List ℤ) → clauses (plain.expanded_clauses x n members ls) ≡ plain.expanded_list x n members ls
clauses_expanded x n members ls =
    sym (ap clauses (clauses_same n members x ls)) ∙ by_copies x (copy_of n members) ls ∙ list_same n members x ls
