-- A clause put last: the clauses of the longer table are those of the table and the clause.
use Prim.Native.Nat.{ℕ, suc, ◌+◌, ◌-◌, ◌<◌}
use mathlib.Core.Path.{◌≡◌, refl, sym, ◌∙◌, ap, subst}
use mathlib.Core.Bool.{Bool, true, false, cond}
use mathlib.Core.List.{List, [], ◌∷◌, ◌++◌, map, map-append}
use mathlib.Core.Logic.{◌⊎◌, inl, inr, ⊎_elim, ◌≢◌, by_cases}
use native.Mathlib.Decide.{dec_lt}
use native.Mathlib.Omega.{arith}
use borrow.Author.Tests.{eq-eqb, ne_eqb}
use lib.Dec.{eqb}
use lib.IntN.{ℤ, pos}
use lib.ListN.{length, get_or, length-append, get_or-append}
use lib.Seq.{get_or-append-add}
use Rattle.terms.specs.Literals.{variable_of}
use Rattle.terms.specs.Refusals.{None}
use Rattle.terms.proofs.Common.{clash}
use Rattle.formula.specs.Causes.{ClauseCause}
use Rattle.formula.specs.Meaning.{clauses, is_zero, connected}
use Rattle.formula.specs.Tables.{literal_at, cut, push, EndsInside}
use Rattle.forest_tables.specs.Formula.{joined}
use Rattle.grow_refusals.specs.Admitted.{AddedCause}
use Rattle.grow.specs.Grown.{with_last}
use Rattle.grow.specs.InnerTallies.{many}

nought : ℤ → Bool
nought literal = is_zero (variable_of literal)

-- A longer table that ends inside a clause does so by its tail.
ends_tail : (x y : ℤ) (xs : List ℤ) → EndsInside (pos 0) (y ∷ xs) → EndsInside (pos 0) (x ∷ y ∷ xs)
ends_tail x y xs (some, last) =
    let q : length (x ∷ y ∷ xs) - 1 ≡ suc (length (y ∷ xs) - 1) = omega arith in
    (omega arith, λ z. last (sym (ap (λ (e : ℕ). get_or (x ∷ y ∷ xs) e (pos 0)) q) ∙ z))

-- A table that does not end inside a clause holds a clause, and what follows it holds the rest.
cut_after : (x : ℤ) (xs ys : List ℤ) → (EndsInside (pos 0) (x ∷ xs) → ⊥)
    → ((c : List ℤ) × (cs : List (List ℤ)) × (cut nought (x ∷ xs) ≡ c ∷ cs)) × (cut nought ((x ∷ xs) ++ ys) ≡ cut nought (x ∷ xs) ++ cut nought ys)
unfolding cut nought
cut_after x [] ys closed = go (eqb (variable_of x) 0) refl
  where
    go : (b : Bool) → eqb (variable_of x) 0 ≡ b
        → ((c : List ℤ) × (cs : List (List ℤ)) × (cond b ([] ∷ []) [] ≡ c ∷ cs)) × (cond b ([] ∷ cut nought ys) (push x (cut nought ys)) ≡ cond b ([] ∷ []) [] ++ cut nought ys)
    go true e = (([], [], refl), refl)
    go false e = absurd (closed (omega arith, λ z. clash (eq-eqb (variable_of x) 0 (ap variable_of z)) e))
cut_after x (y ∷ xs) ys closed = go (eqb (variable_of x) 0) (cut_after y xs ys (λ e. closed (ends_tail x y xs e)))
  where
    go : (b : Bool) → ((c : List ℤ) × (cs : List (List ℤ)) × (cut nought (y ∷ xs) ≡ c ∷ cs)) × (cut nought ((y ∷ xs) ++ ys) ≡ cut nought (y ∷ xs) ++ cut nought ys)
        → ((c : List ℤ) × (cs : List (List ℤ)) × (cond b ([] ∷ cut nought (y ∷ xs)) (push x (cut nought (y ∷ xs))) ≡ c ∷ cs))
        × (cond b ([] ∷ cut nought ((y ∷ xs) ++ ys)) (push x (cut nought ((y ∷ xs) ++ ys))) ≡ cond b ([] ∷ cut nought (y ∷ xs)) (push x (cut nought (y ∷ xs))) ++ cut nought ys)
    go true (some, rest) = (([], cut nought (y ∷ xs), refl), ap (λ cs. [] ∷ cs) rest)
    go false ((c, cs, is), rest) = ((x ∷ c, cs, ap (push x) is), ap (push x) (rest ∙ ap (λ ds. ds ++ cut nought ys) is) ∙ sym (ap (λ ds. push x ds ++ cut nought ys) is))

cut_append : (xs ys : List ℤ) → (EndsInside (pos 0) xs → ⊥) → cut nought (xs ++ ys) ≡ cut nought xs ++ cut nought ys
unfolding cut
cut_append [] ys closed = refl
cut_append (x ∷ xs) ys closed = (cut_after x xs ys closed).1

-- A clause and its closing 0 are one clause.
cut_one : (xs : List ℤ) → ((e : ℕ) → e < length xs → variable_of (literal_at xs e) ≢ 0) → cut nought (xs ++ (pos 0 ∷ [])) ≡ xs ∷ []
unfolding cut nought
cut_one [] some = refl
cut_one (x ∷ xs) some = ap (λ b. cond b ([] ∷ cut nought (xs ++ (pos 0 ∷ []))) (push x (cut nought (xs ++ (pos 0 ∷ []))))) (ne_eqb (variable_of x) 0 (some 0 (omega arith)))
    ∙ ap (push x) (cut_one xs (λ e l. some (suc e) (omega arith)))

module _ {n : ℕ} {ls clause : List ℤ} (accepted : None (ClauseCause n ls)) (first : None (AddedCause n clause)) where
  closed : EndsInside (pos 0) ls → ⊥
  closed inside = accepted 11 (length ls) (ClauseCause.ends_inside refl refl inside)

  some_variable : (e : ℕ) → e < length clause → variable_of (literal_at clause e) ≢ 0
  some_variable e l z = first 10 e (AddedCause.outside refl l (inl z))

  -- The clauses of the longer table are those of the table and the clause, which is one more ...
  pub clauses_last : clauses (with_last ls clause) ≡ clauses ls ++ (clause ∷ [])
  unfolding clauses nought
  clauses_last = cut_append ls (clause ++ (pos 0 ∷ [])) closed ∙ ap (λ cs. cut nought ls ++ cs) (cut_one clause some_variable)

  pub many_last : many (with_last ls clause) ≡ many ls + 1
  many_last = ap length clauses_last ∙ length-append (clauses ls) (clause ∷ [])

  -- ... and so are its joins.
  pub joined_last : joined (with_last ls clause) ≡ joined ls ++ (connected clause ∷ [])
  unfolding joined
  joined_last = ap (map connected) clauses_last ∙ map-append connected (clauses ls) (clause ∷ [])

  -- An entry of the longer table is one of the table, one of the clause, or the closing 0.
  entry_last : (e : ℕ) → e < length (with_last ls clause)
      → ((e < length ls) × (literal_at (with_last ls clause) e ≡ literal_at ls e))
      ⊎ (((k : ℕ) × (k < length clause) × (literal_at (with_last ls clause) e ≡ literal_at clause k)) ⊎ (literal_at (with_last ls clause) e ≡ pos 0))
  entry_last e l = by_cases (dec_lt e (length ls)) (λ h. inl (h, get_or-append ls (clause ++ (pos 0 ∷ [])) (pos 0) e h))
      (λ h.
      let k = e - length ls in
      let q : e ≡ length ls + k = omega arith in
      let there : literal_at (with_last ls clause) e ≡ literal_at (clause ++ (pos 0 ∷ [])) k = ap (literal_at (with_last ls clause)) q ∙ get_or-append-add ls (clause ++ (pos 0 ∷ [])) k (pos 0) in
      by_cases (dec_lt k (length clause)) (λ m. inr (inl (k, m, there ∙ get_or-append clause (pos 0 ∷ []) (pos 0) k m)))
      (λ m.
      let all = length-append ls (clause ++ (pos 0 ∷ [])) in
      let rest = length-append clause (pos 0 ∷ []) in
      let w : k ≡ length clause + 0 = omega arith in
      inr (inr (there ∙ ap (literal_at (clause ++ (pos 0 ∷ []))) w ∙ get_or-append-add clause (pos 0 ∷ []) 0 (pos 0)))))

  -- So nothing is wrong with the longer table either.
  pub no_clause_cause : None (ClauseCause n (with_last ls clause))
  no_clause_cause k e (ClauseCause.outside q l some over) = ⊎_elim
      (λ w. accepted 10 e (ClauseCause.outside refl w.0 (λ z. some (w.1 ∙ z)) (subst (λ (x : ℤ). n < variable_of x) w.1 over)))
      (⊎_elim (λ w. first 10 w.0 (AddedCause.outside refl w.1 (inr (subst (λ (x : ℤ). n < variable_of x) w.2 over)))) some) (entry_last e l)
  no_clause_cause k e (ClauseCause.ends_inside q p (some, last)) =
      let all = length-append ls (clause ++ (pos 0 ∷ [])) in
      let rest = length-append clause (pos 0 ∷ []) in
      let w : length (with_last ls clause) - 1 ≡ length ls + (length clause + 0) = omega arith in
      last (ap (literal_at (with_last ls clause)) w ∙ get_or-append-add ls (clause ++ (pos 0 ∷ [])) (length clause + 0) (pos 0) ∙ get_or-append-add clause (pos 0 ∷ []) 0 (pos 0))
