-- What is reduced can be lent: for every reduction of an accepted table there is a table of its clauses that check accepts.
use Prim.Native.Nat.{ℕ, suc, ◌+◌, ◌≤◌, ◌<◌}
use mathlib.Core.Path.{◌≡◌, refl, sym, ap, ◌∙◌, subst}
use mathlib.Core.Bool.{Bool, false}
use mathlib.Core.List.Memᴰ
use mathlib.Core.List.{List, [], ◌∷◌, ◌++◌, append_assoc, append-nil, Memᴰ}
use mathlib.Core.List.Permᴰ
use mathlib.Core.List.{Permᴰ}
use mathlib.Core.Logic.{◌≢◌, ◌⊎◌, inl, ⊎_elim, by_cases}
use native.Mathlib.Decide.{dec_le}
use native.Mathlib.Omega.{arith}
use borrow.Author.Tests.{eqb-false}
use lib.IntN.{ℤ, pos}
use lib.ListN.{length, length-append}
use Rattle.terms.specs.Literals.{variable_of}
use Rattle.terms.specs.Refusals.{Causes, At0, None, NoneOf}
use Rattle.formula.specs.Causes.{PrefixLong, ClausesLong, ClauseCause}
use Rattle.formula.specs.Lent.{formula_of}
use Rattle.formula_rules.specs.Rules.{read_as, check_order}
use Rattle.formula_rules.proofs.Orders.{clauses_sound}
use Rattle.formula.specs.Meaning.{is_zero, clauses, always_true}
use Rattle.formula.specs.Tables.{literal_at, cut, push}
use Rattle.forest_theory.specs.Reach.{Variables}
use Rattle.forest_theory.proofs.Choice.{choice}
use Rattle.forest_tables.specs.Formula.{variables}
use Rattle.forest_entries.proofs.Sides.{mem_at}
use Rattle.grow_refusals.specs.Admitted.{AddedCause}
use Rattle.grow.specs.Grown.{with_last}
use Rattle.grow.proofs.Appended.{clauses_last, no_clause_cause}
use Rattle.grow_reduced.specs.Reduced.{reducible, dropped, reduced_clause, Reduces, Reduction}
use Rattle.grow_reduced.proofs.Clauses.{without_had, reordered_member}

-- The entries that clauses take in a table, each with the 0 that closes it.
abbrev entries : List (List ℤ) → ℕ
entries [] = 0
entries (c ∷ cs) = suc (length c) + entries cs

-- The clauses of a table take no more than it has.
entries_within : (ls : List ℤ) → entries (clauses ls) ≤ length ls
unfolding clauses cut
entries_within [] = omega arith
entries_within (a ∷ ls) = choice (λ cs. entries cs ≤ suc (length ls)) (is_zero (variable_of a)) (λ _. let h = entries_within ls in omega arith) (λ _. pushed (clauses ls) (entries_within ls))
  where
    pushed : (cs : List (List ℤ)) → entries cs ≤ length ls → entries (push a cs) ≤ suc (length ls)
    pushed [] h = omega arith
    pushed (c ∷ cs) h = omega arith

-- Literals of variables 1 to n, in every clause.
abbrev InRange : ℕ → List (List ℤ) → Type 0
InRange n cs = (c : List ℤ) → Memᴰ c cs → (l : ℤ) → Memᴰ l c → (variable_of l ≢ 0) × (variable_of l ≤ n)

-- So they are in a table whose entries are no greater.
clauses_in_range : (n : ℕ) (ls : List ℤ) → ((e : ℕ) → e < length ls → variable_of (literal_at ls e) ≤ n) → InRange n (clauses ls)
unfolding clauses cut
clauses_in_range n [] low = λ c m. absurd (Memᴰ.not-nil m)
clauses_in_range n (a ∷ ls) low =
    let rest = clauses_in_range n ls (λ e l. low (suc e) (omega arith)) in
    choice (InRange n) (is_zero (variable_of a)) {x = [] ∷ clauses ls} {y = push a (clauses ls)} (λ _. closed rest) (λ some. pushed some (clauses ls) rest)
  where
    closed : InRange n (clauses ls) → InRange n ([] ∷ clauses ls)
    closed rest c m l k = ⊎_elim (λ q. absurd (Memᴰ.not-nil (subst (Memᴰ l) q k))) (λ m'. rest c m' l k) (Memᴰ.cases_cons m)

    pushed : is_zero (variable_of a) ≡ false → (cs : List (List ℤ)) → InRange n cs → InRange n (push a cs)
    pushed some [] rest = λ c m. absurd (Memᴰ.not-nil m)
    pushed some (b ∷ cs) rest = λ c m l k. ⊎_elim
        (λ q. ⊎_elim (λ is. subst (λ z. (variable_of z ≢ 0) × (variable_of z ≤ n)) (sym is) (eqb-false (variable_of a) 0 some, low 0 (omega arith)))
        (λ k'. rest b (Memᴰ.head refl) l k') (Memᴰ.cases_cons (subst (Memᴰ l) q k)))
        (λ m'. rest c (Memᴰ.tail m') l k) (Memᴰ.cases_cons m)

-- A reduced clause is no longer, and has no literal that the clause has not.
without_length : (test : ℤ → Bool) (ls : List ℤ) → length (dropped test ls) ≤ length ls
unfolding dropped
without_length test [] = omega arith
without_length test (a ∷ ls) = choice (λ ds. length ds ≤ suc (length ls)) (test a) {x = dropped test ls} {y = a ∷ dropped test ls}
    (λ _. let h = without_length test ls in omega arith) (λ _. let h = without_length test ls in omega arith)

module _ (X : Variables) where
  pub reduced_length : (c : List ℤ) → length (reduced_clause X c) ≤ length c
  unfolding reduced_clause
  reduced_length c = choice (λ d. length d ≤ length c) (always_true c) {x = c} {y = dropped (reducible X c) c} (λ _. omega arith) (λ _. without_length (reducible X c) c)

  reduced_had : (c : List ℤ) {l : ℤ} → Memᴰ l (reduced_clause X c) → Memᴰ l c
  unfolding reduced_clause
  reduced_had c {l} = choice (λ d. Memᴰ l d → Memᴰ l c) (always_true c) (λ _ m. m) (λ _. without_had (reducible X c) c)

  -- So clauses reduced one by one take no more entries, and stay in range.
  reduces_entries : (cs ds : List (List ℤ)) → Reduces X cs ds → entries ds ≤ entries cs
  reduces_entries [] [] r = omega arith
  reduces_entries [] (d ∷ ds) r = absurd r
  reduces_entries (c ∷ cs) [] r = absurd r
  reduces_entries (c ∷ cs) (d ∷ ds) (one, rest) =
      let shorter : length d ≤ length c = ⊎_elim (λ q. let e = ap length q in omega arith) (λ q. let e = ap length q in let h = reduced_length c in omega arith) one in
      let h = reduces_entries cs ds rest in omega arith

  reduces_in_range : (n : ℕ) (cs ds : List (List ℤ)) → Reduces X cs ds → InRange n cs → InRange n ds
  reduces_in_range n [] [] r range = range
  reduces_in_range n [] (d ∷ ds) r range = absurd r
  reduces_in_range n (c ∷ cs) [] r range = absurd r
  reduces_in_range n (c ∷ cs) (d ∷ ds) (one, rest) range = λ b m l k. ⊎_elim
      (λ q. range c (Memᴰ.head refl) l (had l (subst (Memᴰ l) q k)))
      (λ m'. reduces_in_range n cs ds rest (λ a ma. range a (Memᴰ.tail ma)) b m' l k) (Memᴰ.cases_cons m)
    where
      had : (l : ℤ) → Memᴰ l d → Memᴰ l c
      had l k = ⊎_elim (λ q. subst (Memᴰ l) q k) (λ q. reduced_had c (subst (Memᴰ l) q k)) one

-- In another order they take as many.
reordered_entries : {cs ds : List (List ℤ)} → Permᴰ cs ds → entries cs ≡ entries ds
reordered_entries Permᴰ.nil = refl
reordered_entries (Permᴰ.cons q p) = let e = ap length q in let h = reordered_entries p in omega arith
reordered_entries (Permᴰ.swap q r) = let e = ap length q in let f = ap length r in omega arith
reordered_entries (Permᴰ.trans p q) = reordered_entries p ∙ reordered_entries q

module _ (rule n : ℕ) (es : List ℕ) where
  -- the order of check on a clause table
  abbrev check_of : List ℤ → List Causes
  check_of ls = check_order rule (formula_of n es ls)

  -- Clauses put behind an accepted table one after another, each closed by a 0.
  put_behind : (ds : List (List ℤ)) (table : List ℤ) → NoneOf (check_of table) → InRange n ds → length table + entries ds ≤ 16384
      → (ls' : List ℤ) × NoneOf (check_of ls') × (clauses ls' ≡ clauses table ++ ds)
  put_behind [] table accepted range small = (table, accepted, sym (append-nil (clauses table)))
  put_behind (d ∷ ds) table accepted range small =
      let long = length-append table (d ++ (pos 0 ∷ [])) in
      let longer = length-append d (pos 0 ∷ []) in
      let fine = accepted.1.1.1.1.0 in
      let lengths : None (At0 2 (PrefixLong es ⊎ ClausesLong (length (with_last table d)))) =
      λ k p cause. ⊎_elim (λ over. accepted.1.1.0 k p (cause.0, cause.1, inl over)) (λ over. absurd (omega arith)) cause.2 in
      let next : NoneOf (check_of (with_last table d)) =
      (accepted.0, (accepted.1.0, (lengths, (accepted.1.1.1.0, (no_clause_cause fine added, tt))))) in
      let (ls', all, is) = put_behind ds (with_last table d) next (λ c m. range c (Memᴰ.tail m)) (omega arith) in
      (ls', all, is ∙ ap (λ cs. cs ++ ds) (clauses_last fine added) ∙ append_assoc (clauses table) (d ∷ []) ds)
    where
      added : None (AddedCause n d)
      added k e (AddedCause.outside q l bad) =
          let (some, low) = range d (Memᴰ.head refl) (literal_at d e) ((mem_at (pos 0) (literal_at d e) d).1 (e, l, refl)) in
          ⊎_elim some (λ over. omega arith) bad

  -- The clauses of an accepted table, some of them reduced, in any order, are those of an accepted table.
  pub reduction_accepted : {ls : List ℤ} {cs ds : List (List ℤ)} → NoneOf (check_of ls) → Reduces (variables n (read_as rule es)) (clauses ls) cs
      → Permᴰ cs ds → (ls' : List ℤ) × NoneOf (check_of ls') × Reduction (variables n (read_as rule es)) ls ls' × (clauses ls' ≡ ds)
  unfolding clauses cut
  reduction_accepted {ls} {cs} {ds} accepted r p =
      let X = variables n (read_as rule es) in
      let few = (clauses_sound rule (formula_of n es ls) accepted).short in
      let most = entries_within ls in
      let fewer = reduces_entries X (clauses ls) cs r in
      let same = reordered_entries p in
      let range = reduces_in_range X n (clauses ls) cs r (clauses_in_range n ls low) in
      let (ls', fine, is) = put_behind ds [] none (λ d m. range d (reordered_member (Permᴰ.symm p) m)) (omega arith) in
      (ls', fine, record { in_place = cs; reduces = r; reordered = subst (Permᴰ cs) (sym is) p }, is)
    where
      low : (e : ℕ) → e < length ls → variable_of (literal_at ls e) ≤ n
      low e l =
          by_cases (dec_le (variable_of (literal_at ls e)) n) (λ h. h)
          (λ over. absurd (accepted.1.1.1.1.0 10 e (ClauseCause.outside refl l (λ z. let q = ap variable_of z in omega arith) (omega arith))))

      none : NoneOf (check_of [])
      none =
          let lengths : None (At0 2 (PrefixLong es ⊎ ClausesLong 0)) =
          λ k p cause. ⊎_elim (λ over. accepted.1.1.0 k p (cause.0, cause.1, inl over)) (λ over. absurd (omega arith)) cause.2 in
          (accepted.0, (accepted.1.0, (lengths, (accepted.1.1.1.0, (empty, tt)))))
        where
          empty : None (ClauseCause n [])
          empty k e (ClauseCause.outside q l some over) = omega arith
          empty k e (ClauseCause.ends_inside q p inside) = let l = inside.0 in omega arith

-- A clause that may be added may be added reduced.
pub reduced_first : (n : ℕ) (es : List ℕ) (c : List ℤ) → None (AddedCause n c) → None (AddedCause n (reduced_clause (variables n es) c))
reduced_first n es c none k e (AddedCause.outside q l bad) =
    let d = reduced_clause (variables n es) c in
    let (i, less, is) = (mem_at (pos 0) (literal_at d e) c).0 (reduced_had (variables n es) c ((mem_at (pos 0) (literal_at d e) d).1 (e, l, refl))) in
    none 10 i (AddedCause.outside refl less (subst (λ z. (variable_of z ≡ 0) ⊎ (n < variable_of z)) (sym is) bad))
