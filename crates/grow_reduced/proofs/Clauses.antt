-- What a reduced clause keeps: every literal and every variable that a step may go from or to; so do tables of clauses, some of them reduced, in any order.
use Prim.Native.Nat.{ℕ, suc, ◌≤◌}
use mathlib.Core.Path.{◌≡◌, refl, sym, ap, ◌∙◌, subst}
use mathlib.Core.Bool.{Bool, true, false, cond, not, ◌&&◌, ◌||◌, and-false}
use mathlib.Core.List.Memᴰ
use mathlib.Core.List.{List, [], ◌∷◌, map, Memᴰ}
use mathlib.Core.List.Permᴰ
use mathlib.Core.List.{Permᴰ}
use mathlib.Core.Logic.{inl, ⊎_elim}
use borrow.Author.Tests.{le-ltb}
use lib.Dec.{ltb}
use lib.IntN.{ℤ}
use lib.ListN.{length}
use Rattle.terms.specs.Literals.{variable_of}
use Rattle.terms.proofs.Common.{clash}
use Rattle.formula.specs.Meaning.{clauses, opposite, denied, always_true, connected}
use Rattle.formula.proofs.Signs.{connected_all}
use Rattle.forest_theory.specs.Reach.{Variables}
use Rattle.forest_theory.proofs.Choice.{choice, neither}
use Rattle.forest_entries.proofs.Sides.{connected_open}
use Rattle.grow_reduced.specs.Reduced.{deeper_than_all, reducible, dropped, reduced_clause, Reduces, Reduction}
use Rattle.grow_reduced.proofs.Carried.{Step}

module _ (test : ℤ → Bool) where
  -- What is left was there ...
  pub without_had : {l : ℤ} (ls : List ℤ) → Memᴰ l (dropped test ls) → Memᴰ l ls
  unfolding dropped
  without_had [] m = m
  without_had {l} (a ∷ ls) m = go (test a) (without_had ls) m
    where
      go : (b : Bool) → (Memᴰ l (dropped test ls) → Memᴰ l ls) → Memᴰ l (cond b (dropped test ls) (a ∷ dropped test ls)) → Memᴰ l (a ∷ ls)
      go true had m = Memᴰ.tail (had m)
      go false had m = ⊎_elim Memᴰ.head (λ m'. Memᴰ.tail (had m')) (Memᴰ.cases_cons m)

  -- ... and what the test does not tell is left.
  without_keeps : {l : ℤ} (ls : List ℤ) → test l ≡ false → Memᴰ l ls → Memᴰ l (dropped test ls)
  unfolding dropped
  without_keeps [] kept m = m
  without_keeps {l} (a ∷ ls) kept m = ⊎_elim
      (λ q. choice (Memᴰ l) (test a) (λ t. absurd (clash (ap test q ∙ t) kept)) (λ _. Memᴰ.head q))
      (λ m'. choice (Memᴰ l) (test a) (λ _. without_keeps ls kept m') (λ _. Memᴰ.tail (without_keeps ls kept m'))) (Memᴰ.cases_cons m)

  -- A clause that is not always true is not made so.
  denied_without : (z : ℤ) (ls : List ℤ) → denied z ls ≡ false → denied z (dropped test ls) ≡ false
  unfolding dropped denied
  denied_without z [] f = f
  denied_without z (a ∷ ls) f =
      let (one, rest) = neither (opposite z a) (denied z ls) f in
      let more = denied_without z ls rest in
      choice (λ ds. denied z ds ≡ false) (test a) (λ _. more) (λ _. ap (λ b. b || denied z (dropped test ls)) one ∙ more)

  open_without : (ls : List ℤ) → always_true ls ≡ false → always_true (dropped test ls) ≡ false
  unfolding dropped always_true
  open_without [] f = f
  open_without (a ∷ ls) f =
      let (one, rest) = neither (denied a ls) (always_true ls) f in
      let more = open_without ls rest in
      choice (λ ds. always_true ds ≡ false) (test a) (λ _. more) (λ _. ap (λ b. b || always_true (dropped test ls)) (denied_without a ls one) ∙ more)

module _ (X : Variables) where
  -- v is not deeper than every existential of a clause, if one of them is at least as deep ...
  not_deeper : (v : ℕ) (clause : List ℤ) {k : ℤ} → Memᴰ k clause → X.ex (variable_of k) ≡ true → X.lev v ≤ X.lev (variable_of k) → deeper_than_all X clause v ≡ false
  unfolding deeper_than_all
  not_deeper v [] m ex l = absurd (Memᴰ.not-nil m)
  not_deeper v (a ∷ more) {k} m ex l = ⊎_elim
      (λ q. ap (λ b. b && deeper_than_all X more v) (ap (λ z. not (X.ex (variable_of z)) || ltb (X.lev (variable_of z)) (X.lev v)) (sym q) ∙ shallow))
      (λ m'. ap (λ b. (not (X.ex (variable_of a)) || ltb (X.lev (variable_of a)) (X.lev v)) && b) (not_deeper v more m' ex l) ∙ and-false
      (not (X.ex (variable_of a)) || ltb (X.lev (variable_of a)) (X.lev v))) (Memᴰ.cases_cons m)
    where
      shallow : (not (X.ex (variable_of k)) || ltb (X.lev (variable_of k)) (X.lev v)) ≡ false
      shallow = ap (λ b. not b || ltb (X.lev (variable_of k)) (X.lev v)) ex ∙ le-ltb (X.lev (variable_of k)) (X.lev v) l

  -- ... so that a literal from which a step may go to a variable of the clause is not reducible.
  not_reducible : (l : ℤ) {k : ℤ} (clause : List ℤ) → Memᴰ k clause → Step X (variable_of l) (variable_of k) → reducible X clause l ≡ false
  unfolding reducible
  not_reducible l clause m s = ⊎_elim
      (λ ex. ap (λ b. not b && deeper_than_all X clause (variable_of l)) ex)
      (λ low. ap (λ b. not (X.ex (variable_of l)) && b) (not_deeper (variable_of l) clause m s.to low) ∙ and-false (not (X.ex (variable_of l)))) s.from

-- d has what c has, wherever a step may go: a literal of c and a variable that c connects.
pub record Gives (X : Variables) (c d : List ℤ) : Type 0 where
  pub given : (l : ℤ) (z : ℕ) → Step X (variable_of l) z → Memᴰ l c → Memᴰ z (connected c) → Memᴰ l d × Memᴰ z (connected d)

module _ {X : Variables} where
  gives_itself : (c : List ℤ) → Gives X c c
  gives_itself c = record { given = λ l z s m k. (m, k) }

  -- A reduced clause has what the clause has ...
  pub gives_reduced : (c : List ℤ) → Gives X c (reduced_clause X c)
  unfolding reduced_clause
  gives_reduced c = choice (Gives X c) (always_true c) (λ _. gives_itself c) (λ f. record { given = kept f })
    where
      kept : always_true c ≡ false → (l : ℤ) (z : ℕ) → Step X (variable_of l) z → Memᴰ l c → Memᴰ z (connected c)
          → Memᴰ l (dropped (reducible X c) c) × Memᴰ z (connected (dropped (reducible X c) c))
      kept f l z s m k =
          let (w, mw, is) = Memᴰ.of_map variable_of c (subst (Memᴰ z) (connected_all c f) k) in
          let step : Step X (variable_of l) (variable_of w) = subst (Step X (variable_of l)) (sym is) s in
          let stays = without_keeps (reducible X c) c (not_reducible X w c mw (record { to = step.to; from = inl step.to })) mw in (
            without_keeps (reducible X c) c (not_reducible X l c mw step) m,
            subst (Memᴰ z) (sym (connected_all (dropped (reducible X c) c) (open_without (reducible X c) c f)))
                (subst (λ v. Memᴰ v (map variable_of (dropped (reducible X c) c))) is (Memᴰ.map variable_of stays)),
          )

  -- ... and nothing else.
  pub reduced_gives : (c : List ℤ) → Gives X (reduced_clause X c) c
  unfolding reduced_clause
  reduced_gives c = choice (λ d. Gives X d c) (always_true c) (λ _. gives_itself c) (λ f. record { given = had f })
    where
      had : always_true c ≡ false → (l : ℤ) (z : ℕ) → Step X (variable_of l) z → Memᴰ l (dropped (reducible X c) c)
          → Memᴰ z (connected (dropped (reducible X c) c)) → Memᴰ l c × Memᴰ z (connected c)
      had f l z s m k =
          let (w, mw, is) = Memᴰ.of_map variable_of (dropped (reducible X c) c) (subst (Memᴰ z) (connected_all (dropped (reducible X c) c) (connected_open (dropped (reducible X c) c) z k)) k) in
          (without_had (reducible X c) c m, subst (Memᴰ z) (sym (connected_all c f)) (subst (λ v. Memᴰ v (map variable_of c)) is (Memᴰ.map variable_of (without_had (reducible X c) c mw))))

  -- The same of variables alone: what c joins d joins.
  pub gives_joined : {c d : List ℤ} → Gives X c d → (a b : ℕ) → Step X a b → Memᴰ a (connected c) → Memᴰ b (connected c) → Memᴰ a (connected d) × Memᴰ b (connected d)
  gives_joined {c} {d} g a b s m k =
      let (l, ml, is) = Memᴰ.of_map variable_of c (subst (Memᴰ a) (connected_all c (connected_open c a m)) m) in
      let (left, right) = g.given l b (subst (λ v. Step X v b) (sym is) s) ml k in
      (subst (Memᴰ a) (sym (connected_all d (connected_open d b right))) (subst (λ v. Memᴰ v (map variable_of d)) is (Memᴰ.map variable_of left)), right)

-- Every clause of cs is given by one of ds.
pub record Covers (X : Variables) (cs ds : List (List ℤ)) : Type 0 where
  pub covered : (c : List ℤ) → Memᴰ c cs → (d : List ℤ) × Memᴰ d ds × Gives X c d

-- A list in another order has the same members, and as many.
pub reordered_member : {cs ds : List (List ℤ)} {c : List ℤ} → Permᴰ cs ds → Memᴰ c cs → Memᴰ c ds
reordered_member Permᴰ.nil m = m
reordered_member (Permᴰ.cons q p) m = ⊎_elim (λ e. Memᴰ.head (e ∙ q)) (λ m'. Memᴰ.tail (reordered_member p m')) (Memᴰ.cases_cons m)
reordered_member (Permᴰ.swap q r) m = ⊎_elim (λ e. Memᴰ.tail (Memᴰ.head (e ∙ q)))
    (λ m'. ⊎_elim (λ e. Memᴰ.head (e ∙ r)) (λ m''. Memᴰ.tail (Memᴰ.tail m'')) (Memᴰ.cases_cons m')) (Memᴰ.cases_cons m)
reordered_member (Permᴰ.trans p q) m = reordered_member q (reordered_member p m)

reordered_many : {cs ds : List (List ℤ)} → Permᴰ cs ds → length cs ≡ length ds
reordered_many Permᴰ.nil = refl
reordered_many (Permᴰ.cons q p) = ap suc (reordered_many p)
reordered_many (Permᴰ.swap q r) = refl
reordered_many (Permᴰ.trans p q) = reordered_many p ∙ reordered_many q

module _ (X : Variables) where
  -- Clauses reduced one by one are given, both ways, and are as many.
  reduces_covers : (cs ds : List (List ℤ)) → Reduces X cs ds → Covers X cs ds × Covers X ds cs
  reduces_covers [] [] r = (record { covered = λ c m. absurd (Memᴰ.not-nil m) }, record { covered = λ c m. absurd (Memᴰ.not-nil m) })
  reduces_covers [] (d ∷ ds) r = absurd r
  reduces_covers (c ∷ cs) [] r = absurd r
  reduces_covers (c ∷ cs) (d ∷ ds) (one, rest) =
      let (to, back) = reduces_covers cs ds rest in
      let (give, given) = both in (
        record {
          covered = λ e m. ⊎_elim (λ q. (d, Memᴰ.head refl, subst (λ a. Gives X a d) (sym q) give))
              (λ m'. let (f, mf, g) = to.covered e m' in (f, Memᴰ.tail mf, g)) (Memᴰ.cases_cons m);
        },
        record {
          covered = λ e m. ⊎_elim (λ q. (c, Memᴰ.head refl, subst (λ a. Gives X a c) (sym q) given))
              (λ m'. let (f, mf, g) = back.covered e m' in (f, Memᴰ.tail mf, g)) (Memᴰ.cases_cons m);
        },
      )
    where
      both : Gives X c d × Gives X d c
      both = ⊎_elim (λ q. (subst (Gives X c) (sym q) (gives_itself c), subst (λ a. Gives X a c) (sym q) (gives_itself c)))
          (λ q. (subst (Gives X c) (sym q) (gives_reduced c), subst (λ a. Gives X a c) (sym q) (reduced_gives c))) one

  reduces_many : (cs ds : List (List ℤ)) → Reduces X cs ds → length cs ≡ length ds
  reduces_many [] [] r = refl
  reduces_many [] (d ∷ ds) r = absurd r
  reduces_many (c ∷ cs) [] r = absurd r
  reduces_many (c ∷ cs) (d ∷ ds) (one, rest) = ap suc (reduces_many cs ds rest)

-- So it is with a reduction of a clause table.
module _ {X : Variables} {ls ls' : List ℤ} (r : Reduction X ls ls') where
  pub reduction_covers : Covers X (clauses ls) (clauses ls')
  reduction_covers = record { covered = λ c m. let (d, md, g) = (reduces_covers X (clauses ls) r.in_place r.reduces).0.covered c m in (d, reordered_member r.reordered md, g) }

  pub reduction_covered : Covers X (clauses ls') (clauses ls)
  reduction_covered = record { covered = λ d m. (reduces_covers X (clauses ls) r.in_place r.reduces).1.covered d (reordered_member (Permᴰ.symm r.reordered) m) }

  pub reduction_many : length (clauses ls) ≡ length (clauses ls')
  reduction_many = reduces_many X (clauses ls) r.in_place r.reduces ∙ reordered_many r.reordered
