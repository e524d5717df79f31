-- The literals of the clauses of an accepted table are of the variables 1 to n.
use Prim.Native.Nat.{ℕ, suc, ◌≤◌, ◌<◌}
use mathlib.Core.Path.{◌≡◌, refl, sym, ◌∙◌, ap}
use mathlib.Core.List.Memᴰ
use mathlib.Core.List.{List, [], ◌∷◌, Memᴰ}
use mathlib.Core.Logic.{⊎_elim, ◌≢◌, by_cases}
use native.Mathlib.Decide.{dec_le}
use native.Mathlib.Omega.{arith}
use borrow.Author.Tests.{eqb-false}
use lib.Dec.{eqb}
use lib.IntN.{ℤ}
use lib.ListN.{length}
use Rattle.terms.specs.Literals.{variable_of}
use Rattle.terms.specs.Refusals.{None}
use Rattle.formula.specs.Causes.{ClauseCause}
use Rattle.formula.specs.Meaning.{clauses}
use Rattle.formula.specs.Tables.{cut, push, literal_at}
use Rattle.forest_theory.proofs.Choice.{choice}

-- A literal of a clause is an entry that is no 0.
record EntryIn (ls : List ℤ) (l : ℤ) : Type 0 where
  place : ℕ
  within : place < length ls
  is : literal_at ls place ≡ l
  some : variable_of l ≢ 0

behind : {a : ℤ} {ls : List ℤ} {l : ℤ} → EntryIn ls l → EntryIn (a ∷ ls) l
behind e = record { place = suc e.place; within = (let k = e.within in omega arith); is = e.is; some = e.some }

entry_in : (ls : List ℤ) (clause : List ℤ) (l : ℤ) → Memᴰ clause (clauses ls) → Memᴰ l clause → EntryIn ls l
unfolding clauses cut
entry_in [] clause l m i = absurd (Memᴰ.not-nil m)
entry_in (a ∷ ls) clause l m i = choice (λ (cs : List (List ℤ)). Memᴰ clause cs → EntryIn (a ∷ ls) l) (eqb (variable_of a) 0)
    (λ t k. ⊎_elim (λ q. absurd (Memᴰ.not-nil (rw q at i))) (λ j. behind (entry_in ls clause l j i)) (Memᴰ.cases_cons k))
    (λ f k. pushed (clauses ls) (eqb-false (variable_of a) 0 f) (λ c j h. entry_in ls c l j h) k) m
  where
    pushed : (cs : List (List ℤ)) → variable_of a ≢ 0 → ((c : List ℤ) → Memᴰ c cs → Memᴰ l c → EntryIn ls l)
        → Memᴰ clause (push a cs) → EntryIn (a ∷ ls) l
    pushed [] n on k = absurd (Memᴰ.not-nil k)
    pushed (c ∷ cs) n on k = ⊎_elim
        (λ q. ⊎_elim (λ r. record { place = 0; within = omega arith; is = sym r; some = λ z. n (sym (ap variable_of r) ∙ z) })
        (λ j. behind (on c (Memᴰ.head refl) j)) (Memᴰ.cases_cons (rw q at i)))
        (λ j. behind (on clause (Memᴰ.tail j) i)) (Memᴰ.cases_cons k)

pub literal_within : {n : ℕ} {ls : List ℤ} → None (ClauseCause n ls) → (clause : List ℤ) → Memᴰ clause (clauses ls) → (l : ℤ)
    → Memᴰ l clause → (1 ≤ variable_of l) × (variable_of l ≤ n)
literal_within {n} {ls} none clause m l i =
    let e = entry_in ls clause l m i in
    let some = e.some in
    let q = ap variable_of e.is in (
      omega arith,
      by_cases (dec_le (variable_of l) n) (λ low. low)
          (λ over. absurd (none 10 e.place (ClauseCause.outside refl e.within (λ z. some (sym q ∙ ap variable_of z)) (omega arith)))),
    )
