-- What the scans of a clause table know, and that a fault found there is the first.
use Prim.Native.Nat.{ℕ, zero, suc, ◌≤◌, ◌<◌, ◌+◌, ◌-◌}
use mathlib.Core.Path.{◌≡◌, refl, sym, ap, ◌∙◌}
use mathlib.Core.Bool.{Bool, false, not}
use mathlib.Core.List.{List}
use mathlib.Core.Logic.{◌⊎◌, ◌≢◌, ⊎_elim}
use native.Mathlib.Numerals.{add-one}
use native.Mathlib.Omega.{arith}
use borrow.Author.Tests.{eqb-true, not-false}
use lib.Dec.{eqb}
use lib.IntN.{ℤ, pos, negsuc}
use lib.ListN.{length}
use Rattle.terms.specs.Literals.{variable_of}
use Rattle.terms.specs.Refusals.{First, None}
use Rattle.terms.proofs.Common.{below_suc}
use Rattle.terms.proofs.Verdicts.{first_at}
use Rattle.formula.specs.Tables.{literal_at, EndsInside}
use Rattle.formula.specs.Causes.{ClauseCause, outside, ends_inside}
use Rattle.formula.specs.InnerScan.{AllUpto, FirstOver}

-- only the literal 0 has no variable
pub no_variable : (z : ℤ) → variable_of z ≡ 0 → z ≡ pos 0
no_variable (pos n) q = ap pos q
no_variable (negsuc n) q = absurd (omega arith)

-- entry i comes after a literal, and so inside a clause
abbrev inside_at : List ℤ → ℕ → Bool
inside_at ls zero = false
inside_at ls (suc e) = not (eqb (variable_of (literal_at ls e)) 0)

-- Every entry before i is without fault, and the scan knows whether it stands inside a clause.
pub record Read (n : ℕ) (ls : List ℤ) (i : ℕ) (inside : Bool) : Type 0 where
  pub within : i ≤ length ls
  pub clean : (e : ℕ) → e < i → (number : ℕ) → ClauseCause n ls number e → ⊥
  pub inside_is : inside ≡ inside_at ls i

pub read_none : (n : ℕ) (ls : List ℤ) → Read n ls 0 false
read_none n ls = record { within = omega arith; clean = λ e l. absurd (omega arith); inside_is = refl }

module _ {n : ℕ} {ls : List ℤ} {i : ℕ} {inside : Bool} (r : Read n ls i inside) where
  -- A literal of a variable up to n, or a 0.
  pub read_literal : (v : ℕ) → i < length ls → v ≡ variable_of (literal_at ls i) → v ≤ n → Read n ls (i + 1) (not (eqb v 0))
  read_literal v more is low =
      rw (add-one i)
      record { within = more; clean = below_suc (λ e. (number : ℕ) → ClauseCause n ls number e → ⊥) i r.clean here; inside_is = ap (λ w. not (eqb w 0)) is }
    where
      here : (number : ℕ) → ClauseCause n ls number i → ⊥
      here number (outside _ _ _ over) = omega arith
      here number (ends_inside _ q _) = omega arith

-- The table does not end inside a clause if its last entry is no literal.
shut_end : (ls : List ℤ) (m : ℕ) → length ls ≡ m → inside_at ls m ≡ false → EndsInside (pos 0) ls → ⊥
shut_end ls zero q t (some, last) = omega arith
shut_end ls (suc m) q t (some, last) =
    let end : length ls - 1 ≡ m = omega arith in last (no_variable _ (ap (λ e. variable_of (literal_at ls e)) end ∙ eqb-true _ 0 (not-false _ t)))

module _ {n : ℕ} {ls : List ℤ} {i : ℕ} {inside : Bool} (r : Read n ls i inside) (done : length ls ≤ i) where
  end : length ls ≡ i
  end = let w = r.within in omega arith

  -- A table that is read to its end between two clauses has no cause.
  pub none_in_clauses : inside ≡ false → None (ClauseCause n ls)
  none_in_clauses shut k e (outside q l some over) = r.clean e (let w = end in omega arith) k (outside q l some over)
  none_in_clauses shut k e (ends_inside q p inside) = shut_end ls i end (sym r.inside_is ∙ shut) inside

-- Up to the first variable over n there is no fault, and there the first.
all_clean : {n : ℕ} {ls : List ℤ} {i : ℕ} → i ≤ length ls → AllUpto n ls i → (e : ℕ) → e < i → (number : ℕ) → ClauseCause n ls number e → ⊥
all_clean within low e l number (outside _ _ _ over) = let u = low e l in omega arith
all_clean within low e l number (ends_inside _ q _) = omega arith

pub fault_at_literal : {n : ℕ} {ls : List ℤ} {i : ℕ} → FirstOver n ls i → i < length ls → First (ClauseCause n ls) 10 i
fault_at_literal {n} {ls} {i} f more =
    let over = f.over more in
    first_at (all_clean f.within f.low) (outside refl more (λ q. let z = ap variable_of q in omega arith) over) least
  where
    least : (k : ℕ) → ClauseCause n ls k i → 10 ≤ k
    least k (outside q _ _ _) = omega arith
    least k (ends_inside q _ _) = omega arith

-- Where there is none, the last entry tells: the table ends inside a clause exactly if that is a literal.
module _ {n : ℕ} {ls : List ℤ} {i : ℕ} (f : FirstOver n ls i) (done : length ls ≤ i) where
  low : AllUpto n ls (length ls)
  low e l = f.low e (omega arith)

  pub none_over : ((length ls ≡ 0) ⊎ (variable_of (literal_at ls (length ls - 1)) ≡ 0)) → None (ClauseCause n ls)
  none_over shut k e (outside q l some over) = let u = low e l in omega arith
  none_over shut k e (ends_inside q p (some, last)) = ⊎_elim (λ none. omega arith) (λ closed. last (no_variable (literal_at ls (length ls - 1)) closed)) shut

  pub fault_at_end : length ls ≢ 0 → variable_of (literal_at ls (length ls - 1)) ≢ 0 → First (ClauseCause n ls) 11 (length ls)
  fault_at_end some last = first_at (all_clean (omega arith) low) (ends_inside refl refl (omega arith, λ z. last (ap variable_of z))) least
    where
      least : (k : ℕ) → ClauseCause n ls k (length ls) → 11 ≤ k
      least k (outside _ l _ _) = absurd (omega arith)
      least k (ends_inside q _ _) = omega arith
