-- The scan for both signs of one variable: rows of literals, and what the stamps say of the entries passed.
use Prim.Native.Nat.{ℕ, zero, suc, ◌+◌, ◌≤◌, ◌<◌}
use mathlib.Core.Path.{◌≡◌, refl, sym, ap, ◌∙◌}
use mathlib.Core.Bool.{true, false, or-true, not-eq-not}
use mathlib.Core.List.{List, [], ◌∷◌, map}
use mathlib.Core.Logic.{◌≢◌, by_cases}
use native.Mathlib.Decide.{dec_lt, ℕ_discrete}
use native.Mathlib.Numerals.{add-one}
use native.Mathlib.Omega.{arith}
use borrow.Author.Tests.{eqb-true, eq-eqb}
use lib.IntN.{ℤ, pos, negsuc}
use lib.ListN.{length, get_or, set, replicate, length-set, length-replicate, get_or-replicate, get_or-eq_default}
use lib.Seq.{get_or-set_same, get_or-set_other}
use Rattle.terms.specs.Literals.{variable_of}
use Rattle.terms.specs.InnerLiteralRows.{row_of, other_row}
use Rattle.terms.proofs.Common.{below_suc, clash}
use Rattle.formula.specs.Tables.{literal_at}
use Rattle.formula.specs.Meaning.{opposite, denied, always_true, connected}
use Rattle.formula.specs.InnerLookup.{InRows, Stamps}

-- Two literals are opposite exactly if the row of one is the other row of the other.
pub opposite_row : (a b : ℤ) → row_of b ≡ other_row a → opposite b a ≡ true
unfolding row_of other_row opposite
opposite_row (pos v) (pos w) q = absurd (omega arith)
opposite_row (pos v) (negsuc w) q = eq-eqb (suc w) v (omega arith)
opposite_row (negsuc v) (pos w) q = eq-eqb w (suc v) (omega arith)
opposite_row (negsuc v) (negsuc w) q = absurd (omega arith)

pub row_opposite : (a b : ℤ) → opposite b a ≡ true → row_of b ≡ other_row a
unfolding row_of other_row opposite
row_opposite (pos v) (pos w) q = absurd (clash q refl)
row_opposite (pos v) (negsuc w) q = let e = eqb-true (suc w) v q in omega arith
row_opposite (negsuc v) (pos w) q = let e = eqb-true w (suc v) q in omega arith
row_opposite (negsuc v) (negsuc w) q = absurd (clash q refl)

-- Rows of literals of a variable up to the limit are below 8,194.
row_within : (z : ℤ) → variable_of z ≤ 4096 → (row_of z < 8194) × (other_row z < 8194)
unfolding row_of other_row
row_within (pos v) l = (omega arith, omega arith)
row_within (negsuc v) l = (omega arith, omega arith)

module _ (ls : List ℤ) (rows : InRows ls) {i : ℕ} (more : i < length ls) {z : ℤ} (is : z ≡ literal_at ls i) {row : ℕ} where
  pub row_below : row ≡ row_of z → row < 8194
  row_below q = let w = (row_within (literal_at ls i) (rows i more)).0 in let e = ap row_of is in omega arith

  pub other_below : row ≡ other_row z → row < 8194
  other_below q = let w = (row_within (literal_at ls i) (rows i more)).1 in let e = ap other_row is in omega arith

-- Two entries that are opposite make a clause always true, and a clause without such a pair is not.
denied_true : (z : ℤ) (ls : List ℤ) (e : ℕ) → e < length ls → opposite z (literal_at ls e) ≡ true → denied z ls ≡ true
unfolding denied
denied_true z [] e l q = absurd (omega arith)
denied_true z (a ∷ ls) zero l q = rw q refl
denied_true z (a ∷ ls) (suc e) l q = rw (denied_true z ls e (omega arith) q) (or-true (opposite z a))

pub pair_true : (ls : List ℤ) (d e : ℕ) → d < e → e < length ls → opposite (literal_at ls d) (literal_at ls e) ≡ true → always_true ls ≡ true
unfolding always_true
pair_true [] d e l m q = absurd (omega arith)
pair_true (a ∷ ls) zero (suc e) l m q = rw (denied_true a ls e (omega arith) q) refl
pair_true (a ∷ ls) (suc d) (suc e) l m q = rw (pair_true ls d e (omega arith) (omega arith) q) (or-true (denied a ls))
pair_true (a ∷ ls) d zero l m q = absurd (omega arith)

denied_false : (z : ℤ) (ls : List ℤ) → ((e : ℕ) → e < length ls → opposite z (literal_at ls e) ≡ false) → denied z ls ≡ false
unfolding denied
denied_false z [] none = refl
denied_false z (a ∷ ls) none = rw (none 0 (omega arith), denied_false z ls (λ e l. none (suc e) (omega arith))) refl

pub pairs_false : (ls : List ℤ) → ((d e : ℕ) → d < e → e < length ls → opposite (literal_at ls d) (literal_at ls e) ≡ false) → always_true ls ≡ false
unfolding always_true
pairs_false [] none = refl
pairs_false (a ∷ ls) none =
    rw (
      denied_false a ls (λ e l. none 0 (suc e) (omega arith) (omega arith)),
      pairs_false ls (λ d e l m. none (suc d) (suc e) (omega arith) (omega arith)),
    ) refl

-- Stamps below a limit are below a higher one, and those of a table of zeros are below 1.
pub stamps_more : {seen : List ℕ} {limit more : ℕ} → Stamps seen limit → limit ≤ more → Stamps seen more
stamps_more s l = record { size = s.size; below = λ row. let m = s.below row in omega arith }

pub stamps_none : Stamps (replicate {A = ℕ} 8194 0) 1
stamps_none =
    record {
      size = length-replicate {A = ℕ} 8194 0;
      below = λ row. by_cases (dec_lt row 8194) (λ l. let z = get_or-replicate {A = ℕ} 8194 row 0 0 l in omega arith)
          (λ l. let z = get_or-eq_default (replicate {A = ℕ} 8194 0) 0 {n = row} (let q = length-replicate {A = ℕ} 8194 0 in omega arith) in omega arith);
    }

-- The stamp stands in the rows of the entries before i and in no other, and no two of them are opposite.
pub record Passed (ls : List ℤ) (seen : List ℕ) (stamp i : ℕ) : Type 0 where
  pub within : i ≤ length ls
  pub stamps : Stamps seen (stamp + 1)
  pub stamped : (row : ℕ) → get_or seen row 0 ≡ stamp → (e : ℕ) × (e < i) × (row_of (literal_at ls e) ≡ row)
  pub marked : (e : ℕ) → e < i → get_or seen (row_of (literal_at ls e)) 0 ≡ stamp
  pub clean : (e : ℕ) → e < i → (d : ℕ) → d < e → opposite (literal_at ls d) (literal_at ls e) ≡ false

pub passed_none : (ls : List ℤ) {seen : List ℕ} {stamp : ℕ} → Stamps seen stamp → Passed ls seen stamp 0
passed_none ls s =
    record {
      within = omega arith;
      stamps = stamps_more s (omega arith);
      stamped = λ row q. absurd (let m = s.below row in omega arith);
      marked = λ e m. absurd (omega arith);
      clean = λ e m. absurd (omega arith);
    }

module _ {ls : List ℤ} {seen : List ℕ} {stamp i : ℕ} (rows : InRows ls) (p : Passed ls seen stamp i) (more : i < length ls) where
  -- The row of the opposite holds the stamp: it was passed.
  pub passed_found : get_or seen (other_row (literal_at ls i)) 0 ≡ stamp → always_true ls ≡ true
  passed_found q =
      let (e, l, is) = p.stamped (other_row (literal_at ls i)) q in
      pair_true ls e i l more (opposite_row (literal_at ls i) (literal_at ls e) is)

  -- It does not: the entry is passed, and its row stamped.
  pub passed_more : get_or seen (other_row (literal_at ls i)) 0 ≢ stamp → Passed ls (set seen (row_of (literal_at ls i)) stamp) stamp (i + 1)
  passed_more other =
      rw (add-one i)
      record {
        within = more;
        stamps = record {
          size = length-set seen at stamp ∙ p.stamps.size;
          below = λ row. by_cases (ℕ_discrete row at) (λ e. rw (e, here) (omega arith)) (λ ne. rw (there row ne) (p.stamps.below row));
        };
        stamped = λ row q. by_cases (ℕ_discrete row at) (λ e. (i, omega arith, sym e))
            (λ ne. let (e, l, is) = p.stamped row (sym (there row ne) ∙ q) in (e, omega arith, is));
        marked = below_suc (λ e. get_or (set seen at stamp) (row_of (literal_at ls e)) 0 ≡ stamp) i
            (λ e l. by_cases (ℕ_discrete (row_of (literal_at ls e)) at) (λ q. rw (q) here) (λ ne. there (row_of (literal_at ls e)) ne ∙ p.marked e l)) here;
        clean = below_suc (λ e. (d : ℕ) → d < e → opposite (literal_at ls d) (literal_at ls e) ≡ false) i p.clean apart;
      }
    where
      at : ℕ
      at = row_of (literal_at ls i)

      here : get_or (set seen at stamp) at 0 ≡ stamp
      here = get_or-set_same seen at stamp 0 (let w = (row_within (literal_at ls i) (rows i more)).0 in let s = p.stamps.size in omega arith)

      there : (row : ℕ) → row ≢ at → get_or (set seen at stamp) row 0 ≡ get_or seen row 0
      there row ne = get_or-set_other seen at row stamp 0 ne

      apart : (d : ℕ) → d < i → opposite (literal_at ls d) (literal_at ls i) ≡ false
      apart d l = (not-eq-not {b = false}).0 (λ t. other (rw (← row_opposite (literal_at ls i) (literal_at ls d) t) (p.marked d l)))

-- All entries are passed: the clause is not always true.
pub passed_all : {ls : List ℤ} {seen : List ℕ} {stamp i : ℕ} → Passed ls seen stamp i → length ls ≤ i → always_true ls ≡ false
passed_all {ls} p done = pairs_false ls (λ d e l m. p.clean e (omega arith) d l)

-- What a clause connects, by whether it is always true.
pub connected_none : (ls : List ℤ) → always_true ls ≡ true → connected ls ≡ []
unfolding connected
connected_none ls q = rw q refl

pub connected_all : (ls : List ℤ) → always_true ls ≡ false → connected ls ≡ map variable_of ls
unfolding connected
connected_all ls q = rw q refl
