-- So many clauses stand before an entry, and those from it on follow them.
use Prim.Native.Nat.{ℕ, suc, ◌+◌, ◌-◌, ◌≤◌, ◌<◌}
use mathlib.Core.Path.{◌≡◌, sym, ap, ◌∙◌}
use mathlib.Core.List.{List, [], ◌∷◌}
use native.Mathlib.Nat.{add-zero, zero-add}
use native.Mathlib.Omega.{arith}
use lib.IntN.{ℤ}
use lib.ListN.{length, get_or, take, drop}
use Rattle.formula.specs.InnerLookup.{NextZero}
use Rattle.formula.specs.Meaning.{clauses}
use Rattle.formula.proofs.Lookups.{clauses_closed}
use Rattle.path_check.specs.Paths.{clause_at}

pub record Counted (ls : List ℤ) (count start : ℕ) : Type 0 where
  pub within : start ≤ length ls
  pub few : count ≤ start
  pub whole : length (clauses ls) ≡ count + length (clauses (drop start ls))
  pub same : (k : ℕ) → get_or (clauses ls) (count + k) [] ≡ get_or (clauses (drop start ls)) k []

pub counted_none : (ls : List ℤ) → Counted ls 0 0
counted_none ls = record { within = omega arith; few = omega arith; whole = omega arith; same = λ k. ap (λ j. get_or (clauses ls) j []) (zero-add k) }

module _ {ls : List ℤ} {count start : ℕ} (c : Counted ls count start) {z : ℕ} (next : NextZero ls start z) (closed : z < length ls) where
  split : clauses (drop start ls) ≡ take (z - start) (drop start ls) ∷ clauses (drop (z + 1) ls)
  split = clauses_closed ls start z next closed

  -- What stands from start up to the 0 at z is the clause with the number count, which there is ...
  pub counted_here : take (z - start) (drop start ls) ≡ clause_at ls count
  counted_here = sym (ap (λ j. get_or (clauses ls) j []) (sym (add-zero count)) ∙ c.same 0 ∙ ap (λ cs. get_or cs 0 []) split)

  pub counted_less : count < length (clauses ls)
  counted_less = let shorter = ap length split in let sum = c.whole in omega arith

  -- ... and one clause more stands before what follows the 0.
  pub counted_more : Counted ls (count + 1) (z + 1)
  counted_more =
      let low = next.from in
      let few = c.few in
      let sum = c.whole in
      let shorter : length (clauses (drop start ls)) ≡ suc (length (clauses (drop (z + 1) ls))) = ap length split in
      record {
        within = omega arith;
        few = omega arith;
        whole = omega arith;
        same = λ k. let q : count + 1 + k ≡ count + suc k = omega arith in ap (λ j. get_or (clauses ls) j []) q ∙ c.same (suc k) ∙ ap (λ cs. get_or cs (suc k) []) split;
      }
