-- Entries stored one run after another, and a loop that stores: what is still to be stored, from where it stands, gives what all of it gives from the start.
use Prim.Native.Nat.{ℕ, ◌+◌}
use mathlib.Core.Path.{◌≡◌, refl, sym, ap, ◌∙◌, subst}
use mathlib.Core.List.{List, [], ◌∷◌, ◌++◌}
use native.Mathlib.Omega.{arith}
use lib.ListN.{length, set, length-append}
use lib.Seq.{sets}
use Rattle.terms.proofs.Common.{sets_append}
use Rattle.expand_clauses.specs.InnerCopied.{Stored}

module _ {A : Type 0} where
  pub stored_none : (table : List A) (at : ℕ) → Stored [] table table at at
  stored_none table at = record { count = omega arith; store = refl }

  pub stored_one : {before after : List A} (a : A) (at : ℕ) → after ≡ set before at a → Stored (a ∷ []) before after at (at + 1)
  stored_one a at s = record { count = refl; store = s }

  -- equal entries are stored alike
  pub stored_as : {entries other before after : List A} {at end : ℕ} → entries ≡ other → Stored entries before after at end
      → Stored other before after at end
  stored_as {before = before} {after} {at} {end} q s = subst (λ (r : List A). Stored r before after at end) q s

  pub stored_more : {before mid after : List A} {at k end : ℕ} (front bs : List A) → Stored front before mid at k → Stored bs mid after k end
      → Stored (front ++ bs) before after at end
  stored_more {before} {mid} {after} {at} {k} {end} front bs s s' = record {
    count = let q = length-append front bs in omega (arith, s.count, s'.count);
    store =
        s'.store ∙ ap (λ (t : List A). sets t k bs) s.store ∙ ap (λ (j : ℕ). sets (sets before at front) j bs) s.count
        ∙ sym (sets_append before at front bs);
  }

-- Where a loop that stores `whole` stands: `rest` is still to be stored, from the row `at` on.
pub record Onward {A : Type 0} (whole before : List A) (from : ℕ) (rest now : List A) (at : ℕ) : Type 0 where
  pub count : at + length rest ≡ from + length whole
  pub store : sets now at rest ≡ sets before from whole

module _ {A : Type 0} {whole before : List A} {from : ℕ} where
  pub onward_none : Onward whole before from whole before from
  onward_none = record { count = refl; store = refl }

  module _ {rest now : List A} {at : ℕ} (o : Onward whole before from rest now at) where
    pub onward_as : {other : List A} → rest ≡ other → Onward whole before from other now at
    onward_as q = subst (λ (r : List A). Onward whole before from r now at) q o

    pub onward_all : {after : List A} {end : ℕ} → Stored rest now after at end → Stored whole before after from end
    onward_all s = record { count = s.count ∙ o.count; store = s.store ∙ o.store }

  -- one step of the loop: the front of what is to be stored is stored
  pub onward_more : {now next : List A} {at end : ℕ} (front rest : List A) → Onward whole before from (front ++ rest) now at
      → Stored front now next at end → Onward whole before from rest next end
  onward_more {now} {next} {at} {end} front rest o s = record {
    count = let q = length-append front rest in omega (arith, o.count, s.count);
    store =
        ap (λ (t : List A). sets t end rest) s.store ∙ ap (λ (k : ℕ). sets (sets now at front) k rest) s.count
        ∙ sym (sets_append now at front rest) ∙ o.store;
  }
