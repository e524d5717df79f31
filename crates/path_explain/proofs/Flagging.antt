-- Flags of the existentials deeper than x, set one variable after the other.
use Prim.Native.Nat.{ℕ, ◌≤◌, ◌<◌}
use mathlib.Core.Path.{◌≡◌, sym}
use mathlib.Core.Bool.{Bool, true, false, not}
use mathlib.Core.List.{List}
use mathlib.Core.Logic.{◌≢◌, ◌↔◌, by_cases}
use native.Mathlib.Decide.{dec_lt}
use native.Mathlib.Omega.{arith}
use lib.ListN.{length, get_or, replicate, length-replicate, get_or-replicate, get_or-eq_default}
use Rattle.terms.proofs.Common.{clash}
use Rattle.forest_theory.specs.Reach.{Variables, Deeper}
use Rattle.forest_tables.specs.InnerTabled.{tabled, existential_in, universal_in}
use Rattle.forest_tables.proofs.Agreeing.{Same, same_back, deeper_same}
use Rattle.forest_tables.proofs.Readings.{flag_within}
use Rattle.path_explain.specs.InnerTies.{FlagsDeeper}

-- The flags before v tell P, and no other is set.
pub record Before (P : ℕ → Type 0) (flags : List Bool) (v : ℕ) : Type 0 where
  pub tells : (w : ℕ) → w < v → (get_or flags w false ≡ true) ↔ P w
  pub others : (w : ℕ) → v ≤ w → get_or flags w false ≡ false

pub before_all : {P : ℕ → Type 0} {flags : List Bool} {n v : ℕ} → Before P flags v → n < v → ((w : ℕ) → P w → w ≤ n) → (w : ℕ) → (get_or flags w false ≡ true) ↔ P w
before_all {P} {flags} {n} {v} b all few w =
    by_cases (dec_lt w v) (b.tells w) (λ over. (λ t. absurd (clash t (b.others w (omega arith))), λ p. absurd (let l = few w p in omega arith)))

-- An existential by the level table is one of the variables.
pub deeper_within : (n : ℕ) (levels : List ℕ) (universals : List Bool) (x v : ℕ) → Deeper (tabled n levels universals) x v → (1 ≤ v) × (v ≤ n)
unfolding existential_in
deeper_within n levels universals x v d = let (low, high, _) = flag_within n v (not (get_or universals v false)) d.existential in (low, high)

-- What is flagged has a row.
pub flag_row : (flags : List Bool) (v : ℕ) → get_or flags v false ≡ true → v < length flags
flag_row flags v t = by_cases (dec_lt v (length flags)) (λ l. l) (λ l. absurd (clash t (get_or-eq_default flags false {n = v} (omega arith))))

-- A universal by the level table has a number.
pub universal_named : (n : ℕ) (universals : List Bool) (x : ℕ) → universal_in n universals x ≡ true → x ≢ 0
unfolding universal_in
universal_named n universals x u z = let low = (flag_within n x (get_or universals x false) u).0 in omega arith

-- A new table of flags has none set.
pub new_false : (k v : ℕ) → get_or (replicate {A = Bool} k false) v false ≡ false
new_false k v =
    by_cases (dec_lt v k) (λ l. get_or-replicate {A = Bool} k v false false l)
    (λ l. get_or-eq_default (replicate {A = Bool} k false) false {n = v} (let q = length-replicate {A = Bool} k false in omega arith))

-- What is deeper than x by the level table is deeper by the prefix.
pub flags_agree : {X Y : Variables} {x : ℕ} {flags : List Bool} → Same X Y → X.lev x ≡ Y.lev x → FlagsDeeper X x flags → FlagsDeeper Y x flags
flags_agree same own f =
    record { size = f.size; tells = λ v. (λ t. deeper_same same own ((f.tells v).0 t), λ d. (f.tells v).1 (deeper_same (same_back same) (sym own) d)) }
