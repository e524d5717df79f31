-- What a call may rely on once n, the lengths and the prefix are accepted.
use Prim.Native.Nat.{ℕ}
use mathlib.Core.Path.{refl}
use mathlib.Core.List.{List, [], ◌∷◌, ◌++◌}
use mathlib.Core.Logic.{inl, by_cases}
use native.Mathlib.Decide.{dec_le}
use native.Mathlib.Omega.{arith}
use lib.IntN.{ℤ}
use lib.ListN.{length}
use Rattle.terms.specs.Refusals.{Causes, NoneOf}
use Rattle.formula.specs.Causes.{ClauseCause}
use Rattle.formula.specs.InnerOrders.{prefix_order, check_order}
use Rattle.formula.specs.InnerLevels.{SoundPrefix}

-- No cause among the first of a call, whatever is looked at after them: n and the prefix are sound.
pub sound_prefix : {n : ℕ} {es : List ℕ} (entries : ℕ) (more : List Causes) → NoneOf (prefix_order n es entries ++ more) → SoundPrefix n es
sound_prefix {n} {es} entries more none =
    record {
      few = by_cases (dec_le n 4096) (λ l. l) (λ l. absurd (none.0 1 0 (refl, refl, omega arith)));
      short = by_cases (dec_le (length es) 8192) (λ l. l) (λ l. absurd (none.1.0 2 0 (refl, refl, inl (omega arith))));
      faultless = none.1.1.0;
    }

pub sound_check : {n : ℕ} {es : List ℕ} {ls : List ℤ} → NoneOf (check_order n es ls) → SoundPrefix n es
sound_check {n} {ls = ls} none = sound_prefix (length ls) (ClauseCause n ls ∷ []) none
