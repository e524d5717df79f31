-- How long a joined prefix can be: no variable is named twice, and there are at most 64 blocks, each with a mark and a 0.
use Prim.Native.Nat.{ℕ, zero, suc, ◌+◌, ◌*◌, ◌≤◌, ◌<◌}
use mathlib.Core.Path.{◌≡◌, refl, sym, ap, ◌∙◌}
use mathlib.Core.Bool.{Bool, true, false, cond}
use mathlib.Core.List.{List, ◌∷◌, ◌++◌}
use mathlib.Core.Logic.{◌≢◌}
use native.Mathlib.Decide.{ℕ_discrete}
use native.Mathlib.Omega.{arith}
use borrow.Author.Tests.{eq-eqb, ne_eqb}
use lib.ListN.{length, length-append}
use Rattle.terms.specs.Refusals.{None}
use Rattle.formula.specs.Meaning.{has}
use Rattle.formula_rules.specs.Joined.{joined_prefix}
use Rattle.formula_rules.specs.Rules.{JoinedCause}
use Rattle.formula_rules.specs.InnerWriting.{closing}
use Rattle.formula_rules.proofs.Scanned.{mark_some}
use Rattle.formula_rules.proofs.Passing.{Passes, no_more, begin, go_on, close_block, name, passes}
use Rattle.formula_rules.proofs.Rest.{rest, rest_joined}

-- how many of the numbers from 1 to m are named
unfoldable named : List ℕ → ℕ → ℕ
named names zero = 0
named names (suc m) = cond (has names (suc m)) (suc (named names m)) (named names m)

named_most : (names : List ℕ) (m : ℕ) → named names m ≤ m
unfolding named
named_most names zero = omega arith
named_most names (suc m) = go (has names (suc m)) (named_most names m)
  where
    go : (b : Bool) {k : ℕ} → k ≤ m → cond b (suc k) k ≤ suc m
    go true l = omega arith
    go false l = omega arith

-- one name more is one number more, up to any number that is not below it
module _ (v : ℕ) (names : List ℕ) where
  has_other : (w : ℕ) → v ≢ w → has (v ∷ names) w ≡ has names w
  has_other w other = ap (λ (b : Bool). cond b true (has names w)) (ne_eqb v w other)

  named_under : (m : ℕ) → m < v → named (v ∷ names) m ≡ named names m
  unfolding named
  named_under zero l = refl
  named_under (suc m) l =
      ap (λ (b : Bool). cond b (suc (named (v ∷ names) m)) (named (v ∷ names) m)) (has_other (suc m) (λ q. omega arith))
      ∙ ap (λ (k : ℕ). cond (has names (suc m)) (suc k) k) (named_under m (omega arith))

  named_more : has names v ≡ false → v ≢ 0 → (m : ℕ) → v ≤ m → named (v ∷ names) m ≡ suc (named names m)
  unfolding named
  named_more new some zero l = absurd (some (omega arith))
  named_more new some (suc m) l = go (λ low. named_more new some m low) (ℕ_discrete v (suc m))
    where
      later : (b : Bool) (k : ℕ) → cond b (suc (suc k)) (suc k) ≡ suc (cond b (suc k) k)
      later true k = refl
      later false k = refl

      go : (v ≤ m → named (v ∷ names) m ≡ suc (named names m)) → Dec (v ≡ suc m) → named (v ∷ names) (suc m) ≡ suc (named names (suc m))
      go so (yes q) =
          ap (λ (b : Bool). cond (cond b true (has names (suc m))) (suc (named (v ∷ names) m)) (named (v ∷ names) m)) (eq-eqb v (suc m) q)
          ∙ ap suc (named_under m (omega arith))
          ∙ sym (ap (λ (b : Bool). suc (cond b (suc (named names m)) (named names m))) (sym (ap (has names) q) ∙ new))
      go so (no other) =
          ap (λ (b : Bool). cond b (suc (named (v ∷ names) m)) (named (v ∷ names) m)) (has_other (suc m) other)
          ∙ ap (λ (k : ℕ). cond (has names (suc m)) (suc k) k) (so (omega arith))
          ∙ later (has names (suc m)) (named names m)

closing_one : (mark : ℕ) → mark ≢ 0 → length (closing mark) ≡ 1
unfolding closing
closing_one zero some = absurd (some refl)
closing_one (suc mark) some = refl

-- What is still to be written, with what is written already, but for the 0 that is not written yet.
rest_most : {n : ℕ} {opening : Bool} {last count : ℕ} {names es : List ℕ} → Passes n opening last count names es → length names ≤ named names n → count ≤ 64
    → length (rest opening last es) + length names + 2 * count ≤ n + 128 + length (closing last)
unfolding rest
rest_most {n} {names = names} no_more many few = let most = named_most names n in omega arith
rest_most (begin {mark} {last} {count} {names} {more} good new room d) many few =
    let is =
    ap (λ (b : Bool). length (cond b (closing last ++ (mark ∷ rest false mark more)) (rest false last more))) new
    ∙ length-append (closing last) (mark ∷ rest false mark more) in
    let one = closing_one mark (mark_some mark good) in
    let later = rest_most d many (omega arith) in
    omega arith
rest_most (go_on {mark} {last} {count} {names} {more} good old d) many few =
    let is = ap (λ (b : Bool). length (cond b (closing last ++ (mark ∷ rest false mark more)) (rest false last more))) old in
    let later = rest_most d many few in
    omega arith
rest_most (close_block d) many few = rest_most d many few
rest_most {n} (name {v} {last} {count} {names} {more} some low new d) many few =
    let is = ap (λ (b : Bool). length (cond b (rest true last more) (v ∷ rest false last more))) (ne_eqb v 0 some) in
    let one = named_more v names new some n low in
    let later = rest_most d (omega arith) few in
    omega arith

-- So the joined prefix of an accepted one has at most 4,096 variables, and twice 64 entries more.
pub joined_short : {n : ℕ} {es : List ℕ} → n ≤ 4096 → None (JoinedCause n es) → length (joined_prefix es) ≤ 4224
unfolding closing
joined_short {n} {es} few none =
    let d = passes none in
    let is = ap length (rest_joined d) in
    let most = rest_most d (omega arith) (omega arith) in
    omega arith
