-- The block is empty exactly if a next entry is there and is 0: the two tests of the code are those of the definition (begins-by).
use Prim.Native.Nat.{ℕ, suc, ◌+◌, ◌<◌, ◌≤◌}
use mathlib.Core.Path.{◌≡◌, refl, sym, ap, ◌∙◌}
use mathlib.Core.Bool.{Bool, true, false, not, ◌&&◌}
use mathlib.Core.List.{List}
use native.Mathlib.Numerals.{add-one}
use borrow.Author.Tests.{lt-ltb, le-ltb, eq-eqb, ne_eqb}
use native.Mathlib.Omega.{arith}
use lib.Dec.{eqb, ltb}
use lib.ListN.{length}
use Rattle.formula.specs.Tables.{at}
use Rattle.formula_rules.specs.InnerScan.{begins_after}
use Rattle.formula_rules.proofs.judging.begins_after.Goals as goal

-- the block is empty if both tests say so
module _ (es : List ℕ) (i last : ℕ) where
  begins-by : (within zero' : Bool) → ltb (suc i) (length es) ≡ within → eqb (at es (suc i)) 0 ≡ zero'
      → (not (within && zero') && not (eqb (at es i) last)) ≡ begins_after es i last
  begins-by within zero' p q =
      sym (ap (λ b. not (b && eqb (at es (suc i)) 0) && not (eqb (at es i) last)) p ∙ ap (λ b. not (within && b) && not (eqb (at es i) last)) q)

  next-is : at es (i + 1) ≡ at es (suc i)
  next-is = ap (at es) (add-one i)

pub returns-then-prefix-next-eq0 : goal.returns-then-prefix-next-eq0
returns-then-prefix-next-eq0 c =
    let a = c.args in
    let es = a.prefix.now in
    let l : suc a.i < length es = omega (arith, c.if-next-prefix.true) in
    record { told = begins-by es a.i a.last true true (lt-ltb _ _ l) (eq-eqb _ 0 (sym (next-is es a.i a.last) ∙ c.if-prefix-next-eq0.true)) }

pub returns-else-prefix-next-eq0 : goal.returns-else-prefix-next-eq0
returns-else-prefix-next-eq0 c =
    let a = c.args in
    let es = a.prefix.now in
    let l : suc a.i < length es = omega (arith, c.if-next-prefix.true) in
    record { told = begins-by es a.i a.last true false (lt-ltb _ _ l) (ne_eqb _ 0 (λ z. c.if-prefix-next-eq0.false (next-is es a.i a.last ∙ z))) }

pub returns-else-next-prefix : goal.returns-else-next-prefix
returns-else-next-prefix c =
    let a = c.args in
    let l : length a.prefix.now ≤ suc a.i = omega (arith, c.if-next-prefix.false) in
    record { told = begins-by a.prefix.now a.i a.last false _ (le-ltb _ _ l) refl }
