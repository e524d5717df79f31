use Prim.Native.Nat.{ℕ}
use mathlib.Core.Path.{subst}
use mathlib.Core.List.{List}
use mathlib.Core.Logic.{◌⊎◌, ◌↔◌}
use lib.IntN.{ℤ}
use Rattle.formula.specs.InnerLookup.{NextZero}
use Rattle.forest_entries.specs.InnerFlags.{Has, Via}
use Rattle.forest_entries.proofs.Flags.{unclosed_more, unclosed_zero, unclosed_end, has_next, next_one}
use Rattle.sets_occurrences.proofs.SoleTops.{sole_next}
use Rattle.sets_occurrences.proofs.soles.sole_after.Goals as goal

-- the sole top up to the next 0, of which there is one
upto_zero : {n : ℕ} {tops : List ℕ} {ls : List ℤ} {start z : ℕ} {Before Sole : ℕ → Type 0}
    → ((e : ℕ) → Sole e ↔ (Before e ⊎ Via n tops (Has ls start z) e)) → NextZero ls start z
    → (y : ℕ) → NextZero ls start y → (e : ℕ) → Sole e ↔ (Before e ⊎ Via n tops (Has ls start y) e)
upto_zero {n} {tops} {ls} {start} {z} {Before} {Sole} told here y next =
    subst (λ z. (e : ℕ) → Sole e ↔ (Before e ⊎ Via n tops (Has ls start z) e)) (next_one here next) told

pub returns-then-variable-eq0 : goal.returns-then-variable-eq0
returns-then-variable-eq0 c =
    let l = c.loop-i.invariant in
    record { sole = upto_zero l.sole (unclosed_zero l.unclosed c.variable_at-variable.ensures.read c.if-variable-eq0.true) }

pub loop-i-preserved : goal.loop-i-preserved
loop-i-preserved c =
    let a = c.args in
    let l = c.loop-i in
    let unclosed = l.invariant.unclosed in
    let v = c.variable_at-variable in
    let more = has_next a.clauses.now a.start l.i v.result.0 unclosed.from v.ensures.read in
    record {
      unclosed = unclosed_more unclosed c.loop-i-test.true v.ensures.read c.if-variable-eq0.false;
      sole = sole_next more c.top_of.ensures.read l.invariant.sole c.in_ok-sole.ensures.sole;
    }

pub returns : goal.returns
returns c =
    let l = c.loop-i.invariant in
    record { sole = upto_zero l.sole (unclosed_end l.unclosed c.loop-i-test.false) }
