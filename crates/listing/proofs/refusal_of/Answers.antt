-- The number and the place of a refusal are short, so that it has a line, which is the one line that the text prints.
use mathlib.Core.Path.{sym, subst}
use mathlib.Core.List.{List, [], ◌∷◌}
use Prim.Native.Nat.{ℕ}
use native.Mathlib.Omega.{arith}
use Rattle.listing.specs.Listing.{Refuses, Prints, refusal}
use Rattle.listing.proofs.Printed.{line_is}
use Rattle.listing.proofs.Refusals.{refusal_digits}
use Rattle.listing.proofs.refusal_of.Goals as goal

pub overflow_cast-place : goal.overflow_cast-place
overflow_cast-place c =
    let (_, short) = refusal_digits c.requires.refused.0 in
    omega arith

pub refused_line-requires : goal.refused_line-requires
refused_line-requires c =
    let (refused, room) = c.requires.refused in
    let (low, short) = refusal_digits refused in
    record { small = (omega arith, omega arith, room) }

pub returns : goal.returns
returns c =
    let a = c.args in
    let refused = subst (λ number. Refuses a.text.now number a.refusal.1) (sym c.number.ensures.numbered) c.requires.refused.0 in
    record { stored = line_is {P = λ (bytes : List ℕ). Prints a.text.now (bytes ∷ [])} (refusal refused) c.refused_line.ensures.stored }
