-- The number written is the literal's magnitude (variable_known), and its word by the sign is `-` and those digits, or the digits alone.
use Prim.Native.Nat.{ℕ}
use mathlib.Core.Path.{◌≡◌, sym, ap, ◌∙◌}
use mathlib.Core.List.{◌∷◌}
use native.Mathlib.Omega.{arith}
use lib.IntN.{ℤ, pos, nat_abs}
use lib.Signed.{lt_z}
use mir.Facts.{to_z-of_z}
use Rattle.text_write.specs.Texts.{MINUS}
use Rattle.text_write.specs.Numbers.{decimal}
use Rattle.text_write.proofs.Stores.{wrote_as, wrote_more, literal_negative, literal_positive}
use Rattle.text_write.proofs.writing.put_literal.Goals as goal

pub put_number-requires : goal.put_number-requires
put_number-requires c =
    let variable_known : c.variable-variable.result.0 ≡ nat_abs c.args.literal = c.variable-variable.ensures.own ∙ ap nat_abs (c.new.ensures.holds ∙ to_z-of_z c.ranges.literal) in
    let pre = c.requires in
    record { small = omega (arith, c.put_byte-start.ensures.wrote.end, variable_known, pre.small.0, pre.small.1) }

pub returns-then-literal-lt0 : goal.returns-then-literal-lt0
returns-then-literal-lt0 c =
    let variable_known : c.variable-variable.result.0 ≡ nat_abs c.args.literal = c.variable-variable.ensures.own ∙ ap nat_abs (c.new.ensures.holds ∙ to_z-of_z c.ranges.literal) in
    let below = sym (ap (λ (z : ℤ). lt_z z (pos 0)) (to_z-of_z c.ranges.literal)) ∙ c.if-literal-lt0.true in
    let known = ap (λ (v : ℕ). MINUS ∷ decimal v) (sym (variable_known)) in
    record {
      wrote = wrote_as (literal_negative c.args.literal below ∙ known)
          (wrote_more c.put_byte-start.ensures.wrote c.put_number.ensures.wrote);
    }

pub put_number-requires-2 : goal.put_number-requires-2
put_number-requires-2 c =
    let variable_known : c.variable-variable.result.0 ≡ nat_abs c.args.literal = c.variable-variable.ensures.own ∙ ap nat_abs (c.new.ensures.holds ∙ to_z-of_z c.ranges.literal) in
    let pre = c.requires in
    record { small = omega (arith, variable_known, pre.small.0, pre.small.1) }

pub returns : goal.returns
returns c =
    let variable_known : c.variable-variable.result.0 ≡ nat_abs c.args.literal = c.variable-variable.ensures.own ∙ ap nat_abs (c.new.ensures.holds ∙ to_z-of_z c.ranges.literal) in
    let above = sym (ap (λ (z : ℤ). lt_z z (pos 0)) (to_z-of_z c.ranges.literal)) ∙ c.if-literal-lt0.false in
    let known = ap decimal (sym (variable_known)) in
    record { wrote = wrote_as (literal_positive c.args.literal above ∙ known) c.put_number-2.ensures.wrote }
