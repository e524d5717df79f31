-- By the sign: the complement of a negative literal is one less than its magnitude, and any other literal is its own number.
use Rattle.std.proofs.Common.{◌-◌, ℤ, pos, nat_abs, sym, ap, ◌∙◌, arith, to_z-of_z, w32, to_z, of_z}
use lib.Signed.{lt_z}
use Rattle.terms.proofs.Signed.{complement, whole}
use Rattle.file_format.specs.Numbers.{literal_number}
use Rattle.file_format.proofs.Bits.{number_negative, number_positive}
use Rattle.file_format.proofs.numbers.literal_number.Goals as goal

pub overflow_cast-result : goal.overflow_cast-result
overflow_cast-result c = let k = complement c.args.literal c.ranges.literal c.if-literal-lt0.true in (k.nonneg, k.fits)

pub overflow_sub-result : goal.overflow_sub-result
overflow_sub-result c = let k = complement c.args.literal c.ranges.literal c.if-literal-lt0.true in omega (arith, k.fits.fits)

pub overflow_cast-result-else-literal-lt0 : goal.overflow_cast-result-else-literal-lt0
overflow_cast-result-else-literal-lt0 c = whole c.args.literal c.ranges.literal c.if-literal-lt0.false

pub returns-then-literal-lt0 : goal.returns-then-literal-lt0
returns-then-literal-lt0 c =
    let k = complement c.args.literal c.ranges.literal c.if-literal-lt0.true in
    record {
      encoded = number_negative c.args.literal (nat_abs (to_z w32 (4294967295 - of_z w32 c.args.literal)))
          (sym (ap (λ (x : ℤ). lt_z x (pos 0)) (to_z-of_z c.ranges.literal)) ∙ c.if-literal-lt0.true) k.is;
    }

pub returns-else-literal-lt0 : goal.returns-else-literal-lt0
returns-else-literal-lt0 c =
    let same = to_z-of_z c.ranges.literal in
    record { encoded = number_positive (to_z w32 (of_z w32 c.args.literal)) c.if-literal-lt0.false ∙ ap literal_number same }
