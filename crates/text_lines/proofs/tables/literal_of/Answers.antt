-- By the sign: the variable has the number of the word, and what either function gives is read back from its bits (small_bits).
use Prim.Native.Nat.{ℕ, zero, suc, ◌<◌}
use mathlib.Core.Path.{◌≡◌, ap, ◌∙◌}
use lib.IntN.{ℤ, pos, negsuc, neg_ℤ}
use mir.Syntax.{w32}
use mir.Val.{to_z, of_z}
use Rattle.text_write.proofs.Stores.{small_bits}
use Rattle.text_lines.proofs.tables.literal_of.Goals as goal

negated_bits : (v : ℕ) → v < 100000 → to_z w32 (of_z w32 (neg_ℤ (pos v))) ≡ neg_ℤ (pos v)
negated_bits zero h = small_bits (pos 0) h
negated_bits (suc v) h = small_bits (negsuc v) h

pub returns-then-negative : goal.returns-then-negative
returns-then-negative c =
    let v = c.args.value in
    let is = c.negation.ensures.negated ∙ ap (λ (v : ℕ). neg_ℤ (pos v)) c.new-v.ensures.holds in
    record { signed = rw c.if-negative.true (ap (λ (z : ℤ). to_z w32 (of_z w32 z)) is ∙ negated_bits v c.requires.small) }

pub returns-else-negative : goal.returns-else-negative
returns-else-negative c =
    let is = c.literal.ensures.plain ∙ ap pos c.new-v.ensures.holds in
    record { signed = rw c.if-negative.false (ap (λ (z : ℤ). to_z w32 (of_z w32 z)) is ∙ small_bits (pos c.args.value) c.requires.small) }
