-- Each row up to n is copied or, where none is lent, 0, which is what a row past the end reads.
use native.Mathlib.Omega.{arith}
use Rattle.std.proofs.lemmas.Grind.{common_steps}
use Rattle.forest_theory.proofs.Rows.{row_same}
use Rattle.grow_changed.proofs.growing.copy_rows.Goals as goal

pub returns : goal.returns
returns c = record { copied = λ v. row_same c.args.n v _ c.args.from.now (λ u l. grind (arith, common_steps)) }
