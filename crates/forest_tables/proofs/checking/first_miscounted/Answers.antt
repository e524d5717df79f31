-- The counts are computed in a table of its own, and a lent count is right exactly if it is the one there (row_is).
use Rattle.std.specs.Prelude.{Option, None, Some}
use Rattle.terms.specs.declared.Variable.{Variable}
use mathlib.Core.Logic.{◌↔◌}
use Rattle.forest_tables.specs.InnerRows.{BadFound}
use Prim.Native.Nat.{ℕ}
use lib.ListN.{length-replicate}
use Rattle.forest_theory.specs.Tables.{row}
use Rattle.forest_theory.proofs.Counts.{row_is}
use Rattle.forest_tables.proofs.Readings.{new_zero}
use Rattle.forest_tables.proofs.Formed.{bad_same}
use Rattle.forest_tables.proofs.checking.first_miscounted.Goals as goal

-- What is found where one fact fails first is found where another fails that says the same.
found_same : {P Q : ℕ → Type 0} (n : ℕ) (found : Option Variable) → ((v : ℕ) → P v ↔ Q v) → BadFound P n found → BadFound Q n found
found_same n None same f = bad_same same f
found_same n (Some v) same (some, f) = (some, bad_same same f)

pub fill_counts-requires : goal.fill_counts-requires
fill_counts-requires c = record { ready = (c.requires.sound, c.requires.formed, length-replicate {A = ℕ} 4097 0, new_zero 4097) }

pub returns : goal.returns
returns c =
    let a = c.args in
    let formed = c.requires.formed in
    let counted = c.fill_counts.ensures.counted.counted in
    record { first = found_same a.n c.first_other.result (λ v. let is = row_is formed {counts = row a.n a.counts.now} {v = v} counted in (is.1, is.0)) c.first_other.ensures.first }
