-- What a pass over all universals takes from what it stands on (Ready), whether it writes their sets or their sizes.
use Prim.Native.Nat.{ℕ}
use mathlib.Core.Path.{◌≡◌}
use mathlib.Core.Bool.{Bool, true, false}
use mathlib.Core.List.{List}
use native.Mathlib.Omega.{arith}
use lib.IntN.{ℤ}
use lib.ListN.{get_or, replicate}
use Rattle.std.proofs.Common.{Fits, w32}
use Rattle.terms.specs.Limits.{most_variables}
use Rattle.terms.specs.InnerLimits.{variable_rows}
use Rattle.forest_tables.specs.InnerTabled.{universal_in}
use Rattle.forest_tables.proofs.Readings.{flag_within}
use Rattle.forest_tables.proofs.Agreeing.{lawful, level_agrees}
use Rattle.sets_occurrences.specs.InnerThreads.{Tied}
use Rattle.sets_subtrees.specs.InnerRuns.{Floored}
use Rattle.sets_subtrees.proofs.Linked.{floored_none}
use Rattle.sets.specs.InnerPassed.{Ready}

module _ {n : ℕ} {es levels : List ℕ} {universals : List Bool} {ls : List ℤ} {classes parents first next : List ℕ}
    (ready : Ready n es levels universals ls classes parents first next) where
  -- At first the tops are over a level that nothing is deeper than.
  pub floored_first : {floor : ℕ} → floor ≡ 4294967295 → ((v : ℕ) → Fits w32 (get_or levels v 0))
      → Floored n es classes parents floor 0 0 (replicate most_variables 0) (replicate variable_rows 0) (replicate variable_rows 0)
  floored_first {floor} is fits =
      floored_none n es classes parents floor (omega arith)
      (λ v ex. let own = level_agrees ready.sound ready.table v ((lawful n es).within v ex).1 in let l = fits v in omega arith)

  -- A universal is tied to its clauses.
  pub universal_tied : (x : ℕ) → universal_in n universals x ≡ true → Tied ls first next x
  unfolding universal_in
  universal_tied x u =
      let few = ready.sound.few in
      let heads = ready.heads in
      let (low, most, flag) = flag_within n x (get_or universals x false) u in
      record { heads = omega arith; links = ready.links; universals = universals; threaded = ready.threaded; universal = flag }
