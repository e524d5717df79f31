-- The flags that two tables have in common: where they are those by the two signs of x, its strict entry points.
use Prim.Native.Nat.{ℕ}
use mathlib.Core.Path.{refl}
use mathlib.Core.Bool.{Bool, true, false}
use mathlib.Core.List.{List}
use lib.IntN.{ℤ}
use Rattle.terms.specs.declared.Scheme.TheVariants.{Strict}
use Rattle.forest_entries.specs.InnerFlags.{Flagged, Via, Blank}
use Rattle.forest_entries.proofs.Taken.{flags_are}
use Rattle.sets_occurrences.specs.InnerThreads.{Together, EnteredBy, Common}

-- The tops that both signs of x have are those that are flagged by both.
pub entered_both : {n : ℕ} {tops : List ℕ} {ls : List ℤ} {x : ℕ} {old first blank second new : List Bool} → Blank old
    → Flagged (Via n tops (Together ls true x)) old first → Blank blank → Flagged (Via n tops (Together ls false x)) blank second
    → Common first second new → EnteredBy Strict n tops ls x new
entered_both b f b' g both =
    record {
      tells = λ e l. let p = flags_are b f e l in
          let q = flags_are b' g e l in
          let c = both e in
          (λ t. (p.0 (c.0 t).0, q.0 (c.0 t).1), λ s. c.1 (p.1 s.0, q.1 s.1));
      same = λ y. refl;
    }
