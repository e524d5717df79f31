-- The climb in the parent rows: how it stops and goes on, and that where it ends is the entry point.
use Prim.Native.Nat.{ℕ, suc, ◌+◌, ◌≤◌, ◌<◌}
use mathlib.Core.Path.{◌≡◌, refl, ◌∙◌, subst}
use mathlib.Core.Bool.{Bool, true}
use mathlib.Core.List.{List, []}
use mathlib.Core.Logic.{◌≢◌}
use native.Mathlib.Omega.{arith}
use lib.ListN.{get_or}
use Rattle.forest_theory.specs.Reach.{Variables}
use Rattle.forest_theory.specs.Tables.{Table, row, lent, WellFormed, Above, start, rise, EntryPoint}
use Rattle.forest_theory.proofs.Climb.{entry_ends}
use Rattle.forest_tables.specs.InnerTabled.{tabled, existential_in}
use Rattle.forest_tables.specs.InnerRows.{rows_of}
use Rattle.forest_climb.specs.InnerSearch.{parent_table, Falling, Searched, Climbs, TopRows, EntryRows}

module _ (n : ℕ) (levels parents : List ℕ) (floor c rises : ℕ) where
  -- A class with no parent deeper than the floor is where the climb ends.
  pub climb_stops : floor < get_or levels c 0 → (row n parents c ≢ 0 → get_or levels (row n parents c) 0 ≤ floor) → Climbs n levels parents floor c rises c rises
  climb_stops deep stop = (0, omega arith, record { above = start; deeper = deep; stop = stop })

  -- Else it goes on from the parent, with one rise more.
  pub climb_goes : (p : ℕ) {q all : ℕ} → p ≡ row n parents c → p ≢ 0 → Climbs n levels parents floor p (rises + 1) q all
      → Climbs n levels parents floor c rises q all
  climb_goes p {q} is some (k, sum, s) = (
    suc k,
    omega arith,
    record { above = rise (λ z. some (is ∙ z)) (subst (λ d. Above (parent_table n parents) q d k) is s.above); deeper = s.deeper; stop = s.stop },
  )

module _ (n : ℕ) (levels : List ℕ) (universals : List Bool) (classes parents : List ℕ)
    (formed : WellFormed (tabled n levels universals) (rows_of n classes parents)) where
  -- In well-formed tables each parent stands in a lesser block, and the class of y in y's own.
  pub formed_falls : Falling n levels parents
  unfolding lent
  formed_falls c some = ((formed.right c).parent some).less

  pub formed_block : (y : ℕ) → existential_in n universals y ≡ true → get_or levels (row n classes y) 0 ≡ get_or levels y 0
  unfolding lent
  formed_block y ex = ((formed.right y).class ex).block

  above_rows : {p c k : ℕ} → Above (parent_table n parents) p c k → Above (rows_of n classes parents) p c k
  unfolding lent
  above_rows start = start
  above_rows (rise some a) = rise some (above_rows a)

  -- What the search finds in the parent rows, it finds in the tables.
  pub searched_rows : {floor c p k : ℕ} → Searched (tabled n levels []) (parent_table n parents) floor c p k
      → Searched (tabled n levels universals) (rows_of n classes parents) floor c p k
  unfolding lent
  searched_rows s = record { above = above_rows s.above; deeper = s.deeper; stop = s.stop }

-- Where the search from y's class ends over the level of x is the entry point of x for y, and its rises are the classes passed.
pub searched_entry : {X : Variables} {W : Table} → WellFormed X W → {x y p k : ℕ} (floor c : ℕ) → floor ≡ X.lev x → c ≡ W.cls y
    → Searched X W floor c p k → EntryPoint X W x y p k
searched_entry {X} {W} formed {x} {y} {p} {k} floor c low is s =
    (entry_ends formed).1 (record {
      above = subst (λ d. Above W p d k) is s.above;
      deep = let d = s.deeper in omega arith;
      stop = λ some. let d = s.stop some in omega arith;
    })

-- So the tops over the level of x are the entries of x.
pub tops_entries : {X : Variables} {W : Table} → WellFormed X W → {x : ℕ} (floor : ℕ) (tops : List ℕ) → floor ≡ X.lev x
    → TopRows X W floor tops → EntryRows X W x tops
tops_entries {X} {W} formed {x} floor tops low rows y =
    record {
      found = λ deep. let (k, s) = (rows y).found (deep.existential, (let d = deep.deep in omega arith)) in (k, searched_entry formed floor (W.cls y) low refl s);
      none = λ shallow. (rows y).none (λ under. shallow (record { existential = under.0; deep = let d = under.1 in omega arith }));
    }
