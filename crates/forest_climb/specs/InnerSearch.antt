-- Inner: what functions find in lent rows, by the level table. What a reader must believe of the calls is in the definitions of `forest`.
use Rattle.std.specs.Prelude.{ℕ, ◌+◌, ◌≤◌, ◌<◌, ◌≡◌, true, cond, List, [], ◌≢◌, eqb, get_or}
use Rattle.formula.specs.Tables.{opens, marks_before}
use Rattle.forest_theory.specs.Reach.{Variables, Deeper}
use Rattle.forest_theory.specs.Tables.{Table, row, lent, Above, EntryPoint}
use Rattle.std.specs.Prelude.{Option, None, Some}
use Rattle.terms.specs.declared.Point.{Point}
use Rattle.forest_tables.specs.Formula.{variables}
use Rattle.forest_tables.specs.InnerTabled.{tabled}

-- the parent rows alone, as a table
abbrev pub parent_table : ℕ → List ℕ → Table
parent_table n parents = record { cls = λ v. v; par = row n parents }

-- each parent stands in a lesser block
abbrev pub Falling : ℕ → List ℕ → List ℕ → Type 0
Falling n levels parents = (c : ℕ) → row n parents c ≢ 0 → get_or levels (row n parents c) 0 < get_or levels c 0

-- p is where the search from c ends, k rises above it: deeper than the floor, and its parent, if it has one, is not
pub record Searched (X : Variables) (W : Table) (floor c p k : ℕ) : Type 0 where
  pub above : Above W p c k
  pub deeper : floor < X.lev p
  pub stop : W.par p ≢ 0 → X.lev (W.par p) ≤ floor

-- the search from c in the parent rows alone, with some rises before it: it ends at p, after so many rises in all
abbrev pub Climbs : ℕ → List ℕ → List ℕ → ℕ → ℕ → ℕ → ℕ → ℕ → Type 0
Climbs n levels parents floor c before p all = (k : ℕ) × (all ≡ before + k) × Searched (tabled n levels []) (parent_table n parents) floor c p k

-- y is existential and deeper than the floor
abbrev pub Under : Variables → ℕ → ℕ → Type 0
Under X floor y = (X.ex y ≡ true) × (floor < X.lev y)

-- the top of y over a floor: where the search from its class ends, and 0 if y is not existential and deeper
pub record TopRow (X : Variables) (W : Table) (floor y top : ℕ) : Type 0 where
  pub found : Under X floor y → (rises : ℕ) × Searched X W floor (W.cls y) top rises
  pub none : (Under X floor y → ⊥) → top ≡ 0

-- the top of a variable of class c, 0 for none, deeper than the floor: that of the parent of c, and c itself if the parent has none
unfoldable pub top_by : ℕ → ℕ → ℕ
top_by c above = cond (eqb c 0) 0 (cond (eqb above 0) c above)

-- the row of every y is its top
abbrev pub TopRows : Variables → Table → ℕ → List ℕ → Type 0
TopRows X W floor tops = (y : ℕ) → TopRow X W floor y (row X.count tops y)

-- up to a number no variable has a top
abbrev pub Topless : ℕ → List ℕ → ℕ → Type 0
Topless n tops from = (v : ℕ) → 1 ≤ v → v ≤ from → row n tops v ≡ 0

-- a place of a prefix behind as many blocks as a level says: those deeper than the level begin there
abbrev pub Behind : List ℕ → ℕ → ℕ → Type 0
Behind es floor place = (opens es place ≡ true) × (marks_before es place ≡ floor)

-- such a place is known, where the floor is a level; a pass over the universals begins over 4294967295 (Level::NONE_DEEPER), which is none
abbrev pub Known : List ℕ → ℕ → ℕ → Type 0
Known es floor place = floor < 4294967295 → Behind es floor place

-- the rows are the tops over a floor, and up to a number no variable has one
pub record TopsOver (X : Variables) (W : Table) (floor from : ℕ) (tops : List ℕ) : Type 0 where
  pub rows : TopRows X W floor tops
  pub most : from ≤ X.count
  pub none : Topless X.count tops from

-- the rows of a formula's variables are their tops over whatever floor the place is behind
abbrev pub ToppedFrom : ℕ → List ℕ → ℕ → List ℕ → List ℕ → List ℕ → Type 0
ToppedFrom n es place classes parents tops =
    (floor : ℕ) → Behind es floor place → TopRows (variables n es) (lent (variables n es) classes parents) floor tops

-- they are the tops over a floor, of which the place is known, and up to a number no variable has one
abbrev pub Topped : ℕ → List ℕ → List ℕ → List ℕ → ℕ → ℕ → ℕ → List ℕ → Type 0
Topped n es classes parents floor place from tops =
    TopsOver (variables n es) (lent (variables n es) classes parents) floor from tops × Known es floor place

-- what the search from the class of y finds: the entry point of x for y, with its rises, if y is existential and deeper than x
abbrev pub Finds : Variables → Table → ℕ → ℕ → Option Point → Type 0
Finds X W x y (Some point) = Deeper X x y × EntryPoint X W x y point.class.0 point.rises
Finds X W x y None = Deeper X x y → ⊥

-- the entry is the entry point of x for y, and 0 if y is not existential and deeper than x
pub record EntryRow (X : Variables) (W : Table) (x y entry : ℕ) : Type 0 where
  pub found : Deeper X x y → (rises : ℕ) × EntryPoint X W x y entry rises
  pub none : (Deeper X x y → ⊥) → entry ≡ 0

-- the row of every y is its entry
abbrev pub EntryRows : Variables → Table → ℕ → List ℕ → Type 0
EntryRows X W x tops = (y : ℕ) → EntryRow X W x y (row X.count tops y)
