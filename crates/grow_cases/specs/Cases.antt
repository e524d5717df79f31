-- P1 to P10 of rule 17.1 as one table, with the counts and the tally (rule 4.1, rule 4.3): what the promise of each call allows, under reading
-- rule 1, on formula A as lent. Sets are standard ones (rule 5.4).
use Rattle.std.specs.Prelude.{ℕ, ◌≤◌, ◌≡◌, List, [], ◌∷◌, ◌++◌, ◌↔◌, ℤ, length, drop, Ok}
use Rattle.terms.specs.Says.{Answer}
use Rattle.terms.specs.declared.Point.{Point}
use Rattle.terms.specs.declared.Scheme.TheVariants.{Standard}
use Rattle.forest_tables.specs.Lent.{rows}
use Rattle.forest.specs.Answers.{EntryAnswered, SetListed}
use Rattle.grow.specs.Grown.{Standing, standing, Builds, Adds, with_last}
use Rattle.grow_cases.specs.FormulaA.{prefix_a, clauses_a, with_clauses, stand_a, stand79, stand12, stand_none, clause79, clause58, clause12}

-- Tables of nine rows with more past them, anything at all.
abbrev pub lengthened : Standing → List ℕ → List ℕ → List ℕ → Standing
lengthened s more more' more'' = standing (rows (s.rows.classes ++ more) (s.rows.parents ++ more') (s.rows.counts ++ more'')) s.tally

-- Such tables, where what was lent keeps its rows past row 9.
abbrev pub written : Standing → Standing → Standing
written built s = lengthened built (drop 9 s.rows.classes) (drop 9 s.rows.parents) (drop 9 s.rows.counts)

-- The four that follow each say of a call: its `ensures` allows an outcome exactly if it is the one stated, the answer, every row of the lent tables and
-- the tally afterwards.

-- Build on A counts 9 rows and leaves what is lent as `left`.
abbrev pub BuildLeaves : Standing → Standing → Type 0
BuildLeaves s left = (answer : Answer ℕ) (s' : Standing) → Builds 1 (with_clauses clauses_a) s s' answer ↔ ((answer ≡ Ok 9) × (s' ≡ left))

-- Add of a clause counts 9 rows and leaves what is lent as `left`.
abbrev pub AddLeaves : Standing → List ℤ → Standing → Type 0
AddLeaves s clause left = (answer : Answer ℕ) (s' : Standing) → Adds 1 9 prefix_a s clause s' answer ↔ ((answer ≡ Ok 9) × (s' ≡ left))

-- The standard set of x is the list: with room for it, it is counted and stands in front of what the output table had past it.
abbrev pub SetIs : List ℤ → Standing → ℕ → List ℕ → Type 0
SetIs ls s x list =
    (before : List ℕ) → length list ≤ length before → (answer : Answer ℕ) (after : List ℕ)
    → SetListed 1 Standard (with_clauses ls) s.rows x before after answer ↔ ((answer ≡ Ok (length list)) × (after ≡ list ++ drop (length list) before))

-- The entry point of x for y is e, with its number of rises.
abbrev pub EntryIs : Standing → ℕ → ℕ → ℕ → ℕ → Type 0
EntryIs s x y e rises =
    (answer : Answer Point) → EntryAnswered 1 (with_clauses []) s.rows x y answer ↔ (answer ≡ Ok (record { class = record { 0 = e }; rises = rises }))

-- The table. Lent tables may be longer than n: from P3 on, `more`, `more'` and `more''` are what stands in them past row 9.
pub record Cases (more more' more'' : List ℕ) : Type 0 where
  -- classes and parents, with tables of nine rows or more and any tally lent; rows past row 9 stay
  pub p1p2 : (s : Standing) → 9 ≤ length s.rows.classes → 9 ≤ length s.rows.parents → 9 ≤ length s.rows.counts
      → BuildLeaves s (written stand_a s)
  -- set of 3
  pub p3 : SetIs clauses_a (lengthened stand_a more more' more'') 3 (4 ∷ 7 ∷ 8 ∷ [])
  -- set of 6: 9, not 5
  pub p4 : SetIs clauses_a (lengthened stand_a more more' more'') 6 (9 ∷ [])
  -- add {7 -9}
  pub p5 : AddLeaves (lengthened stand_a more more' more'') clause79 (lengthened stand79 more more' more'')
  -- then the sets of 3 and 6, with the clause put last in the clause table
  pub p6 : SetIs (with_last clauses_a clause79) (lengthened stand79 more more' more'') 3 (4 ∷ 5 ∷ 7 ∷ 8 ∷ 9 ∷ [])
      × SetIs (with_last clauses_a clause79) (lengthened stand79 more more' more'') 6 (7 ∷ 9 ∷ [])
  -- add {5 8}: by the rows that it leaves, the sets of 6 and 3
  pub p7 : (answer : Answer ℕ) (s : Standing) → Adds 1 9 prefix_a (lengthened stand_a more more' more'') clause58 s answer
      → (answer ≡ Ok 9) × (SetIs (with_last clauses_a clause58) s 6 (9 ∷ []) × SetIs (with_last clauses_a clause58) s 3 (4 ∷ 5 ∷ 7 ∷ 8 ∷ 9 ∷ []))
  -- add {1 -2}
  pub p8 : AddLeaves (lengthened stand_a more more' more'') clause12 (lengthened stand12 more more' more'')
  -- add the empty clause
  pub p9 : AddLeaves (lengthened stand_a more more' more'') [] (lengthened stand_none more more' more'')
  -- entry points of 3 for 8 and of 6 for 9
  pub p10 : EntryIs (lengthened stand_a more more' more'') 3 8 4 1 × EntryIs (lengthened stand_a more more' more'') 6 9 9 0
