-- Inner: what the functions of the program stand on and find, on the way to the line of a universal. What a reader must believe is in Listing.
use Rattle.std.specs.Prelude.{ℕ, ◌≡◌, Bool, true, List, Option}
use Rattle.std.specs.Io.KnownBytes.{Appends}
use Rattle.formula.specs.Lent.{Formula}
use Rattle.formula.specs.Meaning.{level}
use Rattle.forest_theory.specs.Tables.{lent}
use Rattle.forest_theory.specs.Forest.{Forest}
use Rattle.forest_tables.specs.Formula.{universal, Shares}
use Rattle.forest_tables.specs.Lent.{variables_of}
use Rattle.forest_climb.specs.InnerSearch.{TopRows}
use Rattle.forest_members.specs.declared.Asked.TheVariants.{Points, Set}
use Rattle.forest_members.specs.InnerPicked.{pick, picked}
use Rattle.listing_lines.specs.Lines.{universal_line}
use Rattle.listing.specs.Listing.{HeadOf, Lists, AllPrinted}

-- The first line of a formula was printed, and what a writer holds, where that is known, has grown by it.
abbrev pub HeadPrinted : Formula → Option (List ℕ) → Option (List ℕ) → Type 0
HeadPrinted f before after = (head : List ℕ) × HeadOf f head × Appends before after head

-- How many lines of a formula were printed, where its first line was printed before.
abbrev pub RestPrinted : Formula → Option (List ℕ) → Option (List ℕ) → Option ℕ → Type 0
RestPrinted f before after told = (start : Option (List ℕ)) → HeadPrinted f start before → AllPrinted (Lists f) start after told

-- the rows are the formula's own forest
abbrev pub OwnForest : Formula → List ℕ → List ℕ → Type 0
OwnForest f classes parents = Forest (variables_of f) (Shares f.clauses) (lent (variables_of f) classes parents)

-- What the rows of tops stand for: the tops over the level of a universal x, in the formula's own forest.
pub record OwnTops (f : Formula) (x floor : ℕ) (tops : List ℕ) : Type 0 where
  pub classes : List ℕ
  pub parents : List ℕ
  pub own : OwnForest f classes parents
  pub universal_is : universal f.n f.prefix x ≡ true
  pub low : floor ≡ level f.prefix x
  pub rows : TopRows (variables_of f) (lent (variables_of f) classes parents) floor tops

-- the line of x by flags: the flagged numbers, and the variables that have a flagged top
abbrev pub flagged_line : ℕ → List ℕ → List Bool → ℕ → ℕ → List ℕ
flagged_line n tops flags x floor = universal_line x floor (picked (pick Points n flags tops) n) (picked (pick Set n flags tops) n)
