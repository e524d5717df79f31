-- What the listing program prints for a text (rule 16.1, rule 16.2, rule 5.4). How a line is spelt is in the definitions of `listing_lines`.
use Rattle.std.specs.Prelude.{ℕ, ◌≡◌, Bool, true, List, [], ◌∷◌, Option, IfSome, pos, length, replicate}
use Rattle.std.specs.List.{concat}
use Rattle.std.specs.Io.KnownBytes.{Appends}
use Rattle.terms.specs.declared.Scheme.TheVariants.{Strict}
use Rattle.terms.specs.Limits.{prefix_entries, clause_entries}
use Rattle.terms.specs.Listed.{Listed}
use Rattle.terms.specs.Refusals.{Causes, FirstOf, NoneOf}
use Rattle.formula.specs.Lent.{Formula}
use Rattle.formula.specs.Meaning.{blocks, clauses, level}
use Rattle.formula_rules.specs.Rules.{check_order}
use Rattle.forest_theory.specs.Reach.{Deeper}
use Rattle.forest_theory.specs.Forest.{EntryClass}
use Rattle.forest_tables.specs.Formula.{universal, Shares, SharesBy}
use Rattle.forest_tables.specs.Lent.{variables_of}
use Rattle.forest.specs.Answers.{DependsBy}
use Rattle.text_lines.specs.Format.{TextOf}
use Rattle.text_qdimacs.specs.Reading.{read_order}
use Rattle.listing_lines.specs.Lines.{head_line, universal_line, refused_line}

-- the order of read, into buffers of 8,192 prefix entries and 16,384 clause entries
abbrev pub text_order : List ℕ → List Causes
text_order text = read_order text (replicate prefix_entries 0) (replicate clause_entries (pos 0))

-- The text is not refused by read, and is that of a formula.
pub record IsRead (text : List ℕ) (f : Formula) : Type 0 where
  pub none : NoneOf (text_order text)
  pub text_of : TextOf f.n f.prefix f.clauses text

-- The refusal of a text: that of read, or, where the text is read, that of check under rule 1.
pub data Refuses (text : List ℕ) (number place : ℕ) : Type 0 where
  not_read : FirstOf (text_order text) number place → Refuses text number place
  not_accepted : (f : Formula) → IsRead text f → FirstOf (check_order 1 f) number place → Refuses text number place

-- the first line of a formula: n, the number of its blocks and the number of its clauses
abbrev pub HeadOf : Formula → List ℕ → Type 0
HeadOf f line = line ≡ head_line f.n (length (blocks f.prefix)) (length (clauses f.clauses))

-- e is an entry point of x by its literal of one sign: the entry class, by reach, of x for an existential deeper than x in a clause with that literal
pub record EntersBy (f : Formula) (sign : Bool) (x e : ℕ) : Type 0 where
  pub for : ℕ
  pub shares : SharesBy f.clauses sign x for
  pub deeper : Deeper (variables_of f) x for
  pub entry : EntryClass (variables_of f) (Shares f.clauses) x for e

-- a strict entry point of x: both signs have it
abbrev pub Enters : Formula → ℕ → ℕ → Type 0
Enters f x e = (sign : Bool) → EntersBy f sign x e

-- The line of the universal x of a formula: its number, its level, its entry points and its set, each list ascending. The program names no scheme, so
-- that entry points and set are the strict ones.
pub record LineOf (f : Formula) (x : ℕ) (line : List ℕ) : Type 0 where
  pub entries : List ℕ
  pub set : List ℕ
  pub entries_are : Listed (Enters f x) entries
  pub set_is : Listed (DependsBy Strict f x) set
  pub is : line ≡ universal_line x (level f.prefix x) entries set

-- the lines of some universals, one after the other
pub data LinesOf (f : Formula) : List ℕ → List (List ℕ) → Type 0 where
  no_line : LinesOf f [] []
  one_more : {x : ℕ} {xs line : List ℕ} {lines : List (List ℕ)} → LineOf f x line → LinesOf f xs lines → LinesOf f (x ∷ xs) (line ∷ lines)

-- the lines of an accepted formula: the first, and then one for each universal, ascending
pub data Lists (f : Formula) : List (List ℕ) → Type 0 where
  lists : {head : List ℕ} {lines : List (List ℕ)} (xs : List ℕ) → HeadOf f head → Listed (λ x. universal f.n f.prefix x ≡ true) xs → LinesOf f xs lines
      → Lists f (head ∷ lines)

-- What is printed for a text: the line of its refusal alone, or, where its formula is accepted by check under rule 1, the lines of that.
pub data Prints (text : List ℕ) : List (List ℕ) → Type 0 where
  refusal : {number place : ℕ} → Refuses text number place → Prints text (refused_line number place ∷ [])
  listing : {lines : List (List ℕ)} (f : Formula) → IsRead text f → NoneOf (check_order 1 f) → Lists f lines → Prints text lines

-- How many lines were printed: all lines, of which P says what they are, and what a writer holds, where that is known, has grown by these lines one after
-- the other. Where none is told, one could not be written, and nothing is said of the writer.
abbrev pub AllPrinted : (List (List ℕ) → Type 0) → Option (List ℕ) → Option (List ℕ) → Option ℕ → Type 0
AllPrinted P before after told = IfSome told (λ count. (lines : List (List ℕ)) × P lines × (count ≡ length lines) × Appends before after (concat lines))
