-- Demand 2. The set of a universal, from its formula's own forest, is its dependency set by reach, by either scheme; classes and parents are those of
-- Lonsing and Biere, each class named by its lowest variable; and text written from accepted tables reads back as those tables. Each statement goes
-- from what one call left to what another answers and leaves, under either reading rule: a rule that is none is refused.
use Rattle.std.specs.Prelude.{ℕ, ◌≤◌, ◌≡◌, Bool, List, [], ℤ, length, take, Ok}
use Rattle.terms.specs.Listed.{Listed}
use Rattle.terms.specs.Overwritten.{overwritten}
use Rattle.terms.specs.Says.{Answer}
use Rattle.terms.specs.declared.Counts.{Counts}
use Rattle.terms.specs.declared.Point.{Point}
use Rattle.terms.specs.declared.Scheme.{Scheme}
use Rattle.terms.specs.declared.Scheme.TheVariants.{Standard, Strict}
use Rattle.formula.specs.Lent.{Formula, formula_of}
use Rattle.formula_rules.specs.Rules.{read_by}
use Rattle.forest_theory.specs.Counts.{Counted, Numbered}
use Rattle.forest_theory.specs.Forest.{Forest, EntryClass}
use Rattle.forest_theory.specs.Reach.{Variables, Deeper}
use Rattle.forest_theory.specs.Tables.{row, Above}
use Rattle.forest_tables.specs.Formula.{universal, Shares, SharesBy}
use Rattle.forest_tables.specs.Lent.{variables_of, forest_of}
use Rattle.forest.specs.Answers.{DependsBy, EntryAnswered, EntriesListed, SetListed, Sized}
use Rattle.sets.specs.Sets.{Records, SetsListed}
use Rattle.grow.specs.Grown.{Standing}
use Rattle.text_qdimacs.specs.Reading.{ReadIs}
use Rattle.text_qdimacs.specs.Stored.{Writes}
use Rattle.demands.specs.Words.{Built, IsUniversal, Puts}

-- What build left, the set call reads, by either scheme: of a universal x it lists exactly what depends on x by reach, ascending. It is refused only
-- where there is no room.
abbrev pub SetIsDependencies : Type 0
SetIsDependencies =
    (rule : ℕ) (scheme : Scheme) (f : Formula) (s : Standing) (x : ℕ) (before after : List ℕ) (answer : Answer ℕ)
    → Built rule f s → IsUniversal rule f x → SetListed rule scheme f s.rows x before after answer
    → Puts (Listed (DependsBy scheme (read_by rule f) x)) before after answer

-- The size call is not refused, and answers how many depend on x.
abbrev pub SizeIsDependencies : Type 0
SizeIsDependencies =
    (rule : ℕ) (scheme : Scheme) (f : Formula) (s : Standing) (x : ℕ) (answer : Answer ℕ)
    → Built rule f s → IsUniversal rule f x → Sized rule scheme f s.rows x answer
    → (size : ℕ) × (answer ≡ Ok size) × Numbered (DependsBy scheme (read_by rule f) x) size

-- The call for all sets lists, for each universal ascending, its number, how many depend on it, and these ascending.
abbrev pub SetsAreDependencies : Type 0
SetsAreDependencies =
    (rule : ℕ) (scheme : Scheme) (f : Formula) (s : Standing) (before after : List ℕ) (answer : Answer ℕ)
    → Built rule f s → SetsListed rule scheme f s.rows before after answer
    → Puts (Records (universal f.n (read_by rule f).prefix) (DependsBy scheme (read_by rule f)) f.n) before after answer

-- The rows that build left are the forest of the formula, by reach: class names, parents, and counts.
abbrev pub ForestIsConnection : Type 0
ForestIsConnection =
    (rule : ℕ) (f : Formula) (s : Standing) → Built rule f s
    → Forest (variables_of (read_by rule f)) (Shares f.clauses) (forest_of (read_by rule f) s.rows)
    × Counted (variables_of (read_by rule f)) (forest_of (read_by rule f) s.rows) (row f.n s.rows.counts)

-- The entry point call, of a universal x and an existential y deeper than x, is not refused, and answers the entry point by reach; with it come the
-- parents that are passed from the class of y up to it.
abbrev pub EntryIsClass : Type 0
EntryIsClass =
    (rule : ℕ) (f : Formula) (s : Standing) (x y : ℕ) (answer : Answer Point)
    → Built rule f s → IsUniversal rule f x → Deeper (variables_of (read_by rule f)) x y
    → EntryAnswered rule (formula_of f.n f.prefix []) s.rows x y answer
    → (point : Point) × (answer ≡ Ok point)
    × EntryClass (variables_of (read_by rule f)) (Shares f.clauses) x y point.class.0
    × Above (forest_of (read_by rule f) s.rows) point.class.0 ((forest_of (read_by rule f) s.rows).cls y) point.rises

-- e is an entry point of x by reach: the one for some existential deeper than x that shares a clause with x, or with the literal of x, as S says.
pub record EntryReached (X : Variables) (J S : ℕ → ℕ → Type 0) (x e : ℕ) : Type 0 where
  pub for : ℕ
  pub shares : S x for
  pub deeper : Deeper X x for
  pub entry : EntryClass X J x for e

-- so by a scheme: by the strict one those that both signs have
abbrev pub EntriesReached : Scheme → Formula → ℕ → ℕ → Type 0
EntriesReached Standard f x e = EntryReached (variables_of f) (Shares f.clauses) (Shares f.clauses) x e
EntriesReached Strict f x e = (sign : Bool) → EntryReached (variables_of f) (Shares f.clauses) (SharesBy f.clauses sign) x e

-- The call for the entry points of a universal x lists exactly these, ascending, by either scheme, and is refused only where there is no room.
abbrev pub EntriesAreClasses : Type 0
EntriesAreClasses =
    (rule : ℕ) (scheme : Scheme) (f : Formula) (s : Standing) (x : ℕ) (before after : List ℕ) (answer : Answer ℕ)
    → Built rule f s → IsUniversal rule f x → EntriesListed rule scheme f s.rows x before after answer
    → Puts (Listed (EntriesReached scheme (read_by rule f) x)) before after answer

-- What write wrote, read gives back, into tables with room: n, the prefix and the clauses as they were lent.
abbrev pub TextReadsBack : Type 0
TextReadsBack =
    (rule : ℕ) (f : Formula) (out out' : List ℕ) (bytes : ℕ) (prefix prefix' : List ℕ) (clauses clauses' : List ℤ) (answer : Answer Counts)
    → Writes rule f out out' (Ok bytes) → length f.prefix ≤ length prefix → length f.clauses ≤ length clauses
    → ReadIs (take bytes out') prefix prefix' clauses clauses' answer
    → (answer ≡ Ok (record { n = f.n; prefix = length f.prefix; clauses = length f.clauses })) × (prefix' ≡ overwritten f.prefix prefix)
    × (clauses' ≡ overwritten f.clauses clauses)

-- Demand 2, whole.
pub record Demand2 : Type 0 where
  pub set : SetIsDependencies
  pub size : SizeIsDependencies
  pub sets : SetsAreDependencies
  pub forest : ForestIsConnection
  pub entry : EntryIsClass
  pub entries : EntriesAreClasses
  pub text : TextReadsBack
