-- Each refusal has the number of a fault, family by family as the causes are defined, and so in each order; so none has the number 0.
use Prim.Native.Nat.{ℕ}
use mathlib.Core.Path.{◌≡◌, refl, sym, ◌∙◌}
use mathlib.Core.Bool.{Bool, true, false}
use mathlib.Core.List.{List, [], ◌∷◌}
use mathlib.Core.Logic.{◌≢◌, inl, inr}
use lib.Dec.{eqb}
use lib.IntN.{ℤ}
use lib.ListN.{length}
use Rattle.terms.specs.Refusals.{Causes, At0, FirstOf}
use Rattle.terms.specs.Says.{fault_number}
use Rattle.terms.specs.declared.Fault.{Fault}
use Rattle.terms.specs.declared.Fault.TheVariants.{TooManyVariables, TooManyEntries, UnclosedBlock, NoMark, SameMark, TooManyBlocks, ForeignVariable}
use Rattle.terms.specs.declared.Fault.TheVariants.{NamedBefore, EmptyBlock, ForeignLiteral, UnclosedClause, MalformedForest, NotAskable, TooLittleRoom}
use Rattle.terms.specs.declared.Fault.TheVariants.{TextTooLong, WrongLine, WrongClauseCount, WrongTally, WrongRecord, WrongOrder, WrongSum}
use Rattle.terms.specs.declared.Fault.TheVariants.{WrongContents, NoSuchRule, WrongPath, MisplacedExistential, MisplacedUniversal, TooManyForPaths}
use Rattle.terms.specs.declared.Scheme.{Scheme}
use Rattle.terms.proofs.Faults.{some_number}
use Rattle.formula.specs.Causes.{VariableCount, LengthCause, PrefixCause, ClauseCause, clause_order}
use Rattle.formula.specs.Lent.{Formula}
use Rattle.formula_rules.specs.Rules.{read_as, JoinedCause, causes_if, PrefixCauseBy, RuleCause, check_order}
use Rattle.forest_theory.specs.Reach.{Variables}
use Rattle.forest_tables.specs.Causes.{ForestCause}
use Rattle.forest_tables.specs.Lent.{Rows}
use Rattle.forest.specs.Causes.{entry_order, ask_order, list_order}
use Rattle.sets.specs.Sets.{sets_order}
use Rattle.grow_refusals.specs.Admitted.{AddedCause}
use Rattle.grow.specs.Grown.{Standing, build_order, add_order}
use Rattle.text_write.specs.Stored.{ShortOut, short_out}
use Rattle.text_write.specs.Texts.{Overlong, overlong}
use Rattle.text_lines.specs.Format.{LineCause}
use Rattle.text_qdimacs.specs.Reading.{NoRoom, read_order}
use Rattle.text_qdimacs.specs.Stored.{writing_order}
use Rattle.dqbf_lists.specs.Causes.{ListedLengthCause, ListCause, check_lists_order}
use Rattle.dqbf_sets.specs.Answers.{set_order}
use Rattle.dqbf_text.specs.Reading.{Tables, NoListedRoom, listed_read_order}
use Rattle.dqbf_text.specs.Stored.{listed_writing_order}
use Rattle.path_check.specs.Causes.{PathCause, path_order}
use Rattle.path_resolution.specs.Paths.{resolution_order}
use Rattle.expand.specs.Promise.{ResultTables, expand_order}
use Rattle.file_format.specs.Causes.{RecordCause, OrderCause, ForestFileCause, Lent, load_order, store_order}

-- the number is that of a fault
abbrev pub Known : ℕ → Type 0
Known number = (fault : Fault) × (fault_number fault ≡ number)

-- causes of which each has the number of a fault, and an order of such
abbrev pub OfFaults : Causes → Type 0
OfFaults causes = (number place : ℕ) → causes number place → Known number

abbrev pub KnownFaults : List Causes → Type 0
KnownFaults [] = Unit {0}
KnownFaults (causes ∷ later) = OfFaults causes × KnownFaults later

pub first_known : (order : List Causes) → KnownFaults order → (number place : ℕ) → FirstOf order number place → Known number
first_known [] known number place first = absurd first
first_known (causes ∷ later) known number place (inl first) = known.0 number place first.holds
first_known (causes ∷ later) known number place (inr first) = first_known later known.1 number place first.1

-- causes of which none has the number 0, and an order of such
abbrev pub Some : Causes → Type 0
Some causes = (number place : ℕ) → causes number place → number ≢ 0

abbrev pub ZeroFree : List Causes → Type 0
ZeroFree [] = Unit {0}
ZeroFree (causes ∷ later) = Some causes × ZeroFree later

pub first_some : (order : List Causes) → ZeroFree order → (number place : ℕ) → FirstOf order number place → number ≢ 0
first_some [] free number place first = absurd first
first_some (causes ∷ later) free number place (inl first) = free.0 number place first.holds
first_some (causes ∷ later) free number place (inr first) = first_some later free.1 number place first.1

-- no fault has the number 0
pub zero_free : (order : List Causes) → KnownFaults order → ZeroFree order
zero_free [] known = tt
zero_free (causes ∷ later) known = (
  λ number place cause z. let fault = known.0 number place cause in some_number fault.0 (fault.1 ∙ z),
  zero_free later known.1,
)

-- The families.
at0 : (fault : Fault) {condition : Type 0} → OfFaults (At0 (fault_number fault) condition)
at0 fault number place cause = (fault, sym cause.0)

prefix_if : (joins : Bool) (n : ℕ) (es : List ℕ) → OfFaults (causes_if joins n es)
prefix_if false n es number place (PrefixCause.ends_inside q _ _) = (UnclosedBlock, sym q)
prefix_if false n es number place (PrefixCause.no_mark q _ _ _) = (NoMark, sym q)
prefix_if false n es number place (PrefixCause.same_mark _ q _ _ _) = (SameMark, sym q)
prefix_if false n es number place (PrefixCause.too_many_blocks q _ _) = (TooManyBlocks, sym q)
prefix_if false n es number place (PrefixCause.outside q _ _) = (ForeignVariable, sym q)
prefix_if false n es number place (PrefixCause.named_before _ q _ _ _ _) = (NamedBefore, sym q)
prefix_if false n es number place (PrefixCause.empty_block _ q _ _ _) = (EmptyBlock, sym q)
prefix_if true n es number place (JoinedCause.ends_inside q _ _) = (UnclosedBlock, sym q)
prefix_if true n es number place (JoinedCause.no_mark q _ _ _) = (NoMark, sym q)
prefix_if true n es number place (JoinedCause.too_many_blocks q _ _ _) = (TooManyBlocks, sym q)
prefix_if true n es number place (JoinedCause.outside q _ _) = (ForeignVariable, sym q)
prefix_if true n es number place (JoinedCause.named_before _ q _ _ _ _) = (NamedBefore, sym q)

prefix_by : (rule n : ℕ) (es : List ℕ) → OfFaults (PrefixCauseBy rule n es)
prefix_by rule = prefix_if (eqb rule 2)

clause_some : (n : ℕ) (ls : List ℤ) → OfFaults (ClauseCause n ls)
clause_some n ls number place (ClauseCause.outside q _ _ _) = (ForeignLiteral, sym q)
clause_some n ls number place (ClauseCause.ends_inside q _ _) = (UnclosedClause, sym q)

forest_some : (n : ℕ) (es : List ℕ) (r : Rows) → OfFaults (ForestCause n es r)
forest_some n es r number place (ForestCause.short q _ _) = (MalformedForest, sym q)
forest_some n es r number place (ForestCause.bad_row q _ _ _) = (MalformedForest, sym q)
forest_some n es r number place (ForestCause.bad_count q _ _ _ _) = (MalformedForest, sym q)

added_some : (n : ℕ) (ls : List ℤ) → OfFaults (AddedCause n ls)
added_some n ls number place (AddedCause.outside q _ _) = (ForeignLiteral, sym q)

overlong_some : (text : List ℕ) → OfFaults (Overlong text)
overlong_some text number place (overlong _) = (TextTooLong, refl)

short_some : (text out : List ℕ) → OfFaults (ShortOut text out)
short_some text out number place (short_out _) = (TooLittleRoom, refl)

line_some : (Follows : List (List ℕ) → List ℕ → Type 0) (text : List ℕ) → OfFaults (LineCause Follows text)
line_some Follows text number place (LineCause.unended_line _ _ _ _) = (WrongLine, refl)
line_some Follows text number place (LineCause.misplaced_line _ _ _ _ _ _) = (WrongLine, refl)
line_some Follows text number place (LineCause.no_problem_line _) = (WrongLine, refl)
line_some Follows text number place (LineCause.clause_too_many _ _ _ _ _ _ _) = (WrongClauseCount, refl)
line_some Follows text number place (LineCause.clauses_too_few _ _ _) = (WrongClauseCount, refl)

room_some : (text prefix : List ℕ) (clauses : List ℤ) → OfFaults (NoRoom text prefix clauses)
room_some text prefix clauses number place (NoRoom.no_room_prefix _ _) = (TooLittleRoom, refl)
room_some text prefix clauses number place (NoRoom.no_room_clauses _ _) = (TooLittleRoom, refl)

listed_room_some : (text : List ℕ) (before : Tables) → OfFaults (NoListedRoom text before)
listed_room_some text before number place (NoListedRoom.no_room_prefix _ _) = (TooLittleRoom, refl)
listed_room_some text before number place (NoListedRoom.no_room_clauses _ _) = (TooLittleRoom, refl)
listed_room_some text before number place (NoListedRoom.no_room_lists _ _) = (TooLittleRoom, refl)

list_some : (n : ℕ) (es ds : List ℕ) → OfFaults (ListCause n es ds)
list_some n es ds number place (ListCause.outside q _ _) = (MisplacedExistential, sym q)
list_some n es ds number place (ListCause.in_block q _ _) = (MisplacedExistential, sym q)
list_some n es ds number place (ListCause.listed_before _ q _ _ _ _) = (MisplacedExistential, sym q)
list_some n es ds number place (ListCause.no_universal q _ _) = (MisplacedUniversal, sym q)
list_some n es ds number place (ListCause.twice _ q _ _ _ _) = (MisplacedUniversal, sym q)
list_some n es ds number place (ListCause.ends_inside q _ _) = (UnclosedClause, sym q)

path_some : (X : Variables) (ls : List ℤ) (x y : ℕ) (path : List ℕ) → OfFaults (PathCause X ls x y path)
path_some X ls x y path number place (PathCause.empty q _ _) = (WrongPath, sym q)
path_some X ls x y path number place (PathCause.without_x q _ _ _) = (WrongPath, sym q)
path_some X ls x y path number place (PathCause.is_always_true q _ _) = (WrongPath, sym q)
path_some X ls x y path number place (PathCause.apart _ q _ _ _) = (WrongPath, sym q)
path_some X ls x y path number place (PathCause.without_y q _ _) = (WrongPath, sym q)

record_some : (file : List ℕ) → OfFaults (RecordCause file)
record_some file number place (RecordCause.cut q _ _) = (WrongRecord, sym q)
record_some file number place (RecordCause.odd q _ _) = (WrongRecord, sym q)
record_some file number place (RecordCause.no_count q _ _ _) = (WrongRecord, sym q)
record_some file number place (RecordCause.part_literal q _ _ _) = (WrongRecord, sym q)
record_some file number place (RecordCause.no_word q _ _ _) = (WrongRecord, sym q)

order_some : (file : List ℕ) → OfFaults (OrderCause file)
order_some file number place (OrderCause.wrong _ q _ _ _) = (WrongOrder, sym q)
order_some file number place (OrderCause.missing _ q _ _ _) = (WrongOrder, sym q)

forest_file_some : (f : Formula) (file : List ℕ) → OfFaults (ForestFileCause f file)
forest_file_some f file number place (ForestFileCause.rows_disagree q _ _) = (WrongContents, sym q)
forest_file_some f file number place (ForestFileCause.sets_disagree q _ _ _) = (WrongContents, sym q)

-- The orders of the calls.
module _ (rule : ℕ) (f : Formula) where
  pub check_free : KnownFaults (check_order rule f)
  check_free = (
    at0 NoSuchRule,
    (at0 TooManyVariables, (at0 TooManyEntries, (prefix_by rule f.n f.prefix, (clause_some f.n f.clauses, tt)))),
  )

  -- one that begins with check
  with_check : {Later : Type 0} → Later
      → OfFaults (RuleCause rule) × (OfFaults (VariableCount f.n) × (OfFaults (LengthCause f.prefix (length f.clauses))
      × (OfFaults (PrefixCauseBy rule f.n f.prefix) × (OfFaults (ClauseCause f.n f.clauses) × Later))))
  with_check later = let c = check_free in (c.0, (c.1.0, (c.1.1.0, (c.1.1.1.0, (c.1.1.1.1.0, later)))))

  pub build_free : (s : Standing) → KnownFaults (build_order rule f s)
  build_free s = with_check (at0 TooLittleRoom, tt)

  module _ (r : Rows) where
    pub entry_free : (x y : ℕ) → KnownFaults (entry_order rule f r x y)
    entry_free x y = (
      at0 NoSuchRule,
      (
        at0 TooManyVariables,
        (at0 TooManyEntries, (prefix_by rule f.n f.prefix, (forest_some f.n _ r, (at0 NotAskable, tt)))),
      ),
    )

    pub ask_free : (x : ℕ) → KnownFaults (ask_order rule f r x)
    ask_free x = with_check (forest_some f.n _ r, (at0 NotAskable, tt))

    pub listing_free : (x : ℕ) (P : ℕ → Type 0) (out : List ℕ) → KnownFaults (list_order rule f r x P out)
    listing_free x P out = with_check (forest_some f.n _ r, (at0 NotAskable, (at0 TooLittleRoom, tt)))

    pub sets_free : (scheme : Scheme) (out : List ℕ) → KnownFaults (sets_order rule scheme f r out)
    sets_free scheme out = with_check (forest_some f.n _ r, (at0 TooLittleRoom, tt))

  pub writing_free : (out : List ℕ) → KnownFaults (writing_order rule f out)
  writing_free out = with_check (overlong_some _, (short_some _ out, tt))

  pub path_free : (x y : ℕ) (path : List ℕ) → KnownFaults (path_order rule f x y path)
  path_free x y path = with_check (at0 NotAskable, (path_some _ f.clauses x y path, tt))

  pub resolution_free : (x : ℕ) (out : List ℕ) → KnownFaults (resolution_order rule f x out)
  resolution_free x out = with_check (at0 NotAskable, (at0 TooManyForPaths, (at0 TooLittleRoom, tt)))

  pub expand_free : (x : ℕ) (out : ResultTables) → KnownFaults (expand_order rule f x out)
  expand_free x out = with_check (at0 NotAskable, (at0 TooManyVariables, (at0 TooManyEntries, (at0 TooLittleRoom, tt))))

  pub store_free : (out : List ℕ) → KnownFaults (store_order rule f out)
  store_free out = with_check (at0 WrongRecord, (at0 TooLittleRoom, tt))

  module _ (ds : List ℕ) where
    pub lists_free : KnownFaults (check_lists_order rule f ds)
    lists_free = (
      at0 NoSuchRule,
      (
        at0 TooManyVariables,
        (at0 TooManyEntries, (prefix_by rule f.n f.prefix, (clause_some f.n f.clauses, (list_some f.n _ ds, tt)))),
      ),
    )

    -- one that begins with the check of lists
    with_lists : {Later : Type 0} → Later
        → OfFaults (RuleCause rule) × (OfFaults (VariableCount f.n) × (OfFaults (ListedLengthCause f (length ds))
        × (OfFaults (PrefixCauseBy rule f.n f.prefix) × (OfFaults (ClauseCause f.n f.clauses) × (OfFaults (ListCause f.n (read_as rule f.prefix) ds) × Later)))))
    with_lists later = let c = lists_free in (c.0, (c.1.0, (c.1.1.0, (c.1.1.1.0, (c.1.1.1.1.0, (c.1.1.1.1.1.0, later))))))

    pub listed_set_free : (x : ℕ) (P : ℕ → Type 0) (out : List ℕ) → KnownFaults (set_order rule f ds x P out)
    listed_set_free x P out = with_lists (at0 NotAskable, (at0 TooLittleRoom, tt))

    pub listed_writing_free : (out : List ℕ) → KnownFaults (listed_writing_order rule f ds out)
    listed_writing_free out = with_lists (overlong_some _, (short_some _ out, tt))

pub clause_free : (n : ℕ) (ls : List ℤ) (asked : ℕ) → KnownFaults (clause_order n ls asked)
clause_free n ls asked = (at0 TooManyVariables, (at0 TooManyEntries, (clause_some n ls, (at0 NotAskable, tt))))

pub add_free : (rule n : ℕ) (es : List ℕ) (s : Standing) (clause : List ℤ) → KnownFaults (add_order rule n es s clause)
add_free rule n es s clause = (
  at0 NoSuchRule,
  (
    at0 TooManyVariables,
    (
      at0 TooManyEntries,
      (prefix_by rule n es, (added_some n clause, (forest_some n _ s.rows, (at0 WrongTally, tt)))),
    ),
  ),
)

pub read_free : (text prefix : List ℕ) (clauses : List ℤ) → KnownFaults (read_order text prefix clauses)
read_free text prefix clauses = (overlong_some text, (line_some _ text, (room_some text prefix clauses, tt)))

pub read_lists_free : (text : List ℕ) (before : Tables) → KnownFaults (listed_read_order text before)
read_lists_free text before = (overlong_some text, (line_some _ text, (listed_room_some text before, tt)))

pub load_free : (rule : ℕ) (file : List ℕ) (lent : Lent) → KnownFaults (load_order rule file lent)
load_free rule file lent = (
  at0 NoSuchRule,
  (
    at0 WrongRecord,
    (
      record_some file,
      (
        order_some file,
        (
          at0 WrongSum,
          (
            at0 TooManyVariables,
            (at0 TooManyEntries, (prefix_by rule _ _, (clause_some _ _, (forest_file_some _ file, (at0 TooLittleRoom, tt))))),
          ),
        ),
      ),
    ),
  ),
)
