-- Inner: the parts of the orders of reading and writing, as functions look for them one after the other. What a reader must believe are the orders of
-- the calls, in Causes.
use Rattle.std.specs.Prelude.{ℕ, List, [], ◌∷◌, length}
use Rattle.terms.specs.Refusals.{Causes}
use Rattle.formula.specs.Causes.{VariableCount, LengthCause, ClauseCause}
use Rattle.formula.specs.Lent.{Formula}
use Rattle.formula_rules.specs.Rules.{PrefixCauseBy}
use Rattle.file_format.specs.Causes.{LargeCause, RecordCause, OrderCause, SumCause, StoredLargeCause, StoredRoomCause}

-- of the records of a file, behind 23: 19 (too long), 19, 20, 21
abbrev pub file_order : List ℕ → List Causes
file_order file = LargeCause file ∷ RecordCause file ∷ OrderCause file ∷ SumCause file ∷ []

-- of its formula: 1, 2, prefix from the left, clause literals from the left
abbrev pub table_order : ℕ → Formula → List Causes
table_order rule f =
    VariableCount f.n ∷ LengthCause f.prefix (length f.clauses) ∷ PrefixCauseBy rule f.n f.prefix ∷ ClauseCause f.n f.clauses ∷ []

-- behind check, of a file that is written: 19, 14
abbrev pub behind_store : Formula → List ℕ → List ℕ → List Causes
behind_store f read before = StoredLargeCause f read ∷ StoredRoomCause f read before ∷ []
