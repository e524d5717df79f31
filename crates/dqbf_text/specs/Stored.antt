-- What writing promises (rule 13.4, rule 8.2): the text of a formula and its lists stands in front in the lent
-- buffer, or the first cause in the order of the check of lists under the rule, then 15, then 14.
use Rattle.terms.specs.Says.{Answer}
use Rattle.std.specs.Prelude.{ℕ, List, [], ◌∷◌, length}
use Rattle.terms.specs.Refusals.{Causes}
use Rattle.formula.specs.Causes.{VariableCount, ClauseCause}
use Rattle.formula.specs.Lent.{Formula}
use Rattle.formula_rules.specs.Rules.{read_as, RuleCause, PrefixCauseBy}
use Rattle.text_write.specs.Texts.{Overlong}
use Rattle.text_write.specs.Stored.{ShortOut, WritesBy}
use Rattle.dqbf_lists.specs.Causes.{ListedLengthCause, ListCause}
use Rattle.dqbf_text.specs.Written.{listed_text_of}

-- the text of a formula with lists
abbrev pub listed_text : Formula → List ℕ → List ℕ
listed_text f ds = listed_text_of f.n f.prefix f.clauses ds

-- the order: 23, 1, 2, prefix from the left, clause literals from the left, lists from the left, 15, 14
abbrev pub listed_writing_order : ℕ → Formula → List ℕ → List ℕ → List Causes
listed_writing_order rule f ds out =
    RuleCause rule ∷ VariableCount f.n ∷ ListedLengthCause f (length ds) ∷ PrefixCauseBy rule f.n f.prefix
    ∷ ClauseCause f.n f.clauses ∷ ListCause f.n (read_as rule f.prefix) ds ∷ Overlong (listed_text f ds)
    ∷ ShortOut (listed_text f ds) out ∷ []

-- The prefix is written as it is lent, so that the text reads back as that table.
abbrev pub WritesListed : ℕ → Formula → List ℕ → List ℕ → List ℕ → Answer ℕ → Type 0
WritesListed rule f ds out = WritesBy (listed_writing_order rule f ds out) (listed_text f ds) out
