-- What write promises (rule 7.5, rule 8.2): the text is that of the formula as it is lent, so that it reads back as that, and the
-- order that of check under the rule, then 15 and 14.
use Rattle.terms.specs.Says.{Answer}
use Rattle.std.specs.Prelude.{ℕ, List, [], ◌∷◌, length}
use Rattle.terms.specs.Refusals.{Causes}
use Rattle.formula.specs.Causes.{VariableCount, LengthCause, ClauseCause}
use Rattle.formula.specs.Lent.{Formula}
use Rattle.formula_rules.specs.Rules.{RuleCause, PrefixCauseBy}
use Rattle.text_write.specs.Texts.{Overlong}
use Rattle.text_write.specs.Stored.{ShortOut, WritesBy}
use Rattle.text_write.specs.Written.{text_of}

-- the text of a formula
abbrev pub formula_text : Formula → List ℕ
formula_text f = text_of f.n f.prefix f.clauses

-- the order: 23, 1, 2, prefix from the left, clause literals from the left, 15, 14
abbrev pub writing_order : ℕ → Formula → List ℕ → List Causes
writing_order rule f out =
    RuleCause rule ∷ VariableCount f.n ∷ LengthCause f.prefix (length f.clauses) ∷ PrefixCauseBy rule f.n f.prefix
    ∷ ClauseCause f.n f.clauses ∷ Overlong (formula_text f) ∷ ShortOut (formula_text f) out ∷ []

abbrev pub Writes : ℕ → Formula → List ℕ → List ℕ → Answer ℕ → Type 0
Writes rule f out = WritesBy (writing_order rule f out) (formula_text f) out
