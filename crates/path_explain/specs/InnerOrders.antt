-- Inner: what is promised behind check by functions to which the prefix is lent as the rule reads it, and by those that work by flags.
use Rattle.std.specs.Prelude.{ℕ, ◌<◌, List, [], ◌∷◌, ℤ, length}
use Rattle.terms.specs.Answers.{Filling}
use Rattle.terms.specs.Refusals.{Causes, At0}
use Rattle.terms.specs.Says.{Answer}
use Rattle.formula.specs.Lent.{Formula}
use Rattle.forest_theory.specs.Reach.{Variables}
use Rattle.forest_entries.specs.declared.Signs.{Signs}
use Rattle.forest.specs.Causes.{PairCause}
use Rattle.path_explain.specs.Ways.{Shortest, Explains}
use Rattle.path_explain.specs.Causes.{ExplainsBy, ShortOutput}

-- 13 for x and y, then 14
abbrev pub behind_explain : Formula → Signs → ℕ → ℕ → List ℕ → List Causes
behind_explain f signs x y before = PairCause f.n f.prefix x y ∷ ShortOutput f signs x y before ∷ []

-- what the call promises of an accepted formula, as it is read
abbrev pub SoundExplained : Formula → Signs → ℕ → ℕ → List ℕ → List ℕ → Answer ℕ → Type 0
SoundExplained f signs x y before = Filling (behind_explain f signs x y before) (ExplainsBy f signs x y) before

-- what is promised of a pair that is not refused: 14 alone is looked for
abbrev pub WayListed : Variables → List ℤ → Signs → ℕ → ℕ → List ℕ → List ℕ → Answer ℕ → Type 0
WayListed X ls signs x y before =
    Filling (At0 14 ((path : List ℕ) × Shortest X ls signs x y path × (length before < length path)) ∷ []) (Explains X ls signs x y) before
