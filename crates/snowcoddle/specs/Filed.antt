-- What loading a file gives C (rule 10.5).
use Rattle.std.specs.Prelude.{ℕ, ◌≡◌, List, length}
use Rattle.formula_rules.specs.Rules.{read_by}
use Rattle.file_format.specs.Places.{formula_held, has_sets}
use Rattle.file_format.specs.Causes.{Lent}
use Rattle.file_format.specs.Promises.{FilledFrom}
use Rattle.c_answers.specs.Codes.{tells_sets}

-- n, how many entries prefix and clauses have, and whether sets were there, as the file has them; with the lent tables filled
pub record GivenByFile (rule : ℕ) (file : List ℕ) (lent lent' : Lent) (n entries literals with_sets : ℕ) : Type 0 where
  pub count : n ≡ (formula_held file).n
  pub prefix_count : entries ≡ length (formula_held file).prefix
  pub clauses_count : literals ≡ length (formula_held file).clauses
  pub sets_told : with_sets ≡ tells_sets (has_sets file)
  pub filled : FilledFrom (read_by rule (formula_held file)) file lent lent'
