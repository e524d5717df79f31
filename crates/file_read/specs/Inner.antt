-- What the inner functions of reading leave. What a reader must believe of the call is in the definitions of `file_format`.
use Rattle.terms.specs.Says.{Answer}
use Rattle.terms.specs.declared.Loaded.{Loaded}
use Rattle.std.specs.Prelude.{List, [], ◌∷◌, ℕ, length}
use Rattle.terms.specs.Refusals.{At0}
use Rattle.formula.specs.Lent.{Formula}
use Rattle.file_format.specs.Places.{has_sets, formula_held}
use Rattle.file_format.specs.Causes.{RightRows, Lent, NoFileRoom}
use Rattle.file_format.specs.Promises.{Loading}
use Rattle.file_verify.specs.InnerVerified.{rows_held}

-- what a file has
abbrev pub said_of : List ℕ → Loaded
said_of file =
    let f = formula_held file in
    record { n = f.n; prefix = length f.prefix; clauses = length f.clauses; sets = has_sets file }

-- What reading promises of a file whose rows are those of a formula, whatever the formula: only 14 is left to refuse.
abbrev pub LoadsRight : List ℕ → Lent → Lent → Answer Loaded → Type 0
LoadsRight file lent lent' answer =
    (read : Formula) → RightRows read file (rows_held file) → Loading (At0 14 (NoFileRoom (formula_held file) lent) ∷ []) read file lent lent' answer
