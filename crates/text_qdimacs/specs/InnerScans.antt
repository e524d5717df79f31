-- What the scan of a whole text promises.
use Rattle.terms.specs.Says.{Answer, fault_number}
use Rattle.terms.specs.declared.Counts.{Counts}
use Rattle.std.specs.Prelude.{ℕ, ◌≡◌, List, [], ◌∷◌, length, ℤ, Ok, Err}
use Rattle.std.proofs.lemmas.List.Edits.{sets}
use Rattle.text_lines.specs.declared.Stage.{Stage}
use Rattle.text_lines.specs.declared.Stage.TheVariants.{Body}
use Rattle.terms.specs.Refusals.{First}
use Rattle.text_lines.specs.Format.{TextOf, MayFollow, LineCause}
use Rattle.text_lines.specs.InnerGrammar.{Fault}
use Rattle.text_lines.specs.InnerSteps.{announced_at}

-- What a scan of a whole text finds: the first cause, or n and tables whose text it is, which are stored as far as there are rows.
pub record Scanned (n entries literals : ℕ) (text : List ℕ) (before after : List ℕ × List ℤ) : Type 0 where
  pub P : List ℕ
  pub C : List ℤ
  pub text_of : TextOf n P C text
  pub entries_counted : entries ≡ length P
  pub literals_counted : literals ≡ length C
  pub prefix_stored : after.0 ≡ sets before.0 0 P
  pub clauses_stored : after.1 ≡ sets before.1 0 C

abbrev pub ScanIs : List ℕ → List ℕ × List ℤ → List ℕ × List ℤ → Answer Counts → Type 0
ScanIs text before after (Ok counts) = Scanned counts.n counts.prefix counts.clauses text before after
ScanIs text before after (Err refusal) = First (LineCause MayFollow text) (fault_number refusal.0) refusal.1

-- What a scan of the text found, in tables of any length that now hold it as far as they have rows.
pub record Held (n entries literals : ℕ) (text prefix : List ℕ) (clauses : List ℤ) : Type 0 where
  pub before : List ℕ × List ℤ
  pub scanned : Scanned n entries literals text before (prefix, clauses)

-- What lies at the end of a text, after all its lines, at a stage: a fault, or nothing.
abbrev pub FinishIs : Stage → ℕ → ℕ → ℕ → Answer Counts → Type 0
FinishIs stage at entries literals (Ok counts) =
    (stage ≡ Body counts.n (announced_at stage) (announced_at stage)) × (counts.prefix ≡ entries) × (counts.clauses ≡ literals)
FinishIs stage at entries literals (Err refusal) = Fault (fault_number refusal.0) stage ([] ∷ []) × (refusal.1 ≡ at)
