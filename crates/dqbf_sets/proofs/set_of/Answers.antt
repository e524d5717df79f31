-- The formula is judged by the rule; the set by the prefix as the rule reads it stands behind that in the order.
use Prim.Native.Nat.{ℕ}
use mathlib.Core.Path.{refl}
use mathlib.Core.List.{List, [], ◌∷◌, ◌++◌}
use lib.ListN.{length}
use Rattle.terms.specs.Answers.{Listing, TooLong}
use Rattle.terms.specs.Listed.{Listed}
use Rattle.terms.specs.Refusals.{Causes, At0}
use Rattle.terms.proofs.Answers.{carry-filling}
use Rattle.terms.proofs.Verdicts.{handed_on}
use Rattle.formula.specs.Lent.{formula_of}
use Rattle.formula_rules.specs.Rules.{read_as}
use Rattle.formula_rules.proofs.Reading.{refused_read, sound_read, more_read, behind_read}
use Rattle.dqbf_lists.specs.Inner.{listed_formula}
use Rattle.dqbf_sets.specs.Depends.{DependsOnBy}
use Rattle.dqbf_sets.specs.Inner.{behind_formula}
use Rattle.dqbf_sets.proofs.set_of.Goals as goal
use Rattle.dqbf_sets.proofs.set_of.Goals.{Start}

-- what is looked for before the lists; what depends on x by the prefix that is read, and what is looked for by it
abbrev order : Start → List Causes
order at-start = let a = at-start.args in listed_formula a.rule (formula_of a.n a.prefix.now a.clauses.now) (length a.lists.now)

abbrev Depends : Start → List ℕ → ℕ → Type 0
Depends at-start read =
    let a = at-start.args in
    DependsOnBy a.scheme (formula_of a.n read a.clauses.now) a.lists.now a.x.0

abbrev later : Start → List ℕ → List Causes
later at-start read =
    let a = at-start.args in
    behind_formula a.n read a.lists.now a.x.0 ++ (At0 14 (TooLong (Depends at-start read) a.out.now) ∷ [])

pub sound_set-requires : goal.sound_set-requires
sound_set-requires c =
    let s = (goal.at.sound_set-requires c).Start in
    let a = c.args in
    let (clauses, short) = more_read (order s) _ a.rule a.n a.prefix.now c.in_ok-read.was c.take_listed.ensures.takes in
    let sound = sound_read (order s) _ a.rule a.n a.prefix.now c.in_ok-read.was c.take_listed.ensures.takes in
    record { sound = (sound, clauses); short = short }

pub returns-in_err-read : goal.returns-in_err-read
returns-in_err-read c =
    let s = (goal.at.returns-in_err-read c).Start in
    let a = c.args in
    rw (handed_on c.from_residual.result c.from_residual.ensures.1)
    record {
      listed = (
        refused_read (order s) _ a.rule a.n a.prefix.now (later s (read_as a.rule a.prefix.now)) c.in_err-read.was c.take_listed.ensures.takes,
        refl,
      );
    }

pub returns : goal.returns
returns c =
    let s = (goal.at.returns c).Start in
    let a = c.args in
    let after = c.sound_set.new.out in
    let answer = c.sound_set.result in
    record {
      listed = behind_read (order s) _ a.rule a.n a.prefix.now c.in_ok-read.was c.take_listed.ensures.takes
          (λ order read. Listing order (Depends s read) a.out.now after answer)
          (λ order order' read. carry-filling (Listed (Depends s read)) a.out.now after answer order order')
          (later s) c.sound_set.ensures.listed;
    }
