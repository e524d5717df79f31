-- By the stage: without a problem line 16, with clause lines missing 17, and else all that were announced have stood, since no more may.
use Rattle.std.specs.Prelude.{Ok}
use Rattle.terms.specs.Says.{refused}
use Rattle.terms.specs.declared.Fault.TheVariants.{WrongClauseCount, WrongLine}
use Prim.Native.Nat.{◌≤◌}
use mathlib.Core.Path.{◌≡◌, refl, sym, ap, subst}
use native.Mathlib.Omega.{arith}
use Rattle.text_lines.specs.declared.Stage.{Stage}
use Rattle.text_lines.specs.declared.Stage.TheVariants.{Body}
use Rattle.text_lines.specs.InnerGrammar.{no_problem, few}
use Rattle.text_lines.specs.InnerSteps.{Sound}
use Rattle.text_qdimacs.specs.InnerScans.{FinishIs}
use Rattle.text_qdimacs.proofs.scanning.finish.Goals as goal

pub returns-in-Opening : goal.returns-in-Opening
returns-in-Opening c =
    let a = c.args in
    let Is : Stage → Type 0 = λ s. FinishIs s a.at a.entries a.literals (refused WrongLine a.at) in
    record { finished = subst Is (sym c.in-Opening.is) (no_problem, refl) }

pub returns-then-stood-announced : goal.returns-then-stood-announced
returns-then-stood-announced c =
    let a = c.args in
    let Is : Stage → Type 0 = λ s. FinishIs s a.at a.entries a.literals (refused WrongClauseCount a.at) in
    record { finished = subst Is (sym c.in-Body.is) (few c.if-stood-announced.true, refl) }

pub returns-else-stood-announced : goal.returns-else-stood-announced
returns-else-stood-announced c =
    let a = c.args in
    let sound : c.in-Body.stood ≤ c.in-Body.announced = subst Sound c.in-Body.is c.requires.sound in
    let all : c.in-Body.stood ≡ c.in-Body.announced = omega (arith, c.if-stood-announced.false) in
    let Is : Stage → Type 0 = λ s. FinishIs s a.at a.entries a.literals (Ok (record { n = c.in-Body.n; prefix = a.entries; clauses = a.literals })) in
    record { finished = subst Is (sym c.in-Body.is) (ap (Body c.in-Body.n c.in-Body.announced) all, refl, refl) }
