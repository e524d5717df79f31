-- Before the problem line and after the first clause line no list line may stand; between them the letter tells (list_mark_lem).
use Prim.Native.Nat.{ℕ}
use mathlib.Core.Path.{◌≡◌, sym, ap, ◌∙◌}
use native.Mathlib.Omega.{arith}
use Rattle.text_lines.specs.declared.Stage.TheVariants.{Opening, Body}
use Rattle.dqbf_text.proofs.Faults.{list_mark_lem}
use Rattle.dqbf_text.proofs.lines.list_mark.Goals as goal

pub returns-then-stood-ne0 : goal.returns-then-stood-ne0
returns-then-stood-ne0 c =
    record {
      marked = λ n m l e x. let same : Body c.in-Body.n c.in-Body.announced c.in-Body.stood ≡ Body n m 0 = sym c.in-Body.is ∙ e in
          let none : c.in-Body.stood ≡ 0 = cc in
          c.if-stood-ne0.true none;
    }

pub returns-in-Opening : goal.returns-in-Opening
returns-in-Opening c =
    record {
      marked = λ n m l e x. let same : Opening ≡ Body n m 0 = sym c.in-Opening.is ∙ e in
          let no : ◌≡◌ {A = ℕ} 0 1 = cc in
          omega arith;
    }

pub returns-else-stood-ne0 : goal.returns-else-stood-ne0
returns-else-stood-ne0 c =
    let a = c.args in
    let before-clauses = c.in-Body.is ∙ ap (Body c.in-Body.n c.in-Body.announced) c.if-stood-ne0.false in
    record { marked = list_mark_lem a.text.now a.at before-clauses c.letter_at.result c.letter_at.ensures.looked }
