-- Where the line's bytes end within the text an LF stands, and the next line after it (passed_line); else the line has none (unpassed_line).
use Prim.Native.Nat.{ℕ, ◌+◌}
use mathlib.Core.Path.{sym, subst}
use native.Mathlib.Omega.{arith}
use Rattle.text_words.specs.InnerPlaces.{Passed}
use Rattle.text_lines.specs.InnerSteps.{endless_line}
use Rattle.text_lines.proofs.Openings.{passed_line, unpassed_line}
use Rattle.text_lines.proofs.opening.comment_at.Goals as goal

pub returns : goal.returns
returns c =
    let a = c.args in
    let e = c.line_end-stop.ensures in
    let passed = passed_line a.text.now a.at (omega arith) in
    record { opened = (c.requires.comment, subst (λ (stop : ℕ). Passed a.text.now a.at (stop + 1)) (sym e.passed) passed) }

pub returns-then-text-stop : goal.returns-then-text-stop
returns-then-text-stop c =
    let a = c.args in
    let e = c.line_end-stop.ensures in
    record { opened = endless_line (unpassed_line a.text.now a.at (omega arith)) }
