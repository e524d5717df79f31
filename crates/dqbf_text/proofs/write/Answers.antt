-- What the check of lists refuses is refused so, before 15 and 14; what it accepts can be written (fit), and the writer's answer is that of the call,
-- since the text entry by entry is that of blocks, lists and clauses (written_text).
use Prim.Native.Nat.{ℕ}
use mathlib.Core.Path.{refl, subst}
use mathlib.Core.List.{List}
use Rattle.terms.proofs.Verdicts.{refused_first, handed_on}
use Rattle.formula.specs.Lent.{formula_of}
use Rattle.text_write.specs.InnerOrders.{write_order, WriteIs}
use Rattle.text_write.proofs.Outputs.{writes_accepted}
use Rattle.dqbf_lists.specs.Causes.{check_lists_order}
use Rattle.dqbf_text.specs.Stored.{listed_text}
use Rattle.dqbf_text.proofs.Accepted.{fit, written_text}
use Rattle.dqbf_text.proofs.write.Goals as goal

pub write_accepted-requires : goal.write_accepted-requires
write_accepted-requires c =
    let a = c.args in
    record { writable = fit a.rule (formula_of a.n a.prefix.now a.clauses.now) a.lists.now c.in_ok-check.ensures.judged }

pub returns-in_err-check : goal.returns-in_err-check
returns-in_err-check c =
    let a = c.args in
    let f = formula_of a.n a.prefix.now a.clauses.now in
    let order = check_lists_order a.rule f a.lists.now in
    rw (handed_on c.from_residual.result c.from_residual.ensures.1)
    (record { answered = (refused_first order (write_order (listed_text f a.lists.now) a.out.now) c.in_err-check.was c.check.ensures.judged, refl) })

pub returns : goal.returns
returns c =
    let a = c.args in
    let w = c.write_accepted in
    let f = formula_of a.n a.prefix.now a.clauses.now in
    let ds = a.lists.now in
    let none = c.in_ok-check.ensures.judged in
    let out' = w.new.out in
    record {
      answered =
          writes_accepted (check_lists_order a.rule f ds) (listed_text f ds) a.out.now out' w.result none
          (subst (λ (text : List ℕ). WriteIs text a.out.now out' w.result) (written_text a.rule f ds none) w.ensures.answered);
    }
