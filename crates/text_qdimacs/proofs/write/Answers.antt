-- What check refuses is refused so, before 15 and 14; what it accepts has small numbers and short tables, and the writer's answer is that of the call,
-- since the text entry by entry is that of blocks and clauses.
use Prim.Native.Nat.{ℕ}
use mathlib.Core.Path.{refl, subst}
use mathlib.Core.List.{List}
use native.Mathlib.Omega.{arith}
use Rattle.terms.specs.Refusals.{NoneOf}
use Rattle.terms.proofs.Verdicts.{refused_first, handed_on}
use Rattle.formula.specs.Lent.{formula_of}
use Rattle.formula_rules.specs.Rules.{check_order}
use Rattle.formula_rules.proofs.Orders.{limits}
use Rattle.text_write.specs.InnerOrders.{write_order, WriteIs}
use Rattle.text_write.proofs.Outputs.{writes_accepted}
use Rattle.text_qdimacs.specs.Stored.{formula_text}
use Rattle.text_qdimacs.proofs.Accepted.{small, holdable}
use Rattle.text_qdimacs.proofs.Blockwise.{text_is}
use Rattle.text_qdimacs.proofs.write.Goals as goal

pub write_accepted-requires : goal.write_accepted-requires
write_accepted-requires c =
    let a = c.args in
    let f = formula_of a.n a.prefix.now a.clauses.now in
    let none : NoneOf (check_order a.rule f) = c.in_ok-check.ensures.judged in
    let (few, short, room) = limits a.rule f none in
    let (entries, literals) = small a.rule f none in
    record { writable = (omega arith, short, room, entries, literals) }

pub returns-in_err-check : goal.returns-in_err-check
returns-in_err-check c =
    let a = c.args in
    let f = formula_of a.n a.prefix.now a.clauses.now in
    rw (handed_on c.from_residual.result c.from_residual.ensures.1)
    record {
      answered = (
        refused_first (check_order a.rule f) (write_order (formula_text f) a.out.now) c.in_err-check.was c.check.ensures.judged,
        refl,
      );
    }

pub returns : goal.returns
returns c =
    let a = c.args in
    let w = c.write_accepted in
    let f = formula_of a.n a.prefix.now a.clauses.now in
    let none : NoneOf (check_order a.rule f) = c.in_ok-check.ensures.judged in
    let out' = w.new.out in
    let same = text_is f.n f.prefix f.clauses (holdable a.rule f none) in
    record {
      answered =
          writes_accepted (check_order a.rule f) (formula_text f) a.out.now out' w.result none
          (subst (λ (text : List ℕ). WriteIs text a.out.now out' w.result) same w.ensures.answered);
    }
