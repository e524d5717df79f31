-- By whether the line has a mark, and by what its row is: each way through is one law of Bodies, a fault at this line or where the line leads to.
use mathlib.Core.Path.{refl}
use native.Mathlib.Omega.{arith}
use native.Mathlib.Numerals.{add-one}
use Rattle.text_lines.specs.Format.{literals_line}
use Rattle.text_lines.specs.InnerGrammar.{too_many}
use Rattle.text_words.proofs.Spelled.{read_literals}
use Rattle.text_lines.proofs.Bodies.{fault_many, mark_on, unmarked_none, fault_marked, fault_block, fault_clause, went_block, went_clause}
use Rattle.text_lines.proofs.body.body_at.Goals as goal

pub returns-then-stood-ne0 : goal.returns-then-stood-ne0
returns-then-stood-ne0 c = record { steps = fault_marked c.requires.within.0 c.in-Some.ensures.marked c.if-stood-ne0.true }

pub block_at-requires : goal.block_at-requires
block_at-requires c = record { behind = omega (arith, mark_on c.in-Some.ensures.marked, c.requires.within.1) }

pub returns-in_default : goal.returns-in_default
returns-in_default c = record { steps = fault_block c.requires.within.0 c.in-Some.ensures.marked c.in_default.ensures.stored }

pub returns-in-Some-block_at : goal.returns-in-Some-block_at
returns-in-Some-block_at c =
    let pre = c.requires.within in
    record { steps = went_block pre.0 pre.1 pre.2 c.in-Some.ensures.marked c.if-stood-ne0.false c.in-Some-block_at.ensures.stored refl }

pub returns-in_default-literals_at : goal.returns-in_default-literals_at
returns-in_default-literals_at c =
    let a = c.args in
    let none = c.in-None.ensures.marked in
    record { steps = fault_clause c.requires.within.0 (unmarked_none a.text.now a.at none.0 none.1) c.in_default-literals_at.ensures.stored }

pub returns-then-announced-stood : goal.returns-then-announced-stood
returns-then-announced-stood c =
    let row = c.in-Some-literals_at.ensures.stored in
    let many = too_many (omega (arith, c.if-announced-stood.true, c.requires.within.3)) (literals_line (read_literals row.read)) in
    record { steps = fault_many row.passed many }

pub returns-else-announced-stood : goal.returns-else-announced-stood
returns-else-announced-stood c =
    let pre = c.requires.within in
    record { steps = went_clause pre.0 pre.1 pre.2 (add-one c.args.stood) c.if-announced-stood.false c.in-Some-literals_at.ensures.stored refl }
