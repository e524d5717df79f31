-- Each test is a cause of refusal 18. The sum of merges and classes is tested as a difference, which is the same where the classes are the class names.
use mathlib.Core.Logic.{inl, inr, ⊎_elim}
use native.Mathlib.Omega.{arith}
use Rattle.grow_refusals.proofs.tallying.disagrees.Goals as goal

pub returns-then-tally-ge-CLAUSES : goal.returns-then-tally-ge-CLAUSES
returns-then-tally-ge-CLAUSES c = record { told = inl c.if-tally-ge-CLAUSES.true }

pub returns-then-tally-names : goal.returns-then-tally-names
returns-then-tally-names c = record { told = inr (inl c.if-tally-names.true) }

pub returns-then-tally-existentials : goal.returns-then-tally-existentials
returns-then-tally-existentials c =
    let own = c.if-tally-names.false in
    record { told = inr (inr (λ sum. c.if-tally-existentials.true (omega arith))) }

pub returns : goal.returns
returns c =
    let few = c.requires in
    let low = c.if-tally-ge-CLAUSES.false in
    let own = c.if-tally-names.false in
    let same = c.if-tally-existentials.false in
    record { told = ⊎_elim (λ many. omega arith) (⊎_elim (λ other. other own) (λ other. other (omega arith))) }
