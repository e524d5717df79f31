-- By the kind before: what may follow each is one law of Passing.
use Rattle.std.proofs.Common.{rules}
use mathlib.Core.Path.{sym, ap, ◌∙◌}
use mathlib.Core.Bool.{Bool, ◌||◌}
use borrow.Author.Tests.{eq-eqb, ne_eqb}
use lib.Dec.{eqb}
use Rattle.file_format.specs.Layout.{sets_kind, closing_kind}
use Rattle.file_format.proofs.Passing.{after_start, after_prefix, after_clauses, after_rows, after_sets, after_other}
use Rattle.file_layout.proofs.may_follow.Goals as goal

pub returns-in-0 : goal.returns-in-0
returns-in-0 c = record { told = sym (after_start _ _ c.in-0.is) }

pub returns-in-1 : goal.returns-in-1
returns-in-1 c = record { told = sym (after_prefix _ _ c.in-1.is) }

pub returns-in-2 : goal.returns-in-2
returns-in-2 c = record { told = sym (after_clauses _ _ c.in-2.is) }

pub returns-then-kind-eq-SETS : goal.returns-then-kind-eq-SETS
returns-then-kind-eq-SETS c =
    record {
      told = eq-eqb c.args.kind sets_kind c.if-kind-eq-SETS.true
          ∙ sym (after_rows _ _ c.in-3.is ∙ ap (λ (b : Bool). b || eqb c.args.kind closing_kind) (eq-eqb c.args.kind sets_kind c.if-kind-eq-SETS.true));
    }

pub returns-else-kind-eq-SETS : goal.returns-else-kind-eq-SETS
returns-else-kind-eq-SETS c =
    record {
      told = sym (after_rows _ _ c.in-3.is ∙ ap (λ (b : Bool). b || eqb c.args.kind closing_kind) (ne_eqb c.args.kind sets_kind c.if-kind-eq-SETS.false));
    }

pub returns-in-4 : goal.returns-in-4
returns-in-4 c = record { told = sym (after_sets _ _ c.in-4.is) }

pub returns-in_default : goal.returns-in_default
returns-in_default c = record { told = sym (after_other _ _ (search rules) (search rules) (search rules) (search rules) (search rules)) }
