use mathlib.Core.Path.{refl, sym, ◌∙◌}
use Rattle.std.proofs.Common.{rules}
use Rattle.forest_entries.proofs.Flags.{literal_past}
use Rattle.path_check.proofs.Entries.{pass_more, passed_all}
use Rattle.path_check.proofs.walk.has_variable.Goals as goal

pub returns-then-variable-eq0 : goal.returns-then-variable-eq0
returns-then-variable-eq0 c = record { told = λ end next h. passed_all c.loop-i.invariant next (sym c.variable_at-variable.ensures.read ∙ c.if-variable-eq0.true) c.args.v.0 h refl }

pub loop-i-preserved : goal.loop-i-preserved
loop-i-preserved c = pass_more c.loop-i.invariant c.variable_at-variable.result.0 c.variable_at-variable.ensures.read c.if-variable-eq0.false (search rules)

pub returns : goal.returns
returns c = record { told = λ end next h. passed_all c.loop-i.invariant next (literal_past c.args.clauses.now c.loop-i.i c.loop-i-test.false) c.args.v.0 h refl }
