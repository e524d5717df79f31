-- The search for an entry that is made true finds one where there is one (any_from_yields_List), which is how a satisfied clause is defined (satisfied_any).
use mathlib.Core.Path.{◌∙◌}
use Rattle.std.proofs.Common.{rules, tests}
use Rattle.std.proofs.lemmas.Iterator.{YieldsList-from_slice}
use Rattle.std.proofs.lemmas.Iterator.Search.{any_from_yields_List}
use Rattle.expand_clauses.specs.Expansion.{made_true}
use Rattle.expand_clauses.proofs.Testing.{satisfied_any}
use Rattle.expand_clauses.proofs.literals.is_satisfied.Goals as goal

pub returns : goal.returns
returns c =
    let a = c.args in
    let made = made_true a.value a.x.0 in
    let any = any_from_yields_List made _ _ c.any.result c.any.ensures.ran (YieldsList-from_slice a.clause.now cc) (λ literal b q k. search (rules, tests)) in
    record { told = any ∙ satisfied_any a.value a.x.0 a.clause.now }
