-- The search for an entry of x or of a variable with a copy finds one where there is one (any_from_yields_List), and that is to have x or a member (touched_any).
use mathlib.Core.Path.{◌∙◌}
use Rattle.std.proofs.Common.{rules, tests}
use Rattle.std.proofs.lemmas.Iterator.{YieldsList-from_slice}
use Rattle.std.proofs.lemmas.Iterator.Search.{any_from_yields_List}
use Rattle.terms.specs.Literals.{variable_of}
use Rattle.expand_clauses.specs.InnerCopied.{tabled}
use Rattle.expand_clauses.proofs.Testing.{touches, touched_any}
use Rattle.expand_clauses.proofs.literals.is_touched.Goals as goal

pub returns : goal.returns
returns c =
    let x = c.args.x.0 in
    let copy = tabled c.args.copies.now in
    let clause = c.args.clause.now in
    let any = any_from_yields_List (λ literal. touches x copy (variable_of literal)) _ _ c.any.result c.any.ensures.ran (YieldsList-from_slice clause cc)
    (λ literal b q k. search (rules, tests)) in
    record { told = any ∙ touched_any x copy clause }
