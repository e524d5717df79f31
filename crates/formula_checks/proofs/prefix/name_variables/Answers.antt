-- The variable at which the naming stops is over n, or named already.
use mathlib.Core.Path.{refl}
use native.Mathlib.Omega.{arith}
use Rattle.terms.specs.declared.Fault.TheVariants.{ForeignVariable, NamedBefore}
use Rattle.terms.proofs.Faults.{some_number}
use Rattle.formula.specs.InnerScan.{faulty, outside, named_before}
use Rattle.formula_checks.proofs.prefix.name_variables.Goals as goal

pub bounds-prefix-end : goal.bounds-prefix-end
bounds-prefix-end c = c.in-Some.ensures.names.within

pub offset_bounds-prefix-end : goal.offset_bounds-prefix-end
offset_bounds-prefix-end c =
    let stop = c.in-Some.ensures.names in
    let near = stop.within in
    omega arith

pub returns-then-n-prefix : goal.returns-then-n-prefix
returns-then-n-prefix c =
    let stop = c.in-Some.ensures.names in
    let over = outside refl c.if-n-prefix.true in
    record { ends = faulty c.name_fresh.new.named (some_number ForeignVariable) stop.names stop.within c.if-prefix-end-eq0.false over }

pub returns-else-n-prefix : goal.returns-else-n-prefix
returns-else-n-prefix c =
    let stop = c.in-Some.ensures.names in
    let low = c.if-n-prefix.false in
    let before = named_before refl low (stop.stops c.if-prefix-end-eq0.false low) in
    record { ends = faulty c.name_fresh.new.named (some_number NamedBefore) stop.names stop.within c.if-prefix-end-eq0.false before }
