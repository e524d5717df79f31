use mathlib.Core.Path.{refl, ◌∙◌}
use native.Mathlib.Omega.{arith}
use Rattle.text_words.specs.InnerNumbers.{entry, prepend, variables}
use Rattle.text_lines.proofs.Rows.{partly_none, partly_length, partly_more, partly_barred, partly_whole, partly_broken}
use Rattle.text_lines.proofs.tables.variables_at.Goals as goal

pub loop-next-init : goal.loop-next-init
loop-next-init c =
    let a = c.args in
    partly_none variables a.text.now a.at a.from a.prefix.now c.requires.behind

pub shape_of-prefix-in-Unfit : goal.shape_of-prefix-in-Unfit
shape_of-prefix-in-Unfit c = partly_length c.loop-next.invariant

pub returns-in-Unfit : goal.returns-in-Unfit
returns-in-Unfit c = record { stored = partly_broken c.loop-next.invariant c.in-Unfit.ensures.read }

pub shape_of-prefix-in-Negate : goal.shape_of-prefix-in-Negate
shape_of-prefix-in-Negate c = partly_length c.loop-next.invariant

pub returns-in-Negate : goal.returns-in-Negate
unfolding entry prepend
returns-in-Negate c = record { stored = partly_barred c.loop-next.invariant c.in-Negate.ensures.read (λ more later. refl) }

pub overflow_add-result : goal.overflow_add-result
overflow_add-result c =
    let last = c.in-Close.ensures.read in
    omega (arith, last.on, last.passed.within, c.loop-next.invariant.few, c.well_formed)

pub shape_of-prefix-in-Close : goal.shape_of-prefix-in-Close
shape_of-prefix-in-Close c = c.store.auto.table ∙ partly_length c.loop-next.invariant

pub returns-in-Close : goal.returns-in-Close
returns-in-Close c =
    let last = c.in-Close.ensures.read in
    record { stored = partly_whole c.loop-next.invariant last c.store.new.table c.store.ensures.stored }

pub overflow_add-row : goal.overflow_add-row
overflow_add-row c =
    let taken = c.in-Take.ensures.read in
    omega (arith, taken.on, taken.within, c.loop-next.invariant.few, c.well_formed)

pub loop-next-smaller : goal.loop-next-smaller
loop-next-smaller c =
    let taken = c.in-Take.ensures.read in
    omega (arith, taken.on, taken.within)

pub loop-next-preserved : goal.loop-next-preserved
unfolding entry
loop-next-preserved c =
    let taken = c.in-Take.ensures.read in
    let o = c.store-in-Take in
    partly_more c.loop-next.invariant taken c.in-Take.value (λ more later. refl) o.new.table o.ensures.stored
