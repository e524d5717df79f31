use Prim.Native.Nat.{ℕ, ◌<◌}
use mathlib.Core.Path.{◌≡◌, refl, ◌∙◌}
use mathlib.Core.Bool.{Bool, true, false, cond}
use mathlib.Core.List.{List}
use mathlib.Core.Option.{Option, some}
use native.Mathlib.Omega.{arith}
use lib.IntN.{ℤ, pos, neg_ℤ}
use Rattle.text_words.specs.InnerNumbers.{Plain, Negated, prepend, entry, item_of, literals}
use Rattle.text_words.proofs.Numbers.{plain_most, negated_most}
use Rattle.text_lines.proofs.Rows.{literal_put, partly_none, partly_length, partly_more, partly_whole, partly_broken}
use Rattle.text_lines.proofs.tables.literals_at.Goals as goal

-- a literal by its sign: how large it is, and which entry
signed-most : (negative : Bool) (value : ℕ) (word : List ℕ) → item_of word ≡ cond negative (Negated value) (Plain value) → value < 100000
signed-most true value word is = negated_most word value is
signed-most false value word is = plain_most word value is

signed-entry : (negative : Bool) (value : ℕ) (more : List (List ℕ)) (later : Option (List ℤ))
    → entry literals (cond negative (Negated value) (Plain value)) more later ≡ prepend (some (cond negative (neg_ℤ (pos value)) (pos value))) later
unfolding entry
signed-entry true value more later = refl
signed-entry false value more later = refl

pub loop-next-init : goal.loop-next-init
loop-next-init c =
    let a = c.args in
    partly_none literals a.text.now a.at a.from a.clauses.now c.requires.behind

pub shape_of-clauses-in-Unfit : goal.shape_of-clauses-in-Unfit
shape_of-clauses-in-Unfit c = partly_length c.loop-next.invariant

pub returns-in-Unfit : goal.returns-in-Unfit
returns-in-Unfit c = record { stored = partly_broken c.loop-next.invariant c.in-Unfit.ensures.read }

pub overflow_add-result : goal.overflow_add-result
overflow_add-result c =
    let last = c.in-Close.ensures.read in
    omega (arith, last.on, last.passed.within, c.loop-next.invariant.few, c.well_formed)

pub shape_of-clauses-in-Close : goal.shape_of-clauses-in-Close
shape_of-clauses-in-Close c = c.store.auto.table ∙ partly_length c.loop-next.invariant

pub returns-in-Close : goal.returns-in-Close
returns-in-Close c =
    let last = c.in-Close.ensures.read in
    record { stored = partly_whole c.loop-next.invariant last c.store.new.table c.store.ensures.stored }

pub literal_of-requires : goal.literal_of-requires
literal_of-requires c =
    let taken = c.in-Literal.ensures.read in
    record { small = signed-most c.in-Literal.negative c.in-Literal.value taken.word taken.is }

pub overflow_add-row : goal.overflow_add-row
overflow_add-row c =
    let taken = c.in-Literal.ensures.read in
    omega (arith, taken.on, taken.within, c.loop-next.invariant.few, c.well_formed)

pub loop-next-smaller : goal.loop-next-smaller
loop-next-smaller c =
    let taken = c.in-Literal.ensures.read in
    omega (arith, taken.on, taken.within)

pub loop-next-preserved : goal.loop-next-preserved
loop-next-preserved c =
    let l = c.loop-next in
    let w = c.in-Literal in
    let taken = w.ensures.read in
    let z = c.literal_of in
    let o = c.store-in-Literal in
    partly_more l.invariant taken (cond w.negative (neg_ℤ (pos w.value)) (pos w.value)) (signed-entry w.negative w.value) o.new.table
    (o.ensures.stored ∙ literal_put l.clauses l.row z.result (record { sfits = z.type_inv }) z.ensures.signed)
