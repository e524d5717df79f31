use Prim.Native.Nat.{ℕ, ◌+◌, ◌-◌, ◌≤◌, ◌<◌}
use mathlib.Core.Path.{◌≡◌, refl, sym, ap, subst, ◌∙◌}
use mathlib.Core.List.{List}
use native.Mathlib.Omega.{arith}
use lib.ListN.{length, get_or, take, drop, length-take, length-drop}
use Rattle.std.proofs.Common.{rules}
use Rattle.std.proofs.lemmas.List.{get_or-take, get_or-drop}
use Rattle.formula.specs.Tables.{at, marks_before}
use Rattle.forest_theory.specs.Tables.{row, lent}
use Rattle.forest_tables.specs.Formula.{variables}
use Rattle.forest_climb.specs.InnerSearch.{top_by, TopRows}
use Rattle.forest_climb.proofs.Tops.{place_within, passing_from, passing_mark, passing_close, passing_top, topping_all, named_within}
use Rattle.forest_climb.proofs.top_blocks.Goals as goal
use Rattle.forest_climb.proofs.top_blocks.Goals.{Start, In-loop-entry, then-opens, else-opens+then-entry-eq0, else-opens+else-entry-eq0}

-- The blocks that are passed begin within the prefix.
within : (c : Start) → c.args.place ≤ length c.args.prefix.now
within c =
    let (sound, _, _, (x, small, behind), _) = c.requires.sound in
    place_within sound c.args.place x small (omega (arith, behind.1))

-- The part behind the place ends where the prefix does, and its entry k is entry place + k.
part_long : (es : List ℕ) (place : ℕ) → length (take (length es - place) (drop place es)) ≡ length es - place
part_long es place = omega (arith, length-take {A = ℕ}, length-drop {A = ℕ})

part_at : (es : List ℕ) (place k : ℕ) → k < length (take (length es - place) (drop place es))
    → get_or (take (length es - place) (drop place es)) k 0 ≡ at es (place + k)
part_at es place k less = get_or-take (length es - place) (drop place es) k 0 (omega (arith, part_long es place)) ∙ get_or-drop place es k 0

read : (c : In-loop-entry) → let es = c.args.prefix.now in
    let place = c.args.place in
    let k = c.loop-entry.entry-index in
    get_or (take (length es - place) (drop place es)) k 0 ≡ at es (place + k)
read c = part_at c.args.prefix.now c.args.place c.loop-entry.entry-index c.loop-entry-test.true

more : (c : In-loop-entry) → c.args.place + c.loop-entry.entry-index < length c.args.prefix.now
more c = omega (arith, c.loop-entry-test.true, part_long c.args.prefix.now c.args.place)

pub offset_bounds-prefix-place : goal.offset_bounds-prefix-place
offset_bounds-prefix-place c =
    let short = c.requires.sound.0.short in
    omega (arith, within (goal.at.offset_bounds-prefix-place c).Start)

pub slice_bounds-entry-items-count : goal.slice_bounds-entry-items-count
slice_bounds-entry-items-count c = within (goal.at.slice_bounds-entry-items-count c).Start

pub slice_bounds-entry-items-start : goal.slice_bounds-entry-items-start
slice_bounds-entry-items-start c = let l = within (goal.at.slice_bounds-entry-items-start c).Start in search rules

pub loop-entry-init : goal.loop-entry-init
loop-entry-init c =
    let a = c.args in
    let es = a.prefix.now in
    let (sound, formed, long, (x, small, behind), zeros) = c.requires.sound in
    let q : a.place + 0 ≡ a.place = omega arith in
    rw q (passing_from a.n es a.classes.now a.parents.now (marks_before es a.place) sound a.tops.now a.place (behind.0, refl) zeros)

pub bounds-tops-entry : goal.bounds-tops-entry
bounds-tops-entry c =
    let a = c.args in
    let es = a.prefix.now in
    let (sound, _, long, _, _) = c.requires.sound in
    let at-k = (goal.at.bounds-tops-entry c).In-loop-entry in
    let is = read at-k in
    let within = named_within a.n es a.classes.now a.parents.now (marks_before es a.place) sound c.loop-entry.invariant (more at-k)
    c.if-opens.false (λ z. c.if-entry-eq0.false (is ∙ z)) in
    let size = c.loop-entry.auto.tops in
    omega (arith, c.if-entry-eq0.false)

pub loop-entry-preserved : goal.loop-entry-preserved
loop-entry-preserved c =
    let a = c.args in
    let es = a.prefix.now in
    let (sound, formed, long, (x, small, behind), zeros) = c.requires.sound in
    let passing = c.loop-entry.invariant in
    let at-k = (goal.at.loop-entry-preserved c).In-loop-entry in
    let is = read at-k in
    let size = c.loop-entry.auto.tops in
    let floor = marks_before es a.place in
    let next : a.place + (c.loop-entry.entry-index + 1) ≡ a.place + c.loop-entry.entry-index + 1 = omega arith in
    rw next (elim c.if-opens.branch [
      | then-opens w ↦ rw (w.tops-is, w.opens-is) (passing_mark a.n es a.classes.now a.parents.now floor sound passing (more at-k) w.if-opens.true)
      | else-opens+then-entry-eq0 w ↦ rw (w.tops-is, w.opens-is)
          (passing_close a.n es a.classes.now a.parents.now floor sound passing (more at-k) w.if-opens.false (sym is ∙ w.if-entry-eq0.true))
      | else-opens+else-entry-eq0 w ↦ rw (w.tops-is, w.opens-is, is)
          (passing_top a.n es a.classes.now a.parents.now floor sound passing (more at-k) w.if-opens.false (λ z. w.if-entry-eq0.false (is ∙ z)) formed x small
          behind.1 w.top_of-top.result.0 (omega arith)
          (w.top_of-top.ensures.own ∙ ap (λ v. top_by (row a.n a.classes.now v) (row a.n c.loop-entry.tops (row a.n a.parents.now (row a.n a.classes.now v))))
          (w.new.ensures.holds ∙ is)))
    ])

pub returns : goal.returns
returns c =
    let a = c.args in
    let es = a.prefix.now in
    let (sound, formed, long, (x, small, behind), zeros) = c.requires.sound in
    let X = variables a.n es in
    let l = within (goal.at.returns c).Start in
    record {
      topped = λ floor (_, is). subst (λ k. TopRows X (lent X a.classes.now a.parents.now) k c.loop-entry.tops) is
          (topping_all a.n es a.classes.now a.parents.now (marks_before es a.place) sound
          (omega (arith, c.loop-entry-test.false, part_long es a.place)) c.loop-entry.invariant.topping x small behind.1);
    }
