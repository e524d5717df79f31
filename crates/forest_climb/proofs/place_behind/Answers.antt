use mathlib.Core.Path.{◌≡◌, subst}
use native.Mathlib.Omega.{arith}
use lib.ListN.{length}
use Rattle.forest_climb.specs.InnerSearch.{Behind}
use Rattle.forest_climb.proofs.Tops.{place_within, seeking_none, seeking_close, seeking_on, seeking_end}
use Rattle.forest_climb.proofs.place_behind.Goals as goal
use Rattle.forest_climb.proofs.place_behind.Goals.{then-prefix-i-eq0, else-prefix-i-eq0}

pub loop-i-init : goal.loop-i-init
loop-i-init c = seeking_none c.args.prefix.now c.args.blocks c.args.place c.requires.opening.1

pub loop-i-preserved : goal.loop-i-preserved
loop-i-preserved c =
    let sound = c.requires.opening.0.1 in
    elim c.if-prefix-i-eq0.branch [
      | then-prefix-i-eq0 w ↦ rw w.left-is (seeking_close sound c.loop-i.invariant c.loop-i-test.true w.if-prefix-i-eq0.true)
      | else-prefix-i-eq0 w ↦ rw w.left-is (seeking_on sound c.loop-i.invariant w.if-prefix-i-eq0.false c.if-left-eq0.false)
    ]

pub returns : goal.returns
returns c =
    let (n, sound) = c.requires.opening.0 in
    let (x, small, low) = c.requires.opening.2 in
    let within = place_within sound c.args.place x small (omega arith) in
    let all : c.loop-i.i ≡ length c.args.prefix.now = omega arith in
    record { behind = subst (Behind c.args.prefix.now _) all (seeking_end sound c.loop-i.invariant c.loop-i-test.false x small low) }
