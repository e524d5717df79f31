use mathlib.Core.Path.{sym, ap, ◌∙◌}
use mathlib.Core.Bool.{Bool}
use native.Mathlib.Omega.{arith}
use lib.ListN.{drop_of_length-le}
use Rattle.formula.specs.Meaning.{clauses}
use Rattle.formula.specs.Tables.{cut}
use Rattle.formula.proofs.Lookups.{clauses_unclosed}
use Rattle.formula.proofs.Signs.{stamps_more, stamps_none}
use Rattle.forest_tables.specs.Formula.{signed}
use Rattle.forest_entries.specs.InnerFlags.{HasLiteral}
use Rattle.forest_entries.proofs.Sides.{side_has, side_not}
use Rattle.forest_entries.proofs.Flags.{share_none, share_has, share_not, share_all, sides_apart}
use Rattle.forest_entries.proofs.flag_signs.Goals as goal
use Rattle.forest_entries.proofs.flag_signs.Goals.{then-has_sign, else-has_sign}

pub loop-start-init : goal.loop-start-init
loop-start-init c =
    let a = c.args in
    (share_none a.n a.tops.now a.clauses.now a.signs a.x.0 a.flags.now, stamps_none)

pub returns-then-clauses-end : goal.returns-then-clauses-end
returns-then-clauses-end c =
    let loop = c.loop-start in
    let scan = c.scan_clause-scan in
    record { flagged = share_all loop.invariant.0 (clauses_unclosed c.args.clauses.now loop.start scan.result.end scan.ensures.scanned.0 c.if-clauses-end.true) }

pub loop-start-preserved : goal.loop-start-preserved
loop-start-preserved c =
    let a = c.args in
    let loop = c.loop-start in
    let less = c.if-clauses-end.false in
    let end = c.scan_clause-scan.result.end in
    let side = c.scan_clause-scan.result.side in
    let (next, sided) = c.scan_clause-scan.ensures.scanned in
    let has : Bool → Type 0 = λ sign. HasLiteral a.clauses.now loop.start end (signed sign a.x.0) in
    elim c.if-has_sign.branch [
      | then-has_sign w ↦ rw (w.flags-is, w.seen-is) (
        share_has loop.invariant.0 end next less (side_has a.signs side has (sym c.has_sign.ensures.told ∙ w.if-has_sign.true) sided)
            w.flag_clause.ensures.flagged,
        w.flag_clause.ensures.stamped,
      )
      | else-has_sign w ↦
          let none = side_not a.signs side has (sym c.has_sign.ensures.told ∙ w.if-has_sign.false) sided in
          let apart = sides_apart a.clauses.now a.x.0 loop.start end next (omega arith) in
          rw (w.flags-is, w.seen-is) (
            share_not loop.invariant.0 end next less (λ v h k. none (λ p q. apart v p q k) h),
            stamps_more loop.invariant.1 (omega (arith, next.from)),
          )
    ]

pub returns : goal.returns
unfolding clauses cut
returns c = record { flagged = share_all c.loop-start.invariant.0 (ap clauses (drop_of_length-le c.args.clauses.now c.loop-start-test.false)) }
