-- An entry that is passed is a variable up to n that was not named before, and it is named then.
use mathlib.Core.Path.{refl, ◌∙◌}
use Rattle.std.proofs.lemmas.List.{length-set}
use Rattle.formula.specs.InnerScan.{no_name, one_name, fresh}
use Rattle.formula_checks.proofs.prefix.name_fresh.Goals as goal

pub loop-i-init : goal.loop-i-init
loop-i-init c = record { size = refl; passed = no_name }

pub loop-i-preserved : goal.loop-i-preserved
loop-i-preserved c =
    record {
      size = length-set c.loop-i.named _ _ ∙ c.loop-i.invariant.size;
      passed = one_name c.loop-i.i c.loop-i.invariant.passed c.loop-i-test.true c.if-entry-eq0.false
          (fresh refl c.if-n-entry.false c.if-named-v.false refl);
    }
