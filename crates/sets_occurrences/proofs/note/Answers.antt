-- The variable is tied to this clause already where the last entry of its chain is of it (threaded_tied); else the entry comes in front of the chain,
-- in a row that holds both numbers (threaded_now).
use mathlib.Core.Path.{refl}
use native.Mathlib.Omega.{arith}
use lib.ListN.{get_or}
use Rattle.sets_occurrences.proofs.Chains.{threaded_tied, threaded_now}
use Rattle.sets_occurrences.proofs.note.Goals as goal

pub overflow_cast-last : goal.overflow_cast-last
overflow_cast-last c = omega (arith, c.type_inv.first c.variable_at-variable.result.0)

pub returns-then-start-last : goal.returns-then-start-last
returns-then-start-last c =
    record {
      threaded = λ universals t. let a = c.args in
          let v = c.variable_at-variable.result.0 in
          threaded_tied t v c.variable_at-variable.ensures.read a.start (get_or a.first.now v 0) c.requires.inside.3 refl c.if-start-last.true;
    }

pub returns : goal.returns
returns c =
    record {
      threaded = λ universals t. let a = c.args in
          let (short, room, room', inside, connecting) = c.requires.inside in
          let v = c.variable_at-variable.result.0 in
          let is = c.variable_at-variable.ensures in
          let low = c.if-start-last.false in
          threaded_now t v is.read a.start (get_or a.first.now v 0) c.pack.result inside connecting refl (omega arith) c.pack.ensures.both
          (omega arith) room';
    }
