-- A variable without a copy is one entry, and one with a copy is two; each is stored as far as the table has rows.
use Rattle.expand_clauses.proofs.Storing.{stored_one}
use Prim.Native.Nat.{◌+◌}
use Rattle.expand.proofs.Blocking.{placed_alone, placed_both}
use Rattle.expand.proofs.blocks.place.Goals as goal

pub returns-in_default : goal.returns-in_default
returns-in_default c =
    let a = c.args in
    record { stored = placed_alone a.copies.now a.v.0 a.at (stored_one a.v.0 a.at c.store.ensures.stored) c.in_default.ensures.found }

pub returns : goal.returns
returns c =
    let a = c.args in
    record {
      stored = placed_both a.copies.now a.v.0 a.at (stored_one a.v.0 a.at c.store.ensures.stored) c.in-Some.ensures.found
          (stored_one _ (a.at + 1) c.store-2.ensures.stored);
    }
