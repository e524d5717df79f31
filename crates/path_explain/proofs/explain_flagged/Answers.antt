-- Where each clause begins, and the chains of the variables.
use Prim.Native.Nat.{ℕ}
use mathlib.Core.Path.{subst}
use lib.ListN.{length-replicate}
use Rattle.terms.specs.Limits.{clause_entries}
use Rattle.forest_tables.proofs.Readings.{new_zero}
use Rattle.path_check.specs.InnerWalk.{Rows}
use Rattle.path_explain.specs.InnerTies.{Laid}
use Rattle.path_explain.proofs.explain_flagged.Goals as goal
use Rattle.path_explain.proofs.explain_flagged.Goals.{After-fill_begins}

-- what is lent to the pass over the entries
laid : (c : After-fill_begins) → Laid c.args.clauses.now c.fill_begins.new.begins
laid c =
    let (count, rows) = c.fill_begins.ensures.filled in
    record { sound = c.requires.sound.0; closed = c.requires.sound.1; rows = subst (Rows c.args.clauses.now c.fill_begins.new.begins) count rows }

pub tie-requires : goal.tie-requires
tie-requires c = record {
  laid = (
    laid (goal.at.tie-requires c).After-fill_begins,
    record { length_is = length-replicate {A = ℕ} 4097 0; zero_is = new_zero 4097 },
    record { length_is = length-replicate {A = ℕ} clause_entries 0; zero_is = new_zero clause_entries },
  );
}

pub fill_begins-requires : goal.fill_begins-requires
fill_begins-requires c = record { room = (c.requires.sound.0, length-replicate {A = ℕ} clause_entries 0) }

pub explain_tied-requires : goal.explain_tied-requires
explain_tied-requires c =
    record {
      tied = (laid (goal.at.explain_tied-requires c).After-fill_begins, c.tie.ensures.tied);
      flagged = c.requires.flagged;
    }

pub returns : goal.returns
returns c = record { explained = c.explain_tied.ensures.explained }
