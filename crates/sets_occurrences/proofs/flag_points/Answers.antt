-- Each scheme is one case: flag_along for either sign, flag_both for what both have.
use mathlib.Core.Path.{sym, subst}
use mathlib.Core.Bool.{Bool}
use Rattle.forest_entries.proofs.Taken.{entering_either}
use Rattle.sets_occurrences.specs.InnerThreads.{Together, EnteredBy}
use Rattle.sets_occurrences.proofs.flag_points.Goals as goal

pub flag_along-requires : goal.flag_along-requires
flag_along-requires c = record { tied = c.requires.tied.0 }

pub flag_both-requires : goal.flag_both-requires
flag_both-requires c = record { tied = c.requires.tied }

pub returns-in-Standard : goal.returns-in-Standard
returns-in-Standard c =
    let a = c.args in
    let flagged = c.flag_along in
    record {
      entered = subst (λ scheme. EnteredBy scheme a.n a.tops.now a.clauses.now a.x.0 flagged.new.flags)
          (sym c.in-Standard.is)
          (entering_either a.tops.now (λ (sign : Bool). Together a.clauses.now sign a.x.0) c.requires.tied.1 flagged.ensures.flagged);
    }

pub returns-in-Strict : goal.returns-in-Strict
returns-in-Strict c =
    let a = c.args in
    let flagged = c.flag_both in
    record {
      entered = subst (λ scheme. EnteredBy scheme a.n a.tops.now a.clauses.now a.x.0 flagged.new.flags)
          (sym c.in-Strict.is) flagged.ensures.entered;
    }
