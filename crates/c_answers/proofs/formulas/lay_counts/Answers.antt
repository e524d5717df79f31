-- Each variant stores what it holds: the counts of the two tables and the place fit their cells by what is required of the answer.
use Rattle.terms.specs.Says.{Answer}
use Rattle.terms.specs.declared.Counts.{Counts}
use mathlib.Core.Path.{refl, ap, subst}
use Rattle.c_answers.specs.InnerCells.{Fits}
use Rattle.c_answers.specs.InnerFormulas.{counts_said, TwoInCells}
use Rattle.c_answers.proofs.Laying.{laid_given, laid_refused}
use Rattle.c_answers.proofs.formulas.lay_counts.Goals as goal

-- what it holds fits its cells
abbrev Fitting : Answer Counts → Type 0
Fitting answer = Fits TwoInCells (counts_said answer)

pub overflow_cast-prefix_count : goal.overflow_cast-prefix_count
overflow_cast-prefix_count c = record { fits = (subst Fitting c.in-Ok.is c.requires.fits).0 }

pub overflow_cast-clauses_count : goal.overflow_cast-clauses_count
overflow_cast-clauses_count c = record { fits = (subst Fitting c.in-Ok.is c.requires.fits).1 }

pub lay_refusal-requires : goal.lay_refusal-requires
lay_refusal-requires c = record { fits = subst Fitting c.in-Err.is c.requires.fits }

pub returns-in-Ok : goal.returns-in-Ok
returns-in-Ok c = record { laid = laid_given (ap counts_said c.in-Ok.is) refl refl }

pub returns-in-Err : goal.returns-in-Err
returns-in-Err c = record { laid = laid_refused (ap counts_said c.in-Err.is) refl c.lay_refusal.ensures.place c.lay_refusal.ensures.number }
