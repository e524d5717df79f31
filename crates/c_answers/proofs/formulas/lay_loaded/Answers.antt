-- Each variant stores what it holds: the counts and the place fit their cells by what is required, and that of the sets is what sets_told says.
use Rattle.terms.specs.Says.{Answer}
use Rattle.terms.specs.declared.Loaded.{Loaded}
use mathlib.Core.Path.{refl, ap, subst}
use Rattle.c_answers.specs.InnerCells.{Fits}
use Rattle.c_answers.specs.InnerFormulas.{loaded_cells, LoadedInCells}
use Rattle.c_answers.proofs.Laying.{laid_given, laid_refused, fourth_is}
use Rattle.c_answers.proofs.formulas.lay_loaded.Goals as goal

-- what it holds fits its cells
abbrev Fitting : Answer Loaded → Type 0
Fitting answer = Fits LoadedInCells (loaded_cells answer)

pub overflow_cast-prefix_count : goal.overflow_cast-prefix_count
overflow_cast-prefix_count c = record { fits = (subst Fitting c.in-Ok.is c.requires.fits).0 }

pub overflow_cast-clauses_count : goal.overflow_cast-clauses_count
overflow_cast-clauses_count c = record { fits = (subst Fitting c.in-Ok.is c.requires.fits).1 }

pub lay_refusal-requires : goal.lay_refusal-requires
lay_refusal-requires c = record { fits = subst Fitting c.in-Err.is c.requires.fits }

pub returns-in-Ok : goal.returns-in-Ok
returns-in-Ok c = record { laid = laid_given (ap loaded_cells c.in-Ok.is) (fourth_is c.sets_told.ensures.told) refl }

pub returns-in-Err : goal.returns-in-Err
returns-in-Err c = record { laid = laid_refused (ap loaded_cells c.in-Err.is) refl c.lay_refusal.ensures.place c.lay_refusal.ensures.number }
