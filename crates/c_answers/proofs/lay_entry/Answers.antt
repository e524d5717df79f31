-- Each variant stores what it holds: the class and the rises in their cells, or the place, which fits its cell by what is required.
use Rattle.terms.specs.Says.{Answer}
use Rattle.terms.specs.declared.Point.{Point}
use mathlib.Core.Path.{refl, ap, subst}
use Rattle.c_answers.specs.InnerCells.{Fits, entry_said, Any}
use Rattle.c_answers.proofs.Laying.{laid_given, laid_refused}
use Rattle.c_answers.proofs.lay_entry.Goals as goal

pub lay_refusal-requires : goal.lay_refusal-requires
lay_refusal-requires c = record { fits = subst (λ (a : Answer Point). Fits Any (entry_said a)) c.in-Err.is c.requires.fits }

pub returns-in-Ok : goal.returns-in-Ok
returns-in-Ok c = record { laid = laid_given (ap entry_said c.in-Ok.is) refl refl }

pub returns-in-Err : goal.returns-in-Err
returns-in-Err c = record { laid = laid_refused (ap entry_said c.in-Err.is) refl c.lay_refusal.ensures.place c.lay_refusal.ensures.number }
