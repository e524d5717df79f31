-- One that accepts stores nothing and returns 0, and a refusal stores its place, which fits the cell by what is required.
use Rattle.terms.specs.Says.{Verdict}
use mathlib.Core.Path.{refl, ap, subst}
use Rattle.c_answers.specs.InnerCells.{Fits, Any, said}
use Rattle.c_answers.proofs.Laying.{laid_given, laid_refused}
use Rattle.c_answers.proofs.lay_verdict.Goals as goal

pub lay_refusal-requires : goal.lay_refusal-requires
lay_refusal-requires c = record { fits = subst (λ (a : Verdict). Fits Any (said a)) c.in-Err.is c.requires.fits }

pub returns-in-Ok : goal.returns-in-Ok
returns-in-Ok c = record { laid = laid_given (ap said c.in-Ok.is) refl refl }

pub returns-in-Err : goal.returns-in-Err
returns-in-Err c = record { laid = laid_refused (ap said c.in-Err.is) refl c.lay_refusal.ensures.place c.lay_refusal.ensures.number }
