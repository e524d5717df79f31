-- Each variant stores what it holds, so that the answer is laid out as it stands; the place fits its cell by what is required.
use Prim.Native.Nat.{ℕ}
use Rattle.terms.specs.Says.{Answer}
use mathlib.Core.Path.{refl, ap, subst}
use Rattle.c_answers.specs.InnerCells.{Fits, said, Any}
use Rattle.c_answers.proofs.Laying.{laid_given, laid_refused}
use Rattle.c_answers.proofs.lay.Goals as goal

pub lay_refusal-requires : goal.lay_refusal-requires
lay_refusal-requires c = record { fits = subst (λ (a : Answer ℕ). Fits Any (said a)) c.in-Err.is c.requires.fits }

pub returns-in-Ok : goal.returns-in-Ok
returns-in-Ok c = record { laid = laid_given (ap said c.in-Ok.is) refl refl }

pub returns-in-Err : goal.returns-in-Err
returns-in-Err c = record { laid = laid_refused (ap said c.in-Err.is) refl c.lay_refusal.ensures.place c.lay_refusal.ensures.number }
