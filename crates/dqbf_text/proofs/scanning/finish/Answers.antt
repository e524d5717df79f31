-- What is missing at the end of a text is what QDIMACS misses there, whether list lines have stood or not (end_fault).
use mathlib.Core.Path.{refl}
use Rattle.terms.proofs.Verdicts.{handed_on}
use Rattle.dqbf_text.proofs.Faults.{end_fault}
use Rattle.dqbf_text.proofs.scanning.finish.Goals as goal

pub returns-in_err-counts : goal.returns-in_err-counts
returns-in_err-counts c =
    let f = c.in_err-counts.ensures.finished in
    rw (handed_on c.from_residual.result c.from_residual.ensures.1) (record { finished = (end_fault f.0, f.1) })

pub returns : goal.returns
returns c = record { finished = (c.in_ok-counts.ensures.finished.0, refl, refl, refl) }
