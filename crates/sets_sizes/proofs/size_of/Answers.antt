-- Where x has no entry point no variable is counted (having_none). A sole entry point is entered alone, so that its row has the size of the set (sole_entering).
use Prim.Native.Nat.{ℕ}
use mathlib.Core.Path.{◌≡◌, sym, ap, ◌∙◌}
use mathlib.Core.Bool.{Bool}
use lib.ListN.{length, get_or}
use Rattle.std.specs.Prelude.{None, Some}
use Rattle.terms.specs.declared.Variable.{Variable}
use Rattle.terms.specs.InnerPairs.{high_of}
use Rattle.sets_occurrences.specs.InnerThreads.{Together}
use Rattle.sets_subtrees.specs.InnerRuns.{only}
use Rattle.sets_record.proofs.Soles.{sole_entering, sole_is, having_none, sole_within}
use Rattle.sets_sizes.proofs.size_of.Goals as goal

pub sole_point-requires : goal.sole_point-requires
sole_point-requires c =
    let (few, within, _) = c.requires.weighed in
    record {
      tied = c.requires.tied;
      notes = (few, within, c.requires.notes);
    }

pub size_flagged-requires : goal.size_flagged-requires
size_flagged-requires c =
    record {
      tied = c.requires.tied;
      weighed = c.requires.weighed;
    }

pub returns-in-Ok-None : goal.returns-in-Ok-None
returns-in-Ok-None c =
    let a = c.args in
    let P : Bool → ℕ → Type 0 = λ sign. Together a.clauses.now sign a.x.0 in
    let sole = sole_is a.scheme a.n a.tops.now P None c.in-Ok-None.field-0-is c.in-Ok-None.ensures.sole in
    record {
      told = (only 0, sole_entering 0 sole, sym (ap length (having_none a.n a.tops.now)));
      noted = c.sole_point.ensures.noted;
    }

pub returns-in-Ok-Some : goal.returns-in-Ok-Some
returns-in-Ok-Some c =
    let a = c.args in
    let (few, within, weighed) = c.requires.weighed in
    let top : ℕ = c.in-Ok-Some.top.0 in
    let P : Bool → ℕ → Type 0 = λ sign. Together a.clauses.now sign a.x.0 in
    let sole = sole_is a.scheme a.n a.tops.now P (Some c.in-Ok-Some.top) c.in-Ok-Some.field-0-is c.in-Ok-Some.ensures.sole in
    let low = sole_within a.scheme a.n a.tops.now P top sole within in
    let read : c.row_at.result ≡ get_or a.lead.now top 0 =
    rw (← ap (λ (v : Variable). v.0) c.in-Ok-Some.top-is) c.row_at.ensures.read in
    record {
      told = (only top, sole_entering top sole, c.unpack.ensures.both.1 ∙ ap high_of read ∙ weighed top low);
      noted = c.sole_point.ensures.noted;
    }

pub returns-in-Err : goal.returns-in-Err
returns-in-Err c =
    record {
      told = c.size_flagged.ensures.told;
      noted = c.sole_point.ensures.noted;
    }
