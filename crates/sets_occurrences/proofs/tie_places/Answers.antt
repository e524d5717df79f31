use mathlib.Core.Path.{refl, sym, ◌∙◌}
use mathlib.Core.Logic.{inl}
use native.Mathlib.Omega.{arith}
use lib.ListN.{get_or}
use Rattle.terms.specs.Literals.{variable_of}
use Rattle.formula.specs.Tables.{literal_at}
use Rattle.formula.proofs.Signs.{stamps_none}
use Rattle.forest_entries.proofs.Flags.{flag_long}
use Rattle.sets_occurrences.proofs.Chains.{threaded_skip}
use Rattle.sets_occurrences.proofs.Gathering.{marked_flag, tying_none, tying_here, tying_end}
use Rattle.sets_occurrences.proofs.Gathering.{tying_more, judging_size, judging_recalled, judging_more}
use Rattle.sets_occurrences.proofs.tie_places.Goals as goal
use Rattle.sets_occurrences.proofs.tie_places.Goals.{then-not-skip, else-not-skip}

pub loop-j-init : goal.loop-j-init
loop-j-init c =
    let a = c.args in
    record {
      tying = λ universals g. tying_none a.clauses.now universals a.places.now a.first.now a.next.now a.count c.requires.sound.2;
      judging = inl (refl, stamps_none);
    }

pub slice_bounds-is_true-end : goal.slice_bounds-is_true-end
slice_bounds-is_true-end c =
    let a = c.args in
    let l = c.loop-j in
    sym (judging_size a.clauses.now a.places.now a.count l.judged l.skip l.seen l.j l.invariant.judging)

pub is_true-skip-requires : goal.is_true-skip-requires
is_true-skip-requires c =
    let a = c.args in
    let l = c.loop-j in
    let less = c.loop-j-test.true in
    let (universals, heads, g) = c.requires.gathered.2 in
    let inside = g.inside l.j less in
    let before = g.before l.j less in
    let from = inside.from in
    record {
      recalled = (
        c.requires.sound.0,
        omega arith,
        judging_recalled a.clauses.now a.places.now a.count l.judged l.skip l.seen l.j (get_or a.starts.now l.j 0) l.invariant.judging
            less inside before,
      );
    }

pub note-requires : goal.note-requires
note-requires c =
    let a = c.args in
    let (sound, links, none) = c.requires.sound in
    let (universals, heads, g) = c.requires.gathered.2 in
    let l = c.loop-j in
    let less = c.loop-j-test.true in
    let before = g.before l.j less in
    let short = sound.short in
    let v = variable_of (literal_at a.clauses.now (get_or a.places.now l.j 0)) in
    let long = flag_long universals v (marked_flag universals v (g.universal l.j less)) in
    let told = c.is_true-skip.ensures.told in
    record { inside = (omega arith, omega arith, omega arith, g.inside l.j less, (told.end, told.next, sym told.told ∙ c.if-not-skip.true)) }

-- a universal in a clause that connects is put on its chain, and one in a clause that is always true is passed
pub loop-j-preserved : goal.loop-j-preserved
loop-j-preserved c =
    let a = c.args in
    let l = c.loop-j in
    let less = c.loop-j-test.true in
    let some = c.requires.gathered.2.2 in
    let told = c.is_true-skip.ensures.told in
    record {
      tying =
          λ universals g. tying_more g l.j less (let here = tying_here g (l.invariant.tying universals g) less in
          elim c.if-not-skip.branch [
            | then-not-skip w ↦ rw (w.first-is, w.next-is) (w.note.ensures.threaded universals here)
            | else-not-skip w ↦ rw (w.first-is, w.next-is) (threaded_skip here (g.inside l.j less) told w.if-not-skip.false)
          ]);
      judging = judging_more some (get_or a.starts.now l.j 0) _ _ l.j less (some.inside l.j less) told;
    }

pub returns : goal.returns
returns c = record { threaded = λ universals g. tying_end g (c.loop-j.invariant.tying universals g) c.loop-j-test.false }
