-- Both times the same text is put: the first tells its length, by which 15 and 14 are decided, and the second stands whole in the buffer.
use mathlib.Core.Path.{refl}
use mathlib.Core.Logic.{inl}
use native.Mathlib.Omega.{arith}
use Rattle.text_write.proofs.Outputs.{first_overlong, first_short, stored_whole}
use Rattle.dqbf_text.specs.InnerText.{listed_by_entries}
use Rattle.dqbf_text.proofs.writing.write_accepted.Goals as goal

pub put_text-count-requires : goal.put_text-count-requires
put_text-count-requires c = record { writable = c.requires.writable }

pub returns-then-count-gt-TEXT_MOST : goal.returns-then-count-gt-TEXT_MOST
returns-then-count-gt-TEXT_MOST c =
    let a = c.args in
    let e = c.put_text-count.ensures.wrote.end in
    record { answered = (inl (first_overlong (listed_by_entries a.n a.prefix.now a.clauses.now a.lists.now) (omega (arith, c.if-count-gt-TEXT_MOST.true))), refl) }

pub returns-then-out-count : goal.returns-then-out-count
returns-then-out-count c =
    let a = c.args in
    let e = c.put_text-count.ensures.wrote.end in
    let fits = c.if-count-gt-TEXT_MOST.false in
    let text = listed_by_entries a.n a.prefix.now a.clauses.now a.lists.now in
    record { answered = (first_short text a.out.now (omega arith) (omega (arith, c.if-out-count.true)), refl) }

pub put_text-written-requires : goal.put_text-written-requires
put_text-written-requires c = record { writable = c.requires.writable }

-- the second text is as long as the first, and so a count of 32 bits
pub overflow_cast-result : goal.overflow_cast-result
overflow_cast-result c = record { fits = omega (arith, c.put_text-written.ensures.wrote.end, c.put_text-count.ensures.wrote.end, c.if-count-gt-TEXT_MOST.false) }

pub shape_of-out : goal.shape_of-out
shape_of-out c = c.put_text-written.auto.out

pub returns : goal.returns
returns c =
    let a = c.args in
    let e = c.put_text-count.ensures.wrote.end in
    let o = c.put_text-written in
    let fits = c.if-count-gt-TEXT_MOST.false in
    let text = listed_by_entries a.n a.prefix.now a.clauses.now a.lists.now in
    record { answered = stored_whole text a.out.now (omega arith) (omega (arith, c.if-out-count.false)) o.new.out o.result o.ensures.wrote }
