use Rattle.std.proofs.Common.{arith, ℕ, ◌+◌, ◌*◌, get_or}
use Rattle.file_format.specs.Numbers.{number_at}
use Rattle.file_layout.proofs.Stores.{numbers_stored, one_more}
use Rattle.file_layout.proofs.decoding.fill_entries.Goals as goal

pub loop-i-preserved : goal.loop-i-preserved
loop-i-preserved g c =
    let a = c.args in
    let l = c.loop-i in
    let stands = λ (k : ℕ). goal.F-post g a.entry_of (number_at a.width a.file.now (a.from + a.width * k)) in
    one_more stands l.entry-items l.i c.entry_of.result (omega (arith, l.auto.entry-items, c.loop-i-test.true)) l.invariant
    (rw c.number_in.ensures.read at c.entry_of.ensures)

pub returns : goal.returns
returns g c =
    let a = c.args in
    let l = c.loop-i in
    let number = λ (k : ℕ). number_at a.width a.file.now (a.from + a.width * k) in
    record {
      stored = λ f told. numbers_stored f a.width a.file.now a.from a.many l.i a.table.now l.entry-items
          c.requires.room.2 l.auto.entry-items c.loop-i-test.false (λ d k m. told (number k) (get_or l.entry-items k d) (l.invariant d k m));
    }
