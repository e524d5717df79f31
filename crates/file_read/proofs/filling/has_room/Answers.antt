-- Each test tells of one table; where none is too short, all have room.
use Rattle.std.proofs.Common.{arith}
use Rattle.file_layout.proofs.Spans.{count_read}
use Rattle.file_read.proofs.filling.has_room.Goals as goal

pub returns-then-classes-n : goal.returns-then-classes-n
returns-then-classes-n c =
    record { told = λ room. omega (arith, count_read c.args.file.now c.two_at-n.ensures.read.0, room.2, c.if-classes-n.true) }

pub returns-then-parents-n : goal.returns-then-parents-n
returns-then-parents-n c =
    record { told = λ room. omega (arith, count_read c.args.file.now c.two_at-n.ensures.read.0, room.3, c.if-parents-n.true) }

pub returns-then-counts-n : goal.returns-then-counts-n
returns-then-counts-n c =
    record { told = λ room. omega (arith, count_read c.args.file.now c.two_at-n.ensures.read.0, room.4, c.if-counts-n.true) }

pub returns : goal.returns
returns c =
    let n = count_read c.args.file.now c.two_at-n.ensures.read.0 in
    record {
      told = (
        omega (arith, c.prefix_entries.ensures.counted),
        omega (arith, c.clause_entries.ensures.counted),
        omega (arith, n),
        omega (arith, n),
        omega (arith, n),
      );
    }
