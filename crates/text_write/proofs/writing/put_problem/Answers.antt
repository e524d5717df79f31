-- The five runs one behind another are the line's bytes; no run before the last begins past 18 bytes, so that each may be put.
use Prim.Native.Nat.{◌≤◌}
use native.Mathlib.Omega.{arith}
use Rattle.text_write.specs.Written.{problem_line}
use Rattle.text_write.proofs.Decimal.{digits_most}
use Rattle.text_write.proofs.Stores.{wrote_more}
use Rattle.text_write.proofs.writing.put_problem.Goals as goal

pub put_byte-space-requires : goal.put_byte-space-requires
put_byte-space-requires c =
    let number_end : c.put_number-number.result ≤ 11 = let digits = digits_most c.args.n 4 c.requires.small.0 in
    omega (arith, digits, c.put_number-number.ensures.wrote.end, c.put_cnf-start.ensures.wrote.end) in
    record { near = omega (arith, number_end) }

pub put_number-last-requires : goal.put_number-last-requires
put_number-last-requires c =
    let number_end : c.put_number-number.result ≤ 11 = let digits = digits_most c.args.n 4 c.requires.small.0 in
    omega (arith, digits, c.put_number-number.ensures.wrote.end, c.put_cnf-start.ensures.wrote.end) in
    record { small = omega (arith, c.put_byte-space.ensures.wrote.end, number_end, c.requires.small.1) }

pub put_byte-requires : goal.put_byte-requires
put_byte-requires c =
    let number_end : c.put_number-number.result ≤ 11 = let digits = digits_most c.args.n 4 c.requires.small.0 in
    omega (arith, digits, c.put_number-number.ensures.wrote.end, c.put_cnf-start.ensures.wrote.end) in
    let digits = digits_most c.args.count 4 c.requires.small.1 in
    record { near = omega (arith, digits, c.put_number-last.ensures.wrote.end, c.put_byte-space.ensures.wrote.end, number_end) }

pub returns : goal.returns
unfolding problem_line
returns c =
    let count = wrote_more c.put_number-last.ensures.wrote c.put_byte.ensures.wrote in
    let numbers = wrote_more c.put_number-number.ensures.wrote (wrote_more c.put_byte-space.ensures.wrote count) in
    record { wrote = wrote_more c.put_cnf-start.ensures.wrote numbers }
