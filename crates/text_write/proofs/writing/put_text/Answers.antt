-- The three parts are put one behind another. Each may be, since the parts before it are short: 18 bytes for the problem line, eight for each row.
use Prim.Native.Nat.{◌≤◌}
use mathlib.Core.Path.{sym, ap}
use mathlib.Core.Bool.{true}
use native.Mathlib.Omega.{arith}
use Rattle.text_write.specs.Written.{problem_line}
use Rattle.text_write.specs.InnerText.{text_by_entries}
use Rattle.text_write.proofs.Stores.{wrote_as, wrote_more, problem_most, prefix_most, count_most}
use Rattle.text_write.proofs.writing.put_text.Goals as goal

pub put_problem-lines-requires : goal.put_problem-lines-requires
put_problem-lines-requires c =
    let count = c.count_clauses-count.ensures in
    let most = count_most c.args.clauses.now in
    record { small = omega (arith, c.requires.writable.0, c.requires.writable.2) }

pub put_prefix-body-requires : goal.put_prefix-body-requires
put_prefix-body-requires c =
    let problem-end : c.put_problem-lines.result ≤ 18 = let count = c.count_clauses-count.ensures in
    let most = count_most c.args.clauses.now in
    let long = problem_most c.args.n c.count_clauses-count.result c.requires.writable.0 (omega (arith, c.requires.writable.2)) in
    omega (arith, c.put_problem-lines.ensures.wrote.end) in
    let pre = c.requires in
    record { small = (omega (arith, problem-end), pre.writable.1, pre.writable.3) }

pub put_clauses-requires : goal.put_clauses-requires
put_clauses-requires c =
    let problem-end : c.put_problem-lines.result ≤ 18 = let count = c.count_clauses-count.ensures in
    let most = count_most c.args.clauses.now in
    let long = problem_most c.args.n c.count_clauses-count.result c.requires.writable.0 (omega (arith, c.requires.writable.2)) in
    omega (arith, c.put_problem-lines.ensures.wrote.end) in
    let pre = c.requires in
    let long = prefix_most true c.args.prefix.now pre.writable.3 in
    record { small = (omega (arith, problem-end, c.put_prefix-body.ensures.wrote.end, pre.writable.1), pre.writable.2, pre.writable.4) }

pub returns : goal.returns
unfolding text_by_entries
returns c =
    let n = c.args.n in
    let counted = ap (problem_line n) (sym c.count_clauses-count.ensures.counted) in
    record {
      wrote = wrote_more (wrote_as counted c.put_problem-lines.ensures.wrote)
          (wrote_more c.put_prefix-body.ensures.wrote c.put_clauses.ensures.wrote);
    }
