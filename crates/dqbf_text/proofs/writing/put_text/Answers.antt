-- The four parts are put one behind another. Each may be, since the parts before it are short: 18 bytes for the problem line, eight for each row.
use Prim.Native.Nat.{◌+◌, ◌*◌, ◌≤◌}
use mathlib.Core.Path.{sym, ap}
use mathlib.Core.Bool.{true}
use native.Mathlib.Omega.{arith}
use Rattle.text_write.specs.Written.{problem_line}
use Rattle.text_write.proofs.Stores.{wrote_as, wrote_more, problem_most, prefix_most, count_most}
use Rattle.dqbf_text.specs.InnerText.{listed_by_entries}
use Rattle.dqbf_text.proofs.Bytes.{lists_most}
use Rattle.dqbf_text.proofs.writing.put_text.Goals as goal

pub count_clauses-count-requires : goal.count_clauses-count-requires
count_clauses-count-requires c =
    let pre = c.requires in
    record { small = (pre.writable.0.2, pre.writable.0.4) }

pub put_problem-blocks-requires : goal.put_problem-blocks-requires
put_problem-blocks-requires c =
    let count = c.count_clauses-count.ensures in
    let most = count_most c.args.clauses.now in
    record { small = (c.requires.writable.0.0, omega (arith, c.requires.writable.0.2)) }

pub put_prefix-first-requires : goal.put_prefix-first-requires
put_prefix-first-requires c =
    let problem-end : c.put_problem-blocks.result ≤ 18 = let pre = c.requires.writable.0 in
    let count = c.count_clauses-count.ensures in
    let most = count_most c.args.clauses.now in
    let long = problem_most c.args.n c.count_clauses-count.result pre.0 (omega (arith, pre.2)) in
    omega (arith, c.put_problem-blocks.ensures.wrote.end) in
    let pre = c.requires.writable.0 in
    record { small = (omega (arith, problem-end), pre.1, pre.3) }

pub put_lists-body-requires : goal.put_lists-body-requires
put_lists-body-requires c =
    let problem-end : c.put_problem-blocks.result ≤ 18 = let pre = c.requires.writable.0 in
    let count = c.count_clauses-count.ensures in
    let most = count_most c.args.clauses.now in
    let long = problem_most c.args.n c.count_clauses-count.result pre.0 (omega (arith, pre.2)) in
    omega (arith, c.put_problem-blocks.ensures.wrote.end) in
    let prefix-end : c.put_prefix-first.result ≤ 18 + 8 * 8192 = let pre = c.requires.writable.0 in
    let long = prefix_most true c.args.prefix.now pre.3 in
    omega (arith, problem-end, c.put_prefix-first.ensures.wrote.end, pre.1) in
    let pre = c.requires in
    record { small = (omega (arith, prefix-end), pre.writable.1, pre.writable.2) }

pub put_clauses-requires : goal.put_clauses-requires
put_clauses-requires c =
    let problem-end : c.put_problem-blocks.result ≤ 18 = let pre = c.requires.writable.0 in
    let count = c.count_clauses-count.ensures in
    let most = count_most c.args.clauses.now in
    let long = problem_most c.args.n c.count_clauses-count.result pre.0 (omega (arith, pre.2)) in
    omega (arith, c.put_problem-blocks.ensures.wrote.end) in
    let prefix-end : c.put_prefix-first.result ≤ 18 + 8 * 8192 = let pre = c.requires.writable.0 in
    let long = prefix_most true c.args.prefix.now pre.3 in
    omega (arith, problem-end, c.put_prefix-first.ensures.wrote.end, pre.1) in
    let pre = c.requires in
    let long = lists_most true c.args.lists.now pre.writable.2 in
    record { small = (omega (arith, prefix-end, c.put_lists-body.ensures.wrote.end, pre.writable.1), pre.writable.0.2, pre.writable.0.4) }

pub returns : goal.returns
unfolding listed_by_entries
returns c =
    let n = c.args.n in
    let counted = ap (problem_line n) (sym c.count_clauses-count.ensures.counted) in
    let tables = wrote_more c.put_lists-body.ensures.wrote c.put_clauses.ensures.wrote in
    record { wrote = wrote_more (wrote_as counted c.put_problem-blocks.ensures.wrote) (wrote_more c.put_prefix-first.ensures.wrote tables) }
