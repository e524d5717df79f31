-- Word by word, what stands next in the line: where a word is missing no problem line has stood (no_p to no_end), and with all of them one has.
use Rattle.text_lines.proofs.Openings.{no_p, no_cnf, no_number, no_count, no_end, problem_line, problem_passed}
use Rattle.text_lines.proofs.opening.problem_at.Goals as goal

pub returns-in_err-p : goal.returns-in_err-p
returns-in_err-p c =
    let a = c.args in
    rw c.from_residual.ensures (record { opened = no_p a.text.now a.at c.requires.plain c.in_err-p.ensures.looked })

pub returns-in_err-cnf : goal.returns-in_err-cnf
returns-in_err-cnf c =
    let a = c.args in
    rw c.from_residual-in_err-cnf.ensures
    (record { opened = no_cnf a.text.now a.at c.requires.plain c.in_ok-p.ensures.looked c.in_err-cnf.ensures.looked })

pub returns-in_err-n : goal.returns-in_err-n
returns-in_err-n c =
    let a = c.args in
    rw c.from_residual-in_err-n.ensures
    (record { opened = no_number a.text.now a.at c.requires.plain c.in_ok-p.ensures.looked c.in_ok-cnf.ensures.looked c.in_err-n.ensures.looked })

pub returns-in_err-announced : goal.returns-in_err-announced
returns-in_err-announced c =
    let a = c.args in
    rw c.from_residual-in_err-announced.ensures
    (record {
      opened =
          no_count a.text.now a.at c.requires.plain c.in_ok-p.ensures.looked c.in_ok-cnf.ensures.looked c.in_ok-n.ensures.looked
          c.in_err-announced.ensures.looked;
    })

pub returns-in_err-next : goal.returns-in_err-next
returns-in_err-next c =
    let a = c.args in
    rw c.from_residual-in_err-next.ensures
    (record {
      opened =
          no_end a.text.now a.at c.requires.plain c.in_ok-p.ensures.looked c.in_ok-cnf.ensures.looked c.in_ok-n.ensures.looked
          c.in_ok-announced.ensures.looked c.in_err-next.ensures.looked;
    })

pub returns : goal.returns
returns c =
    let a = c.args in
    let p = c.in_ok-p.ensures.looked in
    let cnf = c.in_ok-cnf.ensures.looked in
    let n = c.in_ok-n.ensures.looked in
    let m = c.in_ok-announced.ensures.looked in
    let end = c.in_ok-next.ensures.looked in
    record {
      opened = (
        problem_line a.text.now a.at c.requires.plain p cnf n m end.0,
        problem_passed a.text.now a.at c.requires.plain p cnf n m _ end.1,
      );
    }
