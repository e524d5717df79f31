-- What the reader found is the next word of the line (found_of): it is the letter if it has one byte and that is the letter, and else another word.
use Prim.Native.Nat.{ℕ}
use mathlib.Core.Path.{sym, ap, ◌∙◌}
use lib.ListN.{get_or}
use native.Mathlib.Omega.{arith}
use Rattle.text_words.proofs.Lines.{found_of, end_of}
use mathlib.Core.List.{[], ◌∷◌}
use native.Mathlib.Nat.{add-zero}
use Rattle.text_words.proofs.Spelling.{spelt_end, goes, spelt_long, spelt_other, spelt_one}
use Rattle.text_words.proofs.expected.letter_at.Goals as goal
use Rattle.text_words.proofs.expected.letter_at.Goals.{then-end-start-ne1-via-then-end-start-ne1, then-end-start-ne1-via-else-end-start-ne1+then-text-start}

pub overflow_sub-end : goal.overflow_sub-end
overflow_sub-end c =
    let f = found_of c.args.text.now c.args.at c.word_in.ensures.found c.in-Found.is in
    omega (arith, f.some)

pub bounds-text-start : goal.bounds-text-start
bounds-text-start c =
    let f = found_of c.args.text.now c.args.at c.word_in.ensures.found c.in-Found.is in
    omega (arith, f.some, f.within)

pub returns-then-end-start-ne1 : goal.returns-then-end-start-ne1
returns-then-end-start-ne1 c =
    let a = c.args in
    let f = found_of a.text.now a.at c.word_in.ensures.found c.in-Found.is in
    let first = ap (λ (n : ℕ). get_or a.text.now n 0) (add-zero c.in-Found.start) in
    record {
      looked = elim c.then-end-start-ne1.branch [
        | then-end-start-ne1-via-then-end-start-ne1 w ↦ spelt_long f (a.letter ∷ []) w.if-end-start-ne1.true
        | then-end-start-ne1-via-else-end-start-ne1+then-text-start w ↦
            spelt_other f (a.letter ∷ []) 0 (omega (arith, f.some)) (λ e. w.if-text-start.true (sym first ∙ e))
      ];
    }

pub returns-in_default : goal.returns-in_default
returns-in_default c =
    let a = c.args in
    record { looked = spelt_end (end_of a.text.now a.at c.word_in.ensures.found c.in_default.is) (a.letter ∷ []) }

pub returns : goal.returns
returns c =
    let a = c.args in
    let f = found_of a.text.now a.at c.word_in.ensures.found c.in-Found.is in
    record { looked = goes f (a.letter ∷ []) (spelt_one f a.letter c.if-end-start-ne1.false c.if-text-start.false) }
