-- What the reader found is the next word of the line (found_of): it is `cnf` if it has three bytes and they are those, and else another word.
use Prim.Native.Nat.{ℕ}
use mathlib.Core.Path.{sym, ap, ◌∙◌}
use lib.ListN.{get_or}
use native.Mathlib.Omega.{arith}
use Rattle.text_words.proofs.Lines.{found_of, end_of}
use mathlib.Core.List.{List, [], ◌∷◌}
use native.Mathlib.Nat.{add-zero}
use Rattle.text_words.specs.Words.{LETTER-C, LETTER-F, LETTER-N}
use Rattle.text_words.proofs.Spelling.{spelt_end, goes, spelt_long, spelt_other, spelt_three}
use Rattle.text_words.proofs.expected.cnf_at.Goals as goal
use Rattle.text_words.proofs.expected.cnf_at.Goals.{then-text-start-ne-LETTER_C-via-then-text-start-ne-LETTER_C}
use Rattle.text_words.proofs.expected.cnf_at.Goals.{then-text-start-ne-LETTER_C-via-else-text-start-ne-LETTER_C+then-text-start-ne-LETTER_N}
use Rattle.text_words.proofs.expected.cnf_at.Goals.{then-text-start-ne-LETTER_C-via-else-text-start-ne-LETTER_C+else-text-start-ne-LETTER_N+then-text-start-ne-LETTER_F}

abbrev cnf : List ℕ
cnf = LETTER-C ∷ LETTER-N ∷ LETTER-F ∷ []

pub overflow_sub-end : goal.overflow_sub-end
overflow_sub-end c =
    let f = found_of c.args.text.now c.args.at c.word_in.ensures.found c.in-Found.is in
    omega (arith, f.some)

pub returns-then-end-start-ne3 : goal.returns-then-end-start-ne3
returns-then-end-start-ne3 c =
    let f = found_of c.args.text.now c.args.at c.word_in.ensures.found c.in-Found.is in
    record { looked = spelt_long f cnf c.if-end-start-ne3.true }

pub bounds-text-start : goal.bounds-text-start
bounds-text-start c =
    let f = found_of c.args.text.now c.args.at c.word_in.ensures.found c.in-Found.is in
    omega (arith, f.some, f.within, c.if-end-start-ne3.false)

pub bounds-text-start-else-text-start-ne-LETTER_C : goal.bounds-text-start-else-text-start-ne-LETTER_C
bounds-text-start-else-text-start-ne-LETTER_C c =
    let f = found_of c.args.text.now c.args.at c.word_in.ensures.found c.in-Found.is in
    omega (arith, f.some, f.within, c.if-end-start-ne3.false)

pub bounds-text-start-else-text-start-ne-LETTER_N : goal.bounds-text-start-else-text-start-ne-LETTER_N
bounds-text-start-else-text-start-ne-LETTER_N c =
    let f = found_of c.args.text.now c.args.at c.word_in.ensures.found c.in-Found.is in
    omega (arith, f.some, f.within, c.if-end-start-ne3.false)

pub returns-then-text-start-ne-LETTER_C : goal.returns-then-text-start-ne-LETTER_C
returns-then-text-start-ne-LETTER_C c =
    let a = c.args in
    let f = found_of a.text.now a.at c.word_in.ensures.found c.in-Found.is in
    let first = ap (λ (n : ℕ). get_or a.text.now n 0) (add-zero c.in-Found.start) in
    let size = c.if-end-start-ne3.false in
    record {
      looked = elim c.then-text-start-ne-LETTER_C.branch [
        | then-text-start-ne-LETTER_C-via-then-text-start-ne-LETTER_C w ↦
            spelt_other f cnf 0 (omega (arith, f.some)) (λ e. w.if-text-start-ne-LETTER_C.true (sym first ∙ e))
        | then-text-start-ne-LETTER_C-via-else-text-start-ne-LETTER_C+then-text-start-ne-LETTER_N w ↦
            spelt_other f cnf 1 (omega (arith, f.some, size)) w.if-text-start-ne-LETTER_N.true
        | then-text-start-ne-LETTER_C-via-else-text-start-ne-LETTER_C+else-text-start-ne-LETTER_N+then-text-start-ne-LETTER_F w ↦
            spelt_other f cnf 2 (omega (arith, f.some, size)) w.if-text-start-ne-LETTER_F.true
      ];
    }

pub returns-in_default : goal.returns-in_default
returns-in_default c =
    let a = c.args in
    record { looked = spelt_end (end_of a.text.now a.at c.word_in.ensures.found c.in_default.is) cnf }

pub returns : goal.returns
returns c =
    let f = found_of c.args.text.now c.args.at c.word_in.ensures.found c.in-Found.is in
    let bytes =
    spelt_three f LETTER-C LETTER-N LETTER-F c.if-end-start-ne3.false c.if-text-start-ne-LETTER_C.false c.if-text-start-ne-LETTER_N.false
    c.if-text-start-ne-LETTER_F.false in
    record { looked = goes f cnf bytes }
