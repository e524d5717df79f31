use Rattle.std.proofs.Common.{ℕ, List, length, get_or, sym, ap, ◌∙◌, arith}
use Rattle.std.proofs.lemmas.List.{map-id}
use Rattle.file_format.specs.Numbers.{numbers_at}
use Rattle.file_layout.proofs.Stores.{number_there, numbers_are}
use Rattle.file_layout.proofs.decoding.same_numbers.Goals as goal

pub returns-then-number_in-entry : goal.returns-then-number_in-entry
returns-then-number_in-entry c =
    let a = c.args in
    let i = c.loop-i.i in
    let there = number_there a.width a.file.now a.from (length a.table.now) i c.loop-i-test.true in
    record { told = λ all. c.if-number_in-entry.true (c.number_in.ensures.read ∙ sym there ∙ ap (λ (xs : List ℕ). get_or xs i 0) all) }

pub returns : goal.returns
returns c =
    let a = c.args in
    record {
      told = sym (map-id (numbers_at a.width a.file.now a.from (length a.table.now)))
          ∙ numbers_are (λ (x : ℕ). x) a.width a.file.now a.from a.table.now (λ d k l. c.loop-i.invariant d k (omega arith));
    }
