-- What is written is the file of the formula, and so the one that the promise speaks of.
use Rattle.std.specs.Prelude.{Ok, Err}
use Rattle.terms.specs.Says.{Answer, refused}
use Rattle.terms.specs.declared.Fault.TheVariants.{TooLittleRoom}
use Prim.Native.Nat.{ℕ, ◌%◌, ◌<◌, ◌≤◌}
use mathlib.Core.Path.{◌≡◌, refl, ap, ◌∙◌, subst}
use mathlib.Core.Bool.{false}
use mathlib.Core.List.{List, [], ◌∷◌, ◌++◌, append_assoc}
use mathlib.Core.Logic.{inl, inr}
use native.Mathlib.Omega.{arith}
use lib.ListN.{length}
use Rattle.terms.specs.Overwritten.{overwritten}
use Rattle.terms.proofs.Overwritten.{stored_overwritten}
use Rattle.terms.specs.Limits.{most_variables}
use Rattle.terms.specs.Refusals.{At0, None}
use Rattle.terms.proofs.Orders.{Carries, same_order, one_more}
use Rattle.terms.proofs.Verdicts.{at0_first, at0_none}
use Rattle.formula.specs.Lent.{Formula, formula_of}
use Rattle.forest_tables.specs.Lent.{Rows}
use Rattle.text_write.specs.InnerBytes.{Wrote}
use Rattle.file_format.specs.Numbers.{number_bytes, word_sum}
use Rattle.file_format.specs.Layout.{closing_kind, prefix_record, clauses_record, rows_record, closing_record, ForestRows, SumsToZero, FileWith}
use Rattle.file_format.specs.Causes.{FileTooLarge, FileTooLong}
use Rattle.file_format.proofs.WordSums.{sum_append, closing_sum}
use Rattle.file_format.proofs.Unique.{file_unique}
use Rattle.file_format.proofs.Short.{never_too_large}
use Rattle.file_bytes.specs.InnerParts.{head_bytes, closing}
use Rattle.file_write.specs.InnerParts.{formula_part, front_of, whole_of, Small, StoresWhole, StoresRead}
use Rattle.file_write.proofs.Sizes.{size, front_length, whole_length}

-- the word fits, and closes the sum of an even front
closing_fits : (front : List ℕ) → closing front < 65536
unfolding closing
closing_fits front = omega arith

head_sum : word_sum (head_bytes 2 closing_kind) ≡ 65537
unfolding number_bytes word_sum
head_sum = refl

closes : (front : List ℕ) → length front % 2 ≡ 0 → SumsToZero (front ++ closing_record (closing front))
unfolding closing
closes front even =
    let a = sum_append front (closing_record (closing front)) even in
    let b = closing_sum (closing front) (closing_fits front) in
    let c = sum_append front (head_bytes 2 closing_kind) even in
    let d = head_sum in
    omega arith

module _ (f : Formula) (r : Rows) (small : Small f r) where
  abbrev whole : List ℕ
  whole = whole_of f r

  parts : whole
      ≡ prefix_record f.n f.prefix
      ++ (clauses_record f.clauses ++ (rows_record r.classes r.parents r.counts ++ closing_record (closing (front_of f r))))
  unfolding whole_of front_of formula_part
  parts =
      let last = closing_record (closing (front_of f r)) in
      let p = prefix_record f.n f.prefix in
      let c = clauses_record f.clauses in
      let k = rows_record r.classes r.parents r.counts in
      append_assoc (p ++ c) k last ∙ append_assoc p c (k ++ last)

  -- What writes it promises: 14 where it does not fit, and else its bytes.
  module _ (before : List ℕ) where
    pub no_room : length before < size f r → StoresWhole whole before before (refused TooLittleRoom 0)
    no_room short = (inl (at0_first 14 (omega (arith, whole_length f r small))), refl)

    pub room : size f r ≤ length before → {after : List ℕ} {count : ℕ} → Wrote whole before after 0 count
        → StoresWhole whole before after (Ok count)
    room enough wrote =
        let fits : length whole ≤ length before = omega (arith, whole_length f r small) in
        ((at0_none 14 (λ short. omega arith), tt), (whole, refl, omega (arith, wrote.end), wrote.stored ∙ stored_overwritten whole before fits))

  -- It is the file of the formula, where the rows are those of the prefix as it is read.
  module _ (read : List ℕ) (few : f.n ≤ most_variables) (right : ForestRows (formula_of f.n read f.clauses) r) where
    file_of : FileWith false f read whole
    unfolding whole_of
    file_of =
        let long = front_length f r small in
        record {
          rows = r;
          right = right;
          sets_record = [];
          sets_are = refl;
          word = closing (front_of f r);
          word_fits = closing_fits (front_of f r);
          bytes = parts;
          sum = closes (front_of f r) (omega arith);
        }

    -- so what is promised of it is promised of the formula, whose only file it is, and which is never too long
    carries : (before : List ℕ) → Carries (At0 14 (length before < length whole) ∷ []) (At0 14 (FileTooLong f read before) ∷ [])
    carries before =
        let longer : FileTooLong f read before → length before < length whole =
        λ over. subst (λ (file : List ℕ). length before < length file) (file_unique f read over.0 whole over.1 file_of) over.2 in
        one_more (At0 14 (length before < length whole)) (At0 14 (FileTooLong f read before)) (λ k p c. (c.0, c.1, (whole, file_of, c.2)))
        (λ k p c. (c.0, c.1, longer c.2)) (same_order [])

    short : None (At0 19 (FileTooLarge f read))
    short = at0_none 19 (never_too_large f read (few, small.entries, small.literals))

    pub of_formula : (before after : List ℕ) (answer : Answer ℕ) → StoresWhole whole before after answer → StoresRead f read before after answer
    of_formula before after (Ok count) (clear, (file, is, counted, stored)) =
        ((short, (carries before).none clear), (whole, file_of, counted ∙ ap length is, stored ∙ ap (λ (rows : List ℕ). overwritten rows before) is))
    of_formula before after (Err refusal) (first, same) = (inr (short, (carries before).first _ _ first), same)
