-- The round trip: the text that write leaves reads back as the tables that it was written from.
use Rattle.std.specs.Prelude.{Ok, Err}
use Rattle.terms.specs.Says.{Answer, fault_number}
use Rattle.terms.specs.declared.Counts.{Counts}
use Prim.Native.Nat.{ℕ, ◌<◌, ◌≤◌}
use mathlib.Core.Path.{◌≡◌, ap, ◌∙◌, subst}
use mathlib.Core.List.{List}
use native.Mathlib.Omega.{arith}
use lib.IntN.{ℤ}
use lib.ListN.{length, take}
use Rattle.terms.specs.Overwritten.{overwritten}
use Rattle.terms.specs.Refusals.{NoneOf}
use Rattle.terms.proofs.Verdicts.{first_or_none}
use Rattle.formula.specs.Lent.{Formula}
use Rattle.formula_rules.specs.Rules.{check_order}
use Rattle.text_qdimacs.specs.Reading.{TEXT-MOST, overlong, read_order, ReadIs}
use Rattle.text_qdimacs.specs.Stored.{formula_text, Writes}
use Rattle.text_write.specs.Written.{text_of}
use Rattle.text_write.proofs.Outputs.{text_front}
use Rattle.text_qdimacs.proofs.Holdable.{Holdable}
use Rattle.text_qdimacs.proofs.Unique.{text_same}
use Rattle.text_qdimacs.proofs.Readings.{none}
use Rattle.text_qdimacs.proofs.Written.{written}
use Rattle.text_qdimacs.proofs.Accepted.{holdable}

-- What was read are these tables, in front in those that were lent.
pub record ReadsBack (n : ℕ) (P : List ℕ) (C : List ℤ) (prefix prefix' : List ℕ) (clauses clauses' : List ℤ) (r : Answer Counts) : Type 0 where
  pub answer : r ≡ Ok (record { n = n; prefix = length P; clauses = length C })
  pub prefix_left : prefix' ≡ overwritten P prefix
  pub clauses_left : clauses' ≡ overwritten C clauses

-- The text of tables that a text can hold, if it is not too long, reads back as them, given room for them.
module _ (n : ℕ) (P : List ℕ) (C : List ℤ) (prefix prefix' : List ℕ) (clauses clauses' : List ℤ) (p : length P ≤ length prefix)
    (c : length C ≤ length clauses) where
  pub text_reads_back : Holdable n P C → length (text_of n P C) ≤ TEXT-MOST → (r : Answer Counts) → ReadIs (text_of n P C) prefix prefix' clauses clauses' r
      → ReadsBack n P C prefix prefix' clauses clauses' r
  text_reads_back h short (Err refusal) a =
      absurd (first_or_none (read_order (text_of n P C) prefix clauses) (fault_number refusal.0) refusal.1 a.0
      (none (text_of n P C) prefix clauses short (written n P C h) p c))
  text_reads_back h short (Ok counts) a =
      let into = a.1 in
      let same = text_same into.text_of (written n P C h) in
      let number = same.number in
      let entries : counts.prefix ≡ length P = into.entries_counted ∙ ap length same.prefix in
      let literals : counts.clauses ≡ length C = into.literals_counted ∙ ap length same.clauses in
      record {
        answer = λ i. Ok (record { n = number i; prefix = entries i; clauses = literals i });
        prefix_left = into.prefix_left ∙ ap (λ (rows : List ℕ). overwritten rows prefix) same.prefix;
        clauses_left = into.clauses_left ∙ ap (λ (rows : List ℤ). overwritten rows clauses) same.clauses;
      }

-- So does what write leaves in front in the buffer, under either rule.
pub written_reads_back : (rule : ℕ) (f : Formula) (prefix prefix' : List ℕ) (clauses clauses' : List ℤ) → length f.prefix ≤ length prefix
    → length f.clauses ≤ length clauses → (out out' : List ℕ) (count : ℕ) → Writes rule f out out' (Ok count)
    → (r : Answer Counts) → ReadIs (take count out') prefix prefix' clauses clauses' r → ReadsBack f.n f.prefix f.clauses prefix prefix' clauses clauses' r
written_reads_back rule f prefix prefix' clauses clauses' p c out out' count w r read =
    let none = w.0 in
    let accepted : NoneOf (check_order rule f) = (none.0, (none.1.0, (none.1.1.0, (none.1.1.1.0, (none.1.1.1.1.0, tt))))) in
    let fits : ¬ (TEXT-MOST < length (formula_text f)) = λ long. none.1.1.1.1.1.0 15 TEXT-MOST (overlong long) in
    text_reads_back f.n f.prefix f.clauses prefix prefix' clauses clauses' p c (holdable rule f accepted) (omega arith) r
    (subst (λ (t : List ℕ). ReadIs t prefix prefix' clauses clauses' r) (text_front w.1) read)
