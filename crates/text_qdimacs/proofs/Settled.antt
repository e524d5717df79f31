-- What read and write promise settles everything: any two answers that they allow for the same input are the same, with every row and every byte afterwards.
use Rattle.std.specs.Prelude.{Ok, Err}
use Rattle.terms.specs.Says.{Answer, fault_number}
use Rattle.terms.specs.declared.Counts.{Counts}
use Prim.Native.Nat.{ℕ}
use mathlib.Core.Path.{◌≡◌, sym, ap, ◌∙◌}
use mathlib.Core.List.{List, ◌++◌}
use lib.ListN.{length}
use lib.IntN.{ℤ}
use Rattle.terms.specs.Overwritten.{overwritten}
use Rattle.terms.specs.Refusals.{Causes}
use Rattle.terms.proofs.Verdicts.{refusal_unique, first_or_none}
use Rattle.text_qdimacs.specs.Reading.{read_order, ReadInto, ReadIs}
use Rattle.text_write.specs.Stored.{Stored}
use Rattle.text_write.specs.InnerOrders.{write_order, WritesAfter}
use Rattle.text_qdimacs.proofs.Unique.{text_same}

-- What two answers of read have in common.
pub record SameAnswer (r r' : Answer Counts) (prefix prefix' : List ℕ) (clauses clauses' : List ℤ) : Type 0 where
  pub answer : r ≡ r'
  pub prefix_rows : prefix ≡ prefix'
  pub clause_rows : clauses ≡ clauses'

module _ (text prefix : List ℕ) (clauses : List ℤ) where
  -- the rows that hold the tables of a text
  module _ {k k' : Counts} {p p' : List ℕ} {c c' : List ℤ} (a : ReadInto k.n k.prefix k.clauses text prefix p clauses c)
      (b : ReadInto k'.n k'.prefix k'.clauses text prefix p' clauses c') where
    into_same : SameAnswer (Ok k) (Ok k') p p' c c'
    into_same =
        let same = text_same a.text_of b.text_of in
        let entries : k.prefix ≡ k'.prefix = a.entries_counted ∙ ap length same.prefix ∙ sym b.entries_counted in
        let literals : k.clauses ≡ k'.clauses = a.literals_counted ∙ ap length same.clauses ∙ sym b.literals_counted in
        let number = same.number in
        record {
          answer = λ i. Ok (record { n = number i; prefix = entries i; clauses = literals i });
          prefix_rows = a.prefix_left ∙ ap (λ (rows : List ℕ). overwritten rows prefix) same.prefix ∙ sym b.prefix_left;
          clause_rows = a.clauses_left ∙ ap (λ (rows : List ℤ). overwritten rows clauses) same.clauses ∙ sym b.clauses_left;
        }

  pub read_settled : (p p' : List ℕ) (c c' : List ℤ) (r r' : Answer Counts) → ReadIs text prefix p clauses c r → ReadIs text prefix p' clauses c' r'
      → SameAnswer r r' p p' c c'
  read_settled p p' c c' (Ok k) (Ok k') a b = into_same a.1 b.1
  read_settled p p' c c' (Ok k) (Err r) a b = absurd (first_or_none (read_order text prefix clauses) (fault_number r.0) r.1 b.0 a.0)
  read_settled p p' c c' (Err r) (Ok k) a b = absurd (first_or_none (read_order text prefix clauses) (fault_number r.0) r.1 a.0 b.0)
  read_settled p p' c c' (Err r) (Err r') a b =
      record {
        answer = ap Err (refusal_unique (read_order text prefix clauses) r r' a.0 b.0);
        prefix_rows = a.1.0 ∙ sym b.1.0;
        clause_rows = a.1.1 ∙ sym b.1.1;
      }

-- the bytes that hold a text
stored_same : {text out out₁ out₂ : List ℕ} {k k' : ℕ} → Stored text out out₁ k → Stored text out out₂ k' → (k ≡ k') × (out₁ ≡ out₂)
stored_same a b = (a.counted ∙ sym b.counted, a.left ∙ sym b.left)

-- Whatever stands in the order before 15 and 14, and whatever the text is.
pub write_settled : (order : List Causes) (text out out₁ out₂ : List ℕ) (r r' : Answer ℕ) → WritesAfter order text out out₁ r
    → WritesAfter order text out out₂ r' → (r ≡ r') × (out₁ ≡ out₂)
write_settled order text out out₁ out₂ (Ok k) (Ok k') a b =
    let same = stored_same a.1 b.1 in (ap Ok same.0, same.1)
write_settled order text out out₁ out₂ (Ok k) (Err r) a b = absurd (first_or_none (order ++ write_order text out) (fault_number r.0) r.1 b.0 a.0)
write_settled order text out out₁ out₂ (Err r) (Ok k) a b = absurd (first_or_none (order ++ write_order text out) (fault_number r.0) r.1 a.0 b.0)
write_settled order text out out₁ out₂ (Err r) (Err r') a b =
    (ap Err (refusal_unique (order ++ write_order text out) r r' a.0 b.0), a.1 ∙ sym b.1)
