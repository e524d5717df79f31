-- What read and write promise settles everything: any two answers that they allow for the same input are the same, with every row and every byte afterwards.
use Rattle.std.specs.Prelude.{Ok, Err}
use Rattle.terms.specs.Says.{Answer, fault_number}
use Rattle.terms.specs.declared.ListedCounts.{ListedCounts}
use Prim.Native.Nat.{ℕ}
use mathlib.Core.Path.{◌≡◌, sym, ap, ◌∙◌}
use mathlib.Core.List.{List}
use lib.ListN.{length}
use Rattle.terms.specs.Overwritten.{overwritten}
use Rattle.terms.proofs.Verdicts.{refusal_unique, first_or_none}
use Rattle.text_qdimacs.proofs.Settled as writing
use Rattle.formula.specs.Lent.{Formula}
use Rattle.dqbf_lists.specs.Causes.{check_lists_order}
use Rattle.dqbf_text.specs.Reading.{Tables, listed_read_order, FrontFilled, ListedReadInto, ListedReadIs}
use Rattle.dqbf_text.specs.Stored.{listed_text, WritesListed}
use Rattle.dqbf_text.proofs.Unique.{text_same}

-- What two answers of read have in common.
pub record SameAnswer (r r' : Answer ListedCounts) (after after' : Tables) : Type 0 where
  pub answer : r ≡ r'
  pub prefix_rows : after.0 ≡ after'.0
  pub clause_rows : after.1 ≡ after'.1
  pub list_rows : after.2 ≡ after'.2

-- Two tables with the same rows in front.
module _ {A : Type 0} {P P' before x y : List A} {k k' : ℕ} (a : FrontFilled P k before x) (b : FrontFilled P' k' before y) (same : P ≡ P') where
  count_same : k ≡ k'
  count_same = a.counted ∙ ap length same ∙ sym b.counted

  table_same : x ≡ y
  table_same = a.left ∙ ap (λ (rows : List A). overwritten rows before) same ∙ sym b.left

module _ (text : List ℕ) (before : Tables) where
  into_same : {k k' : ListedCounts} {after after' : Tables} → ListedReadInto k.n k.prefix k.clauses k.lists text before after
      → ListedReadInto k'.n k'.prefix k'.clauses k'.lists text before after' → SameAnswer (Ok k) (Ok k') after after'
  into_same {k} {k'} a b =
      let same = text_same a.text_of b.text_of in
      let number : k.n ≡ k'.n = same.number in
      let entries : k.prefix ≡ k'.prefix = count_same a.prefix_filled b.prefix_filled same.prefix in
      let literals : k.clauses ≡ k'.clauses = count_same a.clauses_filled b.clauses_filled same.clauses in
      let rows : k.lists ≡ k'.lists = count_same a.lists_filled b.lists_filled same.lists in
      record {
        answer = λ i. Ok (record { n = number i; prefix = entries i; clauses = literals i; lists = rows i });
        prefix_rows = table_same a.prefix_filled b.prefix_filled same.prefix;
        clause_rows = table_same a.clauses_filled b.clauses_filled same.clauses;
        list_rows = table_same a.lists_filled b.lists_filled same.lists;
      }

  pub read_settled : (after after' : Tables) (r r' : Answer ListedCounts) → ListedReadIs text before after r → ListedReadIs text before after' r'
      → SameAnswer r r' after after'
  read_settled after after' (Ok k) (Ok k') a b = into_same a.1 b.1
  read_settled after after' (Ok k) (Err r) a b = absurd (first_or_none (listed_read_order text before) (fault_number r.0) r.1 b.0 a.0)
  read_settled after after' (Err r) (Ok k) a b = absurd (first_or_none (listed_read_order text before) (fault_number r.0) r.1 a.0 b.0)
  read_settled after after' (Err r) (Err r') a b =
      record {
        answer = ap Err (refusal_unique (listed_read_order text before) r r' a.0 b.0);
        prefix_rows = a.1.0 ∙ sym b.1.0;
        clause_rows = a.1.1 ∙ sym b.1.1;
        list_rows = a.1.2 ∙ sym b.1.2;
      }

pub write_settled : (rule : ℕ) (f : Formula) (ds out out₁ out₂ : List ℕ) (r r' : Answer ℕ) → WritesListed rule f ds out out₁ r
    → WritesListed rule f ds out out₂ r' → (r ≡ r') × (out₁ ≡ out₂)
write_settled rule f ds = writing.write_settled (check_lists_order rule f ds) (listed_text f ds)
