-- The round trip: the text of tables that a text can hold reads back as them.
use Rattle.std.specs.Prelude.{Ok, Err}
use Rattle.terms.specs.Says.{Answer, fault_number}
use Rattle.terms.specs.declared.ListedCounts.{ListedCounts}
use Prim.Native.Nat.{ℕ, ◌≤◌}
use mathlib.Core.Path.{◌≡◌, subst}
use mathlib.Core.Bool.{true}
use mathlib.Core.List.{List}
use lib.IntN.{ℤ}
use lib.ListN.{length}
use Rattle.terms.specs.Overwritten.{overwritten}
use Rattle.terms.proofs.Verdicts.{first_or_none}
use Rattle.text_write.specs.Texts.{TEXT-MOST}
use Rattle.text_qdimacs.proofs.Holdable.{Holdable}
use Rattle.dqbf_text.specs.Reading.{Tables, listed_read_order, FrontFilled, ListedReadIs}
use Rattle.dqbf_text.specs.Written.{listed_text_of}
use Rattle.dqbf_text.proofs.Unique.{text_same}
use Rattle.dqbf_text.proofs.Readings.{nothing_wrong}
use Rattle.dqbf_text.proofs.Holdable.{Lists}
use Rattle.dqbf_text.proofs.Written.{written}

-- What was read are these tables, in front in those that were lent.
pub record ReadsBack (n : ℕ) (P : List ℕ) (C : List ℤ) (L : List ℕ) (before after : Tables) (r : Answer ListedCounts) : Type 0 where
  pub answer : r ≡ Ok (record { n = n; prefix = length P; clauses = length C; lists = length L })
  pub prefix_left : after.0 ≡ overwritten P before.0
  pub clauses_left : after.1 ≡ overwritten C before.1
  pub lists_left : after.2 ≡ overwritten L before.2

-- the rows in front by another name
filled_as : {A : Type 0} {count : ℕ} {before after rows rows' : List A} → rows ≡ rows' → FrontFilled rows count before after → FrontFilled rows' count before after
filled_as {count = count} {before = before} {after = after} same = subst (λ (rows : List _). FrontFilled rows count before after) same

module _ (n : ℕ) (P : List ℕ) (C : List ℤ) (L : List ℕ) (before after : Tables) (p : length P ≤ length before.0) (c : length C ≤ length before.1)
    (l : length L ≤ length before.2) where
  pub text_reads_back : Holdable n P C → Lists true L → length (listed_text_of n P C L) ≤ TEXT-MOST → (r : Answer ListedCounts)
      → ListedReadIs (listed_text_of n P C L) before after r → ReadsBack n P C L before after r
  text_reads_back h d short (Err refusal) a =
      absurd
      (first_or_none (listed_read_order (listed_text_of n P C L) before) (fault_number refusal.0) refusal.1 a.0
      (nothing_wrong (listed_text_of n P C L) before short (written n P C L h d) p c l))
  text_reads_back h d short (Ok counts) a =
      let into = a.1 in
      let same = text_same into.text_of (written n P C L h d) in
      let number = same.number in
      let fronted = filled_as same.prefix into.prefix_filled in
      let clauses = filled_as same.clauses into.clauses_filled in
      let lists = filled_as same.lists into.lists_filled in
      record {
        answer = λ i. Ok (record { n = number i; prefix = fronted.counted i; clauses = clauses.counted i; lists = lists.counted i });
        prefix_left = fronted.left;
        clauses_left = clauses.left;
        lists_left = lists.left;
      }
