-- The laws of bytes that are stored one run after another.
use Prim.Native.Nat.{ℕ, suc, ◌+◌, ◌*◌, ◌<◌, ◌≤◌}
use mathlib.Core.Path.{◌≡◌, refl, sym, ap, ◌∙◌, subst}
use mathlib.Core.Bool.{Bool, true, false, cond}
use mathlib.Core.List.{List, [], ◌∷◌, ◌++◌, append_assoc, append-nil}
use native.Mathlib.Omega.{arith}
use native.Mathlib.Nat.{add-zero}
use native.Mathlib.Numerals.{add-one, one-add}
use lib.Dec.{eqb}
use lib.ListN.{length, get_or, drop, length-append, drop_of_length-le}
use lib.Seq.{sets, set_out, length-sets, drop-cons}
use borrow.Author.Tests.{eq-eqb, ne_eqb, ltb-true}
use lib.IntN.{ℤ, pos, negsuc, nat_abs}
use lib.Signed.{lt_z}
use mir.Syntax.{w32}
use mir.Val.{to_z, of_z}
use mir.Facts.{to_z-of_z}
use Rattle.std.specs.List.{count_by}
use Rattle.std.proofs.lemmas.List.Recursion.{is_count_by}
use Rattle.std.proofs.lemmas.List.Sums.{count_by-le-length}
use Rattle.terms.proofs.Common.{sets_append}
use Rattle.text_write.specs.Texts.{LF, SPACE, MINUS, LETTER-A, LETTER-E}
use Rattle.text_write.specs.Numbers.{decimal}
use Rattle.text_write.specs.Written.{mark_word, literal_word, problem_line}
use Rattle.text_write.specs.InnerText.{spaced, ended, prefix_text, clause_text, clause_count}
use Rattle.text_write.specs.InnerBytes.{Wrote}
use Rattle.text_write.specs.InnerBytes.{SmallEntries, entry_bytes, literal_bytes, next_first}
use Rattle.text_write.proofs.Decimal.{digits_most}

-- Nothing stored, nothing past the end of the buffer, and one run behind another.
pub wrote_none : (buffer : List ℕ) (at : ℕ) → Wrote [] buffer buffer at at
wrote_none buffer at = record { end = sym (add-zero at); stored = refl }

sets_out : (buffer : List ℕ) (at : ℕ) (xs : List ℕ) → length buffer ≤ at → sets buffer at xs ≡ buffer
sets_out buffer at [] h = refl
sets_out buffer at (x ∷ xs) h = ap (λ (t : List ℕ). sets t (suc at) xs) (set_out buffer at x h) ∙ sets_out buffer (suc at) xs (omega arith)

pub wrote_out : (xs buffer : List ℕ) (at : ℕ) {width : ℕ} → width ≡ length xs → length buffer ≤ at → Wrote xs buffer buffer at (at + width)
wrote_out xs buffer at size h = record { end = ap (λ (k : ℕ). at + k) size; stored = sym (sets_out buffer at xs h) }

pub wrote_more : {xs ys before mid after : List ℕ} {at next last : ℕ} → Wrote xs before mid at next → Wrote ys mid after next last
    → Wrote (xs ++ ys) before after at last
wrote_more {xs} {ys} {before} {mid} {after} {at} {next} {last} a b =
    let l = length-append xs ys in
    let e = a.end in
    let f = b.end in
    record {
      end = omega arith;
      stored =
          b.stored ∙ ap (λ (t : List ℕ). sets t next ys) a.stored ∙ ap (λ (k : ℕ). sets (sets before at xs) k ys) e
          ∙ sym (sets_append before at xs ys);
    }

-- the same bytes by another name, and the buffer as long as it was
pub wrote_as : {xs ys before after : List ℕ} {at next : ℕ} → ys ≡ xs → Wrote xs before after at next → Wrote ys before after at next
wrote_as {before = before} {after = after} {at = at} {next = next} e w = subst (λ (bytes : List ℕ). Wrote bytes before after at next) (sym e) w

pub wrote_length : (bytes before after : List ℕ) (at next : ℕ) → Wrote bytes before after at next → length after ≡ length before
wrote_length bytes before after at next w = ap length w.stored ∙ length-sets before at bytes

-- The bytes of an entry, by cases.
module _ (first : Bool) (entry : ℕ) where
  pub entry_e : first ≡ true → entry ≡ 1 → entry_bytes first entry ≡ LETTER-E ∷ []
  unfolding entry_bytes mark_word
  entry_e f e = rw (f, eq-eqb entry 1 e, entry_bytes)

  pub entry_a : first ≡ true → (entry ≡ 1 → ⊥) → entry_bytes first entry ≡ LETTER-A ∷ []
  unfolding entry_bytes mark_word
  entry_a f e = rw (f, ne_eqb entry 1 e, entry_bytes)

  pub entry_last : first ≡ false → entry ≡ 0 → entry_bytes first entry ≡ SPACE ∷ (decimal entry ++ (LF ∷ []))
  unfolding entry_bytes ended
  entry_last f e = rw (f, eq-eqb entry 0 e, entry_bytes)

  pub entry_more : first ≡ false → (entry ≡ 0 → ⊥) → entry_bytes first entry ≡ SPACE ∷ decimal entry
  unfolding entry_bytes ended
  entry_more f e = rw (f, ne_eqb entry 0 e, entry_bytes) (ap (λ (xs : List ℕ). SPACE ∷ xs) (append-nil (decimal entry)))

-- The word of a literal, by its sign.
pub literal_negative : (z : ℤ) → lt_z z (pos 0) ≡ true → literal_word z ≡ MINUS ∷ decimal (nat_abs z)
unfolding literal_word
literal_negative (pos n) e = let no = ltb-true n 0 e in let no : ⊥ = omega arith in absurd no
literal_negative (negsuc n) e = refl

pub literal_positive : (z : ℤ) → lt_z z (pos 0) ≡ false → literal_word z ≡ decimal (nat_abs z)
unfolding literal_word
literal_positive (pos n) e = refl
literal_positive (negsuc n) e = let no : ◌≡◌ {A = ℕ} 0 1 = cc in let no : ⊥ = omega arith in absurd no

-- The text of a table, entry by entry.
pub ended_split : (b : Bool) (word : List ℕ) (rest : List ℕ) → word ++ ended b rest ≡ (word ++ ended b []) ++ rest
unfolding ended
ended_split true word rest = sym (append_assoc word (LF ∷ []) rest)
ended_split false word rest = sym (append_assoc word [] rest)

pub prefix_split : (first : Bool) (entry : ℕ) (more : List ℕ)
    → prefix_text first (entry ∷ more) ≡ entry_bytes first entry ++ prefix_text (next_first first entry) more
unfolding prefix_text entry_bytes next_first spaced
prefix_split true entry more = refl
prefix_split false entry more = ap (λ (xs : List ℕ). SPACE ∷ xs) (ended_split (eqb entry 0) (decimal entry) (prefix_text (eqb entry 0) more))

pub clause_split : (first : Bool) (entry : ℤ) (more : List ℤ)
    → clause_text first (entry ∷ more) ≡ literal_bytes first entry ++ clause_text (eqb (nat_abs entry) 0) more
unfolding clause_text literal_bytes spaced
clause_split true entry more = ended_split (eqb (nat_abs entry) 0) (literal_word entry) (clause_text (eqb (nat_abs entry) 0) more)
clause_split false entry more =
    ap (λ (xs : List ℕ). SPACE ∷ xs) (ended_split (eqb (nat_abs entry) 0) (literal_word entry) (clause_text (eqb (nat_abs entry) 0) more))

-- No entry takes more than eight bytes.
pub ended_most : (b : Bool) → length (ended b []) ≤ 1
unfolding ended
ended_most true = omega arith
ended_most false = omega arith

pub entry_most : (first : Bool) (entry : ℕ) → entry < 100000 → length (entry_bytes first entry) ≤ 8
unfolding entry_bytes mark_word
entry_most true entry h = go (eqb entry 1)
  where
    go : (b : Bool) → length (cond b (LETTER-E ∷ []) (LETTER-A ∷ [])) ≤ 8
    go true = omega arith
    go false = omega arith
entry_most false entry h = omega (arith, length-append (decimal entry) (ended (eqb entry 0) []), digits_most entry 4 h, ended_most (eqb entry 0))

pub space_most : (first : Bool) → length (spaced first []) ≤ 1
unfolding spaced
space_most true = omega arith
space_most false = omega arith

pub word_most : (z : ℤ) → nat_abs z < 100000 → length (literal_word z) ≤ 6
unfolding literal_word
word_most (pos n) h = omega (arith, digits_most n 4 h)
word_most (negsuc n) h = omega (arith, digits_most (suc n) 4 h)

pub literal_most : (first : Bool) (z : ℤ) → nat_abs z < 100000 → length (literal_bytes first z) ≤ 8
unfolding literal_bytes spaced
literal_most true z h = omega (arith, length-append (literal_word z) (ended (eqb (nat_abs z) 0) []), word_most z h, ended_most (eqb (nat_abs z) 0))
literal_most false z h = omega (arith, length-append (literal_word z) (ended (eqb (nat_abs z) 0) []), word_most z h, ended_most (eqb (nat_abs z) 0))

-- How a table is written, entry by entry: the text from an entry on, where a line begins or does not, the bytes of one entry, and whether a line begins
-- after it.
pub record Script (A : Type 0) : Type 0 where
  pub default : A
  pub text_from : Bool → List A → List ℕ
  pub bytes_of : Bool → A → List ℕ
  pub next_of : Bool → A → Bool
  pub split : (first : Bool) (x : A) (more : List A) → text_from first (x ∷ more) ≡ bytes_of first x ++ text_from (next_of first x) more
  pub empty : (first : Bool) → text_from first [] ≡ []

-- A table written up to a row: its text is the bytes stored, and the text of the rows left; no row takes more than eight bytes.
pub record Upto {A : Type 0} (s : Script A) (table : List A) (before now : List ℕ) (at i next : ℕ) (first : Bool) : Type 0 where
  pub bytes : List ℕ
  pub is : s.text_from true table ≡ bytes ++ s.text_from first (drop i table)
  pub wrote : Wrote bytes before now at next
  pub few : next ≤ at + 8 * i

module _ {A : Type 0} {s : Script A} {table : List A} {before now : List ℕ} {at i next : ℕ} {first : Bool}
    (u : Upto s table before now at i next first) where
  abbrev row : A
  row = get_or table i s.default

  -- one row more
  pub upto_more : {now' : List ℕ} {next' : ℕ} {first' : Bool} → i < length table → Wrote (s.bytes_of first row) now now' next next'
      → length (s.bytes_of first row) ≤ 8 → first' ≡ s.next_of first row → Upto s table before now' at (i + 1) next' first'
  upto_more {next' = next'} {first' = first'} h w most then =
      let few = u.few in
      let end = w.end in
      let one = s.bytes_of first row in
      record {
        bytes = u.bytes ++ one;
        is =
            u.is ∙ ap (λ (xs : List ℕ). u.bytes ++ xs)
            (ap (s.text_from first) (drop-cons table i s.default h) ∙ s.split first row (drop (suc i) table)
            ∙ ap (λ (b : Bool). one ++ s.text_from b (drop (suc i) table)) (sym then)
            ∙ ap (λ (k : ℕ). one ++ s.text_from first' (drop k table)) (sym (add-one i)))
            ∙ sym (append_assoc u.bytes one (s.text_from first' (drop (i + 1) table)));
        wrote = wrote_more u.wrote w;
        few = omega arith;
      }

  -- all rows
  pub upto_all : length table ≤ i → Wrote (s.text_from true table) before now at next
  upto_all h =
      wrote_as
      (u.is ∙ ap (λ (xs : List ℕ). u.bytes ++ xs) (ap (s.text_from first) (drop_of_length-le table h) ∙ s.empty first) ∙ append-nil u.bytes)
      u.wrote

-- how long a text is at most
pub text_most : {A : Type 0} (s : Script A) (first : Bool) (table : List A)
    → ((b : Bool) (i : ℕ) → i < length table → length (s.bytes_of b (get_or table i s.default)) ≤ 8) → length (s.text_from first table) ≤ 8 * length table
text_most s first [] most = let e = ap length (s.empty first) in omega arith
text_most s first (x ∷ more) most =
    let e = ap length (s.split first x more) ∙ length-append (s.bytes_of first x) (s.text_from (s.next_of first x) more) in
    let one = most first 0 (omega arith) in
    let rest = text_most s (s.next_of first x) more (λ b i h. most b (suc i) (omega arith)) in
    omega arith

-- The two tables of a formula.
pub no_prefix : (b : Bool) → prefix_text b [] ≡ []
unfolding prefix_text
no_prefix true = refl
no_prefix false = refl

abbrev pub prefix_script : Script ℕ
prefix_script = record { default = 0; text_from = prefix_text; bytes_of = entry_bytes; next_of = next_first; split = prefix_split; empty = no_prefix }

pub no_clauses : (b : Bool) → clause_text b [] ≡ []
unfolding clause_text
no_clauses b = refl

abbrev pub clause_script : Script ℤ
clause_script =
    record {
      default = pos 0;
      text_from = clause_text;
      bytes_of = literal_bytes;
      next_of = λ first literal. eqb (nat_abs literal) 0;
      split = clause_split;
      empty = no_clauses;
    }

-- The bytes of a literal in its line, by whether it closes the clause.
pub clause_last : (first : Bool) (z : ℤ) → eqb (nat_abs z) 0 ≡ true → literal_bytes first z ≡ (spaced first [] ++ literal_word z) ++ (LF ∷ [])
unfolding literal_bytes spaced ended
clause_last true z e = rw e
clause_last false z e = rw e

pub clause_more : (first : Bool) (z : ℤ) → eqb (nat_abs z) 0 ≡ false → literal_bytes first z ≡ spaced first [] ++ literal_word z
unfolding literal_bytes spaced ended
clause_more true z e = rw e (append-nil (literal_word z))
clause_more false z e = rw e (ap (λ (xs : List ℕ). SPACE ∷ xs) (append-nil (literal_word z)))

-- A small literal is read back from its bits.
pub small_bits : (z : ℤ) → nat_abs z < 100000 → to_z w32 (of_z w32 z) ≡ z
small_bits (pos n) h = to_z-of_z {w = w32} {z = pos n} (record { sfits = omega arith })
small_bits (negsuc n) h = to_z-of_z {w = w32} {z = negsuc n} (record { sfits = omega arith })

-- How long the parts of a text are at most.
pub problem_most : (n m : ℕ) → n < 100000 → m < 100000 → length (problem_line n m) ≤ 18
unfolding problem_line
problem_most n m hn hm =
    omega (arith, length-append (decimal n) (SPACE ∷ (decimal m ++ (LF ∷ []))), length-append (decimal m) (LF ∷ []), digits_most n 4 hn, digits_most m 4 hm)

pub prefix_most : (first : Bool) (prefix : List ℕ) → SmallEntries prefix → length (prefix_text first prefix) ≤ 8 * length prefix
prefix_most first prefix small = text_most prefix_script first prefix (λ b i h. entry_most b (get_or prefix i 0) (small i h))

-- A clause table has a clause for each entry whose magnitude is 0, and so no more clauses than entries.
pub counted_by : (clauses : List ℤ) → clause_count clauses ≡ count_by (λ (z : ℤ). eqb (nat_abs z) 0) clauses
unfolding clause_count
counted_by = is_count_by clause_count _ refl (λ z more. rw one-add)

pub count_most : (clauses : List ℤ) → clause_count clauses ≤ length clauses
count_most clauses = omega (arith, counted_by clauses, count_by-le-length (λ (z : ℤ). eqb (nat_abs z) 0) clauses)
