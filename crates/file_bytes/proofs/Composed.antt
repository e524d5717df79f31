-- The records of a file, put together from the runs of bytes that are stored for each.
use Rattle.std.proofs.Common.{◌≡◌, ℕ, ◌+◌, ◌-◌, ◌*◌, ◌%◌, ◌≤◌, List, ◌∷◌, ◌++◌, map, length, take, drop, ℤ, sym, ap, ◌∙◌, subst, append_assoc, arith, length-append, length-take-le, take_at}
use lib.ListN.{length-map}
use lib.Seq.{sets-eq}
use Rattle.text_write.specs.InnerBytes.{Wrote}
use Rattle.text_write.proofs.Stores.{wrote_more}
use Rattle.file_format.specs.Numbers.{number_bytes, bytes_of, literal_number, word_sum}
use Rattle.file_format.specs.Layout.{prefix_kind, clauses_kind, rows_kind, closing_kind, record_bytes, prefix_record, clauses_record, rows_record, closing_record}
use Rattle.file_format.proofs.Lengths.{number_length, bytes_length, bytes_append}
use Rattle.file_bytes.specs.InnerParts.{head_bytes, closing}

-- equal bytes are written alike
pub wrote_as : {xs ys before after : List ℕ} {at next : ℕ} → xs ≡ ys → Wrote xs before after at next → Wrote ys before after at next
wrote_as {before = before} {after = after} {at = at} {next = next} q w = subst (λ (bytes : List ℕ). Wrote bytes before after at next) q w

-- what stands in front of a place, once bytes are stored up to it
pub front_stored : {xs before after : List ℕ} {at next : ℕ} → Wrote xs before after at next → at + length xs ≤ length before
    → take next after ≡ take at before ++ xs
front_stored {xs} {before} {after} {at} {next} w room =
    let front = take at before ++ xs in
    let long : length front ≡ next =
    length-append (take at before) xs ∙ ap (λ (k : ℕ). k + length xs) (length-take-le at before (omega arith)) ∙ sym w.end in
    ap (take next) (w.stored ∙ sets-eq xs before at room)
    ∙ take_at front (drop (at + length xs) before) next long

module _ {before mid after : List ℕ} {at start next : ℕ} where
  -- a head and a payload are a record
  pub record_wrote : (size kind : ℕ) {payload : List ℕ} → size ≡ length payload → Wrote (head_bytes size kind) before mid at start
      → Wrote payload mid after start next → Wrote (record_bytes kind payload) before after at next
  unfolding record_bytes
  record_wrote size kind {payload} q h p =
      wrote_as (ap (λ (k : ℕ). head_bytes k kind ++ payload) q ∙ append_assoc (number_bytes 4 (length payload)) (number_bytes 2 kind) payload)
      (wrote_more h p)

  pub clauses_wrote : (size : ℕ) (ls : List ℤ) → size ≡ 4 * length ls → Wrote (head_bytes size clauses_kind) before mid at start
      → Wrote (bytes_of 4 (map literal_number ls)) mid after start next → Wrote (clauses_record ls) before after at next
  unfolding clauses_record
  clauses_wrote size ls q = record_wrote size clauses_kind (let b = bytes_length 4 (map literal_number ls) in let m = length-map ls literal_number in omega arith)

  pub rows_wrote : (size : ℕ) (classes parents counts : List ℕ) → size ≡ 4 * (length classes + (length parents + length counts))
      → Wrote (head_bytes size rows_kind) before mid at start
      → Wrote (bytes_of 4 (classes ++ (parents ++ counts))) mid after start next → Wrote (rows_record classes parents counts) before after at next
  unfolding rows_record
  rows_wrote size classes parents counts q =
      record_wrote size rows_kind
      (let b = bytes_length 4 (classes ++ (parents ++ counts)) in
      let l = length-append classes (parents ++ counts) in
      let l' = length-append parents counts in
      omega arith)

  pub closing_wrote : (word : ℕ) → Wrote (head_bytes 2 closing_kind) before mid at start → Wrote (number_bytes 2 word) mid after start next
      → Wrote (closing_record word) before after at next
  unfolding closing_record
  closing_wrote word = record_wrote 2 closing_kind (sym (number_length 2 word))

-- n and the prefix
pub prefix_wrote : (size n : ℕ) (es : List ℕ) {before mid mid' after : List ℕ} {at start start' next : ℕ} → size ≡ 2 * length es + 2
    → Wrote (head_bytes size prefix_kind) before mid at start → Wrote (number_bytes 2 n) mid mid' start start'
    → Wrote (bytes_of 2 es) mid' after start' next → Wrote (prefix_record n es) before after at next
unfolding prefix_record bytes_of
prefix_wrote size n es q h a b = record_wrote size prefix_kind (let l = bytes_length 2 (n ∷ es) in omega arith) h (wrote_more a b)

-- three tables one after the other
pub tables_bytes : (classes parents counts : List ℕ)
    → bytes_of 4 classes ++ (bytes_of 4 parents ++ bytes_of 4 counts) ≡ bytes_of 4 (classes ++ (parents ++ counts))
tables_bytes classes parents counts =
    ap (λ (rest : List ℕ). bytes_of 4 classes ++ rest) (sym (bytes_append 4 parents counts)) ∙ sym (bytes_append 4 classes (parents ++ counts))

-- what is missing from the sum to zero is the closing word
pub closing_is : (front : List ℕ) (sum word : ℕ) → sum ≡ word_sum (front ++ head_bytes 2 closing_kind) % 65536 → word ≡ (0 + (65536 - sum)) % 65536
    → word ≡ closing front
unfolding closing
closing_is front sum word q is = omega arith
