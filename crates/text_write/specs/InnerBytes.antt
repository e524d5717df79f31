-- What the functions that store the text promise, byte by byte and entry by entry.
use Rattle.std.specs.Prelude.{ℕ, ◌<◌, ◌≤◌, Bool, true, false, List, [], ◌∷◌, ◌++◌, eqb, length, get_or, ℤ, pos, nat_abs, ◌+◌, ◌≡◌}
use Rattle.terms.specs.Limits.{prefix_entries, clause_entries}
use Rattle.text_write.specs.Texts.{SPACE}
use Rattle.text_write.specs.Numbers.{decimal}
use Rattle.text_write.specs.Written.{mark_word, literal_word}
use Rattle.text_write.specs.InnerText.{spaced, ended}
use Rattle.std.proofs.lemmas.List.Edits.{sets}

-- The bytes of one entry, at the beginning of a line or after it.
unfoldable pub entry_bytes : Bool → ℕ → List ℕ
entry_bytes true mark = mark_word mark
entry_bytes false entry = SPACE ∷ (decimal entry ++ ended (eqb entry 0) [])

unfoldable pub literal_bytes : Bool → ℤ → List ℕ
literal_bytes first entry = spaced first (literal_word entry ++ ended (eqb (nat_abs entry) 0) [])

-- Every entry is below 100,000, in either sign.
abbrev pub SmallEntries : List ℕ → Type 0
SmallEntries prefix = (i : ℕ) → i < length prefix → get_or prefix i 0 < 100000

abbrev pub SmallLiterals : List ℤ → Type 0
SmallLiterals clauses = (i : ℕ) → i < length clauses → nat_abs (get_or clauses i (pos 0)) < 100000

-- What is asked of tables that are written: n and all their numbers have at most five digits, and they are no longer than a formula's tables may be.
abbrev pub Writable : ℕ → List ℕ → List ℤ → Type 0
Writable n prefix clauses =
    (n < 100000) × (length prefix ≤ prefix_entries) × (length clauses ≤ clause_entries) × SmallEntries prefix × SmallLiterals clauses

-- Whether a line begins after an entry of the prefix table: not after a mark, and else after the closing 0.
unfoldable pub next_first : Bool → ℕ → Bool
next_first true mark = false
next_first false entry = eqb entry 0

-- Bytes that were stored in a buffer from a place on, as far as it has room, and the place after them.
pub record Wrote (bytes before after : List ℕ) (at next : ℕ) : Type 0 where
  pub end : next ≡ at + length bytes
  pub stored : after ≡ sets before at bytes
