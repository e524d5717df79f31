-- The laws of the bytes of lists: how the table is written, and how long its text is at most.
use Prim.Native.Nat.{ℕ, ◌*◌, ◌<◌, ◌≤◌}
use mathlib.Core.Path.{◌≡◌, refl, ap}
use mathlib.Core.Bool.{Bool, true, false}
use mathlib.Core.List.{List, [], ◌∷◌, ◌++◌}
use native.Mathlib.Omega.{arith}
use lib.Dec.{eqb}
use lib.ListN.{length, get_or, length-append}
use Rattle.text_write.specs.Texts.{SPACE}
use Rattle.text_write.specs.Numbers.{decimal}
use Rattle.text_write.specs.InnerText.{spaced, ended}
use Rattle.text_write.specs.InnerBytes.{SmallEntries, entry_bytes}
use Rattle.text_write.proofs.Decimal.{digits_most}
use Rattle.text_write.proofs.Stores.{ended_split, ended_most, Script, text_most}
use Rattle.dqbf_text.specs.Format.{LETTER-D}
use Rattle.dqbf_text.specs.InnerText.{lettered, list_text, list_bytes}

pub list_split : (first : Bool) (entry : ℕ) (more : List ℕ)
    → list_text first (entry ∷ more) ≡ list_bytes first entry ++ list_text (eqb entry 0) more
unfolding list_text list_bytes lettered spaced
list_split true entry more = ap (λ (xs : List ℕ). LETTER-D ∷ SPACE ∷ xs) (ended_split (eqb entry 0) (decimal entry) (list_text (eqb entry 0) more))
list_split false entry more = ap (λ (xs : List ℕ). SPACE ∷ xs) (ended_split (eqb entry 0) (decimal entry) (list_text (eqb entry 0) more))

-- the letter, and then the entry as in a prefix
pub list_bytes_lem : (first : Bool) (entry : ℕ) → list_bytes first entry ≡ lettered first [] ++ entry_bytes false entry
unfolding list_bytes lettered spaced entry_bytes
list_bytes_lem true entry = refl
list_bytes_lem false entry = refl

pub letter_most : (first : Bool) → length (lettered first []) ≤ 1
unfolding lettered
letter_most true = omega arith
letter_most false = omega arith

pub list_most : (first : Bool) (entry : ℕ) → entry < 100000 → length (list_bytes first entry) ≤ 8
unfolding list_bytes lettered spaced
list_most true entry h = omega (arith, length-append (decimal entry) (ended (eqb entry 0) []), digits_most entry 4 h, ended_most (eqb entry 0))
list_most false entry h = omega (arith, length-append (decimal entry) (ended (eqb entry 0) []), digits_most entry 4 h, ended_most (eqb entry 0))

pub no_lists : (b : Bool) → list_text b [] ≡ []
unfolding list_text
no_lists b = refl

abbrev pub list_script : Script ℕ
list_script =
    record {
      default = 0;
      text_from = list_text;
      bytes_of = list_bytes;
      next_of = λ first entry. eqb entry 0;
      split = list_split;
      empty = no_lists;
    }

pub lists_most : (first : Bool) (lists : List ℕ) → SmallEntries lists → length (list_text first lists) ≤ 8 * length lists
lists_most first lists small = text_most list_script first lists (λ b i h. list_most b (get_or lists i 0) (small i h))
