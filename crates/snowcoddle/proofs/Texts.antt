-- Places in a text, and the counts of what is read from one, fit 32 bits: a text holds no more entries than bytes.
use Rattle.terms.specs.Says.{Answer}
use Rattle.terms.specs.declared.Counts.{Counts}
use Prim.Native.Nat.{ℕ, suc, ◌+◌, ◌≤◌, ◌<◌}
use mathlib.Core.Path.{◌≡◌, refl, sym, ap, ◌∙◌}
use mathlib.Core.List.{List, [], ◌∷◌, ◌++◌, append_assoc}
use native.Mathlib.Omega.{arith}
use lib.IntN.{ℤ}
use lib.ListN.{length, length-append}
use Rattle.terms.specs.Refusals.{NoneOf}
use Rattle.text_words.specs.Words.{SPACE, pieces, filled, words, Entries, closing, entry}
use Rattle.text_lines.specs.Format.{QuantifierLine, e_line, a_line, ClauseLine, literals_line, Say, say_none, say_more, TextWith, TextOf, MayFollow}
use Rattle.text_lines.specs.Format.{place_after, LineCause}
use Rattle.text_lines.proofs.Places.{pieces_place, place_append, place_few, cause_place}
use Rattle.text_qdimacs.specs.Reading.{TEXT-MOST, Overlong, overlong, NoRoom, no_room_prefix, no_room_clauses, read_order, ReadInto, ReadIs}
use Rattle.c_answers.specs.InnerCells.{Fits, Laid}
use Rattle.c_answers.specs.InnerFormulas.{TwoInCells, counts_said}
use Rattle.snowcoddle.specs.Told.{Told}
use Rattle.snowcoddle.proofs.Places.{Small, small_then, small_within}
use Rattle.snowcoddle.proofs.Telling.{fits_known, tell_known}

-- A line has at most one word more than bytes, and words say as many entries as they are.
filled_few : (cut : List (List ℕ)) → length (filled cut) ≤ place_after cut
unfolding filled
filled_few [] = omega arith
filled_few ([] ∷ more) = let l = filled_few more in omega arith
filled_few ((byte ∷ bytes) ∷ more) = let l = filled_few more in omega arith

pub words_few : (line : List ℕ) → length (words line) ≤ length line + 1
unfolding words
words_few line = let l = filled_few (pieces SPACE line) in let q = pieces_place SPACE line in omega arith

pub entries_many : {A : Type 0} {Says : List ℕ → A → Type 0} {nought : A} {ws : List (List ℕ)} {es : List A} → Entries Says nought ws es
    → length es ≡ length ws
entries_many (closing s) = refl
entries_many (entry s r) = ap suc (entries_many r)

-- A line adds no more entries than it has bytes and its LF.
quantifier_few : {line entries : List ℕ} → QuantifierLine line entries → length entries ≤ length line + 1
quantifier_few {line} (e_line begins r) = let w = words_few line in let s = ap length begins in let l = entries_many r in omega arith
quantifier_few {line} (a_line begins r) = let w = words_few line in let s = ap length begins in let l = entries_many r in omega arith

clause_few : {line : List ℕ} {entries : List ℤ} → ClauseLine line entries → length entries ≤ length line + 1
clause_few {line} (literals_line r) = let w = words_few line in let l = entries_many r in omega arith

-- So do lines of one kind, and a text adds no more than it has bytes.
pub say_few : {A : Type 0} {Line : List ℕ → List A → Type 0} {lines : List (List ℕ)} {table : List A}
    → ((line : List ℕ) (entries : List A) → Line line entries → length entries ≤ length line + 1) → Say Line lines table → length table ≤ place_after lines
say_few few say_none = omega arith
say_few few (say_more {line = line} {entries = entries} {table = table} x more) =
    let here = few line entries x in
    let later = say_few few more in
    let sum = length-append entries table in
    omega arith

pub quantifiers_few : {lines : List (List ℕ)} {table : List ℕ} → Say QuantifierLine lines table → length table ≤ place_after lines
quantifiers_few say = say_few (λ line entries x. quantifier_few x) say

pub clauses_few : {lines : List (List ℕ)} {table : List ℤ} → Say ClauseLine lines table → length table ≤ place_after lines
clauses_few say = say_few (λ line entries x. clause_few x) say

pub body_few : {n m : ℕ} {text : List ℕ} (body : List (List ℕ)) → TextWith n m body text → place_after body ≤ length text
body_few {text = text} body t =
    let before = t.comments ++ (t.problem ∷ body) in
    let cut = t.cut ∙ sym (append_assoc t.comments (t.problem ∷ body) ([] ∷ [])) in
    let l = place_few text before ([] ∷ []) cut (omega arith) in
    let sum = place_append t.comments (t.problem ∷ body) in
    omega arith

text_few : {n : ℕ} {P : List ℕ} {C : List ℤ} {text : List ℕ} → TextOf n P C text → length P + length C ≤ length text
text_few t =
    let all = body_few (t.quantifiers ++ t.clauses) t.lines in
    let sum = place_append t.quantifiers t.clauses in
    let p = quantifiers_few t.quantifiers_say in
    let c = clauses_few t.clauses_say in
    omega arith

pub overlong_place : {text : List ℕ} {k p : ℕ} → Overlong text k p → p ≤ TEXT-MOST
overlong_place (overlong l) = omega arith

no_room_place : {text prefix : List ℕ} {clauses : List ℤ} {k p : ℕ} → NoRoom text prefix clauses k p → p ≤ 0
no_room_place (no_room_prefix _ _) = omega arith
no_room_place (no_room_clauses _ _) = omega arith

small_read : (text prefix : List ℕ) (clauses : List ℤ) → Small (read_order text prefix clauses)
small_read text prefix clauses =
    small_then (Overlong text ∷ []) (LineCause MayFollow text ∷ NoRoom text prefix clauses ∷ [])
    (small_within (Overlong text) TEXT-MOST (omega arith) (λ k p cause. overlong_place cause))
    (λ clean.
    let long : ¬ (TEXT-MOST < length text) = λ l. clean.0 15 TEXT-MOST (overlong l) in
    small_then (LineCause MayFollow text ∷ []) (NoRoom text prefix clauses ∷ [])
    (small_within (LineCause MayFollow text) TEXT-MOST (omega arith) (λ k p cause. let l = (cause_place cause).1 in omega arith))
    (λ _. small_within (NoRoom text prefix clauses) 0 (omega arith) (λ k p cause. no_room_place cause)))

-- the counts of what was read
counts_few : (n entries literals : ℕ) (text prefix prefix' : List ℕ) (clauses clauses' : List ℤ) → NoneOf (read_order text prefix clauses)
    → ReadInto n entries literals text prefix prefix' clauses clauses' → (entries ≤ TEXT-MOST) × (literals ≤ TEXT-MOST)
counts_few n entries literals text prefix prefix' clauses clauses' clean r =
    let long : ¬ (TEXT-MOST < length text) = λ l. clean.0 15 TEXT-MOST (overlong l) in
    let p = r.entries_counted in
    let q = r.literals_counted in
    let l = text_few r.text_of in
    (omega arith, omega arith)

-- What reading gives is told: n and the counts, with the tables.
module _ (text prefix prefix' : List ℕ) (clauses clauses' : List ℤ) where
  abbrev Into : ℕ × ℕ × ℕ → Type 0
  Into cells = ReadInto cells.0 cells.1 cells.2 text prefix prefix' clauses clauses'

  pub fits_read : (answer : Answer Counts) → ReadIs text prefix prefix' clauses clauses' answer → Fits TwoInCells (counts_said answer)
  fits_read answer known =
      fits_known (read_order text prefix clauses) Into ((prefix' ≡ prefix) × (clauses' ≡ clauses)) TwoInCells (counts_said answer) (small_read text prefix clauses)
      (λ cells clean r. let few = counts_few cells.0 cells.1 cells.2 text prefix prefix' clauses clauses' clean r in let a = few.0 in
      let b = few.1 in (omega arith, omega arith)) known

  pub tell_read : (answer : Answer Counts) {n entries literals n' entries' literals' place place' returned : ℕ}
      → Laid (counts_said answer) (n, entries, literals) (n', entries', literals') place place' returned
      → ReadIs text prefix prefix' clauses clauses' answer
      → Told (read_order text prefix clauses) (ReadInto n' entries' literals' text prefix prefix' clauses clauses')
      ((n' ≡ n) × (entries' ≡ entries) × (literals' ≡ literals) × (prefix' ≡ prefix) × (clauses' ≡ clauses)) returned place place'
  tell_read answer laid known =
      tell_known (read_order text prefix clauses) Into ((prefix' ≡ prefix) × (clauses' ≡ clauses)) laid known
      (λ q k. (ap (λ (t : ℕ × ℕ × ℕ). t.0) q, ap (λ (t : ℕ × ℕ × ℕ). t.1) q, ap (λ (t : ℕ × ℕ × ℕ). t.2) q, k.0, k.1))
