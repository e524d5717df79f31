-- Places in a text with dependency lists, and the counts of what is read from one, fit 32 bits: a text holds no more entries than bytes.
use Rattle.terms.specs.Says.{Answer}
use Rattle.terms.specs.declared.ListedCounts.{ListedCounts}
use Prim.Native.Nat.{ℕ, ◌+◌, ◌≤◌, ◌<◌}
use mathlib.Core.Path.{◌≡◌, ap}
use mathlib.Core.List.{List, [], ◌∷◌, ◌++◌}
use native.Mathlib.Omega.{arith}
use lib.IntN.{ℤ}
use lib.ListN.{length}
use Rattle.terms.specs.Refusals.{NoneOf}
use Rattle.text_lines.specs.Format.{LineCause}
use Rattle.text_lines.proofs.Places.{place_append, cause_place}
use Rattle.text_write.specs.Texts.{TEXT-MOST, Overlong, overlong}
use Rattle.dqbf_text.specs.Format.{ListLine, d_line, ListedText, ListedFollow}
use Rattle.dqbf_text.specs.Reading.{Tables, NoListedRoom, no_room_prefix, no_room_clauses, no_room_lists, listed_read_order, ListedReadInto, ListedReadIs}
use Rattle.c_answers.specs.InnerCells.{Fits, Laid}
use Rattle.c_answers.specs.InnerFormulas.{ThreeInCells, listed_said}
use Rattle.snowcoddle.specs.Told.{Told}
use Rattle.snowcoddle.proofs.Places.{Small, small_then, small_within}
use Rattle.snowcoddle.proofs.Telling.{fits_known, tell_known}
use Rattle.snowcoddle.proofs.Texts.{words_few, entries_many, say_few, quantifiers_few, clauses_few, body_few, overlong_place}

-- A list line adds no more entries than it has bytes and its LF, and a text no more than it has bytes.
list_few : {line l : List ℕ} → ListLine line l → length l ≤ length line + 1
list_few {line} (d_line begins s r) = let w = words_few line in let q = ap length begins in let l = entries_many r in omega arith

text_few : {n : ℕ} {P L : List ℕ} {C : List ℤ} {text : List ℕ} → ListedText n P L C text → length P + length C + length L ≤ length text
text_few t =
    let all = body_few (t.quantifiers ++ (t.list_lines ++ t.clauses)) t.lines in
    let sum = place_append t.quantifiers (t.list_lines ++ t.clauses) in
    let rest = place_append t.list_lines t.clauses in
    let p = quantifiers_few t.quantifiers_say in
    let d = say_few (λ line entries x. list_few x) t.lists_say in
    let c = clauses_few t.clauses_say in
    omega arith

no_room_place : {text : List ℕ} {before : Tables} {k p : ℕ} → NoListedRoom text before k p → p ≤ 0
no_room_place (no_room_prefix _ _) = omega arith
no_room_place (no_room_clauses _ _) = omega arith
no_room_place (no_room_lists _ _) = omega arith

small_read : (text : List ℕ) (before : Tables) → Small (listed_read_order text before)
small_read text before =
    small_then (Overlong text ∷ []) (LineCause ListedFollow text ∷ NoListedRoom text before ∷ [])
    (small_within (Overlong text) TEXT-MOST (omega arith) (λ k p cause. overlong_place cause))
    (λ clean.
    let long : ¬ (TEXT-MOST < length text) = λ l. clean.0 15 TEXT-MOST (overlong l) in
    small_then (LineCause ListedFollow text ∷ []) (NoListedRoom text before ∷ [])
    (small_within (LineCause ListedFollow text) TEXT-MOST (omega arith) (λ k p cause. let l = (cause_place cause).1 in omega arith))
    (λ _. small_within (NoListedRoom text before) 0 (omega arith) (λ k p cause. no_room_place cause)))

-- the counts of what was read
counts_few : (n entries literals rows : ℕ) (text : List ℕ) (before after : Tables) → NoneOf (listed_read_order text before)
    → ListedReadInto n entries literals rows text before after → (entries ≤ TEXT-MOST) × (literals ≤ TEXT-MOST) × (rows ≤ TEXT-MOST)
counts_few n entries literals rows text before after clean r =
    let long : ¬ (TEXT-MOST < length text) = λ l. clean.0 15 TEXT-MOST (overlong l) in
    let p = r.prefix_filled.counted in
    let q = r.clauses_filled.counted in
    let s = r.lists_filled.counted in
    let l = text_few r.text_of in
    (omega arith, omega arith, omega arith)

-- What reading gives is told: n and the counts, with the tables.
module _ (text : List ℕ) (before after : Tables) where
  abbrev Into : ℕ × ℕ × ℕ × ℕ → Type 0
  Into cells = ListedReadInto cells.0 cells.1 cells.2 cells.3 text before after

  abbrev Stay : Type 0
  Stay = (after.0 ≡ before.0) × (after.1 ≡ before.1) × (after.2 ≡ before.2)

  pub fits_read : (answer : Answer ListedCounts) → ListedReadIs text before after answer → Fits ThreeInCells (listed_said answer)
  fits_read answer known =
      fits_known (listed_read_order text before) Into Stay ThreeInCells (listed_said answer) (small_read text before)
      (λ cells clean r.
      let few = counts_few cells.0 cells.1 cells.2 cells.3 text before after clean r in
      let a = few.0 in
      let b = few.1 in
      let c = few.2 in
      (omega arith, omega arith, omega arith))
      known

  pub tell_read : (answer : Answer ListedCounts) {n entries literals rows n' entries' literals' rows' place place' returned : ℕ}
      → Laid (listed_said answer) (n, entries, literals, rows) (n', entries', literals', rows') place place' returned
      → ListedReadIs text before after answer
      → Told (listed_read_order text before) (ListedReadInto n' entries' literals' rows' text before after)
      ((n' ≡ n) × (entries' ≡ entries) × (literals' ≡ literals) × (rows' ≡ rows) × (after.0 ≡ before.0) × (after.1 ≡ before.1) × (after.2 ≡ before.2)) returned place place'
  tell_read answer laid known =
      tell_known (listed_read_order text before) Into Stay laid known
      (λ q k. (ap (λ (t : ℕ × ℕ × ℕ × ℕ). t.0) q, ap (λ (t : ℕ × ℕ × ℕ × ℕ). t.1) q, ap (λ (t : ℕ × ℕ × ℕ × ℕ). t.2) q, ap (λ (t : ℕ × ℕ × ℕ × ℕ). t.3) q, k.0, k.1, k.2))
