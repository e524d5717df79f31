-- Where the lines of a text begin: what is before one is no longer than the text; and so a cause stands within the text.
use Prim.Native.Nat.{ℕ, ◌+◌, ◌≤◌, ◌<◌}
use mathlib.Core.Path.{◌≡◌, refl, ap}
use mathlib.Core.Bool.{Bool, true, false, cond}
use mathlib.Core.List.{List, [], ◌∷◌, ◌++◌}
use native.Mathlib.Omega.{arith}
use lib.Dec.{eqb}
use lib.ListN.{length}
use Rattle.text_words.specs.Words.{LF, onto, pieces}
use Rattle.text_lines.specs.Format.{place_after, LineCause, unended_line, misplaced_line, no_problem_line, clause_too_many, clauses_too_few}

-- Cut at a mark, bytes are as many as their pieces with a mark each, but for the last.
onto_place : (byte : ℕ) (cut : List (List ℕ)) → 0 < place_after cut → place_after (onto byte cut) ≡ place_after cut + 1
unfolding onto
onto_place byte [] l = absurd (omega arith)
onto_place byte (piece ∷ more) l = omega arith

pub pieces_place : (mark : ℕ) (bytes : List ℕ) → place_after (pieces mark bytes) ≡ length bytes + 1
unfolding pieces
pieces_place mark [] = refl
pieces_place mark (byte ∷ bytes) = by_mark (eqb byte mark) (pieces_place mark bytes)
  where
    by_mark : (b : Bool) → place_after (pieces mark bytes) ≡ length bytes + 1
        → place_after (cond b ([] ∷ pieces mark bytes) (onto byte (pieces mark bytes))) ≡ length (byte ∷ bytes) + 1
    by_mark true q = omega arith
    by_mark false q = let r = onto_place byte (pieces mark bytes) (omega arith) in omega arith

pub place_append : (lines more : List (List ℕ)) → place_after (lines ++ more) ≡ place_after lines + place_after more
place_append [] more = omega arith
place_append (line ∷ lines) more = let q = place_append lines more in omega arith

-- the place after lines of a text, of which something is left
pub place_few : (text : List ℕ) (lines left : List (List ℕ)) → pieces LF text ≡ lines ++ left → 0 < place_after left → place_after lines ≤ length text
place_few text lines left cut some_left =
    let q = place_append lines left in
    let r : place_after (pieces LF text) ≡ place_after (lines ++ left) = ap place_after cut in
    let s = pieces_place LF text in
    omega arith

-- A cause stands within the text, in any format, and its number is 16 or 17.
pub cause_place : {Follows : List (List ℕ) → List ℕ → Type 0} {text : List ℕ} {k p : ℕ} → LineCause Follows text k p → (k ≤ 17) × (p ≤ length text)
cause_place {text = text} (unended_line before line cut some) = (omega arith, place_few text before (line ∷ []) cut (omega arith))
cause_place {text = text} (misplaced_line before line next after cut bad) = (omega arith, place_few text before (line ∷ next ∷ after) cut (omega arith))
cause_place (no_problem_line none) = (omega arith, omega arith)
cause_place {text = text} (clause_too_many before line after cut i a c) = (omega arith, place_few text before (line ∷ after) cut (omega arith))
cause_place (clauses_too_few a c h) = (omega arith, omega arith)
