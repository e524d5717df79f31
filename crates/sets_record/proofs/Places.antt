-- Sets that stand in the table already: what is stored behind one leaves it, a copy of it is it, and where the first of a top stands is noted.
use Prim.Native.Nat.{ℕ, zero, suc, ◌+◌, ◌-◌, ◌≤◌, ◌<◌}
use mathlib.Core.Path.{◌≡◌, refl, sym, ap, ap₂, ◌∙◌, subst, subst₂}
use mathlib.Core.Bool.{Bool, true, false}
use mathlib.Core.List.{List, [], ◌∷◌}
use mathlib.Core.Logic.{⊎_elim, by_cases}
use native.Mathlib.Decide.{ℕ_discrete, dec_lt}
use native.Mathlib.Omega.{arith}
use lib.ListN.{length, get_or, set, take, drop, length-set, length-take, length-drop}
use lib.Seq.{sets, set_out, get_or-set_same, get_or-set_other}
use Rattle.std.specs.List.{copy_within}
use Rattle.std.proofs.lemmas.Grind.{same_number_lists}
use Rattle.std.proofs.lemmas.List.{get_or-take, get_or-drop}
use Rattle.std.proofs.lemmas.List.Edits.{sets-eq}
use Rattle.sets_subtrees.specs.InnerRuns.{having}
use Rattle.sets_record.specs.InnerPlaces.{Standing, Placed, Noting}
use Rattle.sets_record.specs.InnerPut.{PutList}

-- Entries in front of a run of stores, and those of the run.
before_sets : (out : List ℕ) (at : ℕ) (list : List ℕ) (j : ℕ) → j < at → get_or (sets out at list) j 0 ≡ get_or out j 0
before_sets out at [] j l = refl
before_sets out at (a ∷ list) j l = before_sets (set out at a) (suc at) list j (omega arith) ∙ get_or-set_other out at j a 0 (λ q. omega arith)

within_sets : (out : List ℕ) (at : ℕ) (list : List ℕ) (i : ℕ) → i < length list → at + length list ≤ length out
    → get_or (sets out at list) (at + i) 0 ≡ get_or list i 0
within_sets out at [] i l room = absurd (omega arith)
within_sets out at (a ∷ list) zero l room = let q : at + 0 ≡ at = omega arith in
    ap (λ j. get_or (sets (set out at a) (suc at) list) j 0) q ∙ before_sets (set out at a) (suc at) list at (omega arith)
    ∙ get_or-set_same out at a 0 (omega arith)
within_sets out at (a ∷ list) (suc i) l room =
    let q : at + suc i ≡ suc at + i = omega arith in
    let size = length-set out at a in
    ap (λ j. get_or (sets (set out at a) (suc at) list) j 0) q ∙ within_sets (set out at a) (suc at) list i (omega arith) (omega arith)

-- A copy of what stands there.
pub copied : {out list : List ℕ} {from to : ℕ} → Standing out from list to → to + length list ≤ length out
    → copy_within out from (from + length list) to ≡ sets out to list
copied {out} {list} {from} {to} s room =
    let here = s.before in
    let size : from + length list - from ≡ length list = omega arith in
    let own : take (length list) (drop from out) ≡ list =
    same_number_lists _ list (omega (arith, length-take (length list) (drop from out), length-drop from out))
    (λ i l. let less : i < length list = omega (arith, length-take (length list) (drop from out)) in rw (get_or-take, get_or-drop) (s.each i less)) in
    rw (size, own) (sym (sets-eq list out to room))

-- What stands in front stays, whatever is stored behind it.
pub stand_on : {out : List ℕ} {place : ℕ} {list : List ℕ} {at end : ℕ} → at ≤ end → Standing out place list at → Standing out place list end
stand_on more s = record { before = let l = s.before in omega arith; each = s.each }

stand_stored : {out : List ℕ} {place : ℕ} {list : List ℕ} {at : ℕ} (part : List ℕ) → Standing out place list at → Standing (sets out at part) place list at
stand_stored {out} {place} {at = at} part s =
    record { before = s.before; each = λ i l. let b = s.before in before_sets out at part (place + i) (omega arith) ∙ s.each i l }

module _ (n : ℕ) (tops places out : List ℕ) (at x : ℕ) (p : Placed n tops places out at) {out' : List ℕ} {end : ℕ} where
  -- A record more, of any set.
  pub placed_on : (writing : Bool) (list : List ℕ) → PutList list x at writing out out' end → Placed n tops places out' end
  placed_on true list (q, stored) top low some = let size = q in
      stand_on (omega arith)
      (subst (λ (o : List ℕ). Standing o (get_or places top 0) (having n tops top) at) (sym stored) (stand_stored (x ∷ length list ∷ list) (p top low some)))
  placed_on false list (q, same) top low some = let size = q in
      stand_on (omega arith) (subst (λ (o : List ℕ). Standing o (get_or places top 0) (having n tops top) at) (sym same) (p top low some))

  -- One of the set of a top, which stands there now.
  module _ (top : ℕ) where
    stands : PutList (having n tops top) x at true out out' end → at + 2 + length (having n tops top) ≤ length out
        → Standing out' (at + 2) (having n tops top) end
    stands (size, stored) room =
        record {
          before = omega arith;
          each = λ i l.
              let q : at + 2 + i ≡ at + suc (suc i) = omega arith in
              ap₂ (λ (o : List ℕ) (j : ℕ). get_or o j 0) stored q
              ∙ within_sets out at (x ∷ length (having n tops top) ∷ having n tops top) (suc (suc i)) (omega arith) (omega arith);
        }

    noted : PutList (having n tops top) x at true out out' end → at + 2 + length (having n tops top) ≤ length out
        → Placed n tops (set places top (at + 2)) out' end
    noted put room other low some =
        by_cases (ℕ_discrete other top)
        (λ q. by_cases (dec_lt top (length places)) (λ l. here q l)
        (λ l. kept (ap (λ (rows : List ℕ). get_or rows other 0) (set_out places top (at + 2) (omega arith)))))
        (λ differs. kept (get_or-set_other places top other (at + 2) 0 differs))
      where
        kept : get_or (set places top (at + 2)) other 0 ≡ get_or places other 0 → Standing out' (get_or (set places top (at + 2)) other 0) (having n tops other) end
        kept same = subst (λ i. Standing out' i (having n tops other) end) (sym same) (placed_on true (having n tops top) put other low (λ z. some (same ∙ z)))

        here : other ≡ top → top < length places → Standing out' (get_or (set places top (at + 2)) other 0) (having n tops other) end
        here q l =
            subst₂ (λ (i t : ℕ). Standing out' i (having n tops t) end)
            (sym (ap (λ t. get_or (set places top (at + 2)) t 0) q ∙ get_or-set_same places top (at + 2) 0 l)) (sym q) (stands put room)

    pub placed_top : {places' : List ℕ} (writing : Bool) → PutList (having n tops top) x at writing out out' end
        → (writing ≡ true → at + 2 + length (having n tops top) ≤ length out) → (writing ≡ false → places' ≡ places)
        → Noting places top (at + 2) places' → Placed n tops places' out' end
    placed_top false put room same _ = subst (λ (rows : List ℕ). Placed n tops rows out' end) (sym (same refl)) (placed_on false (having n tops top) put)
    placed_top true put room same note =
        ⊎_elim (λ q. subst (λ (rows : List ℕ). Placed n tops rows out' end) (sym q) (placed_on true (having n tops top) put))
        (λ q. subst (λ (rows : List ℕ). Placed n tops rows out' end) (sym q) (noted put (room refl))) note
