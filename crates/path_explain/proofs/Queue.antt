-- Variables that are queued with a distance, one after the other, and the room that is left for more.
use Prim.Native.Nat.{ℕ, zero, suc, ◌+◌, ◌<◌}
use mathlib.Core.Path.{◌≡◌, refl, sym, ap, subst, ◌∙◌}
use mathlib.Core.List.{List, [], ◌∷◌}
use mathlib.Core.Logic.{◌≢◌, ◌⊎◌, inl, inr, ⊎_elim, by_cases}
use native.Mathlib.Decide.{ℕ_discrete}
use native.Mathlib.Omega.{arith}
use lib.ListN.{length, set, replicate, length-set}
use lib.Seq.{get_or-set_same, get_or-set_other}
use Rattle.formula.specs.Tables.{at}
use Rattle.path_explain.specs.InnerSearch.{Pushed, Room, zeros}

-- A new table has a 0 in every row, and a row that is set takes one away.
pub zeros_new : (k : ℕ) → zeros (replicate {A = ℕ} k 0) ≡ k
unfolding zeros
zeros_new zero = refl
zeros_new (suc k) = ap suc (zeros_new k)

pub zeros_set : (rows : List ℕ) (v row : ℕ) → v < length rows → at rows v ≡ 0 → row ≢ 0 → suc (zeros (set rows v row)) ≡ zeros rows
unfolding zeros
zeros_set [] v row l z some = absurd (omega arith)
zeros_set (zero ∷ rows) zero zero l z some = absurd (some refl)
zeros_set (zero ∷ rows) zero (suc row) l z some = refl
zeros_set (suc _ ∷ rows) zero row l z some = absurd (omega arith)
zeros_set (zero ∷ rows) (suc v) row l z some = ap suc (zeros_set rows v row (omega arith) z some)
zeros_set (suc _ ∷ rows) (suc v) row l z some = zeros_set rows v row (omega arith) z some

-- A variable with no row has room in the queue, and takes it.
module _ {rows queue : List ℕ} {tail : ℕ} (room : Room rows queue tail) {v : ℕ} (less : v < 4097) (free : at rows v ≡ 0) where
  pub room_left : tail < 4097
  room_left = let size = room.row_size in let full = room.full in let one = zeros_set rows v 1 (omega arith) free (λ e. omega arith) in omega arith

  pub room_more : {row : ℕ} → row ≢ 0 → Room (set rows v row) (set queue tail v) (tail + 1)
  room_more {row} some =
      let size = room.row_size in
      let full = room.full in
      let one = zeros_set rows v row (omega arith) free some in
      record { row_size = length-set rows v row ∙ size; queue_size = length-set queue tail v ∙ room.queue_size; full = omega arith }

module _ {P P' : ℕ → Type 0} {row : ℕ} {rows queue : List ℕ} {tail : ℕ} {mid line : List ℕ} {end : ℕ} (p : Pushed P row rows queue tail mid line end)
    (v : ℕ) (there : (w : ℕ) → P w → P' w) (back : (w : ℕ) → P' w → P w ⊎ (w ≡ v)) where
  -- A variable that is not new: it has a row, if P holds of it.
  pub pushed_past : (P' v → at mid v ≢ 0) → Pushed P' row rows queue tail mid line end
  pushed_past has =
      record {
        more = p.more;
        kept = p.kept;
        either = λ w. ⊎_elim inl (λ n. inr (n.0, there w n.1, n.2)) (p.either w);
        all = λ w h. ⊎_elim (p.all w) (λ e. subst (λ u. at mid u ≢ 0) (sym e) (has (subst P' e h))) (back w h);
        new = p.new;
        queued = p.queued;
      }

  -- A new one gets the row, and is put behind the queue.
  pub pushed_more : P' v → at mid v ≡ 0 → v < length mid → end < length line → row ≢ 0 → Pushed P' row rows queue tail (set mid v row) (set line end v) (end + 1)
  pushed_more own free less room some =
      let more = p.more in
      record {
        more = omega arith;
        kept = λ i l. queue_other i (omega arith) ∙ p.kept i l;
        either = λ w.
            by_cases (ℕ_discrete w v)
            (λ e. inr (⊎_elim (λ same. ap (at rows) e ∙ sym (subst (λ u. at mid u ≡ at rows u) e same) ∙ free) (λ n. n.0) (p.either w), subst P' (sym e) own, ap (at (set mid v row)) e ∙ row_own))
            (λ other. ⊎_elim (λ same. inl (row_other w other ∙ same)) (λ n. inr (n.0, there w n.1, row_other w other ∙ n.2)) (p.either w));
        all = λ w h.
            by_cases (ℕ_discrete w v) (λ e z. some (sym (ap (at (set mid v row)) e ∙ row_own) ∙ z))
            (λ other z. ⊎_elim (λ old. p.all w old (sym (row_other w other) ∙ z)) other (back w h));
        new = λ i low high.
            by_cases (ℕ_discrete i end) (λ e. ap (at (set mid v row)) (ap (at (set line end v)) e ∙ queue_own) ∙ row_own)
            (λ other. let old = p.new i low (omega arith) in
            ap (at (set mid v row)) (queue_other i (omega arith)) ∙ row_other (at line i) (λ e. some (sym old ∙ ap (at mid) e ∙ free)) ∙ old);
        queued = λ w z set'.
            by_cases (ℕ_discrete w v) (λ e. (end, omega arith, queue_own ∙ sym e))
            (λ other. let (i, l, q) = p.queued w z (λ e. set' (row_other w other ∙ e)) in (i, omega arith, queue_other i l ∙ q));
      }
    where
      row_own : at (set mid v row) v ≡ row
      row_own = get_or-set_same mid v row 0 less

      row_other : (w : ℕ) → w ≢ v → at (set mid v row) w ≡ at mid w
      row_other w other = get_or-set_other mid v w row 0 other

      queue_own : at (set line end v) end ≡ v
      queue_own = get_or-set_same line end v 0 room

      queue_other : (i : ℕ) → i < end → at (set line end v) i ≡ at line i
      queue_other i l = get_or-set_other line end i v 0 (λ e. omega arith)

-- What is pushed goes by what P says, however it is said.
pub pushed_same : {P P' : ℕ → Type 0} {row : ℕ} {rows queue : List ℕ} {tail : ℕ} {rows' queue' : List ℕ} {tail' : ℕ} → ((v : ℕ) → P v → P' v) → ((v : ℕ) → P' v → P v)
    → Pushed P row rows queue tail rows' queue' tail' → Pushed P' row rows queue tail rows' queue' tail'
pushed_same there back p =
    record {
      more = p.more;
      kept = p.kept;
      either = λ v. ⊎_elim inl (λ n. inr (n.0, there v n.1, n.2)) (p.either v);
      all = λ v h. p.all v (back v h);
      new = p.new;
      queued = p.queued;
    }

pub pushed_row : {P : ℕ → Type 0} {row row' : ℕ} {rows queue : List ℕ} {tail : ℕ} {rows' queue' : List ℕ} {tail' : ℕ} → row ≡ row'
    → Pushed P row rows queue tail rows' queue' tail' → Pushed P row' rows queue tail rows' queue' tail'
pushed_row {P} {rows = rows} {queue} {tail} {rows'} {queue'} {tail'} q p = subst (λ r. Pushed P r rows queue tail rows' queue' tail') q p
