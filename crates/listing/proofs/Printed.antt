-- What is printed of a universal: the numbers that are listed are few and small, and stand in front of the tables that they were written into, as
-- a line does in its buffer; and a sole entry point is listed as its flag would list it.
use Prim.Native.Nat.{ℕ, zero, suc, ◌+◌, ◌≤◌, ◌<◌}
use mathlib.Core.Path.{◌≡◌, refl, sym, ap, ap₂, ◌∙◌, subst}
use mathlib.Core.Bool.{Bool, true, false, not-eq-not}
use mathlib.Core.List.Memᴰ
use mathlib.Core.List.{List, [], ◌∷◌, Memᴰ}
use mathlib.Core.Logic.{◌≢◌}
use native.Mathlib.Nat.{not-suc-le-zero, le_of_suc-le-suc}
use native.Mathlib.Omega.{arith}
use lib.ListN.{length, get_or, take, drop, replicate, length-replicate}
use lib.Seq.{sets, sets-eq, length-sets, take_at}
use Rattle.std.proofs.Common.{Option}
use Rattle.std.specs.Io.KnownBytes.{Appends}
use Rattle.terms.specs.Answers.{InFront}
use Rattle.terms.specs.Listed.{Listed}
use Rattle.terms.specs.Overwritten.{overwritten}
use Rattle.terms.proofs.Listed.{listed_one}
use Rattle.terms.proofs.Overwritten.{overwritten_room, overwritten_front}
use Rattle.forest_members.specs.declared.Asked.TheVariants.{Points}
use Rattle.forest_members.specs.InnerPicked.{pick, picked, NoneUpto}
use Rattle.forest_members.proofs.Picked.{picked_most, picked_flag, picked_listed, picked_none}
use Rattle.sets_occurrences.specs.InnerSoleTops.{Is}
use Rattle.sets_subtrees.specs.InnerRuns.{Run, only}
use Rattle.sets_subtrees.proofs.Linked.{run_one, only_set, only_own}
use Rattle.listing_lines.specs.Lines.{LineIn}
use Rattle.listing_lines.specs.Inner.{Small}

-- what stands at an index is in the list
member_at : (l : List ℕ) (i : ℕ) → i < length l → Memᴰ (get_or l i 0) l
member_at [] i more = absurd (not-suc-le-zero more)
member_at (x ∷ xs) zero more = Memᴰ.head refl
member_at (x ∷ xs) (suc i) more = Memᴰ.tail (member_at xs i (le_of_suc-le-suc more))

-- What is picked of the variables can be printed.
pub picked_small : (f : ℕ → Bool) (n : ℕ) → n ≤ 4096 → Small (picked f n)
picked_small f n few =
    record {
      few = let most = picked_most f n in omega arith;
      short = λ i more. let inside = (picked_flag f n (get_or (picked f n) i 0) (member_at (picked f n) i more)).1 in omega arith;
    }

-- What is stored in front of a table stands there.
front : (before : List ℕ) {after : List ℕ} {found : ℕ} (list : List ℕ) → found ≡ length list → length list ≤ length before
    → after ≡ sets before 0 list → take found after ≡ list
front before {found = found} list counted room stored =
    ap (take found) (stored ∙ sets-eq list before 0 (omega arith)) ∙ take_at list (drop (0 + length list) before) found (sym counted)

-- There is room for what is picked in a table of 4,096 rows, and nothing is picked before the first number ...
pub picked_room : (f : ℕ → Bool) (n : ℕ) → n ≤ 4096
    → ((0 ≤ n) × NoneUpto f 0) × (0 + length (picked f n) ≤ length (replicate {A = ℕ} 4096 0))
picked_room f n few =
    let most = picked_most f n in
    let long = length-replicate {A = ℕ} 4096 0 in
    ((omega arith, λ v low high. absurd (omega arith)), omega arith)

-- ... so that it stands in front of that table once it is written.
pub picked_front : (f : ℕ → Bool) (n : ℕ) → n ≤ 4096 → {after : List ℕ} {end : ℕ} → end ≡ 0 + length (picked f n)
    → after ≡ sets (replicate 4096 0) 0 (picked f n) → (end ≤ length after) × (take end after ≡ picked f n)
picked_front f n few {after} {end} counted stored =
    let most = picked_most f n in
    let long = length-replicate {A = ℕ} 4096 0 in
    let size = ap length stored ∙ length-sets (replicate 4096 0) 0 (picked f n) in
    (omega arith, front (replicate 4096 0) {found = end} (picked f n) (omega arith) (omega arith) stored)

-- So does a line of which something is said ...
pub line_is : {P : List ℕ → Type 0} {line before after : List ℕ} {end : ℕ} → P line → LineIn line before after end → InFront P before after end
line_is {P} p (bytes, is, size, left) = (bytes, subst P (sym is) p, size, left)

-- ... and it ends within its buffer, which stays as long as it was.
pub line_within : (line before : List ℕ) {after : List ℕ} {end : ℕ} → end ≡ length line → after ≡ overwritten line before → length after ≡ length before
    → end ≤ length after
line_within line before size left same =
    let room = overwritten_room line before (sym (ap length left) ∙ same) in
    omega arith

-- Where all bytes of a buffer up to the end of such a line are written, the line is.
pub line_sent : (a b : Option (List ℕ)) (line before : List ℕ) {after : List ℕ} {end : ℕ} → end ≡ length line → after ≡ overwritten line before
    → Appends a b (take end after) → Appends a b line
line_sent a b line before size left = subst (Appends a b) (ap₂ take size left ∙ overwritten_front line before)

-- A run of so many numbers, few and small, written into a table of 4,096 rows.
module _ (links : List ℕ) (head size : ℕ) (own : (list : List ℕ) × Run links head list × (size ≡ length list) × Small list) {table : List ℕ}
    (written : (list : List ℕ) × Run links head list × (table ≡ sets (replicate 4096 0) 0 list)) where
  -- It fits the table ...
  pub run_room : size ≤ length table
  run_room =
      let (_, _, counts, small) = own in
      let (other, _, stored) = written in
      let few = small.few in
      let long = length-replicate {A = ℕ} 4096 0 in
      let same = ap length stored ∙ length-sets (replicate 4096 0) 0 other in
      omega arith

  -- ... and stands in front of it, whole ...
  pub run_front : (list : List ℕ) → Run links head list → take size table ≡ list
  run_front list run =
      let (first, runs, counts, small) = own in
      let (other, way, stored) = written in
      let few = small.few in
      let long = length-replicate {A = ℕ} 4096 0 in
      let same = ap length (run_one links head first list runs run) in
      let all = stored ∙ ap (sets (replicate 4096 0) 0) (run_one links head other list way run) in
      front (replicate 4096 0) {found = size} list (omega arith) (omega arith) all

  -- ... and can be printed.
  pub run_small : Small (take size table)
  run_small = let (list, run, _, small) = own in subst Small (sym (run_front list run)) small

-- A list of one small number at most, as of a sole entry point, can be printed ...
pub sole_small : {list : List ℕ} → length list ≤ 1 → get_or list 0 0 ≤ 4096 → Small list
sole_small {list} few low = record { few = omega arith; short = λ i more. at i more }
  where
    at : (i : ℕ) → i < length list → get_or list i 0 < 100000
    at zero more = omega arith
    at (suc i) more = absurd (omega arith)

-- ... and that of a sole entry point has it alone ...
sole_listed : (top : ℕ) → top ≢ 0 → Listed (Is top) (top ∷ [])
sole_listed top some =
    record {
      ascending = (λ b m. absurd (Memᴰ.not-nil m), tt);
      each = λ v m. let q = Memᴰ.eq_of_singleton m in (q, λ z. some (sym q ∙ z));
      all = λ v p. Memᴰ.head p.0;
    }

-- ... and so has what is picked where only its flag is set.
pub sole_picked : (n : ℕ) (tops : List ℕ) (top : ℕ) → top ≢ 0 → n ≤ 4096 → top ≤ n → top ∷ [] ≡ picked (pick Points n (only top) tops) n
unfolding pick
sole_picked n tops top some few low =
    let flagged : (e : ℕ) → Is top e → get_or (only top) e false ≡ true =
    λ e p. ap (λ t. get_or (only t) e false) (sym p.0) ∙ only_own e p.1 (let q = p.0 in omega arith) in
    listed_one {P = Is top} (top ∷ []) (picked (pick Points n (only top) tops) n) (sole_listed top some)
    (picked_listed (pick Points n (only top) tops) n (λ e p. let q = p.0 in let some = p.1 in (omega arith, omega arith))
    (λ e a b. (λ t. let (q, some, _) = only_set top e t in (q, some), flagged e)))

-- Where no flag is set, none is picked.
pub none_picked : (n : ℕ) (tops : List ℕ) → picked (pick Points n (only 0) tops) n ≡ []
unfolding pick
none_picked n tops =
    picked_none (pick Points n (only 0) tops) n (λ v low high. (not-eq-not {b = false}).0 (λ t. let (q, some, _) = only_set 0 v t in some q))
