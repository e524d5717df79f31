-- The order of the variables that blocks name, which joining leaves as it is.
use Prim.Native.Nat.{ℕ}
use mathlib.Core.Path.{◌≡◌, refl, sym, ◌∙◌, ap}
use mathlib.Core.List.{List, [], ◌∷◌, ◌++◌, append_assoc, Memᴰ}
use mathlib.Core.List.Memᴰ
use mathlib.Core.Logic.{⊎_elim}
use borrow.Author.Tests.{eqb-true}
use lib.Dec.{eqb}
use lib.ListN.{drop}
use Rattle.formula.specs.Meaning.{mark_of}
use Rattle.formula_rules.specs.Joined.{in_front, joined_blocks}
use Rattle.forest_theory.proofs.Choice.{choice}
use Rattle.truth.specs.Game.{Earlier, now, after, Distinct}

-- all that blocks name, in order
unfoldable pub order : List (List ℕ) → List ℕ
order [] = []
order (b ∷ bs) = drop 1 b ++ order bs

-- v is named by a block with the mark m
pub data Marked (m v : ℕ) : List (List ℕ) → Type 0 where
  mine : {b : List ℕ} {bs : List (List ℕ)} → mark_of b ≡ m → Memᴰ v (drop 1 b) → Marked m v (b ∷ bs)
  further : {b : List ℕ} {bs : List (List ℕ)} → Marked m v bs → Marked m v (b ∷ bs)

pub marked_in : {m v : ℕ} {bs : List (List ℕ)} → Marked m v bs → Memᴰ v (order bs)
unfolding order
marked_in (mine {bs = bs} q i) = Memᴰ.append_left (order bs) i
marked_in (further {b = b} k) = Memᴰ.append_right (drop 1 b) (marked_in k)

pub in_marked : {v : ℕ} (bs : List (List ℕ)) → Memᴰ v (order bs) → (m : ℕ) × Marked m v bs
unfolding order
in_marked [] i = absurd (Memᴰ.not-nil i)
in_marked (b ∷ bs) i =
    ⊎_elim (λ j. (mark_of b, mine refl j)) (λ j. let (m, k) = in_marked bs j in (m, further k)) (Memᴰ.append_cases (drop 1 b) i)

-- Turns in two parts.
pub distinct_apart : {v : ℕ} (p : List ℕ) {q : List ℕ} → Distinct (p ++ q) → Memᴰ v p → Memᴰ v q → ⊥
distinct_apart [] d i j = Memᴰ.not-nil i
distinct_apart (w ∷ p) d i j =
    ⊎_elim (λ r. d.0 (Memᴰ.append_right p (Memᴰ.cast (sym r) j))) (λ k. distinct_apart p d.1 k j) (Memᴰ.cases_cons i)

pub distinct_right : (p q : List ℕ) → Distinct (p ++ q) → Distinct q
distinct_right [] q d = d
distinct_right (w ∷ p) q d = distinct_right p q d.1

pub data Parts (a c : ℕ) (p q : List ℕ) : Type 0 where
  left : Memᴰ a p → Memᴰ c p → Parts a c p q
  across : Memᴰ a p → Memᴰ c q → Parts a c p q
  right : Earlier a c q → Parts a c p q

pub parts : {a c : ℕ} (p : List ℕ) {q : List ℕ} → Earlier a c (p ++ q) → Parts a c p q
parts [] e = right e
parts (w ∷ p) (now r i) =
    ⊎_elim (λ j. left (Memᴰ.head (sym r)) (Memᴰ.tail j)) (λ j. across (Memᴰ.head (sym r)) j) (Memᴰ.append_cases p i)
parts {a} {c} (w ∷ p) {q} (after e) = go (parts p e)
  where
    go : Parts a c p q → Parts a c (w ∷ p) q
    go (left i j) = left (Memᴰ.tail i) (Memᴰ.tail j)
    go (across i j) = across (Memᴰ.tail i) j
    go (right e) = right e

pub earlier_across : {a c : ℕ} {p : List ℕ} (q : List ℕ) → Memᴰ a p → Memᴰ c q → Earlier a c (p ++ q)
earlier_across q (Memᴰ.head {xs = p} e) j = now (sym e) (Memᴰ.append_right p j)
earlier_across q (Memᴰ.tail i) j = after (earlier_across q i j)

pub earlier_right : {a c : ℕ} (p : List ℕ) {q : List ℕ} → Earlier a c q → Earlier a c (p ++ q)
earlier_right [] e = e
earlier_right (w ∷ p) e = after (earlier_right p e)

-- Joining keeps the order, and the mark by which each variable is named.
order_front : (b : List ℕ) (bs : List (List ℕ)) → order (in_front b bs) ≡ drop 1 b ++ order bs
unfolding order in_front
order_front [] bs = refl
order_front (mark ∷ []) bs = refl
order_front (mark ∷ v ∷ vs) [] = refl
order_front (mark ∷ v ∷ vs) (next ∷ bs) =
    choice (λ (l : List (List ℕ)). order l ≡ v ∷ (vs ++ (drop 1 next ++ order bs))) (eqb mark (mark_of next))
    (λ t. ap (λ (l : List ℕ). v ∷ l) (append_assoc vs (drop 1 next) (order bs))) (λ f. refl)

pub order_joined : (bs : List (List ℕ)) → order (joined_blocks bs) ≡ order bs
unfolding order joined_blocks
order_joined [] = refl
order_joined (b ∷ bs) = order_front b (joined_blocks bs) ∙ ap (λ (l : List ℕ). drop 1 b ++ l) (order_joined bs)

front_mine : {m v : ℕ} (b : List ℕ) (bs : List (List ℕ)) → mark_of b ≡ m → Memᴰ v (drop 1 b) → Marked m v (in_front b bs)
unfolding in_front
front_mine [] bs q i = absurd (Memᴰ.not-nil i)
front_mine (mark ∷ []) bs q i = absurd (Memᴰ.not-nil i)
front_mine (mark ∷ w ∷ ws) [] q i = mine q i
front_mine {m} {v} (mark ∷ w ∷ ws) (next ∷ bs) q i =
    choice (Marked m v) (eqb mark (mark_of next)) (λ t. mine q (Memᴰ.append_left (drop 1 next) i)) (λ f. mine q i)

front_further : {m v : ℕ} (b : List ℕ) (bs : List (List ℕ)) → Marked m v bs → Marked m v (in_front b bs)
unfolding in_front
front_further [] bs k = k
front_further (mark ∷ []) bs k = k
front_further (mark ∷ w ∷ ws) [] k = further k
front_further {m} {v} (mark ∷ w ∷ ws) (next ∷ bs) k =
    choice (Marked m v) (eqb mark (mark_of next)) (λ t. go (eqb-true mark (mark_of next) t) k) (λ f. further k)
  where
    go : mark ≡ mark_of next → Marked m v (next ∷ bs) → Marked m v ((mark ∷ w ∷ (ws ++ drop 1 next)) ∷ bs)
    go e (mine q i) = mine (e ∙ q) (Memᴰ.append_right (w ∷ ws) i)
    go e (further k) = further k

pub marked_joined : {m v : ℕ} {bs : List (List ℕ)} → Marked m v bs → Marked m v (joined_blocks bs)
unfolding joined_blocks
marked_joined (mine {b = b} {bs = bs} q i) = front_mine b (joined_blocks bs) q i
marked_joined (further {b = b} {bs = bs} k) = front_further b (joined_blocks bs) (marked_joined k)
