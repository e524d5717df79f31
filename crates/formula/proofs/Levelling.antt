-- How one pass over an accepted prefix finds what the blocks say of every variable.
use Prim.Native.Nat.{ℕ, zero, suc, ◌≤◌, ◌<◌, ◌+◌, ◌-◌}
use mathlib.Core.Path.{◌≡◌, refl, sym, ap, ◌∙◌}
use mathlib.Core.Bool.{Bool, true, false, cond}
use mathlib.Core.List.{List, [], ◌∷◌}
use mathlib.Core.Logic.{◌≢◌}
use native.Mathlib.Nat.{not-suc-le-zero, le_of_suc-le-suc}
use native.Mathlib.Decide.{ℕ_discrete}
use native.Mathlib.Numerals.{add-one}
use native.Mathlib.Omega.{arith}
use borrow.Author.Tests.{eq-eqb, ne_eqb}
use lib.Dec.{eqb}
use lib.ListN.{length, get_or, set, drop, length-drop, drop_of_length-le, length-set}
use lib.Seq.{drop-cons, get_or-drop, get_or-set_same, get_or-set_other}
use Rattle.terms.proofs.Common.{by_test}
use Rattle.formula.specs.Tables.{at, opens, cut, push}
use Rattle.formula.specs.Causes.{ends_inside, no_mark, outside}
use Rattle.formula.specs.Meaning.{is_zero, blocks, mark_of, has, names, number_from, first_mark, free_level_of, universal_of, level, is_universal}
use Rattle.formula.specs.InnerLevels.{free_level}
use Rattle.formula.specs.InnerLevels.{SoundPrefix, LevelRows, Levelled}
use Rattle.formula.proofs.Blocked.{Once, named_once}

-- a list with a 0 in it holds a list that the 0 closes
cut_some : (m : ℕ) (xs : List ℕ) → m < length xs → get_or xs m 0 ≡ 0 → (list : List ℕ) × (lists : List (List ℕ)) × (cut is_zero xs ≡ list ∷ lists)
unfolding cut
cut_some m [] l z = absurd (not-suc-le-zero l)
cut_some zero (x ∷ xs) l z = ([], cut is_zero xs, ap (λ b. cond b ([] ∷ cut is_zero xs) (push x (cut is_zero xs))) (eq-eqb x 0 z))
cut_some (suc m) (x ∷ xs) l z = let (list, lists, q) = cut_some m xs (le_of_suc-le-suc l) z in front (eqb x 0) list lists q
  where
    front : (b : Bool) (list : List ℕ) (lists : List (List ℕ)) → cut is_zero xs ≡ list ∷ lists
        → (list' : List ℕ) × (lists' : List (List ℕ)) × (cond b ([] ∷ cut is_zero xs) (push x (cut is_zero xs)) ≡ list' ∷ lists')
    front true list lists q = ([], cut is_zero xs, refl)
    front false list lists q = (x ∷ list, lists, ap (push x) q)

-- What the last block that names v says of it, by the block's number and its mark; `found` is what is said before, where no block names v.
-- Blocks are numbered from `number` on.
abbrev said_of : {A : Type 0} → (ℕ → ℕ → A) → List (List ℕ) → ℕ → A → ℕ → A
said_of says [] number found v = found
said_of says (block ∷ rest) number found v = said_of says rest (suc number) (cond (names block v) (says number (mark_of block)) found) v

-- what is said of a variable: the number of its block, and whether that is universal
abbrev its_level : ℕ → ℕ → ℕ
its_level number mark = number

abbrev its_kind : ℕ → ℕ → Bool
its_kind number mark = eqb mark 2

-- Where blocks do not name v nothing more is said; where no two name it, what is said is its level, and whether it is universal.
said_none : {A : Type 0} (says : ℕ → ℕ → A) (bs : List (List ℕ)) (number : ℕ) (found : A) (v : ℕ) → ((j : ℕ) → names (get_or bs j []) v ≡ false)
    → said_of says bs number found v ≡ found
said_none says [] number found v none = refl
said_none says (block ∷ rest) number found v none =
    ap (λ b. said_of says rest (suc number) (cond b (says number (mark_of block)) found) v) (none 0)
    ∙ said_none says rest (suc number) found v (λ j. none (suc j))

module _ (block : List ℕ) (rest : List (List ℕ)) (v : ℕ) (once : Once (block ∷ rest) v) where
  once_later : Once rest v
  once_later i j l = once (suc i) (suc j) (omega arith)

  no_later : names block v ≡ true → (j : ℕ) → names (get_or rest j []) v ≡ false
  no_later t j = by_test (names (get_or rest j []) v) (λ later. absurd (once 0 (suc j) (omega arith) t later)) (λ f. f)

said_number : (bs : List (List ℕ)) (k free v : ℕ) → Once bs v → said_of its_level bs k free v ≡ number_from k bs free v
said_number [] k free v once = refl
said_number (block ∷ rest) k free v once =
    by_test (names block v)
    (λ t. ap (λ b. said_of its_level rest (suc k) (cond b k free) v) t ∙ said_none its_level rest (suc k) k v (no_later block rest v once t)
    ∙ sym (ap (λ b. cond b k (number_from (suc k) rest free v)) t))
    (λ f. ap (λ b. said_of its_level rest (suc k) (cond b k free) v) f ∙ said_number rest (suc k) free v (once_later block rest v once)
    ∙ sym (ap (λ b. cond b k (number_from (suc k) rest free v)) f))

said_kind : (bs : List (List ℕ)) (k v : ℕ) → Once bs v → said_of its_kind bs k false v ≡ universal_of bs v
said_kind [] k v once = refl
said_kind (block ∷ rest) k v once =
    by_test (names block v)
    (λ t. ap (λ b. said_of its_kind rest (suc k) (cond b (eqb (mark_of block) 2) false) v) t
    ∙ said_none its_kind rest (suc k) (eqb (mark_of block) 2) v (no_later block rest v once t)
    ∙ sym (ap (λ b. cond b (eqb (mark_of block) 2) (universal_of rest v)) t))
    (λ f. ap (λ b. said_of its_kind rest (suc k) (cond b (eqb (mark_of block) 2) false) v) f ∙ said_kind rest (suc k) v (once_later block rest v once)
    ∙ sym (ap (λ b. cond b (eqb (mark_of block) 2) (universal_of rest v)) f))

module _ {A : Type 0} (says : ℕ → ℕ → A) where
  -- What is said of v from inside a block with the number b and the mark m, where the lists cs are what is left: the first is the rest of the block.
  abbrev pub said_inside : List (List ℕ) → ℕ → ℕ → A → ℕ → A
  said_inside [] b m found v = found
  said_inside (rest ∷ later) b m found v = said_of says later (suc b) (cond (has rest v) (says b m) found) v

  -- What is said of v from any place, by whether a block may open there; b blocks are opened so far.
  abbrev pub said_from : Bool → List (List ℕ) → ℕ → ℕ → A → ℕ → A
  said_from true cs b m found v = said_of says cs (suc b) found v
  said_from false cs b m found v = said_inside cs b m found v

  -- What is said of v from entry i of a prefix on.
  abbrev pub said_at : List ℕ → ℕ → Bool → ℕ → ℕ → A → ℕ → A
  said_at es i opening b m found v = said_from opening (cut is_zero (drop i es)) b m found v

  -- At the end nothing more is said.
  pub said_end : (opening : Bool) (b m : ℕ) (found : A) (v : ℕ) → said_from opening [] b m found v ≡ found
  said_end true b m found v = refl
  said_end false b m found v = refl

  -- A mark opens a block.
  pub said_mark : (m : ℕ) (r : List ℕ) (b m₀ : ℕ) (found : A) (v : ℕ) → m ≢ 0
      → said_from true (cut is_zero (m ∷ r)) b m₀ found v ≡ said_from false (cut is_zero r) (suc b) m found v
  unfolding cut
  said_mark m r b m₀ found v some =
      ap (λ z. said_of says (cond z ([] ∷ cut is_zero r) (push m (cut is_zero r))) (suc b) found v) (ne_eqb m 0 some) ∙ opened (cut is_zero r)
    where
      opened : (cs : List (List ℕ)) → said_of says (push m cs) (suc b) found v ≡ said_inside cs (suc b) m found v
      opened [] = refl
      opened (rest ∷ later) = refl

  -- A 0 closes it.
  pub said_close : (w : ℕ) (r : List ℕ) (b m : ℕ) (found : A) (v : ℕ) → w ≡ 0
      → said_from false (cut is_zero (w ∷ r)) b m found v ≡ said_from true (cut is_zero r) b m found v
  unfolding cut
  said_close w r b m found v none = ap (λ z. said_inside (cond z ([] ∷ cut is_zero r) (push w (cut is_zero r))) b m found v) (eq-eqb w 0 none)

  -- A variable is said to be of the block, which a later 0 closes.
  pub said_variable : (w : ℕ) (r rest : List ℕ) (later : List (List ℕ)) (b m : ℕ) (found : A) (v : ℕ) → w ≢ 0 → cut is_zero r ≡ rest ∷ later
      → said_from false (cut is_zero (w ∷ r)) b m found v ≡ said_from false (cut is_zero r) b m (cond (eqb w v) (says b m) found) v
  unfolding cut
  said_variable w r rest later b m found v some closed =
      ap (λ z. said_inside (cond z ([] ∷ cut is_zero r) (push w (cut is_zero r))) b m found v) (ne_eqb w 0 some)
      ∙ ap (λ cs. said_inside (push w cs) b m found v) closed
      ∙ ap (λ f. said_of says later (suc b) f v) (either (eqb w v) (has rest v))
      ∙ sym (ap (λ cs. said_inside cs b m (cond (eqb w v) (says b m) found) v) closed)
    where
      either : (e h : Bool) → cond (cond e true h) (says b m) found ≡ cond h (says b m) (cond e (says b m) found)
      either true true = refl
      either true false = refl
      either false h = refl

-- a row after one store
pub get_d_set : {A : Type 0} (rows : List A) (w v : ℕ) (x d : A) → w < length rows → get_or (set rows w x) v d ≡ cond (eqb w v) x (get_or rows v d)
get_d_set rows w v x d l = by_dec (ℕ_discrete v w)
  where
    by_dec : Dec (v ≡ w) → get_or (set rows w x) v d ≡ cond (eqb w v) x (get_or rows v d)
    by_dec (yes q) = ap (λ u. get_or (set rows w x) u d) q ∙ get_or-set_same rows w x d l ∙ sym (ap (λ b. cond b x (get_or rows v d)) (eq-eqb w v (sym q)))
    by_dec (no other) = get_or-set_other rows w v x d other ∙ sym (ap (λ b. cond b x (get_or rows v d)) (ne_eqb w v (λ q. other (sym q))))

-- What an accepted prefix has at each place.
module _ {n : ℕ} {es : List ℕ} (sound : SoundPrefix n es) (i : ℕ) (more : i < length es) where
  pub mark_there : opens es i ≡ true → at es i ≢ 0
  mark_there open' z = sound.faultless 4 i (no_mark refl (more, open') (λ q. omega arith) (λ q. omega arith))

  pub variable_small : opens es i ≡ false → at es i ≢ 0 → at es i < 4097
  variable_small shut some =
      let few = sound.few in
      let inside : ¬ (n < at es i) = λ over. sound.faultless 7 i (outside refl (more, shut, some) over) in
      omega arith

  -- after an entry that is no 0 comes the 0 that closes its list
  pub closed_after : at es i ≢ 0 → (list : List ℕ) × (lists : List (List ℕ)) × (cut is_zero (drop (suc i) es) ≡ list ∷ lists)
  closed_after some = by_last (ℕ_discrete (at es (length es - 1)) 0)
    where
      by_last : Dec (at es (length es - 1) ≡ 0) → (list : List ℕ) × (lists : List (List ℕ)) × (cut is_zero (drop (suc i) es) ≡ list ∷ lists)
      by_last (yes z) =
          let apart : i ≢ length es - 1 = λ q. some (ap (at es) q ∙ z) in
          let there : suc i + (length es - 1 - suc i) ≡ length es - 1 = omega arith in
          cut_some (length es - 1 - suc i) (drop (suc i) es) (rw (length-drop (suc i) es) (omega arith))
          (get_or-drop (suc i) es (length es - 1 - suc i) 0 ∙ ap (at es) there ∙ z)
      by_last (no some') = absurd (sound.faultless 3 (length es) (ends_inside refl refl (omega arith, some')))

-- The free level is read off the first mark.
pub free_of_none : (es : List ℕ) → length es ≡ 0 → 0 ≡ free_level es
unfolding free_level blocks cut
free_of_none [] q = refl
free_of_none (e ∷ es) q = absurd (omega arith)

first_of : (e : ℕ) (es list : List ℕ) (lists : List (List ℕ)) → e ≢ 0 → cut is_zero es ≡ list ∷ lists → first_mark (cut is_zero (e ∷ es)) ≡ e
unfolding cut
first_of e es list lists some q =
    ap (λ z. first_mark (cond z ([] ∷ cut is_zero es) (push e (cut is_zero es)))) (ne_eqb e 0 some) ∙ ap (λ cs. first_mark (push e cs)) q

pub free_of_first : {n : ℕ} (es : List ℕ) → SoundPrefix n es → length es ≢ 0 → cond (eqb (at es 0) 1) 1 0 ≡ free_level es
unfolding free_level blocks
free_of_first [] sound some = absurd (some refl)
free_of_first (e ∷ es) sound some =
    let nonzero : e ≢ 0 = mark_there sound 0 (omega arith) refl in
    let (list, lists, q) = closed_after sound 0 (omega arith) nonzero in
    sym (ap (λ m. cond (eqb m 1) 1 0) (first_of e es list lists nonzero q))

-- The tables hold what the blocks before entry i say of each variable; that, with what the rest says, is what all blocks say.
pub record Levelling (es : List ℕ) (i : ℕ) (opening : Bool) (mark block : ℕ) (levels : List ℕ) (universals : List Bool) : Type 0 where
  pub within : i ≤ length es
  pub opening_is : opening ≡ opens es i
  pub few : block ≤ i
  pub sizes : LevelRows levels universals
  pub level_so : (v : ℕ) → v < 4097 → said_at its_level es i opening block mark (get_or levels v 0) v ≡ level es v
  pub universal_so : (v : ℕ) → v < 4097 → said_at its_kind es i opening block mark (get_or universals v false) v ≡ is_universal es v

pub level_none : {n : ℕ} {es : List ℕ} → SoundPrefix n es → (levels : List ℕ) (universals : List Bool) → LevelRows levels universals
    → ((v : ℕ) → v < 4097 → get_or levels v 0 ≡ free_level es) → ((v : ℕ) → v < 4097 → get_or universals v false ≡ false)
    → Levelling es 0 true 0 0 levels universals
unfolding level is_universal free_level blocks
level_none {es = es} sound levels universals sizes free none =
    record {
      within = omega arith;
      opening_is = refl;
      few = omega arith;
      sizes = sizes;
      level_so = λ v l. ap (λ f. said_of its_level (cut is_zero es) 1 f v) (free v l)
          ∙ said_number (cut is_zero es) 1 (free_level_of (cut is_zero es)) v (named_once sound v);
      universal_so = λ v l. ap (λ f. said_of its_kind (cut is_zero es) 1 f v) (none v l) ∙ said_kind (cut is_zero es) 1 v (named_once sound v);
    }

module _ {n : ℕ} {es : List ℕ} (sound : SoundPrefix n es) {i : ℕ} {opening : Bool} {mark block : ℕ} {levels : List ℕ} {universals : List Bool}
    (s : Levelling es i opening mark block levels universals) (more : i < length es) where
  -- what is said from this entry on, by whether a block may open here
  here : {A : Type 0} (says : ℕ → ℕ → A) (o : Bool) (found : A) (v : ℕ) → opening ≡ o
      → said_at says es i opening block mark found v ≡ said_from says o (cut is_zero (at es i ∷ drop (suc i) es)) block mark found v
  here says o found v q =
      ap (λ o. said_at says es i o block mark found v) q ∙ ap (λ r. said_from says o (cut is_zero r) block mark found v) (drop-cons es i 0 more)

  pub level_mark : opening ≡ true → Levelling es (i + 1) false (at es i) (block + 1) levels universals
  level_mark open' =
      let some = mark_there sound i more (sym s.opening_is ∙ open') in
      let few = s.few in
      rw (add-one i, add-one block)
      record {
        within = more;
        opening_is = sym (ne_eqb (at es i) 0 some);
        few = omega arith;
        sizes = s.sizes;
        level_so = λ v l. said its_level v (get_or levels v 0) some ∙ s.level_so v l;
        universal_so = λ v l. said its_kind v (get_or universals v false) some ∙ s.universal_so v l;
      }
    where
      said : {A : Type 0} (says : ℕ → ℕ → A) (v : ℕ) (found : A) → at es i ≢ 0
          → said_at says es (suc i) false (suc block) (at es i) found v ≡ said_at says es i opening block mark found v
      said says v found some = sym (here says true found v open' ∙ said_mark says (at es i) (drop (suc i) es) block mark found v some)

  pub level_close : opening ≡ false → at es i ≡ 0 → Levelling es (i + 1) true mark block levels universals
  level_close shut none =
      let few = s.few in
      rw (add-one i)
      record {
        within = more;
        opening_is = sym (eq-eqb (at es i) 0 none);
        few = omega arith;
        sizes = s.sizes;
        level_so = λ v l. said its_level v (get_or levels v 0) ∙ s.level_so v l;
        universal_so = λ v l. said its_kind v (get_or universals v false) ∙ s.universal_so v l;
      }
    where
      said : {A : Type 0} (says : ℕ → ℕ → A) (v : ℕ) (found : A)
          → said_at says es (suc i) true block mark found v ≡ said_at says es i opening block mark found v
      said says v found = sym (here says false found v shut ∙ said_close says (at es i) (drop (suc i) es) block mark found v none)

  pub level_variable : opening ≡ false → at es i ≢ 0
      → Levelling es (i + 1) opening mark block (set levels (at es i) block) (set universals (at es i) (eqb mark 2))
  level_variable shut some =
      let few = s.few in
      let small = variable_small sound i more (sym s.opening_is ∙ shut) some in
      let (rest, later, closed) = closed_after sound i more some in
      let level : (v : ℕ) → get_or (set levels (at es i) block) v 0 ≡ cond (eqb (at es i) v) block (get_or levels v 0) =
      λ v. get_d_set levels (at es i) v block 0 (rw s.sizes.0 small) in
      let kind : (v : ℕ) → get_or (set universals (at es i) (eqb mark 2)) v false ≡ cond (eqb (at es i) v) (eqb mark 2) (get_or universals v false) =
      λ v. get_d_set universals (at es i) v (eqb mark 2) false (rw s.sizes.1 small) in
      rw (add-one i)
      record {
        within = more;
        opening_is = shut ∙ sym (ne_eqb (at es i) 0 some);
        few = omega arith;
        sizes = (length-set levels (at es i) block ∙ s.sizes.0, length-set universals (at es i) (eqb mark 2) ∙ s.sizes.1);
        level_so = λ v l. said its_level v (get_or levels v 0) (level v) rest later closed ∙ s.level_so v l;
        universal_so = λ v l. said its_kind v (get_or universals v false) (kind v) rest later closed ∙ s.universal_so v l;
      }
    where
      said : {A : Type 0} (says : ℕ → ℕ → A) (v : ℕ) (found : A) {stored : A} → stored ≡ cond (eqb (at es i) v) (says block mark) found
          → (rest : List ℕ) (later : List (List ℕ)) → cut is_zero (drop (suc i) es) ≡ rest ∷ later
          → said_at says es (suc i) opening block mark stored v ≡ said_at says es i opening block mark found v
      said says v found {stored} q rest later closed =
          ap (λ o. said_at says es (suc i) o block mark stored v) shut
          ∙ ap (λ f. said_at says es (suc i) false block mark f v) q
          ∙ sym (here says false found v shut ∙ said_variable says (at es i) (drop (suc i) es) rest later block mark found v some closed)

-- At the end the tables hold what all blocks say.
pub levelled : {es : List ℕ} {i : ℕ} {opening : Bool} {mark block : ℕ} {levels : List ℕ} {universals : List Bool}
    → Levelling es i opening mark block levels universals → length es ≤ i → Levelled es levels universals
unfolding cut
levelled {es} {i} {opening} {mark} {block} {levels} {universals} s done =
    record {
      sizes = s.sizes;
      level_is = λ v l. sym (ended its_level v (get_or levels v 0)) ∙ s.level_so v (omega arith);
      universal_is = λ v l. sym (ended its_kind v (get_or universals v false)) ∙ s.universal_so v (omega arith);
    }
  where
    ended : {A : Type 0} (says : ℕ → ℕ → A) (v : ℕ) (found : A) → said_at says es i opening block mark found v ≡ found
    ended says v found =
        ap (λ r. said_from says opening (cut is_zero r) block mark found v) (drop_of_length-le es done) ∙ said_end says opening block mark found v
