-- Whose list has x, by the lists of a table and by its places, is the same (given_at, given_by), where every list is closed.
use Prim.Native.Nat.{ℕ, zero, suc, ◌+◌, ◌-◌, ◌≤◌, ◌<◌}
use mathlib.Core.Path.{◌≡◌, refl, sym, ap, ◌∙◌, subst}
use mathlib.Core.Bool.{Bool, true, false, cond}
use mathlib.Core.List.Memᴰ
use mathlib.Core.List.{List, [], ◌∷◌, Memᴰ}
use mathlib.Core.Logic.{⊎_elim, ◌≢◌, by_cases}
use native.Mathlib.Decide.{ℕ_discrete, dec_lt}
use native.Mathlib.Omega.{arith}
use borrow.Author.Tests.{eq-eqb, ne_eqb, eqb-true, eqb-false}
use lib.ListN.{length, drop, length-drop, drop_of_length-le}
use lib.Seq.{drop-cons, get_or-drop}
use Rattle.formula.specs.Tables.{at, push, cut, opens, EndsInside}
use Rattle.formula.specs.Meaning.{is_zero}
use Rattle.dqbf_lists.specs.Lists.{lists, Given}
use Rattle.dqbf_lists.specs.Inner.{GivenAt}

-- The lists of a table by its first entry: it closes an empty list, or stands in front of the first.
lists_zero : (e : ℕ) (more : List ℕ) → e ≡ 0 → lists (e ∷ more) ≡ [] ∷ lists more
unfolding lists cut
lists_zero e more z = ap (λ (b : Bool). cond b ([] ∷ cut is_zero more) (push e (cut is_zero more))) (eq-eqb e 0 z)

lists_some : (e : ℕ) (more : List ℕ) → e ≢ 0 → lists (e ∷ more) ≡ push e (lists more)
unfolding lists cut
lists_some e more some = ap (λ (b : Bool). cond b ([] ∷ cut is_zero more) (push e (cut is_zero more))) (ne_eqb e 0 some)

pub lists_push : (e : ℕ) (more list : List ℕ) (later : List (List ℕ)) → e ≢ 0 → lists more ≡ list ∷ later → lists (e ∷ more) ≡ (e ∷ list) ∷ later
lists_push e more list later some is = lists_some e more some ∙ ap (push e) is

-- a list that begins with a number
record Begins (e : ℕ) (more list : List ℕ) (later : List (List ℕ)) : Type 0 where
  some : e ≢ 0
  others : List ℕ
  list_is : list ≡ e ∷ others
  rest : lists more ≡ others ∷ later

begins : (e : ℕ) (more list : List ℕ) (later : List (List ℕ)) → e ≢ 0 → lists (e ∷ more) ≡ list ∷ later → Begins e more list later
begins e more list later some is = go (lists more) refl
  where
    go : (ls : List (List ℕ)) → lists more ≡ ls → Begins e more list later
    go [] q =
        let none : [] ≡ list ∷ later = sym (lists_some e more some ∙ ap (push e) q) ∙ is in
        let no : ◌≡◌ {A = ℕ} 0 1 = cc in
        let no : ⊥ = omega arith in
        absurd no
    go (others ∷ ls) q =
        let both : (e ∷ others) ∷ ls ≡ list ∷ later = sym (lists_push e more others ls some q) ∙ is in
        let same : ls ≡ later = cc in
        record { some = some; others = others; list_is = cc; rest = q ∙ ap (λ (x : List (List ℕ)). others ∷ x) same }

-- x stands before the first 0 of these entries
record Early (entries : List ℕ) (x : ℕ) : Type 0 where
  place : ℕ
  within : place < length entries
  is : at entries place ≡ x
  before : (c : ℕ) → c ≤ place → at entries c ≢ 0

-- That is, x is in the first list.
early_in : {x : ℕ} (entries list : List ℕ) (later : List (List ℕ)) (place : ℕ) → place < length entries → at entries place ≡ x
    → ((c : ℕ) → c ≤ place → at entries c ≢ 0) → lists entries ≡ list ∷ later → Memᴰ x list
early_in [] list later place within is before are = let no : ⊥ = omega arith in absurd no
early_in {x} (e ∷ more) list later zero within is before are =
    let b = begins e more list later (before 0 (omega arith)) are in subst (Memᴰ x) (sym b.list_is) (Memᴰ.head (sym is))
early_in {x} (e ∷ more) list later (suc place) within is before are =
    let b = begins e more list later (before 0 (omega arith)) are in
    subst (Memᴰ x) (sym b.list_is)
    (Memᴰ.tail (early_in more b.others later place (omega arith) is (λ c l. before (suc c) (omega arith)) b.rest))

in_early : {x : ℕ} (entries list : List ℕ) (later : List (List ℕ)) → lists entries ≡ list ∷ later → Memᴰ x list → Early entries x
unfolding lists cut
in_early [] list later are m = let no : ◌≡◌ {A = ℕ} 0 1 = cc in let no : ⊥ = omega arith in absurd no
in_early {x} (e ∷ more) list later are m = go (λ l ls q n. in_early more l ls q n) (ℕ_discrete e 0)
  where
    front : e ≢ 0 → x ≡ e → Early (e ∷ more) x
    front some is = record { place = 0; within = omega arith; is = sym is; before = first }
      where
        first : (c : ℕ) → c ≤ 0 → at (e ∷ more) c ≢ 0
        first zero l = some
        first (suc c) l = let no : ⊥ = omega arith in absurd no

    behind : e ≢ 0 → Early more x → Early (e ∷ more) x
    behind some y = record { place = suc y.place; within = let w = y.within in omega arith; is = y.is; before = earlier }
      where
        earlier : (c : ℕ) → c ≤ suc y.place → at (e ∷ more) c ≢ 0
        earlier zero l = some
        earlier (suc c) l = y.before c (omega arith)

    go : ((l : List ℕ) (ls : List (List ℕ)) → lists more ≡ l ∷ ls → Memᴰ x l → Early more x) → Dec (e ≡ 0) → Early (e ∷ more) x
    go on (yes z) =
        let q : [] ∷ lists more ≡ list ∷ later = sym (lists_zero e more z) ∙ are in
        let empty : list ≡ [] = cc in
        absurd (Memᴰ.not-nil (subst (Memᴰ x) empty m))
    go on (no some) =
        let b = begins e more list later some are in
        ⊎_elim (λ is. front some is) (λ n. behind some (on b.others later b.rest n)) (Memᴰ.cases_cons (subst (Memᴰ x) b.list_is m))

-- A list behind the first begins behind a 0.
record Start (ds list : List ℕ) : Type 0 where
  last : ℕ
  closed : at ds last ≡ 0
  later : List (List ℕ)
  are : lists (drop (suc last) ds) ≡ list ∷ later

shift : {list : List ℕ} (e : ℕ) (more : List ℕ) → Start more list → Start (e ∷ more) list
shift e more s = record { last = suc s.last; closed = s.closed; later = s.later; are = s.are }

start_of : {list : List ℕ} (ds : List ℕ) → Memᴰ list (drop 1 (lists ds)) → Start ds list
unfolding lists cut
start_of [] m = absurd (Memᴰ.not-nil m)
start_of {list} (e ∷ more) m = go (λ n. start_of more n) (ℕ_discrete e 0)
  where
    here_or : e ≡ 0 → (Memᴰ list (drop 1 (lists more)) → Start more list) → (ls : List (List ℕ)) → lists more ≡ ls → Memᴰ list ls
        → Start (e ∷ more) list
    here_or z on [] q n = absurd (Memᴰ.not-nil n)
    here_or z on (l ∷ ls) q n =
        ⊎_elim (λ same. record { last = 0; closed = z; later = ls; are = q ∙ ap (λ (x : List ℕ). x ∷ ls) (sym same) })
        (λ further. shift e more (on (subst (λ (x : List (List ℕ)). Memᴰ list (drop 1 x)) (sym q) further))) (Memᴰ.cases_cons n)

    behind : (ls : List (List ℕ)) → drop 1 (push e ls) ≡ drop 1 ls
    behind [] = refl
    behind (l ∷ ls) = refl

    go : (Memᴰ list (drop 1 (lists more)) → Start more list) → Dec (e ≡ 0) → Start (e ∷ more) list
    go on (yes z) = here_or z on (lists more) refl (subst (λ (x : List (List ℕ)). Memᴰ list (drop 1 x)) (lists_zero e more z) m)
    go on (no some) =
        shift e more (on (subst (Memᴰ list) (ap (drop 1) (lists_some e more some) ∙ behind (lists more)) m))

start_in : {list : List ℕ} (ds : List ℕ) (last : ℕ) (later : List (List ℕ)) → last < length ds → at ds last ≡ 0 → lists (drop (suc last) ds) ≡ list ∷ later
    → Memᴰ list (drop 1 (lists ds))
start_in [] last later within closed are = let no : ⊥ = omega arith in absurd no
start_in {list} (e ∷ more) zero later within closed are =
    subst (λ (ls : List (List ℕ)). Memᴰ list (drop 1 ls)) (sym (lists_zero e more closed)) (subst (Memᴰ list) (sym are) (Memᴰ.head refl))
start_in {list} (e ∷ more) (suc last) later within closed are = go (start_in more last later (omega arith) closed are) (ℕ_discrete e 0)
  where
    any : (ls : List (List ℕ)) → Memᴰ list (drop 1 ls) → Memᴰ list ls
    any [] n = n
    any (l ∷ ls) n = Memᴰ.tail n

    behind : (ls : List (List ℕ)) → Memᴰ list (drop 1 ls) → Memᴰ list (drop 1 (push e ls))
    behind [] n = n
    behind (l ∷ ls) n = n

    go : Memᴰ list (drop 1 (lists more)) → Dec (e ≡ 0) → Memᴰ list (drop 1 (lists (e ∷ more)))
    go n (yes z) = subst (λ (ls : List (List ℕ)). Memᴰ list (drop 1 ls)) (sym (lists_zero e more z)) (any (lists more) n)
    go n (no some) = subst (λ (ls : List (List ℕ)). Memᴰ list (drop 1 ls)) (sym (lists_some e more some)) (behind (lists more) n)

-- Where some entry is 0 there is a list.
abbrev SomeList : List ℕ → Type 0
SomeList entries = (list : List ℕ) × (later : List (List ℕ)) × (lists entries ≡ list ∷ later)

some_list : (m : ℕ) (entries : List ℕ) → m < length entries → at entries m ≡ 0 → SomeList entries
some_list m [] l z = let no : ⊥ = omega arith in absurd no
some_list m (e ∷ more) l z = go (λ k l z. some_list k more l z) (ℕ_discrete e 0) m l z
  where
    go : ((k : ℕ) → k < length more → at more k ≡ 0 → SomeList more) → Dec (e ≡ 0) → (m : ℕ) → m < length (e ∷ more) → at (e ∷ more) m ≡ 0
        → SomeList (e ∷ more)
    go on (yes q) m l z = ([], lists more, lists_zero e more q)
    go on (no some) zero l z = absurd (some z)
    go on (no some) (suc m) l z = let (list, later, is) = on m (omega arith) z in (e ∷ list, later, lists_push e more list later some is)

-- The entries of the list that begins at a place.
module _ (ds : List ℕ) (x y begin : ℕ) (opened : opens ds begin ≡ true) where
  at_rest : (c : ℕ) → at (drop (suc begin) ds) c ≡ at ds (suc begin + c)
  at_rest c = get_or-drop (suc begin) ds c 0

  -- entries that are not 0 open no list behind them
  shut : (place : ℕ) → ((c : ℕ) → begin ≤ c → c ≤ place → at ds c ≢ 0) → (c : ℕ) → begin < c → c ≤ place → opens ds c ≡ false
  shut place nonzero zero low high = let no : ⊥ = omega arith in absurd no
  shut place nonzero (suc c) low high = ne_eqb (at ds c) 0 (nonzero c (omega arith) (omega arith))

  by_places : (us : List ℕ) (later : List (List ℕ)) → lists (drop begin ds) ≡ (y ∷ us) ∷ later → Memᴰ x us → GivenAt ds x y
  unfolding lists cut
  by_places us later are m = go (dec_lt begin (length ds))
    where
      go : Dec (begin < length ds) → GivenAt ds x y
      go (no short) =
          let none = sym (ap lists (drop_of_length-le ds {i = begin} (omega arith))) ∙ are in
          let no : ◌≡◌ {A = ℕ} 0 1 = cc in
          let no : ⊥ = omega arith in
          absurd no
      go (yes within) =
          let rest = drop (suc begin) ds in
          let split = sym (ap lists (drop-cons ds begin 0 within)) ∙ are in
          first (ℕ_discrete (at ds begin) 0) within split
        where
          first : Dec (at ds begin ≡ 0) → begin < length ds → lists (at ds begin ∷ drop (suc begin) ds) ≡ (y ∷ us) ∷ later → GivenAt ds x y
          first (yes z) within split =
              let q : [] ∷ lists (drop (suc begin) ds) ≡ (y ∷ us) ∷ later = sym (lists_zero (at ds begin) (drop (suc begin) ds) z) ∙ split in
              let no : ◌≡◌ {A = ℕ} 0 1 = cc in
              let no : ⊥ = omega arith in
              absurd no
          first (no some) within split =
              let b = begins (at ds begin) (drop (suc begin) ds) (y ∷ us) later some split in
              let is = b.list_is in
              let same : us ≡ b.others = cc in
              let early = in_early (drop (suc begin) ds) b.others later b.rest (subst (Memᴰ x) same m) in
              let long = length-drop (suc begin) ds in
              let w = early.within in
              let nonzero : (c : ℕ) → begin ≤ c → c ≤ suc begin + early.place → at ds c ≢ 0 =
              λ c low high.
              by_cases (ℕ_discrete c begin) (λ q z. some (ap (at ds) (sym q) ∙ z))
              (λ other z.
              let k : suc begin + (c - suc begin) ≡ c = omega arith in
              early.before (c - suc begin) (omega arith) (at_rest (c - suc begin) ∙ ap (at ds) k ∙ z)) in
              let place = suc begin + early.place in
              record {
                begin = begin;
                place = place;
                for_y = ((within, opened), cc);
                has_x = (
                  (omega arith, shut place nonzero place (omega arith) (omega arith), nonzero place (omega arith) (omega arith)),
                  sym (at_rest early.place) ∙ early.is,
                );
                one = (omega arith, shut place nonzero);
              }

-- Some list of the table is that of y and has x: so it does by its places ...
pub given_at : {ds : List ℕ} {x y : ℕ} → Given ds x y → GivenAt ds x y
given_at {ds} {x} {y} g = go (lists ds) refl
  where
    list : List ℕ
    list = y ∷ g.universals

    go : (ls : List (List ℕ)) → lists ds ≡ ls → GivenAt ds x y
    go [] q = absurd (Memᴰ.not-nil (subst (Memᴰ list) q g.listed))
    go (l ∷ ls) q =
        ⊎_elim (λ same. by_places ds x y 0 refl g.universals ls (q ∙ ap (λ (k : List ℕ). k ∷ ls) (sym same)) g.has_x)
        (λ further.
        let s = start_of ds (subst (λ (k : List (List ℕ)). Memᴰ list (drop 1 k)) (sym q) further) in
        by_places ds x y (suc s.last) (eq-eqb (at ds s.last) 0 s.closed) g.universals s.later s.are g.has_x)
        (Memᴰ.cases_cons (subst (Memᴰ list) q g.listed))

-- ... and the other way round, where the table does not end inside a list.
pub given_by : {ds : List ℕ} {x y : ℕ} → ¬ EndsInside 0 ds → GivenAt ds x y → Given ds x y
given_by {ds} {x} {y} whole g =
    let b = g.begin in
    let p = g.place in
    let r = drop (suc b) ds in
    let before = g.one.0 in
    let within = g.has_x.0.0 in
    let long = length-drop (suc b) ds in
    let nonzero : (c : ℕ) → b ≤ c → c < p → at ds c ≢ 0 = λ c low high z. eqb-false (at ds c) 0 (g.one.1 (suc c) (omega arith) (omega arith)) z in
    let upto : (c : ℕ) → c ≤ p - suc b → at r c ≢ 0 =
    λ c l z.
    let at_c = get_or-drop (suc b) ds c 0 in
    by_cases (ℕ_discrete (suc b + c) p) (λ q. g.has_x.0.2 (ap (at ds) (sym q) ∙ sym at_c ∙ z))
    (λ other. nonzero (suc b + c) (omega arith) (omega arith) (sym at_c ∙ z)) in
    let there : suc b + (p - suc b) ≡ p = omega arith in
    let last_zero : at ds (length ds - 1) ≡ 0 = by_cases (ℕ_discrete (at ds (length ds - 1)) 0) (λ z. z) (λ some. absurd (whole (omega arith, some))) in
    let apart : p ≢ length ds - 1 = λ q. g.has_x.0.2 (ap (at ds) q ∙ last_zero) in
    let end : suc b + (length ds - 1 - suc b) ≡ length ds - 1 = omega arith in
    let (us, later, is) = some_list (length ds - 1 - suc b) r (omega arith) (get_or-drop (suc b) ds (length ds - 1 - suc b) 0 ∙ ap (at ds) end ∙ last_zero) in
    let some_y : y ≢ 0 = λ z. nonzero b (omega arith) before (g.for_y.1 ∙ z) in
    let are : lists (drop b ds) ≡ (y ∷ us) ∷ later =
    ap lists (drop-cons ds b 0 (omega arith) ∙ ap (λ (e : ℕ). e ∷ r) g.for_y.1) ∙ lists_push y r us later some_y is in
    record {
      universals = us;
      listed = in_table us later b g.for_y.0.1 (omega arith) are;
      has_x = early_in r us later (p - suc b) (omega arith) (get_or-drop (suc b) ds (p - suc b) 0 ∙ ap (at ds) there ∙ g.has_x.1) upto is;
    }
  where
    any : {list : List ℕ} (ls : List (List ℕ)) → Memᴰ list (drop 1 ls) → Memᴰ list ls
    any [] n = n
    any (l ∷ ls) n = Memᴰ.tail n

    in_table : (us : List ℕ) (later : List (List ℕ)) (begin : ℕ) → opens ds begin ≡ true → begin < length ds → lists (drop begin ds) ≡ (y ∷ us) ∷ later
        → Memᴰ (y ∷ us) (lists ds)
    in_table us later zero opened within are = subst (Memᴰ (y ∷ us)) (sym are) (Memᴰ.head refl)
    in_table us later (suc last) opened within are = any (lists ds) (start_in ds last later (omega arith) (eqb-true (at ds last) 0 opened) are)
