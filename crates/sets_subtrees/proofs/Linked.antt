-- Runs of tops: how one is walked, and how they grow, one variable after the other in front of the run of its top.
use Prim.Native.Nat.{ℕ, zero, suc, ◌+◌, ◌-◌, ◌≤◌, ◌<◌}
use mathlib.Core.Path.{◌≡◌, refl, sym, ap, ap₂, ◌∙◌, subst, subst₂}
use mathlib.Core.Bool.{Bool, true, false, not-eq-not}
use mathlib.Core.List.Memᴰ
use mathlib.Core.List.{List, [], ◌∷◌, ◌++◌, append-nil, append_assoc, Memᴰ}
use mathlib.Core.Logic.{◌≢◌, ⊎_elim, by_cases}
use native.Mathlib.Decide.{ℕ_discrete, dec_lt}
use native.Mathlib.Omega.{arith}
use lib.ListN.{length, get_or, set, replicate, length-set, length-append, length-replicate}
use lib.Seq.{sets, get_or-set_same, get_or-set_other}
use Rattle.terms.specs.Limits.{most_variables}
use Rattle.terms.specs.InnerLimits.{variable_rows}
use Rattle.terms.specs.InnerPairs.{low_of, high_of}
use Rattle.terms.proofs.Common.{clash}
use Rattle.forest_theory.specs.Reach.{Variables}
use Rattle.forest_theory.specs.InnerVariables.{Lawful}
use Rattle.forest_theory.specs.Tables.{Table, row, lent, WellFormed}
use Rattle.forest_theory.proofs.Climb.{above_class}
use Rattle.forest_members.specs.declared.Asked.TheVariants.{Set}
use Rattle.forest_tables.specs.Formula.{variables}
use Rattle.forest_tables.proofs.Readings.{new_zero}
use Rattle.forest_climb.specs.InnerSearch.{TopRows, TopsOver, Topless}
use Rattle.forest_climb.proofs.Tops.{tops_over}
use Rattle.forest_members.specs.InnerPicked.{pick, picked}
use Rattle.forest_members.proofs.Picked.{picked_more, picked_same, picked_none, sets_more}
use Rattle.forest_entries.proofs.Flags.{fresh, flag_long}
use Rattle.sets_subtrees.specs.InnerRuns.{Run, Leads, only, having, Within, Led, Floored}

-- From a number there is one run, and from one that is not 0 it goes on.
pub run_one : (after : List ℕ) (v : ℕ) (list other : List ℕ) → Run after v list → Run after v other → list ≡ other
run_one after v [] [] r s = refl
run_one after v [] (b ∷ other) r s = absurd (s.1 (sym s.0 ∙ r))
run_one after v (a ∷ list) [] r s = absurd (r.1 (sym r.0 ∙ s))
run_one after v (a ∷ list) (b ∷ other) r s =
    let same : a ≡ b = sym r.0 ∙ s.0 in
    ap₂ (λ (h : ℕ) (t : List ℕ). h ∷ t) same (run_one after (get_or after b 0) list other (subst (λ h. Run after (get_or after h 0) list) same r.3) s.3)

run_next : (after : List ℕ) (v : ℕ) (list : List ℕ) → v ≢ 0 → Run after v list
    → (rest : List ℕ) × (list ≡ v ∷ rest) × (v < length after) × Run after (get_or after v 0) rest
run_next after v [] some r = absurd (some r)
run_next after v (w ∷ rest) some r =
    let is = r.0 in
    let within = r.2 in
    (rest, ap (λ (h : ℕ). h ∷ rest) (sym is), omega arith, subst (λ h. Run after (get_or after h 0) rest) (sym is) r.3)

-- a row of none of its numbers may change
run_set : (after : List ℕ) (i a v : ℕ) (list : List ℕ) → ((w : ℕ) → Memᴰ w list → i < w) → Run after v list → Run (set after i a) v list
run_set after i a v [] over r = r
run_set after i a v (w ∷ rest) over r =
    let less = over w (Memᴰ.head refl) in
    let size = length-set after i a in
    let within = r.2 in (
      r.0,
      r.1,
      omega arith,
      subst (λ h. Run (set after i a) h rest) (sym (get_or-set_other after i w a 0 (λ q. omega arith)))
          (run_set after i a (get_or after w 0) rest (λ u m. over u (Memᴰ.tail m)) r.3),
    )

-- A run on the way: what is passed, counted from a first entry on, and what is to come, with room for both.
pub record Walking (after : List ℕ) (head first room : ℕ) (done : List ℕ) (v count : ℕ) : Type 0 where
  pub rest : List ℕ
  pub whole : Run after head (done ++ rest)
  pub run : Run after v rest
  pub counted : count ≡ first + length done
  pub fits : first + length (done ++ rest) ≤ room

pub walk_none : {after : List ℕ} {head first room : ℕ} (list : List ℕ) → Run after head list → first + length list ≤ room
    → Walking after head first room [] head first
walk_none list run fits = record { rest = list; whole = run; run = run; counted = omega arith; fits = fits }

module _ {after : List ℕ} {head first room : ℕ} {done : List ℕ} {v count : ℕ} (w : Walking after head first room done v count) where
  module _ (some : v ≢ 0) where
    pub walk_within : v < length after
    walk_within = (run_next after v w.rest some w.run).2

    -- there is room for one number more
    pub walk_room : count < room
    walk_room =
        let (rest, is, _, _) = run_next after v w.rest some w.run in
        let size = length-append done w.rest in
        let one = ap length is in
        let here = w.counted in
        let fits = w.fits in
        omega arith

    pub walk_more : Walking after head first room (done ++ (v ∷ [])) (get_or after v 0) (count + 1)
    walk_more =
        let (rest, is, _, run) = run_next after v w.rest some w.run in
        let same : (done ++ w.rest) ≡ (done ++ (v ∷ [])) ++ rest = ap (λ (l : List ℕ). done ++ l) is ∙ sym (append_assoc done (v ∷ []) rest) in
        let size = length-append done (v ∷ []) in
        let here = w.counted in
        record {
          rest = rest;
          whole = subst (Run after head) same w.whole;
          run = run;
          counted = omega arith;
          fits = subst (λ (l : List ℕ). first + length l ≤ room) same w.fits;
        }

    -- the number is stored behind those that are passed
    pub walk_stored : (old : List ℕ) {out : List ℕ} → out ≡ sets old first done → set out count v ≡ sets old first (done ++ (v ∷ []))
    walk_stored old is = ap₂ (λ (o : List ℕ) (i : ℕ). set o i v) is w.counted ∙ sets_more old first v done

  -- At its end what is passed is the run.
  pub walk_end : v ≡ 0 → Run after head done
  walk_end last = go w.rest w.run w.whole
    where
      go : (rest : List ℕ) → Run after v rest → Run after head (done ++ rest) → Run after head done
      go [] run whole = subst (Run after head) (append-nil done) whole
      go (a ∷ rest) run whole = absurd (run.1 (sym run.0 ∙ last))

-- The flag that is set alone: that of the top, if there is one for it.
abbrev none_set : List Bool
none_set = replicate variable_rows false

pub only_set : (top e : ℕ) → get_or (only top) e false ≡ true → (e ≡ top) × (e ≢ 0) × (e < variable_rows)
unfolding only
only_set zero e t = absurd (clash t (fresh.blank e))
only_set (suc top) e t =
    by_cases (ℕ_discrete e (suc top)) (λ q. (q, λ z. some (sym q ∙ z), subst (λ k. e < k) size (flag_long (set none_set (suc top) true) e t)))
    (λ other. absurd (clash t (get_or-set_other none_set (suc top) e true false other ∙ fresh.blank e)))
  where
    size : length (set none_set (suc top) true) ≡ variable_rows
    size = length-set none_set (suc top) true ∙ fresh.size

    some : suc top ≢ 0
    some z = omega arith

pub only_own : (top : ℕ) → top ≢ 0 → top < variable_rows → get_or (only top) top false ≡ true
unfolding only
only_own zero some l = absurd (some refl)
only_own (suc top) some l = get_or-set_same none_set (suc top) true false (subst (λ k. suc top < k) (sym fresh.size) l)

-- The runs on the way downwards: that of a top has the variables over v that have it.
pub record Over (n : ℕ) (tops lead after : List ℕ) (v top : ℕ) : Type 0 where
  pub list : List ℕ
  pub leads : Leads after (get_or lead top 0) list
  pub over : (w : ℕ) → Memᴰ w list → v < w
  pub all : having n tops top ≡ picked (pick Set n (only top) tops) v ++ list

-- a row that is 0 leads to nothing
leads_none : (after : List ℕ) {row : ℕ} → row ≡ 0 → Leads after row []
leads_none after none = (omega arith, omega arith)

pub over_none : (n : ℕ) (tops lead after : List ℕ) (top : ℕ) → get_or lead top 0 ≡ 0 → Over n tops lead after n top
over_none n tops lead after top none =
    record { list = []; leads = leads_none after none; over = λ w m. absurd (Memᴰ.not-nil m); all = sym (append-nil (having n tops top)) }

module _ {n : ℕ} {tops lead after : List ℕ} {v top : ℕ} (o : Over n tops lead after v top) (above : ℕ) (is : above ≡ row n tops v) (some : v ≢ 0) where
  abbrev f : ℕ → Bool
  f = pick Set n (only top) tops

  next : v ≡ (v - 1) + 1
  next = omega arith

  -- another top stays as it is, whatever is stored for this one
  other_top : top ≢ above → f ((v - 1) + 1) ≡ false
  unfolding pick
  other_top other =
      (not-eq-not {b = false}).0 (λ t. let (q, _, _) = only_set top (row n tops ((v - 1) + 1)) t in other (sym q ∙ ap (row n tops) (sym next) ∙ sym is))

  over_past : {lead' after' : List ℕ} → get_or lead' top 0 ≡ get_or lead top 0 → Run after' (low_of (get_or lead top 0)) o.list → top ≢ above
      → Over n tops lead' after' (v - 1) top
  over_past {lead'} {after'} same run other =
      record {
        list = o.list;
        leads = subst (λ row. Leads after' row o.list) (sym same) (run, o.leads.1);
        over = λ w m. let l = o.over w m in omega arith;
        all = o.all ∙ ap (λ (l : List ℕ). l ++ o.list) (ap (picked f) next ∙ picked_same f (v - 1) (other_top other));
      }

  -- v comes in front of the run of its own: its row leads to what came first, and the row of the top to v, with one more
  over_own : (lead-row : ℕ) {link : ℕ} → link ≡ low_of (get_or lead above 0) → (low_of lead-row ≡ v) × (high_of lead-row ≡ high_of (get_or lead above 0) + 1)
      → top ≡ above → top ≢ 0 → top < variable_rows → above < length lead → v < length after
      → Over n tops (set lead above lead-row) (set after v link) (v - 1) top
  unfolding pick
  over_own lead-row {link} linked (low, high) own named small heads within =
      record {
        list = v ∷ o.list;
        leads =
            subst (λ r. Leads (set after v link) r (v ∷ o.list)) (sym stored)
            ((low, some, room, rest), let size = o.leads.1 in let q = ap high_of here in omega arith);
        over = λ w m. ⊎_elim (λ q. omega arith) (λ later. let l = o.over w later in omega arith) (Memᴰ.cases_cons m);
        all = o.all ∙ ap (λ (l : List ℕ). l ++ o.list) (ap (picked f) next ∙ picked_more f (v - 1) flag)
            ∙ append_assoc (picked f (v - 1)) (((v - 1) + 1) ∷ []) o.list ∙ ap (λ (u : ℕ). picked f (v - 1) ++ (u ∷ o.list)) (sym next);
      }
    where
      here : get_or lead above 0 ≡ get_or lead top 0
      here = ap (λ t. get_or lead t 0) (sym own)

      stored : get_or (set lead above lead-row) top 0 ≡ lead-row
      stored = ap (λ t. get_or (set lead above lead-row) t 0) own ∙ get_or-set_same lead above lead-row 0 heads

      room : v < length (set after v link)
      room = subst (λ l. v < l) (sym (length-set after v link)) within

      rest : Run (set after v link) (get_or (set after v link) v 0) o.list
      rest = subst (λ h. Run (set after v link) h o.list) (sym (get_or-set_same after v link 0 within ∙ linked ∙ ap low_of here))
          (run_set after v link (low_of (get_or lead top 0)) o.list o.over o.leads.0)

      flag : f ((v - 1) + 1) ≡ true
      flag =
          ap (λ u. get_or (only top) (row n tops u) false) (sym next) ∙ ap (λ t. get_or (only top) t false) (sym is ∙ sym own) ∙ only_own top named small

-- All runs on the way, but that of 0, of which nothing is said; and no row counts more than are passed.
abbrev pub Linking : ℕ → List ℕ → List ℕ → List ℕ → ℕ → Type 0
Linking n tops lead after v =
    ((top : ℕ) → top ≢ 0 → top ≤ n → Over n tops lead after v top) × ((top : ℕ) → top ≤ n → high_of (get_or lead top 0) + v ≤ n)

module _ {n : ℕ} {tops lead after : List ℕ} {v : ℕ} (l : Linking n tops lead after v) (above : ℕ) (is : above ≡ row n tops v) (some : v ≢ 0) where
  pub link_more : (lead-row : ℕ) {link : ℕ} → link ≡ low_of (get_or lead above 0) → (low_of lead-row ≡ v) × (high_of lead-row ≡ high_of (get_or lead above 0) + 1)
      → n ≤ most_variables → above < length lead → v < length after → Linking n tops (set lead above lead-row) (set after v link) (v - 1)
  link_more lead-row {link} linked (low, high) few heads within = (runs, counts)
    where
      runs : (top : ℕ) → top ≢ 0 → top ≤ n → Over n tops (set lead above lead-row) (set after v link) (v - 1) top
      runs top named small =
          let o = l.0 top named small in
          by_cases (ℕ_discrete top above) (λ own. over_own o above is some lead-row linked (low, high) own named (omega arith) heads within)
          (λ other. over_past o above is some (get_or-set_other lead above top lead-row 0 other)
          (run_set after v link (low_of (get_or lead top 0)) o.list o.over o.leads.0) other)

      counts : (top : ℕ) → top ≤ n → high_of (get_or (set lead above lead-row) top 0) + (v - 1) ≤ n
      counts top small =
          let passed = l.1 top small in
          by_cases (ℕ_discrete top above)
          (λ own.
          let stored = ap high_of (ap (λ t. get_or (set lead above lead-row) t 0) own ∙ get_or-set_same lead above lead-row 0 heads) in
          let here = ap (λ t. high_of (get_or lead t 0)) own in
          omega arith)
          (λ other. let same = ap high_of (get_or-set_other lead above top lead-row 0 other) in omega arith)

-- A top that no variable has has no run.
empty_run : (n : ℕ) (tops lead after : List ℕ) (top : ℕ) → ((v : ℕ) → get_or (only top) (row n tops v) false ≡ true → ⊥)
    → get_or lead top 0 ≡ 0 → Leads after (get_or lead top 0) (having n tops top)
unfolding pick
empty_run n tops lead after top never none =
    subst (Leads after (get_or lead top 0)) (sym (picked_none (pick Set n (only top) tops) n (λ v a b. (not-eq-not {b = false}).0 (never v))))
    (leads_none after none)

-- There are no runs where there are no tops.
led_none : (n : ℕ) (tops lead after : List ℕ) → ((v : ℕ) → row n tops v ≡ 0) → ((top : ℕ) → get_or lead top 0 ≡ 0) → Led n tops lead after
led_none n tops lead after none zeros top _ = empty_run n tops lead after top (λ v t. (only_set top (row n tops v) t).1 (none v)) (zeros top)

-- All variables over `from` are passed, and no other has a top.
pub link_all : {n from v : ℕ} {tops lead after : List ℕ} → Linking n tops lead after v → v ≤ from → Topless n tops from → 0 < length lead
    → Led n tops (set lead 0 0) after
unfolding pick
link_all {n} {from} {v} {tops} {lead} {after} l low none heads top small =
    by_cases (ℕ_discrete top 0)
    (λ z. empty_run n tops (set lead 0 0) after top (λ u t. let (q, some, _) = only_set top (row n tops u) t in some (q ∙ z))
    (ap (λ t. get_or (set lead 0 0) t 0) z ∙ get_or-set_same lead 0 0 0 heads))
    (λ named. whole named (l.0 top named small))
  where
    whole : top ≢ 0 → Over n tops lead after v top → Leads after (get_or (set lead 0 0) top 0) (having n tops top)
    whole named o =
        let front : picked (pick Set n (only top) tops) v
        ≡ [] =
        picked_none (pick Set n (only top) tops) v (λ u a b. (not-eq-not {b = false}).0 (λ t. (only_set top (row n tops u) t).1 (none u a (omega arith)))) in
        let same : having n tops top ≡ o.list = o.all ∙ ap (λ (p : List ℕ). p ++ o.list) front in
        subst₂ (Leads after) (sym (get_or-set_other lead 0 top 0 0 named)) (sym same) o.leads

-- A top is a class name, and so one of the variables.
pub tops_within : {X : Variables} {W : Table} {floor : ℕ} (tops : List ℕ) → Lawful X → WellFormed X W → TopRows X W floor tops → Within X.count tops
tops_within {X} {W} {floor} tops law formed rows v =
    by_cases (dec_lt floor (X.lev v)) (λ deep. go (X.ex v) refl deep) (λ shallow. let z = (rows v).none (λ u. shallow u.1) in omega arith)
  where
    go : (b : Bool) → X.ex v ≡ b → floor < X.lev v → row X.count tops v ≤ X.count
    go true ex deep = let (_, found) = (rows v).found (ex, deep) in
        (law.within (row X.count tops v) (above_class formed ((formed.right v).class ex).name found.above).existential).1
    go false un deep = let z = (rows v).none (λ u. clash u.0 un) in omega arith

-- The tops over a level that nothing is deeper than, and their runs: every row is 0.
pub floored_none : (n : ℕ) (es classes parents : List ℕ) (floor : ℕ) → 4294967295 ≤ floor
    → ((v : ℕ) → (variables n es).ex v ≡ true → (variables n es).lev v ≤ floor)
    → Floored n es classes parents floor 0 0 (replicate most_variables 0) (replicate variable_rows 0) (replicate variable_rows 0)
floored_none n es classes parents floor high low =
    record {
      known = λ less. absurd (omega arith);
      over = over;
      within = λ v. let z = none v in omega arith;
      led = led_none n (replicate most_variables 0) (replicate variable_rows 0) (replicate variable_rows 0) none (new_zero variable_rows);
      rows = length-replicate {A = ℕ} most_variables 0;
      heads = length-replicate {A = ℕ} variable_rows 0;
      links = length-replicate {A = ℕ} variable_rows 0;
    }
  where
    over : TopsOver (variables n es) (lent (variables n es) classes parents) floor 0 (replicate most_variables 0)
    over = tops_over {X = variables n es} {W = lent (variables n es) classes parents} floor most_variables low

    none : (v : ℕ) → row n (replicate {A = ℕ} most_variables 0) v ≡ 0
    none v = (over.rows v).none (λ u. let l = low v u.0 in let d = u.1 in omega arith)
