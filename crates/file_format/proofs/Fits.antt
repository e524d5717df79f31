-- What the file of a formula that a rule accepts holds fits the bytes that it has there.
use Rattle.std.proofs.Common.{◌≡◌, ℕ, zero, suc, ◌-◌, ◌<◌, ◌≤◌, Bool, true, false, cond, ◌≢◌, List, [], ◌∷◌, ◌++◌, map, length, get_or, ℤ, pos}
use Rattle.std.proofs.Common.{negsuc, sym, refl, ap, ◌∙◌, subst, ap₂, ⊎_elim, arith, le-ltb, lt-ltb}
use mathlib.Core.List.{Memᴰ}
use mathlib.Core.Logic.{by_cases}
use native.Mathlib.Decide.{ℕ_discrete, dec_lt}
use Rattle.terms.specs.declared.Scheme.TheVariants.{Standard}
use Rattle.terms.specs.Literals.{variable_of}
use Rattle.terms.specs.Refusals.{None, NoneOf}
use Rattle.formula.specs.Lent.{Formula}
use Rattle.formula.specs.Tables.{at, literal_at, opens}
use Rattle.formula.specs.Causes.{PrefixCause, ClauseCause}
use Rattle.forest_theory.specs.Tables.{row, lent}
use Rattle.terms.proofs.Listed.{listed_most}
use Rattle.forest_theory.proofs.Growth.{forest_is}
use Rattle.forest_theory.proofs.Counts.{count_most}
use Rattle.forest_tables.specs.Formula.{variables, universal}
use Rattle.forest_tables.specs.Lent.{Rows}
use Rattle.forest_tables.proofs.Agreeing.{lawful}
use Rattle.forest.specs.Answers.{DependsBy}
use Rattle.sets.specs.Sets.{Record, Records}
use Rattle.formula_rules.specs.Rules.{read_as, read_by, JoinedCause, check_order}
use Rattle.formula_rules.proofs.Orders.{limits, by_rule}
use Rattle.file_format.specs.Numbers.{literal_number, literal_of}
use Rattle.file_format.specs.Layout.{ForestRows, StandardSets}
use Rattle.file_format.proofs.Decoded.{limit, Fit}

-- numbers that are small fit two bytes, and four
fit_each : (width : ℕ) (numbers : List ℕ) → ((i : ℕ) → i < length numbers → get_or numbers i 0 < limit width) → Fit width numbers
fit_each width [] each = tt
fit_each width (number ∷ more) each = (each 0 (omega arith), fit_each width more (λ i less. each (suc i) (omega arith)))

fit_members : (width : ℕ) (numbers : List ℕ) → ((v : ℕ) → Memᴰ v numbers → v < limit width) → Fit width numbers
fit_members width [] each = tt
fit_members width (number ∷ more) each = (each number (Memᴰ.head refl), fit_members width more (λ v m. each v (Memᴰ.tail m)))

pub fit_append : (width : ℕ) (xs ys : List ℕ) → Fit width xs → Fit width ys → Fit width (xs ++ ys)
fit_append width [] ys a b = b
fit_append width (x ∷ xs) ys (one, a) b = (one, fit_append width xs ys a b)

small_two : (k : ℕ) → k ≤ 4096 → k < limit 2
unfolding limit
small_two k h = omega arith

small_four : (k : ℕ) → k < 4294967296 → k < limit 4
unfolding limit
small_four k h = h

-- a literal of a small variable is read back from its number
literal_back : (z : ℤ) → variable_of z ≤ 4096 → (literal_of (literal_number z) ≡ z) × (literal_number z < 4294967296)
unfolding literal_number literal_of
literal_back (pos v) h = (ap (λ (b : Bool). cond b (pos v) (negsuc (4294967295 - v))) (lt-ltb v 2147483648 (omega arith)), omega arith)
literal_back (negsuc v) h =
    let k : ℕ = 4294967295 - v in
    let back : 4294967295 - k ≡ v = omega arith in
    (ap (λ (b : Bool). cond b (pos k) (negsuc (4294967295 - k))) (le-ltb k 2147483648 (omega arith)) ∙ ap negsuc back, omega arith)

literals_back : (ls : List ℤ) → ((i : ℕ) → i < length ls → variable_of (literal_at ls i) ≤ 4096)
    → (map literal_of (map literal_number ls) ≡ ls) × Fit 4 (map literal_number ls)
literals_back [] each = (refl, tt)
literals_back (z ∷ more) each =
    let (same, fits) = literal_back z (each 0 (omega arith)) in
    let (rest, fit) = literals_back more (λ i less. each (suc i) (omega arith)) in
    (ap₂ (λ (x : ℤ) (xs : List ℤ). x ∷ xs) same rest, (small_four (literal_number z) fits, fit))

-- An entry of a prefix is a mark, or a variable of at most n, or 0: where no cause says that it is neither.
entry_most : (n : ℕ) (es : List ℕ) → n ≤ 4096
    → ((e : ℕ) → e < length es → opens es e ≡ true → at es e ≢ 1 → at es e ≢ 2 → ⊥)
    → ((e : ℕ) → e < length es → opens es e ≡ false → at es e ≢ 0 → n < at es e → ⊥)
    → (e : ℕ) → e < length es → at es e ≤ 4096
entry_most n es few marks names e less = go (opens es e) refl
  where
    go : (b : Bool) → opens es e ≡ b → at es e ≤ 4096
    go true open' =
        by_cases (ℕ_discrete (at es e) 1) (λ q. omega arith)
        (λ a. by_cases (ℕ_discrete (at es e) 2) (λ q. omega arith) (λ b. absurd (marks e less open' a b)))
    go false shut =
        by_cases (ℕ_discrete (at es e) 0) (λ q. omega arith)
        (λ some. by_cases (dec_lt n (at es e)) (λ over. absurd (names e less shut some over)) (λ low. omega arith))

module _ (rule : ℕ) (f : Formula) (none : NoneOf (check_order rule f)) where
  abbrev n : ℕ
  n = f.n

  abbrev es : List ℕ
  es = f.prefix

  abbrev ls : List ℤ
  ls = f.clauses

  abbrev read : List ℕ
  read = read_as rule es

  few : n ≤ 4096
  few = (limits rule f none).0

  -- n and the prefix, as it is lent
  prefix_most : (e : ℕ) → e < length es → at es e ≤ 4096
  prefix_most =
      ⊎_elim
      (λ (one : None (PrefixCause n es)). entry_most n es few (λ e less open' a b. one 4 e (PrefixCause.no_mark refl (less, open') a b))
      (λ e less shut some over. one 7 e (PrefixCause.outside refl (less, shut, some) over)))
      (λ (two : None (JoinedCause n es)). entry_most n es few (λ e less open' a b. two 4 e (JoinedCause.no_mark refl (less, open') a b))
      (λ e less shut some over. two 7 e (JoinedCause.outside refl (less, shut, some) over)))
      (by_rule rule f none)

  pub prefix_fits : (n < limit 2) × Fit 2 es
  prefix_fits = (small_two n few, fit_each 2 es (λ e less. small_two (at es e) (prefix_most e less)))

  -- the clauses
  literal_most : None (ClauseCause n ls) → (e : ℕ) → e < length ls → variable_of (literal_at ls e) ≤ 4096
  literal_most clear e less =
      by_cases (dec_lt n (variable_of (literal_at ls e)))
      (λ over. absurd (clear 10 e (ClauseCause.outside refl less (λ z. let q = ap variable_of z in omega arith) over)))
      (λ low. let most = few in omega arith)

  pub clauses_back : (map literal_of (map literal_number ls) ≡ ls) × Fit 4 (map literal_number ls)
  clauses_back = literals_back ls (literal_most none.1.1.1.1.0)

  -- the rows
  module _ {r : Rows} (right : ForestRows (read_by rule f) r) where
    read_row : (table : List ℕ) (i : ℕ) → i < n → get_or table i 0 ≡ row n table (suc i)
    unfolding row
    read_row table i less = sym (ap (λ (b : Bool). cond b (get_or table i 0) 0) (lt-ltb i n less))

    formed_class : (v : ℕ) → row n r.classes v ≤ n
    unfolding lent
    formed_class v = go ((variables n read).ex v) refl
      where
        go : (b : Bool) → (variables n read).ex v ≡ b → row n r.classes v ≤ n
        go true ex =
            ((lawful n read).within (row n r.classes v)
            ((((forest_is (lawful n read)).0 right.forest).formed.right v).class ex).name.existential).1
        go false ex = let z = ((((forest_is (lawful n read)).0 right.forest).formed.right v).universal ex).0 in omega arith

    formed_parent : (v : ℕ) → row n r.parents v ≤ n
    unfolding lent
    formed_parent v =
        by_cases (ℕ_discrete (row n r.parents v) 0) (λ z. omega arith)
        (λ some. ((lawful n read).within (row n r.parents v)
        ((((forest_is (lawful n read)).0 right.forest).formed.right v).parent some).name.existential).1)

    fit_rows : (table : List ℕ) → length table ≡ n → ((v : ℕ) → row n table v ≤ n) → Fit 4 table
    fit_rows table many most =
        fit_each 4 table
        (λ i less. let q = read_row table i (omega arith) in let m = most (suc i) in let most' = few in small_four (get_or table i 0) (omega arith))

    pub rows_fit : Fit 4 (r.classes ++ (r.parents ++ r.counts))
    rows_fit =
        fit_append 4 r.classes (r.parents ++ r.counts) (fit_rows r.classes right.classes_many formed_class)
        (fit_append 4 r.parents r.counts (fit_rows r.parents right.parents_many formed_parent) (fit_rows r.counts right.counts_many
        (count_most ((forest_is (lawful n read)).0 right.forest).formed (lawful n read) right.counted)))

  -- the sets
  record_fits : (b : Bool) (x : ℕ) (part : List ℕ) → x ≤ n → Record b x (DependsBy Standard (read_by rule f) x) part → Fit 2 part
  record_fits true x part low (set, listed, is) =
      let most' = few in
      let inside : (v : ℕ) → DependsBy Standard (read_by rule f) x v → (1 ≤ v) × (v ≤ n) =
      λ v d. (lawful n read).within v d.existential in
      let many = listed_most (DependsBy Standard (read_by rule f) x) n set inside listed in
      subst (Fit 2) (sym is) (
        small_two x (omega arith),
        (small_two (length set) (omega arith), fit_members 2 set (λ v m. let top = (inside v (listed.each v m)).1 in small_two v (omega arith))),
      )
  record_fits false x part low is = subst (Fit 2) (sym is) tt

  records_fit : (m : ℕ) (list : List ℕ) → m ≤ n
      → Records (universal n read) (DependsBy Standard (read_by rule f)) m list → Fit 2 list
  records_fit zero list low is = subst (Fit 2) (sym is) tt
  records_fit (suc m) list low (before, part, r, p, is) =
      subst (Fit 2) (sym is)
      (fit_append 2 before part (records_fit m before (omega arith) r) (record_fits (universal n read (suc m)) (suc m) part low p))

  pub sets_fit : (list : List ℕ) → StandardSets (read_by rule f) list → Fit 2 list
  sets_fit list are = records_fit n list (omega arith) are
