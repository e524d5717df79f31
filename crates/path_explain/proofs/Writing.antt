-- A way written clause by clause: which clause comes next, what is written so far, and the path in front of the table at the end.
use Prim.Native.Nat.{ℕ, suc, ◌+◌, ◌-◌, ◌≤◌, ◌<◌}
use mathlib.Core.Path.{◌≡◌, refl, sym, ap, subst, subst₂, ◌∙◌}
use mathlib.Core.Bool.{Bool}
use mathlib.Core.List.{List, ◌++◌}
use mathlib.Core.Logic.{◌≢◌, ◌⊎◌, inl, inr, ⊎_elim, by_cases}
use native.Mathlib.Decide.{ℕ_discrete}
use native.Mathlib.Omega.{arith}
use lib.IntN.{ℤ}
use lib.ListN.{length, set, take, drop, length-drop, take-append-drop}
use lib.Seq.{get_or-set_same, get_or-set_other, ext_get_or, get_or-take, get_or-drop, length-take-le}
use Rattle.terms.specs.Overwritten.{overwritten}
use Rattle.formula.specs.Meaning.{clauses}
use Rattle.formula.specs.Tables.{at}
use Rattle.forest_entries.specs.InnerFlags.{Has}
use Rattle.path_check.specs.InnerWalk.{StandsFrom}
use Rattle.path_check.proofs.Beginning.{from_has, begin_plain}
use Rattle.path_check.proofs.Reached.{in_count}
use Rattle.path_explain.specs.InnerTies.{Holds, Laid}
use Rattle.path_explain.specs.InnerSearch.{Flag, Measured}
use Rattle.path_explain.specs.InnerWays.{Nearest, Lowest, Onward, Steps}

-- The lowest of the nearest owners, by the variables that are as far as the clause, stands for the next clause; there is one but at the end.
module _ {ls : List ℤ} (flags : List Bool) {y : ℕ} {dists rows nearest : List ℕ} (m : Measured (Holds ls) (Flag flags) y dists rows)
    (near : Nearest (λ v k. Holds ls k v) dists rows nearest) {k start end far : ℕ} (f : StandsFrom ls k start end) (is : at dists k ≡ far) where
  abbrev Found : ℕ → Type 0
  Found = Lowest (λ v. Has ls start end v × (at rows v ≡ far)) nearest

  pub onward_some : 1 < far → Found 0 → ⊥
  onward_some high low =
      let (v, may, h, q) = m.clause_near k (omega arith) in
      ⊎_elim (λ own. let one = own.1 in absurd (omega arith))
      (λ back. let (l, hl, there, row) = back in absurd ((low.low v ((from_has f v).0 h.1, q ∙ is) (near.low v l hl there row).0).0 refl)) (m.row_near v (omega arith)).1

  pub onward_next : {next : ℕ} → Found (suc next) → Onward (Holds ls) (Flag flags) dists k next
  onward_next {next} low = go low.found
    where
      first : (l v : ℕ) → Flag flags v → Holds ls k v → Holds ls l v → at dists l ≢ 0 → at dists k ≡ suc (at dists l) → next ≤ l
      first l v may hk hl there q =
          let (row, upper) = m.row_far l v may hl there in
          let (_, lower) = m.clause_far k v hk row in
          let (set', least) = near.low v l hl there (omega arith) in
          let (_, less) = low.low v ((from_has f v).0 hk.1, omega arith) set' in
          omega arith

      go : (suc next ≡ 0) ⊎ ((v : ℕ) × (Has ls start end v × (at rows v ≡ far)) × (at nearest v ≡ suc next)) → Onward (Holds ls) (Flag flags) dists k next
      go (inl z) = absurd (omega arith)
      go (inr (v, (h, row), q)) =
          let (hl, there, one) = near.sound v next q in
          record {
            via = v;
            may = (m.row_near v (omega arith)).0;
            left = (f.not-true, (from_has f v).1 h);
            right = hl;
            nearer = omega arith;
            some = there;
            first = first;
          }

-- A clause with a distance is one of the table, and has a row.
pub clause_begins : {ls : List ℤ} {begins : List ℕ} (flags : List Bool) {y : ℕ} {dists rows : List ℕ} → Laid ls begins → Measured (Holds ls) (Flag flags) y dists rows
    → (k : ℕ) → at dists k ≢ 0 → (k < length (clauses ls)) × (at begins k ≢ 0)
clause_begins {ls} flags laid m k some =
    let (v, _, h, _) = m.clause_near k some in
    let less = in_count ls k v h.1 in
    (less, begin_plain (laid.rows.rows k less) h.0)

-- What is written before i, and the clause that comes there.
pub record Writing (H : ℕ → ℕ → Type 0) (P : ℕ → Type 0) (dists : List ℕ) (first count : ℕ) (out : List ℕ) (clause i : ℕ) : Type 0 where
  pub begins : 0 < i → at out 0 ≡ first
  pub far : (j : ℕ) → j < i → at dists (at out j) + j ≡ count
  pub steps : (j : ℕ) → suc j < i → Onward H P dists (at out j) (at out (suc j))
  pub comes : i < count → (at dists clause + i ≡ count) × (i ≡ 0 → clause ≡ first) × ((j : ℕ) → suc j ≡ i → Onward H P dists (at out j) clause)

module _ {H : ℕ → ℕ → Type 0} {P : ℕ → Type 0} {dists : List ℕ} {first count : ℕ} {out : List ℕ} where
  pub writing_more : {clause i : ℕ} → Writing H P dists first count out clause i → i < count → i < length out → (next : ℕ)
      → (at dists clause ≡ count - i → 1 < count - i → Onward H P dists clause next) → Writing H P dists first count (set out i clause) next (i + 1)
  writing_more {clause} {i} w some room next onward =
      let (far, begins, last) = w.comes some in
      record {
        begins = λ l. by_cases (ℕ_discrete i 0) (λ z. ap (at out') (sym z) ∙ own ∙ begins z) (λ s. other 0 (λ e. s (sym e)) ∙ w.begins (omega arith));
        far = λ j l.
            by_cases (ℕ_discrete j i) (λ e. let a = ap (at dists) (ap (at out') e ∙ own) in omega arith)
            (λ o. let a = ap (at dists) (other j o) in let b = w.far j (omega arith) in omega arith);
        steps = λ j l.
            by_cases (ℕ_discrete (suc j) i)
            (λ e. subst₂ (Onward H P dists) (sym (other j (λ same. omega arith))) (sym (ap (at out') e ∙ own)) (last j e))
            (λ o. subst₂ (Onward H P dists) (sym (other j (λ same. omega arith))) (sym (other (suc j) o)) (w.steps j (omega arith)));
        comes = λ more.
            let o = onward (omega arith) (omega arith) in
            let nearer = o.nearer in
            (omega arith, (λ z. absurd (omega arith)), λ j e. let same : j ≡ i = omega arith in subst (λ a. Onward H P dists a next) (sym (ap (at out') same ∙ own)) o);
      }
    where
      out' : List ℕ
      out' = set out i clause

      own : at (set out i clause) i ≡ clause
      own = get_or-set_same out i clause 0 room

      other : (j : ℕ) → j ≢ i → at (set out i clause) j ≡ at out j
      other j o = get_or-set_other out i j clause 0 o

  -- At the end the path stands in front.
  pub written : {clause i : ℕ} → Writing H P dists first count out clause i → i ≡ count → count ≤ length out → Steps H P dists first (take count out)
  written {i = i} w all room =
      let size = length-take-le count out room in
      record {
        begins = λ l. front 0 (omega arith) ∙ w.begins (omega arith);
        far = λ j l. let a = ap (at dists) (front j (omega arith)) in let b = w.far j (omega arith) in omega arith;
        steps = λ j l. subst₂ (Onward H P dists) (sym (front j (omega arith))) (sym (front (suc j) (omega arith))) (w.steps j (omega arith));
      }
    where
      front : (j : ℕ) → j < count → at (take count out) j ≡ at out j
      front j l = get_or-take count out j 0 l

-- What stands behind the path is what stood there.
pub behind_kept : (count : ℕ) (before out : List ℕ) → length out ≡ length before → count ≤ length out → ((e : ℕ) → count ≤ e → at out e ≡ at before e)
    → out ≡ overwritten (take count out) before
behind_kept count before out size room same =
    sym (take-append-drop count out) ∙ ap (λ rest. take count out ++ rest) (rest ∙ ap (λ k. drop k before) (sym (length-take-le count out room)))
  where
    rest : drop count out ≡ drop count before
    rest =
        ext_get_or 0 (drop count out) (drop count before) (length-drop count out ∙ ap (λ k. k - count) size ∙ sym (length-drop count before))
        (λ i l. get_or-drop count out i 0 ∙ same (count + i) (omega arith) ∙ sym (get_or-drop count before i 0))

-- So all of it is written, with nothing past it changed.
pub way_there : {H : ℕ → ℕ → Type 0} {P : ℕ → Type 0} {dists : List ℕ} {first count : ℕ} {out : List ℕ} {clause i : ℕ} → Writing H P dists first count out clause i
    → i ≡ count → (before : List ℕ) → length out ≡ length before → count ≤ length before → ((e : ℕ) → i ≤ e → at out e ≡ at before e)
    → (path : List ℕ) × (length path ≡ count) × Steps H P dists first path × (out ≡ overwritten path before)
way_there {count = count} {out = out} w all before size room same =
    let enough : count ≤ length out = omega arith in
    (take count out, length-take-le count out enough, written w all enough, behind_kept count before out size enough (λ e l. same e (omega arith)))
