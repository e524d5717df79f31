-- Laws of the list of all sets: there is one, its parts are no longer than it, it is never longer than n records of n members each, and it is stored
-- record by record.
use Prim.Native.Nat.{ℕ, zero, suc, ◌+◌, ◌*◌, ◌≤◌}
use mathlib.Core.Path.{◌≡◌, refl, sym, ap, ap₂, ◌∙◌, subst}
use mathlib.Core.Bool.{Bool, true, false, cond}
use mathlib.Core.List.{List, [], ◌∷◌, ◌++◌, append-nil, append_assoc}
use mathlib.Core.Logic.{◌↔◌, by_cases}
use native.Mathlib.Decide.{ℕ_discrete}
use native.Mathlib.Numerals.{add-one}
use native.Mathlib.Omega.{arith}
use lib.ListN.{length, length-append}
use lib.Seq.{sets}
use Rattle.terms.proofs.Common.{sets_append}
use Rattle.terms.specs.Listed.{Listed}
use Rattle.terms.proofs.Listed.{listed_one, listed_most}
use Rattle.sets.specs.Sets.{Record, Records}

-- The same sets by an equivalent condition.
pub records_as : {U : ℕ → Bool} {P Q : ℕ → ℕ → Type 0} → ((x : ℕ) → U x ≡ true → (v : ℕ) → P x v ↔ Q x v)
    → (m : ℕ) (list : List ℕ) → Records U P m list → Records U Q m list
records_as both zero list q = q
records_as {U} {P} {Q} both (suc m) list (before, part, r, a, q) = (before, part, records_as both m before r, go (U (suc m)) refl a, q)
  where
    go : (b : Bool) → U (suc m) ≡ b → Record b (suc m) (P (suc m)) part → Record b (suc m) (Q (suc m)) part
    go true u (s, l, e) =
        (s, record { ascending = l.ascending; each = λ v m'. (both (suc m) u v).0 (l.each v m'); all = λ v p. l.all v ((both (suc m) u v).1 p) }, e)
    go false u e = e

module _ (U : ℕ → Bool) (P : ℕ → ℕ → Type 0) where
  -- Two lists of the same sets are one.
  adds_one : (b : Bool) (x : ℕ) (part other : List ℕ) → Record b x (P x) part → Record b x (P x) other → part ≡ other
  adds_one true x part other (s, l, q) (t, m, r) =
      let same = listed_one s t l m in
      q ∙ ap₂ (λ (k : ℕ) (rest : List ℕ). x ∷ k ∷ rest) (ap length same) same ∙ sym r
  adds_one false x part other q r = q ∙ sym r

  pub records_one : (m : ℕ) (list other : List ℕ) → Records U P m list → Records U P m other → list ≡ other
  records_one zero list other q r = q ∙ sym r
  records_one (suc m) list other (a, p, ra, pa, q) (b, s, rb, pb, r) =
      q ∙ ap₂ (λ (l : List ℕ) (k : List ℕ). l ++ k) (records_one m a b ra rb) (adds_one (U (suc m)) (suc m) p s pa pb) ∙ sym r

  -- What comes up to m is no longer than what comes up to a later number.
  records_later : (n m : ℕ) (list full : List ℕ) → m ≤ n → Records U P m list → Records U P n full → length list ≤ length full
  records_later zero m list full l r f =
      let q : m ≡ 0 = omega arith in
      let same = ap length (records_one 0 list full (subst (λ k. Records U P k list) q r) f) in
      omega arith
  records_later (suc n) m list full l r (before, part, f, a, q) =
      by_cases (ℕ_discrete m (suc n))
      (λ e. let same = ap length (records_one (suc n) list full (subst (λ k. Records U P k list) e r) (before, part, f, a, q)) in omega arith)
      (λ other. let low = records_later n m list before (omega arith) r f in let size = ap length q ∙ length-append before part in omega arith)

  pub records_room : (n room : ℕ) (full : List ℕ) → Records U P n full → length full ≤ room
      → (m : ℕ) (list : List ℕ) → m ≤ n → Records U P m list → length list ≤ room
  records_room n room full f fits m list l r = let low = records_later n m list full l r f in omega arith

  -- The whole has at most n + 2 entries for each universal.
  module _ (n : ℕ) (within : (x v : ℕ) → P x v → (1 ≤ v) × (v ≤ n)) where
    adds_most : (b : Bool) (x : ℕ) (part : List ℕ) → Record b x (P x) part → length part ≤ n + 2
    adds_most true x part (s, l, q) = let size = ap length q in let most = listed_most (P x) n s (within x) l in omega arith
    adds_most false x part q = let size = ap length q in omega arith

    pub records_most : (m : ℕ) (list : List ℕ) → Records U P m list → length list ≤ m * (n + 2)
    records_most zero list q = let size = ap length q in omega arith
    records_most (suc m) list (before, part, r, p, q) =
        let size = ap length q ∙ length-append before part in
        let low = records_most m before r in
        let one = adds_most (U (suc m)) (suc m) part p in
        let step : suc m * (n + 2) ≡ (n + 2) + m * (n + 2) = omega arith in
        omega arith

  -- One variable more: a universal with its set, and any other.
  module _ (m : ℕ) (list : List ℕ) (r : Records U P m list) where
    pub records_set : (x : ℕ) (members : List ℕ) → x ≡ m + 1 → U x ≡ true → Listed (P x) members → Records U P (m + 1) (list ++ (x ∷ length members ∷ members))
    records_set x members is u l = rw (add-one m) (list, x ∷ length members ∷ members, r, adds, refl)
      where
        own : Record (U x) x (P x) (x ∷ length members ∷ members)
        own = subst (λ b. Record b x (P x) (x ∷ length members ∷ members)) (sym u) (members, l, refl)

        adds : Record (U (suc m)) (suc m) (P (suc m)) (x ∷ length members ∷ members)
        adds = subst (λ y. Record (U y) y (P y) (x ∷ length members ∷ members)) (is ∙ add-one m) own

    pub records_other : (x : ℕ) → x ≡ m + 1 → U x ≡ false → Records U P (m + 1) list
    records_other x is u = rw (add-one m) (list, [], r, subst (λ y. Record (U y) y (P y) []) (is ∙ add-one m) own, sym (append-nil list))
      where
        own : Record (U x) x (P x) []
        own = subst (λ b. Record b x (P x) []) (sym u) refl

  -- The list holds the record of each universal.
  abbrev pub HasRecord : ℕ → List ℕ → Type 0
  HasRecord x list =
      (members : List ℕ) × Listed (P x) members × (front : List ℕ) × (back : List ℕ) × (list ≡ front ++ ((x ∷ length members ∷ members) ++ back))

  pub records_part : (n : ℕ) (list : List ℕ) → Records U P n list → (x : ℕ) → 1 ≤ x → x ≤ n → U x ≡ true → HasRecord x list
  records_part zero list r x low high u = absurd (omega arith)
  records_part (suc n) list (before, part, r, a, q) x low high u =
      by_cases (ℕ_discrete x (suc n)) here' (λ other. there' (records_part n before r x low (omega arith) u))
    where
      here' : x ≡ suc n → HasRecord x list
      here' e =
          let (members, l, is) = subst (λ b. Record b x (P x) part) u (subst (λ y. Record (U y) y (P y) part) (sym e) a) in
          (members, l, before, [], q ∙ ap (λ (p : List ℕ). before ++ p) (is ∙ sym (append-nil (x ∷ length members ∷ members))))

      there' : HasRecord x before → HasRecord x list
      there' (members, l, front, back, is) =
          let one = x ∷ length members ∷ members in
          let moved = append_assoc front (one ++ back) part ∙ ap (λ (p : List ℕ). front ++ p) (append_assoc one back part) in
          (members, l, front, back ++ part, q ∙ ap (λ (b : List ℕ). b ++ part) is ∙ moved)

-- Written or only counted, one part more.
pub put_more : (writing : Bool) (before : List ℕ) {out out' : List ℕ} (end : ℕ) (list part : List ℕ) → end ≡ length list
    → out ≡ cond writing (sets before 0 list) before → out' ≡ cond writing (sets out end part) out
    → out' ≡ cond writing (sets before 0 (list ++ part)) before
put_more true before {out} end list part size here more =
    let q : end ≡ 0 + length list = omega arith in
    more ∙ ap₂ (λ (o : List ℕ) (i : ℕ). sets o i part) here q ∙ sym (sets_append before 0 list part)
put_more false before end list part size here more = more ∙ here
