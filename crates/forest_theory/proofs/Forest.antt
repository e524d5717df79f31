-- The forest is one, and a table that represents joins is their forest.
use Prim.Native.Nat.{ℕ, ◌≤◌, ◌<◌}
use mathlib.Core.Path.{◌≡◌, refl, sym, ◌∙◌, ap, subst}
use mathlib.Core.Bool.{Bool, true, false}
use mathlib.Core.Logic.Iff
use mathlib.Core.Logic.{◌↔◌, ◌≢◌, by_cases}
use native.Mathlib.Decide.{ℕ_discrete, dec_lt}
use native.Mathlib.Nat.{le_antisymm}
use native.Mathlib.Omega.{arith}
use Rattle.forest_theory.specs.Reach.{Variables, From, Reach}
use Rattle.forest_theory.specs.Tables.{Table, ClassName, start}
use Rattle.forest_theory.specs.Forest.{Names, ClassAbove, Parent, none, deepest, Forest}
use Rattle.forest_theory.specs.InnerClimb.{top, Represents}
use Rattle.forest_theory.proofs.Reach.{Symmetric, allow, reach_trans, reach_sym}
use Rattle.forest_theory.proofs.Climb.{top_class}
use Rattle.forest_theory.proofs.Represent.{parent_top, class_top, own_top}

module _ {X : Variables} {J : ℕ → ℕ → Type 0} where
  -- A class has one name.
  pub names_one : {c d v : ℕ} → Names X J c v → Names X J d v → c ≡ d
  names_one {c} {d} m n = le_antisymm (m.lowest d n.member) (n.lowest c m.member)

  -- Where every class row names the class, by reach, the class names are those that name themselves.
  pub class_names : {W : Table} → ((v : ℕ) → X.ex v ≡ true → Names X J (W.cls v) v) → {c : ℕ} → Names X J c c ↔ ClassName X W c
  class_names class {c} = (
    λ n. record { existential = n.member.left; itself = names_one (class c n.member.left) n },
    λ n. subst (λ (d : ℕ). Names X J d c) n.itself (class c n.existential),
  )

  -- Of two classes of one block above the same class, each reaches the other: they are one class.
  above_one : Symmetric J → {p q c : ℕ} → ClassAbove X J p c → ClassAbove X J q c → X.lev p ≡ X.lev q → q ≤ p
  above_one flip {p} {q} {c} a b l =
      let back : Reach J (From X (X.lev q)) c q = reach_sym flip (allow b.class.member.left (omega arith)) b.reached in
      b.class.lowest p (record { left = a.class.member.left; right = b.class.member.left; block = l; reached = reach_trans a.reached (rw l back) })

  -- A class has one parent.
  parent_one : Symmetric J → {c p q : ℕ} → Parent X J c p → Parent X J c q → p ≡ q
  parent_one flip (none e n) (none e' n') = e ∙ sym e'
  parent_one flip {p = p} {q = q} (none e n) (deepest a m) = absurd (n q a)
  parent_one flip {p = p} {q = q} (deepest a m) (none e n) = absurd (n p a)
  parent_one flip {p = p} {q = q} (deepest a m) (deepest b n) =
      let l : X.lev p ≡ X.lev q = le_antisymm (n p a) (m q b) in
      le_antisymm (above_one flip b a (sym l)) (above_one flip a b l)

  -- Two forests of the same joins agree at every row.
  pub forest_one : Symmetric J → {W W' : Table} → Forest X J W → Forest X J W'
      → (v : ℕ) → (W.cls v ≡ W'.cls v) × (W.par v ≡ W'.par v)
  forest_one flip {W} {W'} f g v = go (X.ex v) refl
    where
      class : X.ex v ≡ true → W.cls v ≡ W'.cls v
      class e = names_one (f.class v e) (g.class v e)

      parent : X.ex v ≡ true → W.par v ≡ W'.par v
      parent e = by_cases (ℕ_discrete (W.cls v) v)
          (λ s. let n : Names X J v v = subst (λ (c : ℕ). Names X J c v) s (f.class v e) in parent_one flip (f.parent v n) (g.parent v n))
          (λ s. let n : Names X J v v → ⊥ = λ n. s (names_one (f.class v e) n) in f.unnamed v e n ∙ sym (g.unnamed v e n))

      go : (b : Bool) → X.ex v ≡ b → (W.cls v ≡ W'.cls v) × (W.par v ≡ W'.par v)
      go true e = (class e, parent e)
      go false e = ((f.universal v e).0 ∙ sym (g.universal v e).0, (f.universal v e).1 ∙ sym (g.universal v e).1)

  module _ {W : Table} (rep : Represents X J W) where
    -- A class row names the class, by reach.
    pub represents_class : (v : ℕ) → X.ex v ≡ true → Names X J (W.cls v) v
    represents_class v e =
        let formed = rep.formed in
        let r = (formed.right v).class e in
        record {
          member = record {
            left = r.name.existential;
            right = e;
            block = r.block;
            reached = (rep.tops (X.lev (W.cls v)) (W.cls v) v (allow r.name.existential (omega arith))
                (allow e (omega (arith, r.block)))).1 (class_top formed (X.lev (W.cls v)) v e);
          };
          lowest = λ u o.
              let same : W.cls u ≡ W.cls v = sym (own_top formed u o.left refl)
              ∙ (rep.tops (X.lev u) u v (allow o.left (omega arith)) (allow e (omega (arith, o.block)))).0 o.reached
              ∙ own_top formed v e o.block in
              omega (arith, ((formed.right u).class o.left).most);
        }

    -- A class name of the table names its class, and conversely.
    pub represents_name : {c : ℕ} → Names X J c c ↔ ClassName X W c
    represents_name = class_names represents_class

    -- Where the climb from c would stop before q, q is not above c.
    not_above : {q c : ℕ} → ClassName X W c → ClassAbove X J q c → (W.par c ≢ 0 → X.lev (W.par c) < X.lev q) → ⊥
    not_above {q} {c} n a s =
        let formed = rep.formed in
        let eq = a.class.member.left in
        let here : top X W (X.lev q) c ≡ c = top_class formed n (record { above = start; deep = omega (arith, a.less); stop = s }) in
        let there : top X W (X.lev q) q ≡ q = own_top formed q eq refl ∙ (represents_name.0 a.class).itself in
        let same : top X W (X.lev q) q ≡ top X W (X.lev q) c = (rep.tops (X.lev q) q c (allow eq (omega arith))
        (allow n.existential (omega (arith, a.less)))).0 a.reached in
        omega (arith, a.less, ap X.lev (sym there ∙ same ∙ here))

    -- A parent row gives the deepest class above.
    represents_parent : (c : ℕ) → ClassName X W c → Parent X J c (W.par c)
    represents_parent c n = by_cases (ℕ_discrete (W.par c) 0)
        (λ e. none e (λ q a. not_above n a (λ s. absurd (s e))))
        (λ p. let r = (rep.formed.right c).parent p in
        deepest (record {
          class = represents_name.1 r.name;
          less = r.less;
          reached = (rep.tops (X.lev (W.par c)) (W.par c) c (allow r.name.existential (omega arith))
              (allow n.existential (omega (arith, r.less)))).1 (sym (parent_top rep.formed p (omega arith)));
        })
        (λ q a. by_cases (dec_lt (X.lev (W.par c)) (X.lev q)) (λ l. absurd (not_above n a (λ s. l))) (λ l. omega arith)))

    -- A table that represents joins is their forest.
    pub represents_forest : Forest X J W
    represents_forest = record {
      universal = λ v e. (rep.formed.right v).universal e;
      class = represents_class;
      parent = λ c n. represents_parent c (represents_name.0 n);
      unnamed = λ v e n. by_cases (ℕ_discrete (W.par v) 0) (λ z. z) (λ p. absurd (n (represents_name.1 ((rep.formed.right v).parent p).child)));
    }

-- Tables with the same rows are one ...
pub same_rows : {W W' : Table} → ((v : ℕ) → (W.cls v ≡ W'.cls v) × (W.par v ≡ W'.par v)) → W ≡ W'
same_rows same = λ i. record { cls = λ v. (same v).0 i; par = λ v. (same v).1 i }

-- ... so that what a table represents shows in its rows alone ...
pub represents_rows : {X : Variables} {J : ℕ → ℕ → Type 0} {W W' : Table} → ((v : ℕ) → (W.cls v ≡ W'.cls v) × (W.par v ≡ W'.par v))
    → Represents X J W → Represents X J W'
represents_rows {X} {J} same rep = subst (Represents X J) (same_rows same) rep

-- ... and of the joins only reach counts.
pub represents_reach : {X : Variables} {J K : ℕ → ℕ → Type 0} {W : Table}
    → ((i v y : ℕ) → From X i v → From X i y → Reach J (From X i) v y ↔ Reach K (From X i) v y) → Represents X J W → Represents X K W
represents_reach same rep = record { formed = rep.formed; tops = λ i v y fv fy. Iff.trans (Iff.symm (same i v y fv fy)) (rep.tops i v y fv fy) }
