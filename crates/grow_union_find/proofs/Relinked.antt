-- Each way in which growing changes a loose table (a row halved, two roots united, one hung over the other), and that the links, together with the
-- pair that is still to be joined, reach what they reached before it.
use Prim.Native.Nat.{ℕ, ◌≤◌, ◌<◌}
use mathlib.Core.Path.{◌≡◌, refl, sym, ◌∙◌, ap, subst}
use mathlib.Core.Bool.{true, false}
use mathlib.Core.List.{[], ◌∷◌}
use mathlib.Core.Logic.{◌≢◌, by_cases}
use native.Mathlib.Decide.{ℕ_discrete}
use native.Mathlib.Omega.{arith}
use Rattle.terms.proofs.Common.{clash}
use Rattle.forest_theory.specs.Reach.{Variables, From, Reach, here}
use Rattle.forest_theory.specs.Tables.{Table}
use Rattle.forest_theory.specs.InnerGrowth.{Added}
use Rattle.forest_theory.proofs.Reach.{reach_one, reach_trans, reach_sym, reach_mono, from_less}
use Rattle.forest_theory.proofs.Represent.{Link, to_class, to_parent, Linked, up, down, linked_sym}
use Rattle.grow_union_find.specs.InnerLoose.{Equal, LooseClass, LooseParent, Loose, Kept, RootOf}
use Rattle.grow_union_find.proofs.Inside.{inside_reach, inside_refl, inside_trans, inside_before, inside_pair, inside_links, pair_step}
use Rattle.grow_union_find.proofs.Inside.{pair_back, link_step, link_back, both_sym}

-- 0 is no existential, so an existential is not 0.
pub nonzero : (X : Variables) (v : ℕ) → X.ex 0 ≡ false → X.ex v ≡ true → v ≢ 0
nonzero X v none ex e = clash ex (ap X.ex e ∙ none)

-- A class row by what it says, and a parent row.
class_is : {X : Variables} {W : Table} {v c : ℕ} → W.cls v ≡ c → c ≤ v → X.ex c ≡ true → X.lev c ≡ X.lev v → LooseClass X W v
class_is {X} e most ex block = record { most = omega arith; existential = ap X.ex e ∙ ex; block = ap X.lev e ∙ block }

parent_is : {X : Variables} {W : Table} {v p : ℕ} → W.par v ≡ p → X.ex v ≡ true → W.cls v ≡ v → X.ex p ≡ true → X.lev p < X.lev v → LooseParent X W v
parent_is {X} e child root ex less = record { child = child; root = root; existential = ap X.ex e ∙ ex; less = omega (arith, ap X.lev e) }

module _ {X : Variables} {W W' : Table} (loose : Loose X W) where
  -- A class row that stays is right still.
  class_stays : {v : ℕ} → X.ex v ≡ true → W'.cls v ≡ W.cls v → LooseClass X W' v
  class_stays {v} ex e = let r = loose.class v ex in class_is e r.most r.existential r.block

  -- A parent row that stays, of a root that stays one.
  parent_stays : {v : ℕ} → W'.par v ≢ 0 → W'.par v ≡ W.par v → (W.par v ≢ 0 → W.cls v ≡ v → W'.cls v ≡ v) → LooseParent X W' v
  parent_stays {v} n e root =
      let p : W.par v ≢ 0 = λ z. n (e ∙ z) in
      let r = loose.parent v p in
      parent_is e r.child (root p r.root) r.existential r.less

  -- A link of a row that stays is a link still.
  link_stays : {u z : ℕ} → W'.cls u ≡ W.cls u → W'.par u ≡ W.par u → Link X W u z → Link X W' u z
  link_stays c p (to_class ex e) = to_class ex (c ∙ e)
  link_stays c p (to_parent n e) = to_parent (λ z. n (sym p ∙ z)) (p ∙ e)

-- What is of a level, and another existential of its block or a deeper one: that is of the level too.
deeper : {X : Variables} {i a : ℕ} (b : ℕ) → From X i a → X.ex b ≡ true → X.lev a ≤ X.lev b → From X i b
deeper b f ex l = record { existential = ex; deep = omega (arith, f.deep) }

-- A class row that pointed past one member now points one further.
module _ {X : Variables} {W W' : Table} (loose : Loose X W) (v : ℕ) (ex : X.ex v ≡ true) (other : W.cls v ≢ v)
    (changed : W'.cls v ≡ W.cls (W.cls v)) (rest : (u : ℕ) → u ≢ v → W'.cls u ≡ W.cls u) (same : (u : ℕ) → W'.par u ≡ W.par u) where
  first : LooseClass X W v
  first = loose.class v ex

  second : LooseClass X W (W.cls v)
  second = loose.class (W.cls v) first.existential

  halved_class : (u : ℕ) → X.ex u ≡ true → LooseClass X W' u
  halved_class u exu = by_cases (ℕ_discrete u v)
      (λ e. subst (LooseClass X W') (sym e) (class_is changed (omega (arith, first.most, second.most)) second.existential (second.block ∙ first.block)))
      (λ d. class_stays loose exu (rest u d))

  halved_roots : (u : ℕ) → W.cls u ≡ u → W'.cls u ≡ u
  halved_roots u r = rest u (λ e. other (subst (λ (w : ℕ). W.cls w ≡ w) e r)) ∙ r

  halved_loose : Loose X W'
  halved_loose = record {
    universal = λ u e. (rest u (λ q. clash ex (ap X.ex (sym q) ∙ e)) ∙ (loose.universal u e).0, same u ∙ (loose.universal u e).1);
    class = halved_class;
    parent = λ u n. parent_stays loose n (same u) (λ p r. halved_roots u r);
  }

  -- v, what it pointed to and what it points to are of one block.
  halved_first : {i : ℕ} → From X i v → From X i (W.cls v)
  halved_first f = deeper _ f first.existential (omega (arith, first.block))

  halved_second : {i : ℕ} → From X i v → From X i (W.cls (W.cls v))
  halved_second f = deeper _ f second.existential (omega (arith, first.block, second.block))

  halved_old : (i u z : ℕ) → From X i u → From X i z → Link X W u z → Reach (Linked X W') (From X i) u z
  halved_old i u z fu fz l = by_cases (ℕ_discrete u v) (λ e. at_v (subst (λ (w : ℕ). Link X W w z) e l) e)
      (λ d. reach_one (up (link_stays loose (rest u d) (same u) l)) fz)
    where
      at_v : Link X W v z → u ≡ v → Reach (Linked X W') (From X i) u z
      at_v (to_parent n e) q = absurd (other (loose.parent v n).root)
      at_v (to_class _ e) q =
          let f : From X i v = subst (From X i) q fu in
          subst (λ (w : ℕ). Reach (Linked X W') (From X i) w z) (sym q)
          (reach_trans (reach_one (up (to_class ex changed)) (halved_second f))
          (reach_one (down (to_class fz.existential (rest z (λ d. other (e ∙ d)) ∙ ap W.cls (sym e)))) fz))

  halved_new : (i u z : ℕ) → From X i u → From X i z → Link X W' u z → Reach (Linked X W) (From X i) u z
  halved_new i u z fu fz l = by_cases (ℕ_discrete u v) (λ e. at_v (subst (λ (w : ℕ). Link X W' w z) e l) e)
      (λ d. reach_one (up (link_stays halved_loose (sym (rest u d)) (sym (same u)) l)) fz)
    where
      at_v : Link X W' v z → u ≡ v → Reach (Linked X W) (From X i) u z
      at_v (to_parent n e) q = absurd (other (loose.parent v (λ z. n (same v ∙ z))).root)
      at_v (to_class _ e) q =
          let f : From X i v = subst (From X i) q fu in
          subst (λ (w : ℕ). Reach (Linked X W) (From X i) w z) (sym q)
          (reach_trans (reach_one (up (to_class ex refl)) (halved_first f)) (reach_one (up (to_class first.existential (sym changed ∙ e))) fz))

  halved_equal : Equal X (Linked X W) (Linked X W')
  halved_equal = record { there = inside_links linked_sym halved_old; back = inside_links linked_sym halved_new }

  pub halved : Kept X W W'
  halved = record { loose = halved_loose; equal = halved_equal; roots = halved_roots }

-- Two of a pair that is to be joined give way to their roots.
module _ {X : Variables} {W W' : Table} {p q r s : ℕ} (equal : Equal X (Linked X W) (Linked X W')) (exp : X.ex p ≡ true) (exq : X.ex q ≡ true)
    (rp : RootOf X W' p r) (sq : RootOf X W' q s) where
  to_root : {i v w : ℕ} → RootOf X W' v w → From X i v → Reach (Linked X W') (From X i) v w
  to_root k f = reach_mono (λ a b j. j) (λ a e. from_less f.deep e) k.reached

  -- A root is of the levels that its variable is of, and conversely.
  root_from : {i v w : ℕ} → RootOf X W' v w → From X i v → From X i w
  root_from {w = w} k f = deeper w f k.existential (omega (arith, k.block))

  from_root : {i v w : ℕ} → X.ex v ≡ true → RootOf X W' v w → From X i w → From X i v
  from_root {v = v} ex k f = deeper v f ex (omega (arith, k.block))

  pub moved : Equal X (Added (Linked X W) (p ∷ q ∷ [])) (Added (Linked X W') (r ∷ s ∷ []))
  moved = record {
    there = inside_pair both_sym (inside_trans equal.there inside_before)
        (λ i fp fq. reach_trans (inside_reach inside_before fp (to_root rp fp))
        (reach_trans (pair_step (root_from sq fq)) (inside_reach inside_before (root_from sq fq) (reach_sym linked_sym fq (to_root sq fq)))));
    back = inside_pair both_sym (inside_trans equal.back inside_before)
        (λ i fr fs.
        let fp = from_root exp rp fr in
        let fq = from_root exq sq fs in
        reach_trans (inside_reach (inside_trans equal.back inside_before) fr (reach_sym linked_sym fp (to_root rp fp)))
        (reach_trans (pair_step fq) (inside_reach (inside_trans equal.back inside_before) fq (to_root sq fq))));
  }

-- Two roots of one block are joined: the higher points to the lower, and the parent of the higher is still to be joined to the lower.
module _ {X : Variables} {W W' : Table} (loose : Loose X W) (none : X.ex 0 ≡ false) {low high : ℕ} (exl : X.ex low ≡ true) (exh : X.ex high ≡ true)
    (block : X.lev low ≡ X.lev high) (less : low < high) (rl : W.cls low ≡ low) (rh : W.cls high ≡ high)
    (changed : W'.cls high ≡ low) (cleared : W'.par high ≡ 0) (rest : (u : ℕ) → u ≢ high → (W'.cls u ≡ W.cls u) × (W'.par u ≡ W.par u)) where
  pub united_loose : Loose X W'
  united_loose = record {
    universal = λ u e. let k = rest u (λ q. clash exh (ap X.ex (sym q) ∙ e)) in (k.0 ∙ (loose.universal u e).0, k.1 ∙ (loose.universal u e).1);
    class = λ u exu. by_cases (ℕ_discrete u high) (λ e. subst (LooseClass X W') (sym e) (class_is changed (omega arith) exl block))
        (λ d. class_stays loose exu (rest u d).0);
    parent = λ u n. by_cases (ℕ_discrete u high) (λ e. absurd (n (ap W'.par e ∙ cleared)))
        (λ d. parent_stays loose n (rest u d).1 (λ p r. (rest u d).0 ∙ r));
  }

  -- The two are of the same levels.
  low_from : {i : ℕ} → From X i high → From X i low
  low_from f = deeper low f exl (omega arith)

  high_from : {i : ℕ} → From X i low → From X i high
  high_from f = deeper high f exh (omega arith)

  united_old : (i u z : ℕ) → From X i u → From X i z → Link X W u z → Reach (Added (Linked X W') (low ∷ W.par high ∷ [])) (From X i) u z
  united_old i u z fu fz l = by_cases (ℕ_discrete u high) (λ e. at_high e (subst (λ (w : ℕ). Link X W w z) e l))
      (λ d. link_step (link_stays loose (rest u d).0 (rest u d).1 l) fz)
    where
      at_high : u ≡ high → Link X W high z → Reach (Added (Linked X W') (low ∷ W.par high ∷ [])) (From X i) u z
      at_high q (to_class _ e) = subst (λ (w : ℕ). Reach (Added (Linked X W') (low ∷ W.par high ∷ [])) (From X i) u w) (q ∙ sym rh ∙ e) here
      at_high q (to_parent n e) =
          let f : From X i high = subst (From X i) q fu in
          subst (λ (w : ℕ). Reach (Added (Linked X W') (low ∷ W.par high ∷ [])) (From X i) w z) (sym q)
          (reach_trans (link_step (to_class exh changed) (low_from f))
          (subst (λ (w : ℕ). Reach (Added (Linked X W') (low ∷ W.par high ∷ [])) (From X i) low w) e (pair_step (subst (From X i) (sym e) fz))))

  united_new : (i u z : ℕ) → From X i u → From X i z → Link X W' u z → Reach (Added (Linked X W) (low ∷ high ∷ [])) (From X i) u z
  united_new i u z fu fz l = by_cases (ℕ_discrete u high) (λ e. at_high e (subst (λ (w : ℕ). Link X W' w z) e l))
      (λ d. link_step (link_stays united_loose (sym (rest u d).0) (sym (rest u d).1) l) fz)
    where
      at_high : u ≡ high → Link X W' high z → Reach (Added (Linked X W) (low ∷ high ∷ [])) (From X i) u z
      at_high q (to_parent n e) = absurd (n cleared)
      at_high q (to_class _ e) =
          let f : From X i high = subst (From X i) q fu in
          subst (λ (w : ℕ). Reach (Added (Linked X W) (low ∷ high ∷ [])) (From X i) w z) (sym q)
          (subst (λ (w : ℕ). Reach (Added (Linked X W) (low ∷ high ∷ [])) (From X i) high w) (sym changed ∙ e) (pair_back (low_from f)))

  pub united : Equal X (Added (Linked X W) (low ∷ high ∷ [])) (Added (Linked X W') (low ∷ W.par high ∷ []))
  united = record {
    there = inside_pair both_sym (inside_links both_sym united_old) (λ i fl fh. link_back (to_class exh changed) fh);
    back = inside_pair both_sym (inside_links both_sym united_new)
        (λ i fl fp. reach_trans (pair_step (high_from fl)) (link_step (to_parent (nonzero X (W.par high) none fp.existential) refl) fp));
  }

-- A root p and a q of a lesser block, with p's parent of a block less than q's: q takes its place, and is still to be joined to it.
module _ {X : Variables} {W W' : Table} (loose : Loose X W) (none : X.ex 0 ≡ false) {p q : ℕ} (exp : X.ex p ≡ true) (exq : X.ex q ≡ true)
    (rp : W.cls p ≡ p) (less : X.lev q < X.lev p) (under : X.lev (W.par p) < X.lev q)
    (changed : W'.par p ≡ q) (rest : (u : ℕ) → u ≢ p → W'.par u ≡ W.par u) (same : (u : ℕ) → W'.cls u ≡ W.cls u) where
  pub hung_loose : Loose X W'
  hung_loose = record {
    universal = λ u e. (same u ∙ (loose.universal u e).0, rest u (λ d. clash exp (ap X.ex (sym d) ∙ e)) ∙ (loose.universal u e).1);
    class = λ u exu. class_stays loose exu (same u);
    parent = λ u n. by_cases (ℕ_discrete u p) (λ e. subst (LooseParent X W') (sym e) (parent_is changed exp (same p ∙ rp) exq less))
        (λ d. parent_stays loose n (rest u d) (λ _ r. same u ∙ r));
  }

  -- Whatever is of q's levels, p is.
  p_from : {i : ℕ} → From X i q → From X i p
  p_from f = deeper p f exp (omega arith)

  new_parent : Link X W' p q
  new_parent = to_parent (λ z. nonzero X q none exq (sym changed ∙ z)) changed

  hung_old : (i u z : ℕ) → From X i u → From X i z → Link X W u z → Reach (Added (Linked X W') (q ∷ W.par p ∷ [])) (From X i) u z
  hung_old i u z fu fz (to_class ex e) = link_step (to_class ex (same u ∙ e)) fz
  hung_old i u z fu fz (to_parent n e) = by_cases (ℕ_discrete u p)
      (λ d. let e' : W.par p ≡ z = ap W.par (sym d) ∙ e in
      let fq : From X i q = deeper q fz exq (omega (arith, ap X.lev e')) in
      subst (λ (w : ℕ). Reach (Added (Linked X W') (q ∷ W.par p ∷ [])) (From X i) w z) (sym d)
      (reach_trans (link_step new_parent fq) (subst (λ (w : ℕ). Reach (Added (Linked X W') (q ∷ W.par p ∷ [])) (From X i) q w) e'
      (pair_step (subst (From X i) (sym e') fz)))))
      (λ d. link_step (to_parent (λ z. n (sym (rest u d) ∙ z)) (rest u d ∙ e)) fz)

  hung_new : (i u z : ℕ) → From X i u → From X i z → Link X W' u z → Reach (Added (Linked X W) (p ∷ q ∷ [])) (From X i) u z
  hung_new i u z fu fz (to_class ex e) = link_step (to_class ex (sym (same u) ∙ e)) fz
  hung_new i u z fu fz (to_parent n e) = by_cases (ℕ_discrete u p)
      (λ d. let e' : q ≡ z = sym changed ∙ ap W'.par (sym d) ∙ e in
      subst (λ (w : ℕ). Reach (Added (Linked X W) (p ∷ q ∷ [])) (From X i) w z) (sym d)
      (subst (λ (w : ℕ). Reach (Added (Linked X W) (p ∷ q ∷ [])) (From X i) p w) e' (pair_step (subst (From X i) (sym e') fz))))
      (λ d. link_step (to_parent (λ z. n (rest u d ∙ z)) (sym (rest u d) ∙ e)) fz)

  pub hung : Equal X (Added (Linked X W) (p ∷ q ∷ [])) (Added (Linked X W') (q ∷ W.par p ∷ []))
  hung = record {
    there = inside_pair both_sym (inside_links both_sym hung_old) (λ i fp fq. link_step new_parent fq);
    back = inside_pair both_sym (inside_links both_sym hung_new)
        (λ i fq fa. reach_trans (pair_back (p_from fq)) (link_step (to_parent (nonzero X (W.par p) none fa.existential) refl) fa));
  }

-- With p's parent not less deep than q, it is the parent that is still to be joined to q.
module _ {X : Variables} {W : Table} (loose : Loose X W) {p q : ℕ} (exp : X.ex p ≡ true) (some : W.par p ≢ 0) (over : X.lev q ≤ X.lev (W.par p)) where
  pub risen : Equal X (Added (Linked X W) (p ∷ q ∷ [])) (Added (Linked X W) (W.par p ∷ q ∷ []))
  risen =
      let r = loose.parent p some in
      record {
        there = inside_pair both_sym inside_before
            (λ i fp fq. reach_trans (link_step (to_parent some refl) (deeper (W.par p) fq r.existential over)) (pair_step fq));
        back = inside_pair both_sym inside_before
            (λ i fa fq. reach_trans (link_back (to_parent some refl) (deeper p fa exp (omega (arith, r.less)))) (pair_step fq));
      }

-- A pair of one variable with itself, or with what is no existential, adds nothing.
pub idle : {X : Variables} {W : Table} {p q : ℕ} → (X.ex q ≡ true → p ≡ q) → Equal X (Added (Linked X W) (p ∷ q ∷ [])) (Linked X W)
idle {X} {W} {p} {q} alone = record {
  there = inside_pair linked_sym inside_refl (λ i fp fq. subst (λ (w : ℕ). Reach (Linked X W) (From X i) p w) (alone fq.existential) here);
  back = inside_before;
}
