-- An accepted prefix names its variables in the order of their levels: the level of a variable by its place, and of one that no place names.
use Prim.Native.Nat.{ℕ, zero, suc, ◌+◌, ◌-◌, ◌≤◌, ◌<◌}
use mathlib.Core.Path.{◌≡◌, refl, sym, ap, subst, ◌∙◌}
use mathlib.Core.Bool.{Bool, true, false, cond, true≢false}
use mathlib.Core.List.{List, [], ◌∷◌}
use mathlib.Core.Logic.{◌⊎◌, inl, inr, ⊎_elim, ◌≢◌, by_cases}
use native.Mathlib.Decide.{ℕ_discrete, dec_le}
use native.Mathlib.Numerals.{add-one}
use native.Mathlib.Omega.{arith}
use borrow.Author.Tests.{eq-eqb}
use lib.Dec.{eqb}
use lib.ListN.{length, get_or, set, replicate, get_or-replicate, length-replicate, get_or-eq_default}
use lib.Seq.{get_or-set_same, get_or-set_other}
use Rattle.formula.specs.Tables.{at, opens, cut, marks_before, VariableAt}
use Rattle.formula.specs.Causes.{ends_inside, named_before}
use Rattle.formula.specs.Meaning.{blocks, first_mark, level}
use Rattle.formula.specs.InnerLevels.{free_level}
use Rattle.formula.specs.InnerLevels.{SoundPrefix}
use Rattle.formula.proofs.Blocked.{marks_rise}
use Rattle.formula.proofs.Levelling.{Levelling, level_none, level_mark, level_close, level_variable, levelled, variable_small}

-- marks are no more than the entries before
pub marks_within : (es : List ℕ) (e : ℕ) → marks_before es e ≤ e
marks_within es zero = omega arith
marks_within es (suc e) = one (opens es e) (marks_within es e)
  where
    one : (b : Bool) → marks_before es e ≤ e → cond b (suc (marks_before es e)) (marks_before es e) ≤ suc e
    one true l = omega arith
    one false l = omega arith

-- a place names v
abbrev pub NamedFrom : List ℕ → ℕ → ℕ → Type 0
NamedFrom es i v = (e : ℕ) × (i ≤ e) × VariableAt es e × (at es e ≡ v)

-- whether a place names v can be told
pub named? : (es : List ℕ) (v : ℕ) → NamedFrom es 0 v ⊎ (NamedFrom es 0 v → ⊥)
named? es v = go (before (length es))
  where
    Before : ℕ → Type 0
    Before m = (e : ℕ) × (e < m) × VariableAt es e × (at es e ≡ v)

    later : (m : ℕ) → (Before m → ⊥) → Before (suc m) → (VariableAt es m × (at es m ≡ v) → ⊥) → ⊥
    later m none (e, less, there, is) not =
        by_cases (ℕ_discrete e m) (λ q. not (subst (λ (k : ℕ). VariableAt es k × (at es k ≡ v)) q (there, is)))
        (λ other. none (e, omega arith, there, is))

    here : (m : ℕ) → Dec (m < length es) → (b : Bool) → opens es m ≡ b → Dec (at es m ≡ 0) → Dec (at es m ≡ v) → (Before m → ⊥)
        → Before (suc m) ⊎ (Before (suc m) → ⊥)
    here m (yes l) false shut (no some) (yes is) none = inl (m, omega arith, (l, shut, some), is)
    here m (no l) b q z d none = inr (λ k. let (e, less, there, is) = k in let within = there.0 in none (e, omega arith, there, is))
    here m (yes l) true open' z d none = inr (λ k. later m none k (λ there. true≢false (sym open' ∙ there.0.1)))
    here m (yes l) false shut (yes z) d none = inr (λ k. later m none k (λ there. there.0.2 z))
    here m (yes l) false shut (no some) (no other) none = inr (λ k. later m none k (λ there. other there.1))

    before : (m : ℕ) → Before m ⊎ (Before m → ⊥)
    before zero = inr (λ k. let (e, less, there, is) = k in omega arith)
    before (suc m) =
        ⊎_elim (λ k. let (e, less, there, is) = k in inl (e, omega arith, there, is))
        (here m (dec_le (suc m) (length es)) (opens es m) refl (ℕ_discrete (at es m) 0) (ℕ_discrete (at es m) v)) (before m)

    go : Before (length es) ⊎ (Before (length es) → ⊥) → NamedFrom es 0 v ⊎ (NamedFrom es 0 v → ⊥)
    go (inl k) = let (e, less, there, is) = k in inl (e, omega arith, there, is)
    go (inr none) = inr (λ d. let (e, over, there, is) = d in none (e, there.0, there, is))

-- a variable stands behind a mark
marks_some : (es : List ℕ) (e : ℕ) → VariableAt es e → 1 ≤ marks_before es e
marks_some es zero there = absurd (true≢false there.1)
marks_some es (suc e) there = marks_rise es 1 (suc e) (omega arith)

free_most : (es : List ℕ) → free_level es ≤ 1
unfolding free_level
free_most es = go (eqb (first_mark (blocks es)) 1)
  where
    go : (b : Bool) → cond b 1 0 ≤ 1
    go true = omega arith
    go false = omega arith

-- the free level is 1 only where a block opens
free_within : (es : List ℕ) → free_level es ≤ marks_before es (length es)
unfolding free_level blocks cut
free_within [] = omega arith
free_within (e ∷ es) = let most = free_most (e ∷ es) in let rise = marks_rise (e ∷ es) 1 (length (e ∷ es)) (omega arith) in omega arith

module _ {n : ℕ} {es : List ℕ} (sound : SoundPrefix n es) where
  -- the pass over the prefix, with the level of each variable that is named so far, and the free level in every other row
  record Placed (i : ℕ) : Type 0 where
    mark : ℕ
    levels : List ℕ
    universals : List Bool
    so : Levelling es i (opens es i) mark (marks_before es i) levels universals
    placed : (e : ℕ) → e < i → VariableAt es e → get_or levels (at es e) 0 ≡ marks_before es e
    free : (v : ℕ) → v < 4097 → ((e : ℕ) → e < i → VariableAt es e → at es e ≢ v) → get_or levels v 0 ≡ free_level es

  -- a variable is named once
  pub once : (e f : ℕ) → VariableAt es e → VariableAt es f → e < f → at es e ≢ at es f
  once e f at-e at_f l q = sound.faultless 8 f (named_before e refl at_f l at-e q)

  moved : {i m b : ℕ} {o : Bool} {levels : List ℕ} {universals : List Bool} → Levelling es (i + 1) o m b levels universals
      → b ≡ marks_before es (suc i) → Levelling es (suc i) (opens es (suc i)) m (marks_before es (suc i)) levels universals
  moved {i} {m} {b} {o} {levels} {universals} s q =
      let one : Levelling es (suc i) o m b levels universals = subst (λ (k : ℕ). Levelling es k o m b levels universals) (add-one i) s in
      let two : Levelling es (suc i) (opens es (suc i)) m b levels universals =
      subst (λ (t : Bool). Levelling es (suc i) t m b levels universals) one.opening_is one in
      subst (λ (k : ℕ). Levelling es (suc i) (opens es (suc i)) m k levels universals) q two

  module _ (i : ℕ) (more : i < length es) (p : Placed i) where
    -- where the entry names nothing the rows stay
    kept : (m b : ℕ) (o : Bool) → Levelling es (i + 1) o m b p.levels p.universals → b ≡ marks_before es (suc i) → (VariableAt es i → ⊥) → Placed (suc i)
    kept m b o s q none =
        record {
          mark = m;
          levels = p.levels;
          universals = p.universals;
          so = moved s q;
          placed = λ e l at-e. before e l at-e (ℕ_discrete e i);
          free = λ v l unnamed. p.free v l (λ e k at-e. unnamed e (omega arith) at-e);
        }
      where
        before : (e : ℕ) → e < suc i → VariableAt es e → Dec (e ≡ i) → get_or p.levels (at es e) 0 ≡ marks_before es e
        before e l at-e (yes q) = absurd (none (subst (VariableAt es) q at-e))
        before e l at-e (no other) = p.placed e (omega arith) at-e

    -- where it names a variable its row gets the level
    named : opens es i ≡ false → at es i ≢ 0 → Placed (suc i)
    named shut some =
        record {
          mark = p.mark;
          levels = set p.levels (at es i) (marks_before es i);
          universals = _;
          so = moved (level_variable sound p.so more shut some) (sym (ap (λ b. cond b (suc (marks_before es i)) (marks_before es i)) shut));
          placed = λ e l at-e. before e l at-e (ℕ_discrete e i);
          free = λ v l unnamed. get_or-set_other p.levels (at es i) v (marks_before es i) 0 (λ q. unnamed i (omega arith) there (sym q))
              ∙ p.free v l (λ e k at-e. unnamed e (omega arith) at-e);
        }
      where
        there : VariableAt es i
        there = (more, shut, some)

        before : (e : ℕ) → e < suc i → VariableAt es e → Dec (e ≡ i) → get_or (set p.levels (at es i) (marks_before es i)) (at es e) 0 ≡ marks_before es e
        before e l at-e (yes q) =
            let small = variable_small sound i more shut some in
            let size = p.so.sizes.0 in
            subst (λ (k : ℕ). get_or (set p.levels (at es i) (marks_before es i)) (at es k) 0 ≡ marks_before es k) (sym q)
            (get_or-set_same p.levels (at es i) (marks_before es i) 0 (omega arith))
        before e l at-e (no other) =
            get_or-set_other p.levels (at es i) (at es e) (marks_before es i) 0 (once e i at-e there (omega arith)) ∙ p.placed e (omega arith) at-e

    passed_on : (b : Bool) → opens es i ≡ b → Dec (at es i ≡ 0) → Placed (suc i)
    passed_on true open' d =
        kept (at es i) _ false (level_mark sound p.so more open')
        (add-one (marks_before es i) ∙ sym (ap (λ b. cond b (suc (marks_before es i)) (marks_before es i)) open'))
        (λ there. true≢false (sym open' ∙ there.1))
    passed_on false shut (yes none) =
        kept p.mark _ true (level_close sound p.so more shut none) (sym (ap (λ b. cond b (suc (marks_before es i)) (marks_before es i)) shut))
        (λ there. there.2 none)
    passed_on false shut (no some) = named shut some

  all_placed : (i : ℕ) → i ≤ length es → Placed i
  all_placed zero l =
      record {
        mark = 0;
        levels = replicate 4097 (free_level es);
        universals = replicate 4097 false;
        so = level_none sound (replicate 4097 (free_level es)) (replicate 4097 false) (length-replicate 4097 (free_level es), length-replicate 4097 false)
            (λ v k. get_or-replicate 4097 v (free_level es) 0 k) (λ v k. get_or-replicate 4097 v false false k);
        placed = λ e k. absurd (omega arith);
        free = λ v k unnamed. get_or-replicate 4097 v (free_level es) 0 k;
      }
  all_placed (suc i) l = passed_on i l (all_placed i (omega arith)) (opens es i) refl (ℕ_discrete (at es i) 0)

  -- the level of a variable is the number of marks before its place
  pub level_at : (e : ℕ) → VariableAt es e → level es (at es e) ≡ marks_before es e
  level_at e there =
      let p = all_placed (length es) (omega arith) in
      let small = variable_small sound e there.0 there.1 there.2 in
      sym ((levelled p.so (omega arith)).level_is (at es e) (omega arith)) ∙ p.placed e there.0 there

  -- and that of a variable that no place names is the free one
  pub level_free : (v : ℕ) → v ≤ 4096 → (NamedFrom es 0 v → ⊥) → level es v ≡ free_level es
  level_free v l unnamed =
      let p = all_placed (length es) (omega arith) in
      sym ((levelled p.so (omega arith)).level_is v l) ∙ p.free v (omega arith) (λ e k at-e q. unnamed (e, omega arith, at-e, q))

  -- so of two variables of different levels the deeper one is named
  pub deeper_named : (p c : ℕ) → p ≤ 4096 → c ≤ 4096 → level es p < level es c → NamedFrom es 0 c
  deeper_named p c small-p small-c less = ⊎_elim (λ d. d) (λ none. absurd (unnamed none (named? es p))) (named? es c)
    where
      unnamed : (NamedFrom es 0 c → ⊥) → NamedFrom es 0 p ⊎ (NamedFrom es 0 p → ⊥) → ⊥
      unnamed none (inl (e, over, there, is)) =
          let free = level_free c small-c none in
          let placed = sym (ap (level es) is) ∙ level_at e there in
          let some = marks_some es e there in
          let most = free_most es in
          omega arith
      unnamed none (inr none-p) =
          let free = level_free c small-c none in
          let free-p = level_free p small-p none-p in
          omega arith

  -- no level is more than the number of blocks
  pub level_most : (v : ℕ) → v ≤ 4096 → level es v ≤ marks_before es (length es)
  level_most v small = ⊎_elim placed (λ none. let own = level_free v small none in let most = free_within es in omega arith) (named? es v)
    where
      placed : NamedFrom es 0 v → level es v ≤ marks_before es (length es)
      placed (e, _, there, is) =
          let own = sym (ap (level es) is) ∙ level_at e there in
          let rise = marks_rise es e (length es) (let l = there.0 in omega arith) in
          omega arith

  -- an accepted prefix ends between two blocks
  pub closed_end : (i : ℕ) → length es ≤ i → opens es i ≡ true
  closed_end zero done = refl
  closed_end (suc i) done = eq-eqb (at es i) 0 (by_cases (dec_le (length es) i) (λ over. get_or-eq_default es 0 {n = i} over) last)
    where
      last : ¬ (length es ≤ i) → at es i ≡ 0
      last within =
          let is : length es - 1 ≡ i = omega arith in
          by_cases (ℕ_discrete (at es i) 0) (λ z. z)
          (λ some. absurd (sound.faultless 3 (length es) (ends_inside refl refl (omega arith, λ z. some (sym (ap (at es) is) ∙ z)))))
