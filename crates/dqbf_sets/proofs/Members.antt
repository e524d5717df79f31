-- From classes to what depends on x: the classes that share a clause with x by its signs, and what this is by the lists.
use Prim.Native.Nat.{ℕ, ◌≤◌}
use mathlib.Core.Path.{◌≡◌, refl, sym, ◌∙◌, subst}
use mathlib.Core.Bool.{Bool, true, false, true≢false, not-eq-not}
use mathlib.Core.List.{List}
use mathlib.Core.Logic.{◌⊎◌, inl, inr, ⊎_elim, ◌↔◌}
use native.Mathlib.Omega.{arith}
use Rattle.terms.specs.Listed.{Listed}
use Rattle.terms.specs.Refusals.{NoneOf}
use Rattle.terms.specs.declared.Scheme.{Scheme}
use Rattle.terms.specs.declared.Scheme.TheVariants.{Standard, Strict}
use Rattle.formula.specs.Lent.{Formula}
use Rattle.formula.specs.Meaning.{is_existential}
use Rattle.forest_theory.specs.Reach.{Follows}
use Rattle.forest_theory.specs.Tables.{row}
use Rattle.forest_theory.proofs.Reach.{reach_mono, reach_ends, reach_first, follows_reach}
use Rattle.forest_tables.specs.Formula.{universal, Shares, SharesBy}
use Rattle.forest_tables.proofs.Agreeing.{lawful}
use Rattle.forest_members.specs.declared.Asked.TheVariants.{Set}
use Rattle.forest_members.specs.InnerPicked.{pick, picked}
use Rattle.forest_members.proofs.Picked.{picked_listed}
use Rattle.forest_entries.specs.InnerFlags.{Takes, Via, Entering}
use Rattle.forest_entries.proofs.Sides.{shares_some, shares_signed}
use Rattle.forest.proofs.Demands.{universal_alone}
use Rattle.dqbf_lists.specs.Lists.{ListHas}
use Rattle.dqbf_sets.specs.Depends.{DependsOn, DependsOnBy}
use Rattle.dqbf_sets.specs.Inner.{behind_formula, ToldRows, Flat, Classed}

-- What a scheme takes of P it takes of Q, where P gives Q for each sign.
takes_map : (scheme : Scheme) {P Q : Bool → Type 0} → ((sign : Bool) → P sign → Q sign) → Takes scheme P → Takes scheme Q
takes_map Standard more = ⊎_elim (λ p. inl (more true p)) (λ p. inr (more false p))
takes_map Strict more = λ p. (more true p.0, more false p.1)

-- Where nothing is refused x is universal.
pub is_universal : (n : ℕ) (es ds : List ℕ) (x : ℕ) → NoneOf (behind_formula n es ds x) → universal n es x ≡ true
is_universal n es ds x none = (not-eq-not {b = true}).0 (λ f. none.1.0 13 0 (refl, refl, f))

-- What depends on x is one of 1 to n.
depends_within : (scheme : Scheme) (f : Formula) (ds : List ℕ) (x y : ℕ) → DependsOnBy scheme f ds x y → (1 ≤ y) × (y ≤ f.n)
depends_within Standard f ds x y d = (lawful f.n f.prefix).within y d.listed.existential
depends_within Strict f ds x y d =
    let follows = d.by true in
    (lawful f.n f.prefix).within y (reach_ends follows.allowed follows.onward).existential

module _ (f : Formula) (ds : List ℕ) (x : ℕ) (u : universal f.n f.prefix x ≡ true) where
  abbrev Has : ℕ → Type 0
  Has = ListHas f.n f.prefix ds x

  -- y is reached from x first by a sign, through existentials whose lists have x
  abbrev Led : ℕ → Bool → Type 0
  Led y sign = Follows (SharesBy f.clauses sign) (Shares f.clauses) Has x y

  led_depends : (scheme : Scheme) (y : ℕ) → Takes scheme (Led y) ↔ DependsOnBy scheme f ds x y
  led_depends Strict y = (λ (p, q). record { by = λ sign. pick_sign sign p q }, λ d. (d.by true, d.by false))
    where
      pick_sign : (sign : Bool) → Led y true → Led y false → Led y sign
      pick_sign true p q = p
      pick_sign false p q = q
  led_depends Standard y = (⊎_elim (there true) (there false), λ d. back d (reach_first d.reached))
    where
      there : (sign : Bool) → Led y sign → DependsOn f ds x y
      there sign l =
          let first : Follows (Shares f.clauses) (Shares f.clauses) Has x y =
          record { first = l.first; starts = shares_some sign l.starts; allowed = l.allowed; onward = l.onward } in
          record { listed = reach_ends l.allowed l.onward; reached = follows_reach first }

      by_sign : (sign : Bool) (l : Follows (Shares f.clauses) (Shares f.clauses) Has x y) → SharesBy f.clauses sign x l.first → Led y sign
      by_sign sign l starts = record { first = l.first; starts = starts; allowed = l.allowed; onward = l.onward }

      back : DependsOn f ds x y → (x ≡ y) ⊎ Follows (Shares f.clauses) (Shares f.clauses) Has x y → Takes Standard (Led y)
      back d (inl e) =
          let other = (universal_alone f.n f.prefix x u).universal in
          absurd (true≢false (sym d.listed.existential ∙ subst (λ (w : ℕ). is_existential f.n f.prefix w ≡ false) e other))
      back d (inr l) = ⊎_elim (λ p. inl (by_sign true l p)) (λ p. inr (by_sign false l p)) (shares_signed l.starts)

  -- A class that has a variable beside x by a sign is one whose members are reached first by it.
  module _ (told : List ℕ) {rows : List ℕ} (tells : ToldRows Has f.n told) (classed : Classed f.n (λ v. row f.n told v ≡ 1) f.clauses rows) where
    has : (v : ℕ) → row f.n told v ≡ 1 → Has v
    has v one = ⊎_elim (λ h. h.1) (λ h. let z = h.0 in absurd (omega arith)) (tells v)

    is_told : (v : ℕ) → Has v → row f.n told v ≡ 1
    is_told v l = ⊎_elim (λ h. h.0) (λ h. absurd (h.1 l)) (tells v)

    via_led : (y : ℕ) (sign : Bool) → Via f.n rows (SharesBy f.clauses sign x) (row f.n rows y) → Led y sign
    via_led y sign t =
        let (e, r) = classed.there t.for y t.is t.some in
        record { first = t.for; starts = t.holds; allowed = has t.for e; onward = reach_mono (λ a b j. j) has r }

    led_via : (y : ℕ) (sign : Bool) → Led y sign → Via f.n rows (SharesBy f.clauses sign x) (row f.n rows y)
    led_via y sign l =
        let (is, some) = classed.back l.first y (is_told l.first l.allowed) (reach_mono (λ a b j. j) is_told l.onward) in
        record { for = l.first; holds = l.starts; is = is; some = some }

    -- What the flags and the rows pick is the list of what depends on x.
    pub picked_depends : (scheme : Scheme) (tops : List ℕ) (flags : List Bool)
        → Entering f.n (λ e. Takes scheme (λ sign. Via f.n rows (SharesBy f.clauses sign x) e)) rows tops flags
        → Listed (DependsOnBy scheme f ds x) (picked (pick Set f.n flags tops) f.n)
    unfolding pick
    picked_depends scheme tops flags entering =
        picked_listed (pick Set f.n flags tops) f.n (depends_within scheme f ds x) (λ y _ _. (there y, back y))
      where
        there : (y : ℕ) → pick Set f.n flags tops y ≡ true → DependsOnBy scheme f ds x y
        there y t =
            let tell = entering.tells (row f.n rows y) (classed.small y) in
            (led_depends scheme y).0 (takes_map scheme (via_led y) (tell.0 (sym (entering.same y) ∙ t)))

        back : (y : ℕ) → DependsOnBy scheme f ds x y → pick Set f.n flags tops y ≡ true
        back y d =
            let tell = entering.tells (row f.n rows y) (classed.small y) in
            entering.same y ∙ tell.1 (takes_map scheme (led_via y) ((led_depends scheme y).1 d))

-- rows that tell are flat
pub told_flat : {P : ℕ → Type 0} (n : ℕ) (rows : List ℕ) → ToldRows P n rows → Flat n rows
told_flat n rows tells v = ⊎_elim (λ h. inl h.0) (λ h. inr h.0) (tells v)
