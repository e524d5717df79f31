-- Without dependency lists a formula is true with them exactly if it is by its prefix: a free existential stands before all universals.
use Prim.Native.Nat.{ℕ}
use mathlib.Core.Path.{◌≡◌}
use mathlib.Core.Bool.{true, false}
use mathlib.Core.List.Memᴰ
use mathlib.Core.List.{[]}
use mathlib.Core.Logic.{◌↔◌, inl, ⊎_elim}
use native.Mathlib.Omega.{arith}
use Rattle.formula.specs.Lent.{Formula}
use Rattle.formula.specs.InnerLevels.{SoundPrefix}
use Rattle.formula.specs.Meaning.{is_existential}
use Rattle.formula.specs.Tables.{cut}
use Rattle.formula.proofs.Ordered.{deeper_named}
use Rattle.forest_tables.proofs.Agreeing.{lawful, universal_within}
use Rattle.dqbf_lists.specs.Lists.{lists, Given}
use Rattle.truth.proofs.Claims.{more_may_depend}
use Rattle.truth_formula.specs.Holds.{MayDepend, Holds}
use Rattle.truth_formula.specs.Listed.{MayDependBy, HoldsListed}

module _ (f : Formula) (sound : SoundPrefix f.n f.prefix) where
  by_prefix : (x y : ℕ) → is_existential f.n f.prefix x ≡ false → is_existential f.n f.prefix y ≡ true → MayDependBy f [] x y → MayDepend f x y
  unfolding lists cut
  by_prefix x y u e d = record { universal = d.universal; deeper = ⊎_elim (λ p. p.1) (λ g. absurd (no_list g)) d.has.listed }
    where
      no_list : Given [] x y → ⊥
      no_list g = Memᴰ.not-nil g.listed

  by_lists : (x y : ℕ) → is_existential f.n f.prefix x ≡ false → is_existential f.n f.prefix y ≡ true → MayDepend f x y → MayDependBy f [] x y
  by_lists x y u e d =
      let few = sound.few in
      let low = (universal_within f.n f.prefix x d.universal).1 in
      let own = ((lawful f.n f.prefix).within y e).1 in
      let (place, _, there, is) = deeper_named sound x y (omega arith) (omega arith) d.deeper in
      record { universal = d.universal; has = record { existential = e; listed = inl ((place, there, is), d.deeper) } }

  pub no_lists : HoldsListed f [] ↔ Holds f
  no_lists = (more_may_depend by_prefix, more_may_depend by_lists)
