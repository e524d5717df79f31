-- Where no list is lent the set is that of demand 2 (rule 13.3); where rule 1 accepts a prefix both reading rules promise the same (rule 6.3); and what was
-- lent settles what the call answers and writes (rule 18.1).
use Prim.Native.Nat.{ℕ, ◌<◌}
use mathlib.Core.Path.{◌≡◌, sym, subst}
use mathlib.Core.Bool.{true}
use mathlib.Core.List.Memᴰ
use mathlib.Core.List.{List, [], ◌∷◌}
use mathlib.Core.Logic.{⊎_elim, inl, by_cases, ◌↔◌, ◌≢◌}
use native.Mathlib.Decide.{ℕ_discrete}
use native.Mathlib.Omega.{arith}
use lib.ListN.{length}
use Rattle.terms.specs.Answers.{TooLong, Listing}
use Rattle.terms.specs.Listed.{Listed}
use Rattle.terms.specs.Refusals.{At0, NoneOf}
use Rattle.terms.specs.declared.Scheme.{Scheme}
use Rattle.terms.specs.declared.Scheme.TheVariants.{Standard, Strict}
use Rattle.terms.specs.Says.{Answer}
use Rattle.terms.proofs.Answers.{listing-settled, carry-filling}
use Rattle.formula.specs.Tables.{cut}
use Rattle.formula.specs.Causes.{ClauseCause}
use Rattle.formula.specs.Lent.{Formula, formula_of}
use Rattle.formula.specs.InnerLevels.{SoundPrefix}
use Rattle.formula.specs.Meaning.{level}
use Rattle.formula.proofs.Ordered.{deeper_named}
use Rattle.formula.proofs.Sound.{sound_prefix}
use Rattle.forest_theory.specs.Reach.{From, Follows}
use Rattle.forest_theory.proofs.Reach.{reach_mono, reach_ends, depends_follows}
use Rattle.forest_tables.specs.Formula.{universal, Shares}
use Rattle.forest_tables.specs.Lent.{variables_of}
use Rattle.forest_tables.proofs.Agreeing.{lawful, universal_within}
use Rattle.formula_rules.specs.Rules.{read_as, read_by, ruled_prefix}
use Rattle.formula_rules.proofs.Accepted.{joined_accepted}
use Rattle.formula_rules.proofs.Orders.{accepted_two}
use Rattle.formula_rules.proofs.Short.{joined_short}
use Rattle.forest.specs.Answers.{DependsBy}
use Rattle.forest.specs.Causes.{NotUniversal}
use Rattle.forest.proofs.Demands.{universal_alone}
use Rattle.dqbf_lists.specs.Lists.{lists, Given, ListHas}
use Rattle.dqbf_lists.specs.Causes.{ListCause, check_lists_order}
use Rattle.dqbf_lists.specs.Inner.{listed_prefix}
use Rattle.dqbf_lists.proofs.Agreement.{agreed}
use Rattle.dqbf_lists.proofs.Ordering.{short_lists, from_listed}
use Rattle.dqbf_sets.specs.Answers.{set_order, SetByLists}
use Rattle.dqbf_sets.specs.Depends.{DependsOnBy}

no_list : {x y : ℕ} → Given [] x y → ⊥
unfolding lists cut
no_list g = Memᴰ.not-nil g.listed

-- A free existential, whose list is empty, is never deeper than a universal, and a block existential has in its list what is before it: so where no list
-- is lent those whose list has x are those of deeper blocks.
module _ (f : Formula) (sound : SoundPrefix f.n f.prefix) (x : ℕ) (u : universal f.n f.prefix x ≡ true) where
  abbrev Has : ℕ → Type 0
  Has = ListHas f.n f.prefix [] x

  abbrev Deep : ℕ → Type 0
  Deep = From (variables_of f) (level f.prefix x)

  has_from : (y : ℕ) → Has y → Deep y
  has_from y h =
      record { existential = h.existential; deep = ⊎_elim (λ d. let l = d.1 in omega arith) (λ g. absurd (no_list g)) h.listed }

  from_has : (y : ℕ) → Deep y → Has y
  from_has y d =
      let apart = (universal_alone f.n f.prefix x u).alone y d.existential in
      let deep = d.deep in
      let deeper : level f.prefix x < level f.prefix y = omega arith in
      let few = sound.few in
      let low = (universal_within f.n f.prefix x u).1 in
      let own = ((lawful f.n f.prefix).within y d.existential).1 in
      let (place, _, there, is) = deeper_named sound x y (omega arith) (omega arith) deeper in
      record { existential = d.existential; listed = inl ((place, there, is), deeper) }

  -- so what is reached first through the one is reached first through the other
  follows_as : {S : ℕ → ℕ → Type 0} {P Q : ℕ → Type 0} {y : ℕ} → ((v : ℕ) → P v → Q v) → Follows S (Shares f.clauses) P x y
      → Follows S (Shares f.clauses) Q x y
  follows_as over l =
      record { first = l.first; starts = l.starts; allowed = over l.first l.allowed; onward = reach_mono (λ a b j. j) over l.onward }

  pub agrees_with_demand_2 : (scheme : Scheme) (y : ℕ) → DependsOnBy scheme f [] x y ↔ DependsBy scheme f x y
  agrees_with_demand_2 Standard y = (
    λ d. record { existential = d.listed.existential; reached = reach_mono (λ a b j. j) has_from d.reached },
    λ d.
        let l = (depends_follows (universal_alone f.n f.prefix x u)).0 d in
        record { listed = from_has y (reach_ends l.allowed l.onward); reached = reach_mono (λ a b j. j) from_has d.reached },
  )
  agrees_with_demand_2 Strict y =
      (λ d. record { by = λ sign. follows_as has_from (d.by sign) }, λ d. record { by = λ sign. follows_as from_has (d.by sign) })

-- A prefix that nothing stands against is sound as its rule reads it.
pub read_sound : (rule n : ℕ) (es : List ℕ) (entries : ℕ) → NoneOf (ruled_prefix rule n es entries) → SoundPrefix n (read_as rule es)
unfolding read_as
read_sound rule n es entries none = by_cases (ℕ_discrete rule 1) one other
  where
    one : rule ≡ 1 → SoundPrefix n (read_as rule es)
    one is =
        subst (λ (r : ℕ). SoundPrefix n (read_as r es)) (sym is) (sound_prefix entries [] (subst (λ (r : ℕ). NoneOf (ruled_prefix r n es entries)) is none).1)

    other : rule ≢ 1 → SoundPrefix n (read_as rule es)
    other two =
        let (is, few, _, _, faultless) = accepted_two rule n es entries two none in
        let fits = joined_short few faultless in
        subst (λ (r : ℕ). SoundPrefix n (read_as r es)) (sym is)
        (record { few = few; short = omega arith; faultless = joined_accepted few (omega arith) faultless })

-- So under either rule, where no list is lent and nothing is refused, what the call lists is what demand 2 says by the scheme asked for.
pub agrees_under : (rule : ℕ) (f : Formula) (x : ℕ) → NoneOf (check_lists_order rule f []) → universal f.n (read_as rule f.prefix) x ≡ true
    → (scheme : Scheme) (y : ℕ) → DependsOnBy scheme (read_by rule f) [] x y ↔ DependsBy scheme (read_by rule f) x y
agrees_under rule f x none u =
    let first : NoneOf (listed_prefix rule f 0) = (none.0, (none.1.0, (none.1.1.0, (none.1.1.1.0, tt)))) in
    let ruled = (from_listed rule f 0 (short_lists rule f 0 [] first) []).none first in
    agrees_with_demand_2 (read_by rule f) (read_sound rule f.n f.prefix (length f.clauses) ruled) x u

-- Where rule 1 accepts a prefix both rules promise the same.
pub set_agrees : (f : Formula) (ds : List ℕ) → NoneOf (listed_prefix 1 f (length ds)) → (scheme : Scheme) (x : ℕ) (before after : List ℕ) (r : Answer ℕ)
    → SetByLists 1 scheme f ds x before after r ↔ SetByLists 2 scheme f ds x before after r
set_agrees f ds none scheme x before after r =
    agreed f (length ds) none (λ order read. Listing order (Depends read) before after r)
    (λ order order' read. carry-filling (Listed (Depends read)) before after r order order')
    (λ read.
    ClauseCause f.n f.clauses ∷ ListCause f.n read ds ∷ At0 13 (NotUniversal f.n read x) ∷ At0 14 (TooLong (Depends read) before) ∷ [])
  where
    Depends : List ℕ → ℕ → Type 0
    Depends read = DependsOnBy scheme (formula_of f.n read f.clauses) ds x

-- Any two outcomes that the promise allows are equal.
pub set_settled : (rule : ℕ) (scheme : Scheme) (f : Formula) (ds : List ℕ) (x : ℕ) (before after after' : List ℕ) (r r' : Answer ℕ)
    → SetByLists rule scheme f ds x before after r → SetByLists rule scheme f ds x before after' r' → (r ≡ r') × (after ≡ after')
set_settled rule scheme f ds x before =
    let Depends = DependsOnBy scheme (read_by rule f) ds x in
    listing-settled (set_order rule f ds x Depends before) Depends before
