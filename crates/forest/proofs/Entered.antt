-- The entry points and the set of x, by the entries of all variables; and that what is found by the level table holds by the prefix.
use Prim.Native.Nat.{ℕ, ◌≤◌, ◌<◌}
use mathlib.Core.Path.{◌≡◌, refl, sym, ap, ◌∙◌, subst}
use mathlib.Core.Bool.{Bool, true, false}
use mathlib.Core.List.{List, []}
use mathlib.Core.Logic.{◌≢◌, inl, inr, ⊎_elim, ◌↔◌}
use native.Mathlib.Decide.{dec_lt}
use native.Mathlib.Omega.{arith}
use lib.ListN.{get_or}
use Rattle.terms.specs.Refusals.{None}
use Rattle.terms.proofs.Common.{clash}
use Rattle.formula.specs.Meaning.{level, is_existential}
use Rattle.formula.specs.InnerLevels.{SoundPrefix, Levelled}
use Rattle.forest_theory.specs.Reach.{Variables, Deeper}
use Rattle.forest_theory.specs.InnerVariables.{Lawful}
use Rattle.forest_theory.specs.Tables.{Table, row, lent, WellFormed, EntryPoint, EntryPointOf, MemberBy}
use Rattle.forest_theory.specs.InnerClimb.{Climbed}
use Rattle.forest_theory.proofs.Climb.{above_class, entry_one, entry_climb, entry_rises}
use Rattle.forest_theory.proofs.Sets.{member_deeper, member_climb}
use Rattle.forest_tables.specs.Formula.{variables}
use Rattle.forest_tables.specs.InnerTabled.{tabled, universal_in}
use Rattle.forest_tables.specs.Causes.{ForestCause}
use Rattle.forest_tables.specs.Lent.{rows}
use Rattle.formula.specs.Lent.{formula_of}
use Rattle.forest.specs.Causes.{NotUniversal, NotDeeper}
use Rattle.forest.specs.Answers.{Entry}
use Rattle.forest_tables.specs.InnerRows.{rows_of}
use Rattle.forest_climb.specs.InnerSearch.{EntryRows}
use Rattle.forest_entries.specs.InnerFlags.{Via}
use Rattle.forest_tables.proofs.Agreeing.{Same, same_back, deeper_same, formed_same, tables_agree, level_agrees, universal_agrees, universal_within, none_formed}
use Rattle.forest.proofs.Agreeing.{entry_same}

module _ {X : Variables} {W : Table} (law : Lawful X) (formed : WellFormed X W) {x : ℕ} where
  -- An entry point is a class name, and so one of the variables.
  entry_within : {y e k : ℕ} → X.ex y ≡ true → EntryPoint X W x y e k → (1 ≤ e) × (e ≤ X.count)
  entry_within {y} {e} ex p = law.within e (above_class formed ((formed.right y).class ex).name p.above).existential

  pub of_within : {S : ℕ → ℕ → Type 0} {e : ℕ} → EntryPointOf X W S x e → (1 ≤ e) × (e ≤ X.count)
  of_within o = entry_within o.existential o.entry

  module _ (tops : List ℕ) (rows : EntryRows X W x tops) where
    -- A row that is not 0 is of an existential deeper than x.
    row_found : (y : ℕ) → row X.count tops y ≢ 0 → Deeper X x y × ((k : ℕ) × EntryPoint X W x y (row X.count tops y) k)
    row_found y some =
        let deep : Deeper X x y =
        go (X.ex y) refl (dec_lt (X.lev x) (X.lev y)) in
        (deep, (rows y).found deep)
      where
        go : (b : Bool) → X.ex y ≡ b → Dec (X.lev x < X.lev y) → Deeper X x y
        go true e (yes l) = record { existential = e; deep = l }
        go true e (no l) = absurd (some ((rows y).none (λ d. l d.deep)))
        go false e d = absurd (some ((rows y).none (λ d. clash d.existential e)))

    -- The entries of those that share a clause with x are the entry points of x.
    pub entries_of : {S : ℕ → ℕ → Type 0} (e : ℕ) → Via X.count tops (S x) e ↔ EntryPointOf X W S x e
    entries_of {S} e = (there, back)
      where
        there : Via X.count tops (S x) e → EntryPointOf X W S x e
        there t =
            let v = t.for in
            let (deep, found) = row_found v (λ z. t.some (sym t.is ∙ z)) in
            let (k, p) = found in
            record { for = v; shares = t.holds; existential = deep.existential; deeper = deep.deep; rises = k; entry = subst (λ d. EntryPoint X W x v d k) t.is p }

        back : EntryPointOf X W S x e → Via X.count tops (S x) e
        back o =
            let v = o.for in
            let (k, p) = (rows v).found (record { existential = o.existential; deep = o.deeper }) in
            let low = (entry_within o.existential o.entry).0 in
            record { for = v; holds = o.shares; is = (entry_one formed p o.entry).0; some = λ z. omega arith }

    -- Those whose entry is one of some entry points of x are the members by these.
    pub members_of : {P : ℕ → Type 0} {S : ℕ → ℕ → Type 0} → ((e : ℕ) → P e → EntryPointOf X W S x e) → (entered : List Bool)
        → ((e : ℕ) → e ≤ X.count → (get_or entered e false ≡ true) ↔ P e) → (y : ℕ) → (get_or entered (row X.count tops y) false ≡ true) ↔ MemberBy X W P y
    members_of {P} {S} points entered tells y = (there, back)
      where
        -- no entry is no entry point
        some : get_or entered (row X.count tops y) false ≡ true → row X.count tops y ≢ 0
        some t z = let a = (of_within (points 0 ((tells 0 (omega arith)).0 (ap (λ e. get_or entered e false) (sym z) ∙ t)))).0 in omega arith

        there : get_or entered (row X.count tops y) false ≡ true → MemberBy X W P y
        there t =
            let (deep, found) = row_found y (some t) in
            let (k, p) = found in
            let top = row X.count tops y in
            record { existential = deep.existential; entry = top; entered = (tells top (entry_within deep.existential p).1).0 t; rises = k; below = p.above }

        back : MemberBy X W P y → get_or entered (row X.count tops y) false ≡ true
        back m =
            let f = member_deeper formed points m in
            let (k, p) = (rows y).found (record { existential = f.existential; deep = f.deep }) in
            let top = ap (λ (c : Climbed). c.top) (entry_climb formed p) in
            (tells (row X.count tops y) (entry_within f.existential p).1).1 (subst P top ((member_climb formed points f.existential f.deep).0 m))

-- What the inner calls find by the level table, said of the formula.
module _ {n : ℕ} {es levels : List ℕ} {universals : List Bool} (sound : SoundPrefix n es) (table : Levelled es levels universals) (classes parents : List ℕ) where
  -- Tables with no cause of refusal 12 are well formed, by the level table too.
  pub tabled_formed : {counts : List ℕ} → None (ForestCause n es (rows classes parents counts)) → WellFormed (tabled n levels universals) (rows_of n classes parents)
  unfolding lent
  tabled_formed none = formed_same (same_back (tables_agree sound table)) (none_formed none)

module _ {n : ℕ} {es levels : List ℕ} {universals : List Bool} (sound : SoundPrefix n es) (table : Levelled es levels universals) (classes parents : List ℕ) (x : ℕ) where
  pub own_level : universal_in n universals x ≡ true → get_or levels x 0 ≡ level es x
  own_level u = level_agrees sound table x (universal_within n es x (sym (universal_agrees sound table x) ∙ u)).1

  -- x universal by the level table is universal.
  pub sound_universal : {b : Bool} → b ≡ universal_in n universals x → b ≡ true → NotUniversal n es x → ⊥
  sound_universal told yes' not' = clash (sym told ∙ yes') (universal_agrees sound table x ∙ not')

  pub sound_not_universal : {b : Bool} → b ≡ universal_in n universals x → b ≡ false → NotUniversal n es x
  sound_not_universal told no' = sym (universal_agrees sound table x) ∙ sym told ∙ no'

  -- What the search for y finds.
  pub sound_found : {y e k : ℕ} → WellFormed (tabled n levels universals) (rows_of n classes parents) → universal_in n universals x ≡ true
      → Deeper (tabled n levels universals) x y × EntryPoint (tabled n levels universals) (rows_of n classes parents) x y e k
      → (NotDeeper n es x y → ⊥) × Entry (formula_of n es []) (rows classes parents []) x y e k
  unfolding lent
  sound_found {y} formed u f =
      let s = tables_agree sound table in
      let own = own_level u in
      let deep = deeper_same s own f.0 in
      let point = entry_same s formed own f.0.existential f.1 in
      (⊎_elim (λ un. clash deep.existential un) (λ l. let d = deep.deep in omega arith), (point, entry_rises (formed_same s formed) deep.existential point))

  pub sound_nowhere : (y : ℕ) → WellFormed (tabled n levels universals) (rows_of n classes parents) → universal_in n universals x ≡ true
      → (Deeper (tabled n levels universals) x y → ⊥) → NotDeeper n es x y
  sound_nowhere y formed u shallow = go (is_existential n es y) refl (dec_lt (level es x) (level es y))
    where
      s : Same (tabled n levels universals) (variables n es)
      s = tables_agree sound table

      go : (b : Bool) → is_existential n es y ≡ b → Dec (level es x < level es y) → NotDeeper n es x y
      go true e (yes l) = absurd (shallow (deeper_same (same_back s) (sym (own_level u)) (record { existential = e; deep = l })))
      go true e (no l) = inr (omega arith)
      go false e d = inl e
