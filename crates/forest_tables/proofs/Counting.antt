-- The laws of counting: each variable in its class, and then the count of each class passed up, as the prefix names it from its end.
use Prim.Native.Nat.{ℕ, ◌+◌, ◌-◌, ◌≤◌, ◌<◌}
use mathlib.Core.Path.{◌≡◌, refl, sym, ap, subst, ◌∙◌}
use mathlib.Core.Bool.{Bool, true, false, cond}
use mathlib.Core.List.{List}
use mathlib.Core.Logic.{inl, inr, ◌≢◌, by_cases}
use native.Mathlib.Decide.{ℕ_discrete}
use native.Mathlib.Omega.{arith}
use borrow.Author.Tests.{eq-eqb, ne_eqb}
use lib.ListN.{length, get_or, set, length-set}
use lib.Seq.{get_or-set_same, get_or-set_other}
use Rattle.formula.specs.Tables.{at, VariableAt}
use Rattle.formula.specs.Meaning.{level}
use Rattle.formula.specs.InnerLevels.{SoundPrefix}
use Rattle.formula.proofs.Blocked.{marks_rise}
use Rattle.formula.proofs.Ordered.{NamedFrom, once, level_at, deeper_named}
use Rattle.forest_theory.specs.Reach.{Variables}
use Rattle.forest_theory.specs.Tables.{Table, row, lent}
use Rattle.forest_theory.specs.InnerPassing.{Placed, WithinBy}
use Rattle.forest_theory.proofs.Numbered.{numbered_most}
use Rattle.forest_theory.proofs.Passing.{Finishes, placed_none, placed_over, placed_more, placed_all, pass_same, pass_over, pass_up, pass_all}
use Rattle.forest_tables.specs.Formula.{variables}
use Rattle.forest_tables.specs.InnerCounting.{Counting, FormedBy, passed_up, CountsOf}
use Rattle.forest_tables.proofs.Agreeing.{lawful}

-- A count passed up where there is no parent, and where there is one.
pub passed_none : {p : ℕ} (table : List ℕ) (w : ℕ) → p ≡ 0 → passed_up p w table ≡ table
unfolding passed_up
passed_none {p} table w z = ap (λ b. cond b table (set table p (get_or table p 0 + get_or table w 0))) (eq-eqb p 0 z)

pub passed_some : {p : ℕ} (table : List ℕ) (w : ℕ) → p ≢ 0 → passed_up p w table ≡ set table p (get_or table p 0 + get_or table w 0)
unfolding passed_up
passed_some {p} table w some = ap (λ b. cond b table (set table p (get_or table p 0 + get_or table w 0))) (ne_eqb p 0 some)

module _ (n : ℕ) (es classes parents : List ℕ) (formed : FormedBy n es classes parents) where
  abbrev X : Variables
  X = variables n es

  abbrev W : Table
  W = lent X classes parents

  -- An existential has a class name, and it is one of 1 to n ...
  class_within : (v : ℕ) → X.ex v ≡ true → (1 ≤ row n classes v) × (row n classes v ≤ n)
  unfolding lent
  class_within v ex = (lawful n es).within (row n classes v) ((formed.right v).class ex).name.existential

  -- ... and so a class row tells whether a variable is existential.
  no_class : (v : ℕ) → row n classes v ≡ 0 → X.ex v ≡ false
  no_class v z = go (X.ex v) refl
    where
      go : (b : Bool) → X.ex v ≡ b → b ≡ false
      go true ex = let w = class_within v ex in let a = w.0 in absurd (omega arith)
      go false un = refl

  has_class : (v : ℕ) → row n classes v ≢ 0 → X.ex v ≡ true
  unfolding lent
  has_class v some = go (X.ex v) refl
    where
      go : (b : Bool) → X.ex v ≡ b → b ≡ true
      go true ex = refl
      go false un = absurd (some ((formed.right v).universal un).0)

  pub class_small : (v : ℕ) → n ≤ 4096 → row n classes v < 4097
  class_small v few =
      by_cases (ℕ_discrete (row n classes v) 0) (λ z. omega arith) (λ some. let w = class_within v (has_class v some) in let b = w.1 in omega arith)

  -- The members of each class, one variable after another.
  pub members_none : {table : List ℕ} → length table ≡ 4097 → ((v : ℕ) → get_or table v 0 ≡ 0) → Counting (Placed X W 0) table
  members_none size zeros = record { size = size; rows = placed_none (lawful n es) zeros }

  pub members_over : {v : ℕ} {table : List ℕ} → 1 ≤ v → row n classes v ≡ 0 → Counting (Placed X W (v - 1)) table → Counting (Placed X W v) table
  members_over {v} {table} some z k =
      let q : v - 1 + 1 ≡ v = omega arith in
      subst (λ m. Counting (Placed X W m) table) q (record { size = k.size; rows = placed_over (no_class (v - 1 + 1) (rw q z)) k.rows })

  pub members_more : {v c : ℕ} {table : List ℕ} → n ≤ 4096 → 1 ≤ v → c ≡ row n classes v → c ≢ 0 → Counting (Placed X W (v - 1)) table
      → Counting (Placed X W v) (set table c (get_or table c 0 + 1))
  unfolding lent
  members_more {v} {c} {table} few some is class k =
      let small = class_small v few in
      let long = k.size in
      let q : v ≡ v - 1 + 1 = omega arith in
      let is' = is ∙ ap (row n classes) q in
      subst (λ m. Counting (Placed X W m) (set table c (get_or table c 0 + 1))) (sym q)
      (record {
        size = length-set table c (get_or table c 0 + 1) ∙ k.size;
        rows = placed_more (has_class (v - 1 + 1) (λ z. class (is' ∙ z)))
            (subst (λ (d : ℕ). get_or (set table c (get_or table c 0 + 1)) d 0 ≡ get_or table d 0 + 1) is'
            (get_or-set_same table c (get_or table c 0 + 1) 0 (omega arith)))
            (λ d other. get_or-set_other table c d (get_or table c 0 + 1) 0 (λ q. other (q ∙ is')))
            k.rows;
      })

  pub members_most : {m : ℕ} {table : List ℕ} → Counting (Placed X W m) table → (c : ℕ) → get_or table c 0 ≤ n
  members_most k c = numbered_most (λ v p. (lawful n es).within v p.existential) (k.rows.row c)

  module _ (sound : SoundPrefix n es) where
    abbrev Passing : ℕ → List ℕ → Type 0
    Passing i table = Counting (WithinBy X W (NamedFrom es i)) table

    pub passing_most : {i : ℕ} {table : List ℕ} → Passing i table → (c : ℕ) → get_or table c 0 ≤ n
    passing_most k c = numbered_most (λ v w. (lawful n es).within v w.existential) (k.rows.row c)

    pub passing_none : {i : ℕ} {table : List ℕ} → length es ≤ i → Counting (Placed X W n) table → Passing i table
    passing_none l k =
        record {
          size = k.size;
          rows = placed_all (lawful n es) (λ c d some. let (e, over, there, is) = d in let within = there.0 in omega arith)
              k.rows;
        }

    -- An entry that names nothing.
    pub passing_over : {i : ℕ} {table : List ℕ} → (VariableAt es i → ⊥) → Passing (i + 1) table → Passing i table
    passing_over {i} none k = record { size = k.size; rows = pass_same (λ c. (wider c, narrower c)) k.rows }
      where
        wider : (c : ℕ) → NamedFrom es (i + 1) c → NamedFrom es i c
        wider c d = let (e, over, there, is) = d in (e, omega arith, there, is)

        narrower : (c : ℕ) → NamedFrom es i c → NamedFrom es (i + 1) c
        narrower c d =
            let (e, over, there, is) = d in
            (e, by_cases (ℕ_discrete e i) (λ q. absurd (none (subst (VariableAt es) q there))) (λ other. omega arith), there, is)

    module _ {i : ℕ} (there : VariableAt es i) where
      finishes : Finishes (NamedFrom es (i + 1)) (at es i) (NamedFrom es i)
      finishes =
          record {
            kept = λ c d. let (e, over, here, is) = d in (e, omega arith, here, is);
            new = (i, omega arith, there, refl);
            only = λ c d. let (e, over, here, is) = d in by_cases (ℕ_discrete e i) (λ q. inr (sym is ∙ ap (at es) q)) (λ other. inl (e, omega arith, here, is));
          }

      -- No later place names it, and none its parent, which stands in a lesser block.
      undone : NamedFrom es (i + 1) (at es i) → ⊥
      undone d = let (e, over, here, is) = d in once sound i e there here (omega arith) (sym is)

      parent_undone : W.par (at es i) ≢ 0 → NamedFrom es (i + 1) (W.par (at es i)) → ⊥
      parent_undone some d =
          let (e, over, here, is) = d in
          let less = ((formed.right (at es i)).parent some).less in
          let up = sym (ap (level es) is) ∙ level_at sound e here in
          let own = level_at sound i there in
          let rise = marks_rise es i e (omega arith) in
          omega arith

      pub passing_up : {table : List ℕ} → n ≤ 4096 → Passing (i + 1) table → Passing i (passed_up (row n parents (at es i)) (at es i) table)
      unfolding lent
      passing_up {table} few k = by_cases (ℕ_discrete p 0)
          (λ z. subst (Passing i) (sym (passed_none table (at es i) z)) (record { size = k.size; rows = pass_over finishes z k.rows }))
          (λ some. subst (Passing i) (sym (passed_some table (at es i) some))
          (record {
            size = length-set table p _ ∙ k.size;
            rows = pass_up formed finishes some undone (parent_undone some) (get_or-set_same table p _ 0 (small some))
                (λ c other. get_or-set_other table p c _ 0 other) k.rows;
          }))
        where
          p : ℕ
          p = row n parents (at es i)

          small : p ≢ 0 → p < length table
          small some =
              let w = (lawful n es).within p ((formed.right (at es i)).parent some).name.existential in
              let b = w.1 in
              let long = k.size in
              omega arith

    pub parent_small : (w : ℕ) → n ≤ 4096 → row n parents w < 4097
    unfolding lent
    parent_small w few =
        by_cases (ℕ_discrete (row n parents w) 0) (λ z. omega arith)
        (λ some. let k = (lawful n es).within (row n parents w) ((formed.right w).parent some).name.existential in let b = k.1 in omega arith)

    -- Where the whole prefix is passed, every class that has a parent is: a parent stands in a lesser block, and so its child in one that names it.
    pub passing_all : {table : List ℕ} → Passing 0 table → CountsOf n es classes parents table
    unfolding lent
    passing_all k =
        record {
          size = k.size;
          counted = pass_all formed (λ c some.
              let r = (formed.right c).parent some in
              let few = sound.few in
              let up = ((lawful n es).within _ r.name.existential).1 in
              let own = ((lawful n es).within c r.child.existential).1 in
              deeper_named sound _ c (omega arith) (omega arith) r.less) k.rows;
        }
