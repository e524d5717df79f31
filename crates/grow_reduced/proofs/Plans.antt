-- A formula lent with its clauses as they are, and lent with some of them reduced, in any order: the forest is the same, and so is the set of each
-- variable by either scheme; and by any lent tables its entry points, its members and its size are.
use Prim.Native.Nat.{ℕ}
use mathlib.Core.Path.{sym, subst}
use mathlib.Core.Bool.{Bool}
use mathlib.Core.List.Memᴰ
use mathlib.Core.List.{List, Memᴰ}
use mathlib.Core.Logic.Iff
use mathlib.Core.Logic.{◌↔◌}
use lib.IntN.{ℤ}
use Rattle.formula.specs.Meaning.{clauses, connected}
use Rattle.forest_theory.specs.Reach.{Variables}
use Rattle.forest_theory.specs.Tables.{Table}
use Rattle.forest_theory.specs.Forest.{Forest}
use Rattle.forest_tables.specs.Formula.{variables, signed, joined, Shares, SharesBy}
use Rattle.forest_tables.proofs.Agreeing.{lawful}
use Rattle.terms.specs.declared.Scheme.{Scheme}
use Rattle.forest.specs.Answers.{EntriesBy, MembersBy, SizeBy, DependsBy}
use Rattle.forest_entries.proofs.Sides.{signed_variable}
use Rattle.terms.proofs.Answers.{listed-as}
use Rattle.formula.specs.Lent.{formula_of}
use Rattle.forest_tables.specs.Lent.{Rows}
use Rattle.grow_reduced.specs.Reduced.{Reduction}
use Rattle.grow_reduced.proofs.Carried.{Step, Carries, depends_carried, strictly_carried, forest_carried, entries_carried, strict_entries_carried}
use Rattle.grow_reduced.proofs.Clauses.{gives_joined, Covers, reduction_covers, reduction_covered}

module _ (X : Variables) (ls ls' : List ℤ) (h : Covers X (clauses ls) (clauses ls')) where
  -- What shares a clause of the one table shares one of the other, wherever a step may go ...
  shares_carried : Carries X (Shares ls) (Shares ls')
  unfolding joined
  shares_carried =
      record {
        carried = λ a b s j.
            let (c, mc, is) = Memᴰ.of_map connected (clauses ls) j.listed in
            let (d, md, g) = h.covered c mc in
            let (left, right) = gives_joined g a b s (subst (Memᴰ a) (sym is) j.left) (subst (Memᴰ b) (sym is) j.right) in
            record { clause = connected d; listed = Memᴰ.map connected md; left = left; right = right };
      }

  -- ... and so it does with a variable in one sign.
  signed_carried : (sign : Bool) → Carries X (SharesBy ls sign) (SharesBy ls' sign)
  signed_carried sign =
      record {
        carried = λ a b s j.
            let (d, md, g) = h.covered j.clause j.listed in
            let (left, right) = g.given (signed sign a) b (subst (λ v. Step X v b) (sym (signed_variable sign a)) s) j.literal j.connects in
            record { clause = d; listed = md; literal = left; connects = right };
      }

module _ (n : ℕ) (es : List ℕ) (ls ls' : List ℤ) (h : Covers (variables n es) (clauses ls) (clauses ls')) where
  depends_to : (scheme : Scheme) (x y : ℕ) → DependsBy scheme (formula_of n es ls) x y → DependsBy scheme (formula_of n es ls') x y
  depends_to Scheme.Standard x y d = depends_carried (shares_carried (variables n es) ls ls' h) d
  depends_to Scheme.Strict x y d = strictly_carried (shares_carried (variables n es) ls ls' h) (signed_carried (variables n es) ls ls' h) d

  module _ (r : Rows) (x : ℕ) where
    entries_to : (scheme : Scheme) (e : ℕ) → EntriesBy scheme (formula_of n es ls) r x e → EntriesBy scheme (formula_of n es ls') r x e
    entries_to Scheme.Standard e o = entries_carried (shares_carried (variables n es) ls ls' h) o
    entries_to Scheme.Strict e o = strict_entries_carried (signed_carried (variables n es) ls ls' h) o

    members_to : (scheme : Scheme) (y : ℕ) → MembersBy scheme (formula_of n es ls) r x y → MembersBy scheme (formula_of n es ls') r x y
    members_to scheme y m =
        record { existential = m.existential; entry = m.entry; entered = entries_to scheme m.entry m.entered; rises = m.rises; below = m.below }

module _ (n : ℕ) (es : List ℕ) {ls ls' : List ℤ} (reduced : Reduction (variables n es) ls ls') where
  -- The forest is the same: no class and no parent changes, and so no count, which the classes and parents determine.
  pub same_forest : {W : Table} → Forest (variables n es) (Shares ls) W ↔ Forest (variables n es) (Shares ls') W
  same_forest =
      let to = shares_carried (variables n es) ls ls' (reduction_covers reduced) in
      let back = shares_carried (variables n es) ls' ls (reduction_covered reduced) in
      (forest_carried (lawful n es) to back, forest_carried (lawful n es) back to)

  -- The standard set of each variable is the same, and so is the strict set.
  pub same_dependencies : (scheme : Scheme) (x y : ℕ) → DependsBy scheme (formula_of n es ls) x y ↔ DependsBy scheme (formula_of n es ls') x y
  same_dependencies scheme x y = (depends_to n es ls ls' (reduction_covers reduced) scheme x y, depends_to n es ls' ls (reduction_covered reduced) scheme x y)

  -- By any lent tables, wherever they come from, the entry points are the same, the set, and its size.
  module _ (r : Rows) (scheme : Scheme) (x : ℕ) where
    pub same_entries : (e : ℕ) → EntriesBy scheme (formula_of n es ls) r x e ↔ EntriesBy scheme (formula_of n es ls') r x e
    same_entries e = (entries_to n es ls ls' (reduction_covers reduced) r x scheme e, entries_to n es ls' ls (reduction_covered reduced) r x scheme e)

    pub same_members : (y : ℕ) → MembersBy scheme (formula_of n es ls) r x y ↔ MembersBy scheme (formula_of n es ls') r x y
    same_members y = (members_to n es ls ls' (reduction_covers reduced) r x scheme y, members_to n es ls' ls (reduction_covered reduced) r x scheme y)

    pub same_size : (size : ℕ) → SizeBy scheme (formula_of n es ls) r x size ↔ SizeBy scheme (formula_of n es ls') r x size
    same_size size = (λ s. (s.0, listed-as same_entries s.1, s.2), λ s. (s.0, listed-as (λ e. Iff.symm (same_entries e)) s.1, s.2))
