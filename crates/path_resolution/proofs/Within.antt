-- The resolution-path set lies within the strict set (rule 14.3): a path from a literal of x leads, clause by clause, along steps that the strict scheme takes.
use Prim.Native.Nat.{ℕ}
use mathlib.Core.Path.{sym, subst}
use mathlib.Core.Bool.{Bool, true, false, not}
use mathlib.Core.List.Memᴰ
use mathlib.Core.List.{List, Memᴰ}
use native.Mathlib.Omega.{arith}
use lib.IntN.{ℤ}
use Rattle.terms.specs.Literals.{variable_of}
use Rattle.formula.specs.Lent.{Formula}
use Rattle.formula.specs.Meaning.{connected}
use Rattle.formula.proofs.Signs.{connected_all}
use Rattle.forest_theory.specs.Reach.{Variables, From, here, step, Follows, Deeper}
use Rattle.forest_tables.specs.Formula.{signed, joined, Shares, SharesBy}
use Rattle.forest_tables.specs.Lent.{variables_of}
use Rattle.terms.specs.declared.Scheme.TheVariants.{Strict}
use Rattle.forest.specs.Answers.{DependsBy}
use Rattle.forest_entries.proofs.Sides.{signed_variable}
use Rattle.path_resolution.specs.Paths.{Crosses, Path, enters, goes_on, DependsByPaths}
use Rattle.path_resolution.proofs.Marks.{complement_variable}

-- The strict scheme may step on whatever a path may pass.
deeper_from : {X : Variables} {x v : ℕ} → Deeper X x v → From X (X.lev x) v
deeper_from d = record { existential = d.existential; deep = let l = d.deep in omega arith }

module _ {ls : List ℤ} where
  -- A clause that a path crosses connects all its variables, also those by which it is entered and left.
  crosses_has : {enter leave : ℤ} (k : Crosses ls enter leave) (l : ℤ)
      → Memᴰ l k.clause → Memᴰ (variable_of l) (connected k.clause)
  crosses_has k l m = subst (Memᴰ (variable_of l)) (sym (connected_all k.clause k.takes_part)) (Memᴰ.map variable_of m)

  pub crosses_shares : {enter leave : ℤ} → Crosses ls enter leave → Shares ls (variable_of enter) (variable_of leave)
  unfolding joined
  crosses_shares {enter} {leave} k =
      record {
        clause = connected k.clause;
        listed = Memᴰ.map connected k.listed;
        left = crosses_has k enter k.entered;
        right = crosses_has k leave k.left;
      }

  pub crosses_signed : (sign : Bool) (x : ℕ) {leave : ℤ} → Crosses ls (signed sign x) leave → SharesBy ls sign x (variable_of leave)
  crosses_signed sign x {leave} k =
      record { clause = k.clause; listed = k.listed; literal = k.entered; connects = crosses_has k leave k.left }

  module _ {X : Variables} {x : ℕ} where
    path_follows : (sign : Bool) {l : ℤ} → Path X ls x (signed sign x) l → Deeper X x (variable_of l)
        → Follows (SharesBy ls sign) (Shares ls) (From X (X.lev x)) x (variable_of l)
    path_follows sign {l} (enters k) deep =
        record { first = variable_of l; starts = crosses_signed sign x k; allowed = deeper_from deep; onward = here }
    path_follows sign {l} (goes_on {at = at} p passed k) deep =
        let f = path_follows sign p passed in
        let shares = subst (λ v. Shares ls v (variable_of l)) (complement_variable at) (crosses_shares k) in
        record { first = f.first; starts = f.starts; allowed = f.allowed; onward = step f.onward shares (deeper_from deep) }

-- Whatever depends on x by resolution paths depends on it strictly.
pub paths_strict : (f : Formula) {x y : ℕ} → DependsByPaths (variables_of f) f.clauses x y → DependsBy Strict f x y
paths_strict f {x} {y} d = record { by = by' }
  where
    FollowsBy : Bool → ℕ → Type 0
    FollowsBy sign = Follows (SharesBy f.clauses sign) (Shares f.clauses) (From (variables_of f) ((variables_of f).lev x)) x

    to : (sign end : Bool) → Path (variables_of f) f.clauses x (signed sign x) (signed end y) → FollowsBy sign y
    to sign end p =
        let q = signed_variable end y in
        subst (FollowsBy sign) q (path_follows sign p (subst (Deeper (variables_of f) x) (sym q) d.deeper))

    by' : (sign : Bool) → FollowsBy sign y
    by' true = to true d.sign d.from_x
    by' false = to false (not d.sign) d.from_negation
