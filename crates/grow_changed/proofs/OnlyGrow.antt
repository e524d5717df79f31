-- Sets only grow: what follows from x by the rows and the clauses as lent follows by those with a clause added; so the sizes of its sets tell whether its
-- set is another.
use Prim.Native.Nat.{ℕ}
use mathlib.Core.Path.{◌≡◌, sym, subst}
use mathlib.Core.Bool.{Bool, true}
use mathlib.Core.List.Memᴰ
use mathlib.Core.List.{List, [], ◌∷◌, Memᴰ}
use mathlib.Core.Logic.Iff
use mathlib.Core.Logic.{◌≢◌, inr, ⊎_elim, ◌↔◌}
use native.Mathlib.Omega.{arith}
use lib.IntN.{ℤ}
use Rattle.terms.specs.declared.Scheme.{Scheme}
use Rattle.terms.specs.declared.Scheme.TheVariants.{Standard, Strict}
use Rattle.formula.specs.Lent.{Formula}
use Rattle.forest_theory.specs.Counts.{Numbered}
use Rattle.forest_theory.specs.InnerClimb.{Represents}
use Rattle.forest_theory.specs.InnerGrowth.{before}
use Rattle.forest_theory.specs.InnerVariables.{Universal}
use Rattle.forest_theory.specs.Reach.{Variables, From, Joined, Follows}
use Rattle.forest_theory.specs.Tables.{Table, WellFormed, MemberBy, joins}
use Rattle.forest_theory.proofs.Growth.{forest_is}
use Rattle.forest_theory.proofs.Joins.{represents_itself}
use Rattle.forest_theory.proofs.Reach.{reach_along, joined_added}
use Rattle.forest_theory.proofs.Sets.{follows_member}
use Rattle.forest_theory.proofs.Strict.{strict_member}
use Rattle.forest_tables.specs.Formula.{universal, Shares, SharesBy}
use Rattle.forest_tables.specs.Lent.{Rows, variables_of, forest_of}
use Rattle.forest_tables.proofs.Agreeing.{lawful}
use Rattle.forest.specs.Answers.{PointsBy, MembersBy}
use Rattle.forest.proofs.Demands.{universal_alone}
use Rattle.grow.specs.Grown.{Extended, with_last}
use Rattle.grow.proofs.Appended.{clauses_last, joined_last}
use Rattle.grow_changed.specs.Changed.{longer, LeftOf, LaterBy, Changes}
use Rattle.grow_changed.specs.InnerChanged.{Fit}
use Rattle.grow_changed.proofs.Larger.{grown_has, has_grown}

-- What follows from x by a scheme, first along the clauses and then along joins.
abbrev FollowsBy : Scheme → Variables → List ℤ → (ℕ → ℕ → Type 0) → ℕ → ℕ → Type 0
FollowsBy Standard X ls J x y = Follows (Shares ls) J (From X (X.lev x)) x y
FollowsBy Strict X ls J x y = (sign : Bool) → Follows (SharesBy ls sign) J (From X (X.lev x)) x y

-- By a table that represents the joins these are the members.
members_follow : (scheme : Scheme) (X : Variables) (J : ℕ → ℕ → Type 0) (W : Table) (ls : List ℤ) (x y : ℕ) → Represents X J W → Universal X x
    → MemberBy X W (PointsBy scheme X W ls x) y ↔ FollowsBy scheme X ls J x y
members_follow Standard X J W ls x y rep u = Iff.symm (follows_member rep u)
members_follow Strict X J W ls x y rep u = (
  λ m sign. (follows_member rep u).1 ((strict_member rep.formed).0 m sign),
  λ both. (strict_member rep.formed).1 (λ sign. (follows_member rep u).0 (both sign)),
)

follows_more : {S T J K : ℕ → ℕ → Type 0} {E : ℕ → Type 0} {x y : ℕ} → ((z : ℕ) → S x z → T x z) → ((a b : ℕ) → J a b → K a b) → Follows S J E x y
    → Follows T K E x y
follows_more starts along f =
    record { first = f.first; starts = starts f.first f.starts; allowed = f.allowed; onward = reach_along along f.onward }

module _ (f : Formula) (r : Rows) (clause : List ℤ) (fit : Fit f.n f.clauses clause) where
  abbrev X : Variables
  X = variables_of f

  abbrev W : Table
  W = forest_of f r

  -- the joins of the rows before and after
  abbrev J : ℕ → ℕ → Type 0
  J = Joined (joins X W)

  abbrev K : ℕ → ℕ → Type 0
  K = Extended X W clause

  -- What shared a clause shares one, also by a sign.
  shares_more : (x z : ℕ) → Shares f.clauses x z → Shares (with_last f.clauses clause) x z
  shares_more x z s =
      subst (λ (ds : List (List ℕ)). Joined ds x z) (sym (joined_last fit.sound fit.admitted)) ((joined_added x z).1 (before s))

  signed_more : (sign : Bool) (x z : ℕ) → SharesBy f.clauses sign x z → SharesBy (with_last f.clauses clause) sign x z
  signed_more sign x z s =
      let listed = subst (Memᴰ s.clause) (sym (clauses_last fit.sound fit.admitted)) (Memᴰ.append_left (clause ∷ []) s.listed) in
      record { clause = s.clause; listed = listed; literal = s.literal; connects = s.connects }

  -- So what follows from x goes on to follow.
  all_more : (scheme : Scheme) (x y : ℕ) → FollowsBy scheme X f.clauses J x y → FollowsBy scheme X (with_last f.clauses clause) K x y
  all_more Standard x y = follows_more (shares_more x) (λ a b j. (joined_added a b).1 (before j))
  all_more Strict x y = λ both sign. follows_more (signed_more sign x) (λ a b j. (joined_added a b).1 (before j)) (both sign)

  module _ (scheme : Scheme) (x : ℕ) (u : universal f.n f.prefix x ≡ true) where
    is : Universal X x
    is = universal_alone f.n f.prefix x u

    -- What is in the set later follows from x by any rows that add leaves.
    later_follows : (left : Rows) → LeftOf f r clause left → (y : ℕ)
        → MembersBy scheme (longer f clause) left x y ↔ FollowsBy scheme X (with_last f.clauses clause) K x y
    later_follows left forest y =
        members_follow scheme X K (forest_of f left) (with_last f.clauses clause) x y ((forest_is (lawful f.n f.prefix)).0 forest) is

    module _ (formed : WellFormed X W) (left : Rows) (forest : LeftOf f r clause left) where
      -- Sets only grow.
      pub set_grows : (y : ℕ) → MembersBy scheme f r x y → MembersBy scheme (longer f clause) left x y
      set_grows y m =
          let rep = represents_itself (lawful f.n f.prefix) formed in
          (later_follows left forest y).1 (all_more scheme x y ((members_follow scheme X J W f.clauses x y rep is).0 m))

      -- The later set is that by any rows that add leaves.
      pub later_members : (y : ℕ) → LaterBy scheme f r clause x y ↔ MembersBy scheme (longer f clause) left x y
      later_members y = (
        λ (other, forest', m). (later_follows left forest y).1 ((later_follows other forest' y).0 m),
        λ m. (left, forest, m),
      )

      -- The set of x is another exactly if some variable is new in it ...
      pub changes_new : Changes scheme f r clause x ↔ ((y : ℕ) × MembersBy scheme (longer f clause) left x y × (MembersBy scheme f r x y → ⊥))
      changes_new = (
        λ (_, (y, one)). ⊎_elim (λ (old, gone). absurd (gone (left, forest, set_grows y old))) (λ (new, out). (y, (later_members y).0 new, out)) one,
        λ (y, new, out). (u, (y, inr ((left, forest, new), out))),
      )

      -- ... and exactly if the sizes differ.
      pub changes_sizes : {j k : ℕ} → Numbered (MembersBy scheme f r x) j → Numbered (MembersBy scheme (longer f clause) left x) k
          → (j ≢ k) ↔ Changes scheme f r clause x
      changes_sizes p q = (
        λ other. changes_new.1 (grown_has set_grows p q other),
        λ c same. let (y, new, out) = changes_new.0 c in let less = has_grown set_grows p q y new out in omega arith,
      )
