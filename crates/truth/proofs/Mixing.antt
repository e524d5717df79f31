-- The heart of narrowing: of two plays that win, one of which has x false and the other x true, a third is made that wins too and keeps of the one only
-- what paths lead to.
use Prim.Native.Nat.{ℕ}
use mathlib.Core.Path.{◌≡◌, sym, ◌∙◌, ap}
use mathlib.Core.Bool.{Bool, true, false}
use mathlib.Core.List.{List, Memᴰ}
use mathlib.Core.Logic.{◌≢◌, by_cases}
use native.Mathlib.Decide.{ℕ_discrete}
use lib.IntN.{ℤ, neg_ℤ, neg_ℤ-neg_ℤ}
use Rattle.terms.specs.Literals.{variable_of}
use Rattle.terms.proofs.Common.{by_test, clash}
use Rattle.formula.specs.Meaning.{always_true}
use Rattle.forest_tables.specs.Formula.{signed}
use Rattle.path_resolution.proofs.Marks.{complement_variable}
use Rattle.truth.specs.Strategies.{Assignment, literal_value, Satisfied}
use Rattle.truth.specs.Paths.{Way, enters, goes_on}
use Rattle.truth.proofs.Literals.{value_in, true_signed, false_signed, two_variables, always_satisfied}

-- a and b differ, but for x, only where E holds. c is b at x, and where a path leads from a's literal of x to the literal that b makes true; else it is a.
pub record Mixed (clauses : List (List ℤ)) (E : ℕ → Type 0) (x : ℕ) (sign : Bool) (a b c : Assignment) : Type 0 where
  pub a_x : a x ≡ sign
  pub differ : (v : ℕ) → v ≢ x → a v ≢ b v → E v
  pub c_x : c x ≡ b x
  pub keeps : (v : ℕ) → v ≢ x → Way clauses E (signed sign x) (signed (b v) v) → c v ≡ b v
  pub falls : (v : ℕ) → v ≢ x → (Way clauses E (signed sign x) (signed (b v) v) → ⊥) → c v ≡ a v

module _ {clauses : List (List ℤ)} {E : ℕ → Type 0} {x : ℕ} {sign : Bool} {a b c : Assignment}
    (way? : (l : ℤ) → Dec (Way clauses E (signed sign x) l)) (M : Mixed clauses E x sign a b c) where
  abbrev Leads : ℤ → Type 0
  Leads l = Way clauses E (signed sign x) l

  -- A true literal of b to which a path leads is true in c.
  kept : (l : ℤ) → variable_of l ≢ x → value_in b l ≡ true → Leads l → value_in c l ≡ true
  kept l other t w = ap (literal_value l) (M.keeps (variable_of l) other (rw (true_signed l (b (variable_of l)) t) w)) ∙ t

  -- A clause has a literal k that is true in a and a literal l that is true in b, to which no path leads. Then k is true in c.
  module _ {clause : List ℤ} {k l : ℤ} (listed : Memᴰ clause clauses) (plain : always_true clause ≡ false) (has-k : Memᴰ k clause)
      (has-l : Memᴰ l clause) (l-other : variable_of l ≢ x) (k-true : value_in a k ≡ true) (l-true : value_in b l ≡ true) (none : Leads l → ⊥) where
    -- k is not of x: the path would enter the clause by it, and leave it by l
    not_x : variable_of k ≢ x
    not_x e =
        let is : k ≡ signed sign x =
        sym (true_signed k (a (variable_of k)) k-true) ∙ ap (λ (v : ℕ). signed (a v) v) e ∙ ap (λ (s : Bool). signed s x) M.a_x in
        none (enters (record {
          clause = clause;
          listed = listed;
          takes_part = plain;
          entered = rw (← is) has-k;
          left = has-l;
          another = λ q. l-other (sym q ∙ sym (ap variable_of is) ∙ e);
        }))

    -- a path that leads to k's variable leads to k: from the complement it would enter the clause by k, and leave it by l
    not-false : Leads (signed (b (variable_of k)) (variable_of k)) → value_in b k ≡ false → ⊥
    not-false w f =
        let passed : E (variable_of k) = M.differ (variable_of k) not_x (λ q. clash k-true (ap (literal_value k) q ∙ f)) in
        let two = two_variables b plain has-k has-l f l-true in
        none (goes_on {at = neg_ℤ k} (rw (← false_signed k (b (variable_of k)) f) w) (rw (complement_variable k) passed)
        (record {
          clause = clause;
          listed = listed;
          takes_part = plain;
          entered = rw (neg_ℤ-neg_ℤ k) has-k;
          left = has-l;
          another = λ q. two (sym (ap variable_of (neg_ℤ-neg_ℤ k)) ∙ q);
        }))

    stays : value_in c k ≡ true
    stays = by_cases (way? (signed (b (variable_of k)) (variable_of k)))
        (λ w. ap (literal_value k) (M.keeps (variable_of k) not_x w) ∙ by_test (value_in b k) (λ t. t) (λ f. absurd (not-false w f)))
        (λ w. ap (literal_value k) (M.falls (variable_of k) not_x w) ∙ k-true)

  -- So every clause that both plays satisfy c satisfies.
  pub mixed_satisfies : (clause : List ℤ) → Memᴰ clause clauses → Satisfied a clause → Satisfied b clause → Satisfied c clause
  mixed_satisfies clause m by-a by-b = by_test (always_true clause) (always_satisfied c clause) (λ plain. by_cases (ℕ_discrete (variable_of l) x)
      (λ e. as_b (ap (literal_value l) (ap c e ∙ M.c_x ∙ sym (ap b e)) ∙ by-b.holds))
      (λ other. by_cases (way? l) (λ w. as_b (kept l other by-b.holds w))
      (λ none. record {
        literal = by-a.literal;
        member = by-a.member;
        holds = stays m plain by-a.member by-b.member other by-a.holds by-b.holds none;
      })))
    where
      l : ℤ
      l = by-b.literal

      as_b : value_in c by-b.literal ≡ true → Satisfied c clause
      as_b h = record { literal = by-b.literal; member = by-b.member; holds = h }
