-- Literals by the values of their variables, and clauses that are always true.
use Prim.Native.Nat.{ℕ, suc}
use mathlib.Core.Path.{◌≡◌, refl, sym, ◌∙◌, ap}
use mathlib.Core.Bool.{Bool, true, false, not, ◌||◌, true≢false, false≢true}
use mathlib.Core.List.Memᴰ
use mathlib.Core.List.{List, [], ◌∷◌, Memᴰ}
use mathlib.Core.Logic.{◌⊎◌, inl, inr, ⊎_elim, ◌≢◌}
use lib.IntN.{ℤ, pos, negsuc, neg_ℤ}
use borrow.Author.Tests.{eq-eqb, eqb-true}
use Rattle.terms.specs.Literals.{variable_of}
use Rattle.terms.proofs.Common.{by_test, clash}
use Rattle.formula.specs.Meaning.{opposite, denied, always_true}
use Rattle.forest_theory.proofs.Choice.{either, or_right}
use Rattle.forest_tables.specs.Formula.{signed}
use Rattle.truth.specs.Strategies.{Assignment, literal_value, Satisfied}

-- the value of a literal under an assignment
abbrev pub value_in : Assignment → ℤ → Bool
value_in a l = literal_value l (a (variable_of l))

-- The sign of a true literal is its variable's value, and that of the complement of a false one.
pub true_signed : (l : ℤ) (b : Bool) → literal_value l b ≡ true → signed b (variable_of l) ≡ l
unfolding signed
true_signed (pos v) true t = refl
true_signed (pos v) false t = absurd (false≢true t)
true_signed (negsuc v) true t = absurd (false≢true t)
true_signed (negsuc v) false t = refl

pub false_signed : (l : ℤ) (b : Bool) → literal_value l b ≡ false → signed b (variable_of l) ≡ neg_ℤ l
unfolding signed
false_signed (pos v) true f = absurd (true≢false f)
false_signed (pos v) false f = refl
false_signed (negsuc v) true f = refl
false_signed (negsuc v) false f = absurd (true≢false f)

-- Of two literals of one variable, one false and one true, each is opposite to the other.
opposites : (k l : ℤ) (b : Bool) → variable_of k ≡ variable_of l → literal_value k b ≡ false → literal_value l b ≡ true
    → (opposite k l ≡ true) × (opposite l k ≡ true)
unfolding opposite
opposites (pos v) (pos w) b e f t = absurd (clash t f)
opposites (pos v) (negsuc w) b e f t = (eq-eqb v (suc w) e, eq-eqb (suc w) v (sym e))
opposites (negsuc v) (pos w) b e f t = (eq-eqb (suc v) w e, eq-eqb w (suc v) (sym e))
opposites (negsuc v) (negsuc w) b e f t = absurd (clash t f)

-- Of two opposite literals one is true.
one_true : (a : Assignment) (k l : ℤ) → opposite k l ≡ true → (value_in a k ≡ true) ⊎ (value_in a l ≡ true)
unfolding opposite
one_true a (pos v) (pos w) q = absurd (false≢true q)
one_true a (pos v) (negsuc w) q = by_test (a v) inl (λ f. inr (ap not (sym (ap a (eqb-true v (suc w) q)) ∙ f)))
one_true a (negsuc v) (pos w) q = by_test (a w) inr (λ f. inl (ap not (ap a (eqb-true (suc v) w q) ∙ f)))
one_true a (negsuc v) (negsuc w) q = absurd (false≢true q)

not_own : (l : ℤ) → opposite l l ≡ false
unfolding opposite
not_own (pos v) = refl
not_own (negsuc v) = refl

-- A literal is denied in a list if that has an opposite, and then only.
denied_has : (l : ℤ) (ls : List ℤ) → denied l ls ≡ true → (m : ℤ) × Memᴰ m ls × (opposite l m ≡ true)
unfolding denied
denied_has l [] t = absurd (false≢true t)
denied_has l (m ∷ ls) t =
    ⊎_elim (λ here. (m, Memᴰ.head refl, here)) (λ later. let (k, i, o) = denied_has l ls later in (k, Memᴰ.tail i, o))
    (either (opposite l m) (denied l ls) t)

has_denied : (l m : ℤ) (ls : List ℤ) → opposite l m ≡ true → Memᴰ m ls → denied l ls ≡ true
unfolding denied
has_denied l m [] o i = absurd (Memᴰ.not-nil i)
has_denied l m (k ∷ ls) o i =
    ⊎_elim (λ e. let here : opposite l k ≡ true = ap (opposite l) (sym e) ∙ o in rw here)
    (λ j. or_right (opposite l k) (denied l ls) (has_denied l m ls o j)) (Memᴰ.cases_cons i)

-- A clause with two opposite literals is always true, and an always-true clause is satisfied whatever the values are.
opposites_always : {k l : ℤ} (clause : List ℤ) → opposite k l ≡ true → opposite l k ≡ true → Memᴰ k clause → Memᴰ l clause
    → always_true clause ≡ true
unfolding always_true
opposites_always [] o p i j = absurd (Memᴰ.not-nil i)
opposites_always {k} {l} (m ∷ ms) o p i j = ⊎_elim (λ e. ⊎_elim (own e) (λ f. rw (← e) (rw (has_denied k l ms o f))) (Memᴰ.cases_cons j))
    (λ e. ⊎_elim (λ f. rw (← f) (rw (has_denied l k ms p e))) (λ f. or_right (denied m ms) (always_true ms) (opposites_always ms o p e f))
    (Memᴰ.cases_cons j))
    (Memᴰ.cases_cons i)
  where
    own : k ≡ m → l ≡ m → (denied m ms || always_true ms) ≡ true
    own e f = absurd (clash o (ap (opposite k) (f ∙ sym e) ∙ not_own k))

pub always_satisfied : (a : Assignment) (clause : List ℤ) → always_true clause ≡ true → Satisfied a clause
unfolding always_true
always_satisfied a [] t = absurd (false≢true t)
always_satisfied a (l ∷ ls) t = ⊎_elim
    (λ here. let (m, i, o) = denied_has l ls here in ⊎_elim
    (λ h. record { literal = l; member = Memᴰ.head refl; holds = h })
    (λ h. record { literal = m; member = Memᴰ.tail i; holds = h }) (one_true a l m o))
    (λ later. let s = always_satisfied a ls later in record { literal = s.literal; member = Memᴰ.tail s.member; holds = s.holds })
    (either (denied l ls) (always_true ls) t)

-- In a clause that is not always true, a false literal and a true one are of two variables.
pub two_variables : {clause : List ℤ} {k l : ℤ} (a : Assignment) → always_true clause ≡ false → Memᴰ k clause → Memᴰ l clause
    → value_in a k ≡ false → value_in a l ≡ true → variable_of k ≢ variable_of l
two_variables {clause} {k} {l} a plain i j f t e =
    let (o, p) = opposites k l (a (variable_of k)) e f (ap (λ (v : ℕ). literal_value l (a v)) e ∙ t) in
    clash (opposites_always clause o p i j) plain

-- A clause is satisfied by whatever agrees on its variables with what satisfies it.
pub agreeing : {a c : Assignment} {clause : List ℤ} → ((l : ℤ) → Memᴰ l clause → a (variable_of l) ≡ c (variable_of l))
    → Satisfied a clause → Satisfied c clause
agreeing same s =
    let l = s.literal in
    record { literal = l; member = s.member; holds = ap (literal_value l) (sym (same l s.member)) ∙ s.holds }
