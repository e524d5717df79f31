-- How an answer stands in cells whose parts are laid out one by one.
use Prim.Native.Nat.{ℕ}
use mathlib.Core.Path.{◌≡◌, refl, sym, ap, subst, ◌∙◌}
use mathlib.Core.List.{List}
use Rattle.terms.specs.declared.Tally.{Tally}
use Rattle.c_answers.specs.InnerCells.{Said, gives, refuses, number_of, said_by, Laid, given, placed, TallyLaid, built_said, added_said}

-- four cells, of which the last was told by a function
abbrev four : ℕ → ℕ → ℕ → ℕ → ℕ × ℕ × ℕ × ℕ
four a b c d = (a, b, c, d)

pub fourth_is : {a b c d e : ℕ} → d ≡ e → four a b c d ≡ four a b c e
fourth_is {a} {b} {c} q = ap (four a b c) q

-- a count, and the cells of a tally
abbrev both : ℕ → List ℕ → ℕ × List ℕ
both count cells = (count, cells)

both_are : {count count' : ℕ} {cells cells' : List ℕ} → count ≡ count' → cells ≡ cells' → both count cells ≡ both count' cells'
both_are {count} {cells' = cells'} q r = ap (both count) r ∙ ap (λ (v : ℕ). both v cells') q

-- What is given stands in the cells, and a refusal in the cell of its place; the number is what is said.
pub laid_given : {C : Type 0} {said : Said C} {cells cells' parts : C} {place place' : ℕ} → said ≡ gives parts → cells' ≡ parts → place' ≡ place
    → Laid said cells cells' place place' 0
laid_given q c p = given q c (sym (ap number_of q)) p

pub laid_refused : {C : Type 0} {said : Said C} {cells cells' : C} {number at place place' returned : ℕ} → said ≡ refuses number at → cells' ≡ cells → place' ≡ at
    → returned ≡ number → Laid said cells cells' place place' returned
laid_refused q c p r = placed q c (r ∙ sym (ap number_of q)) p

-- the number is the same with the values put otherwise
same_number : {C D : Type 0} (f : C → D) (said : Said C) → number_of said ≡ number_of (said_by f said)
same_number f (gives values) = refl
same_number f (refuses number place) = refl

module _ (tally : Tally) (cells : List ℕ) where
  abbrev built_by : Said ℕ → Said (ℕ × List ℕ)
  built_by said = built_said said tally

  -- the tally first, and then the count
  pub built_laid : {said : Said ℕ} {cells' : List ℕ} {count count' place place' returned : ℕ}
      → Laid said count count' place place' returned → TallyLaid said tally cells cells'
      → Laid (built_by said) (both count cells) (both count' cells') place place' returned
  built_laid {said} {cells' = cells'} (given q c r p) stored =
      given (ap built_by q) (both_are c (subst (λ (s : Said ℕ). TallyLaid s tally cells cells') q stored)) (r ∙ same_number _ said) p
  built_laid {said} {cells' = cells'} (placed q c r p) stored =
      placed (ap built_by q) (both_are c (subst (λ (s : Said ℕ). TallyLaid s tally cells cells') q stored)) (r ∙ same_number _ said) p

-- the cells of the tally alone
pub added_laid : {said : Said (ℕ × List ℕ)} {cells cells' : List ℕ} {count count' place place' returned : ℕ}
    → Laid said (both count cells) (both count' cells') place place' returned → Laid (added_said said) cells cells' place place' returned
added_laid {said} (given q c r p) = given (ap added_said q) (ap (λ (b : ℕ × List ℕ). b.1) c) (r ∙ same_number _ said) p
added_laid {said} (placed q c r p) = placed (ap added_said q) (ap (λ (b : ℕ × List ℕ). b.1) c) (r ∙ same_number _ said) p
