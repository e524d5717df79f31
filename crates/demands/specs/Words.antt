-- The words of the demands: what build left, a universal, and what becomes of a list that is to stand in a lent table.
use Rattle.std.specs.Prelude.{ℕ, ◌≤◌, ◌<◌, ◌≡◌, true, List, length, Ok}
use Rattle.terms.specs.Overwritten.{overwritten}
use Rattle.terms.specs.Says.{Answer, refused}
use Rattle.terms.specs.declared.Fault.TheVariants.{TooLittleRoom}
use Rattle.formula.specs.Lent.{Formula}
use Rattle.formula_rules.specs.Rules.{read_by}
use Rattle.forest_tables.specs.Formula.{universal}
use Rattle.grow.specs.Grown.{Standing, Builds}

-- s is what build left of a formula under a rule: whatever rows and tally were lent, the call did not refuse, and left s.
pub record Built (rule : ℕ) (f : Formula) (s : Standing) : Type 0 where
  pub lent : Standing
  pub rows : ℕ
  pub builds : Builds rule f lent s (Ok rows)

-- x is a universal of the formula as the rule reads it
abbrev pub IsUniversal : ℕ → Formula → ℕ → Type 0
IsUniversal rule f x = universal (read_by rule f).n (read_by rule f).prefix x ≡ true

-- The list of which L holds is asked for in a lent table. With room for it the answer is its length, and it stands in front, with the rest of the table
-- as it was; with too little room the answer is 14 at 0, and the table is as it was. There is no other outcome.
pub data Puts (L : List ℕ → Type 0) (before after : List ℕ) (answer : Answer ℕ) : Type 0 where
  with_room : (list : List ℕ) → L list → length list ≤ length before → answer ≡ Ok (length list) → after ≡ overwritten list before
      → Puts L before after answer
  no_room : (list : List ℕ) → L list → length before < length list → answer ≡ refused TooLittleRoom 0 → after ≡ before → Puts L before after answer
