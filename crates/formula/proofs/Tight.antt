-- The promises of the clause calls (rule 7.3) leave nothing open: two outcomes that they allow for one input are equal.
use Rattle.terms.specs.Says.{Verdict}
use Prim.Native.Nat.{ℕ}
use mathlib.Core.Path.{◌≡◌, sym, ◌∙◌}
use mathlib.Core.List.{List}
use lib.IntN.{ℤ}
use denote.Ref.{Bor}
use Rattle.terms.specs.Refusals.{Judged}
use Rattle.terms.proofs.Verdicts.{judged_unique, first_or_none}
use Rattle.formula.specs.Causes.{clause_order}
use Rattle.formula.specs.Clause.{ClausePart, accepted, refused}

pub clause_verdict_tight : (n : ℕ) (ls : List ℤ) (asked : ℕ) (v w : Verdict) → Judged (clause_order n ls asked) v → Judged (clause_order n ls asked) w → v ≡ w
clause_verdict_tight n ls asked = judged_unique (clause_order n ls asked)

-- The part that comes back has the same entries at the same place.
pub clause_tight : (n : ℕ) (table : Bor (List ℤ)) (asked : ℕ) (p q : Bor (List ℤ)) → ClausePart n table asked p → ClausePart n table asked q
    → (p.now ≡ q.now) × (p.ref_ptr ≡ q.ref_ptr)
clause_tight n table asked p q (accepted _ this at) (accepted _ that at') = (this ∙ sym that, at ∙ sym at')
clause_tight n table asked p q (accepted none _ _) (refused k place first _ _) = absurd (first_or_none (clause_order n table.now asked) k place first none)
clause_tight n table asked p q (refused k place first _ _) (accepted none _ _) = absurd (first_or_none (clause_order n table.now asked) k place first none)
clause_tight n table asked p q (refused _ _ _ this at) (refused _ _ _ that at') = (this ∙ sym that, at ∙ sym at')
