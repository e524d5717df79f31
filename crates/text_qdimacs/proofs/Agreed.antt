-- Where both rules accept a prefix, what write promises under one rule it promises under the other.
use Rattle.std.specs.Prelude.{Ok, Err}
use Rattle.terms.specs.Says.{Answer, fault_number}
use Prim.Native.Nat.{ℕ}
use mathlib.Core.Path.{◌≡◌}
use mathlib.Core.List.{List, ◌∷◌}
use mathlib.Core.Logic.{◌↔◌}
use lib.ListN.{length}
use Rattle.terms.specs.Refusals.{FirstOf, NoneOf}
use Rattle.formula.specs.Causes.{ClauseCause}
use Rattle.formula.specs.Lent.{Formula}
use Rattle.formula_rules.specs.Rules.{ruled_prefix}
use Rattle.formula_rules.proofs.Agreement.{rules_agree}
use Rattle.text_write.specs.Stored.{Stored}
use Rattle.text_write.specs.InnerOrders.{write_order}
use Rattle.text_qdimacs.specs.Stored.{formula_text, Writes}

pub write_agrees : (f : Formula) → NoneOf (ruled_prefix 1 f.n f.prefix (length f.clauses)) → (out out' : List ℕ) (a : Answer ℕ)
    → Writes 1 f out out' a ↔ Writes 2 f out out' a
write_agrees f none out out' (Ok count) =
    rules_agree (λ order read. NoneOf order × Stored (formula_text f) out out' count) (λ order order' read c w. (c.none w.0, w.1))
    (λ read. ClauseCause f.n f.clauses ∷ write_order (formula_text f) out) f.n f.prefix (length f.clauses) none
write_agrees f none out out' (Err refusal) =
    rules_agree (λ order read. FirstOf order (fault_number refusal.0) refusal.1 × (out' ≡ out)) (λ order order' read c w. (c.first (fault_number refusal.0) refusal.1 w.0, w.1))
    (λ read. ClauseCause f.n f.clauses ∷ write_order (formula_text f) out) f.n f.prefix (length f.clauses) none
