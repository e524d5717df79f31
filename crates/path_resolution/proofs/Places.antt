-- The entries of a clause, by the places where they stand: the literals of one that is not always true.
use Prim.Native.Nat.{ℕ, ◌-◌, ◌<◌}
use mathlib.Core.Path.{◌≡◌, refl, sym, ap, ◌∙◌, subst}
use mathlib.Core.Bool.{Bool, true, false}
use mathlib.Core.List.Memᴰ
use mathlib.Core.List.{List, Memᴰ}
use mathlib.Core.Logic.{◌↔◌, by_cases}
use native.Mathlib.Decide.{dec_lt}
use native.Mathlib.Omega.{arith}
use lib.IntN.{ℤ}
use lib.ListN.{length, take, drop}
use Rattle.terms.specs.Literals.{variable_of}
use Rattle.formula.specs.Tables.{literal_at}
use Rattle.formula.specs.InnerLookup.{NextZero}
use Rattle.formula.proofs.Signs.{connected_all}
use Rattle.forest_tables.specs.Formula.{signed}
use Rattle.forest_entries.specs.InnerFlags.{HasLiteral}
use Rattle.forest_entries.proofs.Flags.{literal_past, next_none, clause_literal}
use Rattle.forest_entries.proofs.Sides.{sign_of, one_sign}
use Rattle.sets_occurrences.specs.InnerThreads.{Inside, Connecting}

-- An entry of a clause is one of the table, and stands before the clause's 0.
pub inside_less : {ls : List ℤ} {s p : ℕ} → Inside ls s p → p < length ls
inside_less {ls} {s} {p} i = by_cases (dec_lt p (length ls)) (λ l. l) (λ l. absurd (i.literals p i.from (omega arith) (literal_past ls p (omega arith))))

pub inside_has : {ls : List ℤ} {s p z : ℕ} → NextZero ls s z → Inside ls s p → HasLiteral ls s z (literal_at ls p)
inside_has {p = p} {z = z} next i = record {
  place = p;
  from = i.from;
  before = by_cases (dec_lt p z) (λ l. l) (λ l. absurd (i.literals z next.from (omega arith) (next_none next)));
  is = refl;
}

-- A clause that is not always true has a variable in one sign only.
pub one_literal : {ls : List ℤ} {s p q : ℕ} → Inside ls s p → Inside ls s q → Connecting ls s
    → variable_of (literal_at ls p) ≡ variable_of (literal_at ls q) → literal_at ls p ≡ literal_at ls q
one_literal {ls} {s} {p} {q} i j (z, next, plain) same = go (sign_of (literal_at ls p)) (sign_of (literal_at ls q))
  where
    v : ℕ
    v = variable_of (literal_at ls p)

    has : (literal : ℤ) → Memᴰ literal (take (z - s) (drop s ls)) ↔ HasLiteral ls s z literal
    has = clause_literal ls s z next.from (next.within (let l = inside_less i in let f = i.from in omega arith))

    clause : List ℤ
    clause = take (z - s) (drop s ls)

    here : Memᴰ (literal_at ls p) clause
    here = (has (literal_at ls p)).1 (inside_has next i)

    there : Memᴰ (literal_at ls q) clause
    there = (has (literal_at ls q)).1 (inside_has next j)

    apart : Memᴰ (signed true v) clause → Memᴰ (signed false v) clause → ⊥
    apart m k =
        one_sign clause v v (i.literals p i.from (omega arith)) m k
        (subst (Memᴰ v) (sym (connected_all clause plain)) (Memᴰ.map variable_of here))

    go : (sign : Bool) × (literal_at ls p ≡ signed sign (variable_of (literal_at ls p)))
        → (sign : Bool) × (literal_at ls q ≡ signed sign (variable_of (literal_at ls q))) → literal_at ls p ≡ literal_at ls q
    go (true, a) (true, b) = a ∙ ap (signed true) same ∙ sym b
    go (false, a) (false, b) = a ∙ ap (signed false) same ∙ sym b
    go (true, a) (false, b) =
        absurd (apart (subst (λ l. Memᴰ l clause) a here) (subst (λ l. Memᴰ l clause) (b ∙ ap (signed false) (sym same)) there))
    go (false, a) (true, b) =
        absurd (apart (subst (λ l. Memᴰ l clause) (b ∙ ap (signed true) (sym same)) there) (subst (λ l. Memᴰ l clause) a here))
