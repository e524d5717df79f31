-- The counts of a forest copied out into lent rows.
use Prim.Native.Nat.{ℕ, ◌+◌, ◌-◌, ◌≤◌, ◌<◌}
use mathlib.Core.Path.{◌≡◌, sym, ◌∙◌, ap, subst}
use mathlib.Core.List.{List}
use mathlib.Core.Logic.{by_cases}
use native.Mathlib.Decide.{dec_le}
use native.Mathlib.Omega.{arith}
use lib.ListN.{get_or}
use Rattle.forest_theory.specs.Reach.{Variables}
use Rattle.forest_theory.specs.Tables.{Table, row}
use Rattle.forest_theory.specs.Counts.{Numbered, Within, Counted}
use Rattle.forest_theory.proofs.Rows.{row_at, row_out}
use Rattle.forest_tables.specs.InnerCounting.{CountsOf}
use Rattle.forest_tables.proofs.Agreeing.{lawful}
use Rattle.grow_rows.specs.InnerRows.{Copied, Recounted}

-- Rows that say the same count the same.
same_counted : {X : Variables} {W : Table} {f g : ℕ → ℕ} → ((v : ℕ) → f v ≡ g v) → Counted X W f → Counted X W g
same_counted {X} {W} same c = record {
  right = λ v. record {
    class = λ n. subst (Numbered (Within X W v)) (same v) ((c.right v).class n);
    none = λ not. sym (same v) ∙ (c.right v).none not;
  };
}

-- The counts in a table with row v for the variable v, copied out; it has 0 for what is no variable.
pub recounted : {n : ℕ} {es classes parents table counts counts' : List ℕ} → CountsOf n es classes parents table → Copied n table counts n counts'
    → Recounted n es classes parents counts counts'
recounted {n} {es} {classes} {parents} {table} {counts} {counts'} c copied = record { past = copied.past; counted = same_counted same c.counted }
  where
    same : (v : ℕ) → get_or table v 0 ≡ row n counts' v
    same v = by_cases (dec_le 1 v) (λ l. by_cases (dec_le v n) (inside l) (λ h. outside (λ _. omega arith))) (λ l. outside (λ h. absurd (l h)))
      where
        inside : 1 ≤ v → v ≤ n → get_or table v 0 ≡ row n counts' v
        inside l h =
            let back : v ≡ (v - 1) + 1 = omega arith in
            ap (λ (u : ℕ). get_or table u 0) back ∙ sym (copied.copy (v - 1) (omega arith)) ∙ sym (row_at n v counts' l h)

        outside : (1 ≤ v → n < v) → get_or table v 0 ≡ row n counts' v
        outside h =
            (c.counted.right v).none (λ k. let (a, b) = (lawful n es).within v k.existential in omega (arith, h a)) ∙ sym (row_out n v counts' h)
