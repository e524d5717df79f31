-- The first n rows of longer tables are the rows of a forest if the tables hold one.
use Rattle.std.proofs.Common.{◌≡◌, ℕ, zero, suc, ◌≤◌, Bool, true, false, cond, ltb, List, length, get_or, take, sym, refl, subst, length-take-le, get_or-take, ltb-true}
use Rattle.forest_theory.specs.Reach.{Variables}
use Rattle.forest_theory.specs.Tables.{Table, row, lent}
use Rattle.forest_theory.specs.Forest.{Forest}
use Rattle.forest_theory.specs.Counts.{Counted}
use Rattle.formula.specs.Lent.{Formula}
use Rattle.forest_tables.specs.Formula.{Shares}
use Rattle.forest_tables.specs.Lent.{Rows, rows, variables_of, forest_of}
use Rattle.file_format.specs.Layout.{ForestRows}

row_taken : (n : ℕ) (rows : List ℕ) (v : ℕ) → row n rows v ≡ row n (take n rows) v
unfolding row
row_taken n rows zero = refl
row_taken n rows (suc v) = go (ltb v n) refl
  where
    go : (b : Bool) → ltb v n ≡ b → cond b (get_or rows v 0) 0 ≡ cond b (get_or (take n rows) v 0) 0
    go true low = sym (get_or-take n rows v 0 (ltb-true v n low))
    go false low = refl

lent_taken : (X : Variables) (classes parents : List ℕ) → lent X classes parents ≡ lent X (take X.count classes) (take X.count parents)
unfolding lent
lent_taken X classes parents = λ i. record { cls = λ v. row_taken X.count classes v i; par = λ v. row_taken X.count parents v i }

-- the first n rows of each
abbrev pub taken : ℕ → Rows → Rows
taken n r = rows (take n r.classes) (take n r.parents) (take n r.counts)

pub rows_taken : (f : Formula) (r : Rows) → f.n ≤ length r.classes → f.n ≤ length r.parents → f.n ≤ length r.counts
    → Forest (variables_of f) (Shares f.clauses) (forest_of f r) → Counted (variables_of f) (forest_of f r) (row f.n r.counts)
    → ForestRows f (taken f.n r)
rows_taken f r c p k forest counted =
    let X = variables_of f in
    let same = lent_taken X r.classes r.parents in
    record {
      classes_many = length-take-le f.n r.classes c;
      parents_many = length-take-le f.n r.parents p;
      counts_many = length-take-le f.n r.counts k;
      forest = subst (Forest X (Shares f.clauses)) same forest;
      counted =
          subst (Counted X (forest_of f (taken f.n r))) (λ i v. row_taken f.n r.counts v i)
          (subst (λ (W : Table). Counted X W (row f.n r.counts)) same counted);
    }
