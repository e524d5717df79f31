-- Well-formed tables are loose rows, which stand for the tables' own joins.
use Prim.Native.Nat.{ℕ, ◌+◌}
use mathlib.Core.Path.{◌≡◌, sym, ◌∙◌, ap, subst}
use mathlib.Core.List.{List, [], ◌∷◌, ◌++◌}
use native.Mathlib.Omega.{arith}
use lib.IntN.{ℤ}
use lib.ListN.{length, get_or}
use Rattle.terms.specs.InnerLimits.{variable_rows}
use Rattle.formula.specs.Meaning.{connected}
use Rattle.forest_tables.specs.Formula.{variables}
use Rattle.forest_tables.proofs.Agreeing.{lawful}
use Rattle.forest_theory.specs.Reach.{Variables, Joined}
use Rattle.forest_theory.specs.Tables.{Table, row, lent, WellFormed, joins}
use Rattle.forest_theory.proofs.Reach.{reach_one}
use Rattle.forest_theory.proofs.Represent.{Linked}
use Rattle.forest_theory.proofs.Joins.{joins_linked}
use Rattle.forest_theory.proofs.Forest.{same_rows}
use Rattle.grow_union_find.specs.InnerLoose.{Equal, Loose, table, ranked, links, Growing, Grew}
use Rattle.grow_passes.specs.InnerRows.{Depths}
use Rattle.grow_union_find.proofs.Inside.{equal_trans, equal_sym, equal_snoc, equal_added}
use Rattle.grow_rows.proofs.Exact.{depth_existential, ex_same, equal_formula, equal_linked, depth_none}

-- C and P are lent rows as they are read into tables with row v for the variable v.
pub record Loaded (n : ℕ) (classes parents C P : List ℕ) : Type 0 where
  pub sizes : (length C ≡ variable_rows) × (length P ≡ variable_rows)
  pub class : (v : ℕ) → get_or C v 0 ≡ row n classes v
  pub parent : (v : ℕ) → get_or P v 0 ≡ row n parents v

module _ {n : ℕ} {es depths : List ℕ} (d : Depths n es depths) where
  abbrev X : Variables
  X = variables n es

  abbrev D : Variables
  D = ranked depths

  -- Rows that are well formed by the formula are loose by its depths.
  formed_loose : {W : Table} → WellFormed X W → Loose D W
  formed_loose {W} f = record {
    universal = λ v e. (f.right v).universal (sym (ex_same d v) ∙ e);
    class = λ v e. let ex = sym (ex_same d v) ∙ e in let r = (f.right v).class ex in
        record {
          most = r.most;
          existential = ex_same d (W.cls v) ∙ r.name.existential;
          block = depth_existential d (W.cls v) r.name.existential ∙ ap (λ (k : ℕ). k + 1) r.block ∙ sym (depth_existential d v ex);
        };
    parent = λ v n. let r = (f.right v).parent n in
        record {
          child = ex_same d v ∙ r.child.existential;
          root = r.child.itself;
          existential = ex_same d (W.par v) ∙ r.name.existential;
          less = omega (arith, r.less, depth_existential d v r.child.existential, depth_existential d (W.par v) r.name.existential);
        };
  }

  module _ {classes parents C P : List ℕ} (formed : WellFormed X (lent X classes parents)) (l : Loaded n classes parents C P) where
    -- The rows that are read are the lent table ...
    same : lent X classes parents ≡ table C P
    unfolding lent
    same = same_rows (λ v. (sym (l.class v), sym (l.parent v)))

    -- ... and so are loose rows in which a forest can grow.
    pub loaded : Growing depths C P
    loaded = record { sizes = (d.size, l.sizes.0, l.sizes.1); none = depth_none d; loose = subst (Loose D) same (formed_loose formed) }

    -- They stand for its joins ...
    stands : Equal X (Joined (joins X (lent X classes parents))) (Linked D (table C P))
    stands = subst (λ (T : Table). Equal X (Joined (joins X (lent X classes parents))) (Linked D T)) same
        (equal_trans (record {
          there = record { does = λ i a b fa fb j. (joins_linked (lawful n es) formed fa).0 (reach_one j fb) };
          back = record { does = λ i a b fa fb l. (joins_linked (lawful n es) formed fa).1 (reach_one l fb) };
        }) (equal_sym (equal_linked d)))

    -- ... and with a clause put in, for those and the clause.
    pub extended : {C' P' : List ℕ} (ls : List ℤ) → Grew depths C P (connected ls) C' P'
        → Equal X (Joined (joins X (lent X classes parents) ++ (connected ls ∷ []))) (links depths C' P')
    extended ls g = equal_trans equal_snoc (equal_trans (equal_added stands) (equal_formula d g.equal))
