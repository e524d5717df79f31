-- The level table agrees with the prefix on every variable that counts, so what is right by the one is right by the other; and no cause of refusal 12
-- means well formed.
use Prim.Native.Nat.{ℕ, ◌≤◌}
use mathlib.Core.Path.{◌≡◌, refl, sym, ap, ◌∙◌}
use mathlib.Core.Bool.{Bool, true, false, not, ◌&&◌}
use mathlib.Core.List.{List}
use mathlib.Core.Logic.{by_cases}
use native.Mathlib.Decide.{ℕ_discrete, dec_le}
use native.Mathlib.Omega.{arith}
use lib.Dec.{leb}
use lib.ListN.{get_or}
use Rattle.terms.specs.Refusals.{None}
use Rattle.terms.proofs.Common.{clash}
use Rattle.formula.specs.Meaning.{level, is_universal, is_existential}
use Rattle.formula.specs.InnerLevels.{SoundPrefix, Levelled}
use Rattle.forest_theory.specs.Reach.{Variables, Deeper}
use Rattle.forest_theory.specs.InnerVariables.{Lawful}
use Rattle.forest_theory.specs.Tables.{Table, row, lent, ClassName, Row, WellFormed}
use Rattle.forest_theory.specs.Counts.{CountRow, Counted}
use Rattle.forest_theory.proofs.Counts.{row_is}
use Rattle.forest_theory.proofs.Counting.{counts_counted}
use Rattle.forest_tables.specs.Formula.{variables, universal}
use Rattle.forest_tables.specs.InnerTabled.{tabled, existential_in, universal_in}
use Rattle.forest_tables.specs.Causes.{ForestCause, bad_row, bad_count}
use Rattle.forest_tables.specs.Lent.{rows}
use Rattle.forest_tables.specs.InnerRows.{rows_of, FirstBad}
use Rattle.forest_tables.proofs.Formed.{bad_same}
use Rattle.forest_tables.proofs.Readings.{row_none, row_over, flag_over, flag_within}

-- X and Y have the same existentials, of the same levels.
pub record Same (X Y : Variables) : Type 0 where
  pub ex : (v : ℕ) → X.ex v ≡ Y.ex v
  pub lev : (v : ℕ) → X.ex v ≡ true → X.lev v ≡ Y.lev v

pub same_back : {X Y : Variables} → Same X Y → Same Y X
same_back s = record { ex = λ v. sym (s.ex v); lev = λ v e. sym (s.lev v (s.ex v ∙ e)) }

-- What is deeper than x in X is deeper than x in Y, where x has the same level in both.
pub deeper_same : {X Y : Variables} {x v : ℕ} → Same X Y → X.lev x ≡ Y.lev x → Deeper X x v → Deeper Y x v
deeper_same {v = v} s own d =
    record { existential = sym (s.ex v) ∙ d.existential; deep = let q = s.lev v d.existential in omega (arith, d.deep) }

module _ {X Y : Variables} (s : Same X Y) where
  class_same : {W : Table} {c : ℕ} → ClassName X W c → ClassName Y W c
  class_same {c = c} n = record { existential = sym (s.ex c) ∙ n.existential; itself = n.itself }

  pub row_same : {W : Table} {v : ℕ} → Row X W v → Row Y W v
  row_same {W} {v} r =
      record {
        universal = λ u. r.universal (s.ex v ∙ u);
        class = λ e. let k = r.class (s.ex v ∙ e) in
            record {
              most = k.most;
              name = class_same k.name;
              block = sym (s.lev (W.cls v) k.name.existential) ∙ k.block
                  ∙ s.lev v (s.ex v ∙ e);
            };
        parent = λ some.
            let p = r.parent some in
            record {
              child = class_same p.child;
              name = class_same p.name;
              less = let q = s.lev (W.par v) p.name.existential in
                  let o = s.lev v p.child.existential in omega (arith, p.less);
            };
      }

  pub formed_same : {W : Table} → WellFormed X W → WellFormed Y W
  formed_same f = record { right = λ v. row_same (f.right v) }

-- an existential is one of 1 to n
pub lawful : (n : ℕ) (es : List ℕ) → Lawful (variables n es)
unfolding is_existential
lawful n es = record { within = λ v e. let (a, b, _) = flag_within n v (not (is_universal es v)) e in (a, b) }

-- Rows that are right from 1 to n are well formed: outside nothing is existential and both rows read 0.
pub rows_formed : {X : Variables} (classes parents : List ℕ) → Lawful X → ((v : ℕ) → 1 ≤ v → v ≤ X.count → Row X (lent X classes parents) v)
    → WellFormed X (lent X classes parents)
unfolding lent
rows_formed {X} classes parents law rows =
    record {
      right = λ v. by_cases (dec_le v X.count)
          (λ l. by_cases (ℕ_discrete v 0)
          (λ z. outside v (λ e. let w = law.within v e in let a = w.0 in omega arith) (λ rows. row_none X.count rows v z))
          (λ some. rows v (omega arith) l)) (λ l. outside v (λ e. let w = law.within v e in let b = w.1 in omega arith)
          (λ rows. row_over X.count rows v (omega arith)));
    }
  where
    outside : (v : ℕ) → (X.ex v ≡ true → ⊥) → ((rows : List ℕ) → row X.count rows v ≡ 0)
        → Row X (record { cls = row X.count classes; par = row X.count parents }) v
    outside v none zero' =
        record { universal = λ _. (zero' classes, zero' parents); class = λ e. absurd (none e); parent = λ some. absurd (some (zero' parents)) }

-- The level table of an accepted prefix.
module _ {n : ℕ} {es levels : List ℕ} {universals : List Bool} (sound : SoundPrefix n es) (table : Levelled es levels universals) where
  flag_agrees : (f : Bool → Bool) (v : ℕ) → (leb 1 v && leb v n && f (get_or universals v false)) ≡ (leb 1 v && leb v n && f (is_universal es v))
  flag_agrees f v =
      by_cases (dec_le v n) (λ l. ap (λ b. leb 1 v && leb v n && f b) (table.universal_is v (let few = sound.few in omega arith)))
      (λ l. flag_over n v (f (get_or universals v false)) (omega arith) ∙ sym (flag_over n v (f (is_universal es v)) (omega arith)))

  pub level_agrees : (v : ℕ) → v ≤ n → get_or levels v 0 ≡ level es v
  level_agrees v l = table.level_is v (let few = sound.few in omega arith)

  pub universal_agrees : (x : ℕ) → universal_in n universals x ≡ universal n es x
  unfolding universal_in universal
  universal_agrees x = flag_agrees (λ b. b) x

  pub tables_agree : Same (tabled n levels universals) (variables n es)
  unfolding existential_in is_existential
  tables_agree = record { ex = λ v. flag_agrees not v; lev = λ v e. level_agrees v (flag_within n v (not (get_or universals v false)) e).1 }

  -- The first bad row by the level table is the first one ...
  pub bad_rows : (classes parents : List ℕ) {bad : ℕ} → FirstBad (Row (tabled n levels universals) (rows_of n classes parents)) n bad
      → FirstBad (Row (variables n es) (lent (variables n es) classes parents)) n bad
  unfolding lent
  bad_rows classes parents f = bad_same (λ v. (row_same tables_agree, row_same (same_back tables_agree))) f

  -- ... and where there is none the rows are well formed.
  pub fine_rows : (classes parents : List ℕ) → FirstBad (Row (tabled n levels universals) (rows_of n classes parents)) n 0
      → WellFormed (variables n es) (lent (variables n es) classes parents)
  fine_rows classes parents f = rows_formed classes parents (lawful n es) (λ v a b. (bad_rows classes parents f).right v a b (λ z. absurd (z refl)))

-- x universal is one of 1 to n
pub universal_within : (n : ℕ) (es : List ℕ) (x : ℕ) → universal n es x ≡ true → (1 ≤ x) × (x ≤ n) × (is_universal es x ≡ true)
unfolding universal
universal_within n es x u = flag_within n x (is_universal es x) u

-- Whether a row is right can be told, so a row that is not wrong is right.
steady : {a b : ℕ} → ((a ≡ b → ⊥) → ⊥) → a ≡ b
steady {a} {b} h = by_cases (ℕ_discrete a b) (λ q. q) (λ n. absurd (h n))

steady_flag : (b : Bool) → ((b ≡ true → ⊥) → ⊥) → b ≡ true
steady_flag true h = refl
steady_flag false h = absurd (h (λ q. clash q refl))

steady_less : {a b : ℕ} → ((a ≤ b → ⊥) → ⊥) → a ≤ b
steady_less {a} {b} h = by_cases (dec_le a b) (λ q. q) (λ n. absurd (h n))

row_steady : {X : Variables} {W : Table} {v : ℕ} → ((Row X W v → ⊥) → ⊥) → Row X W v
row_steady h =
    record {
      universal = λ u. (steady (λ n. h (λ r. n (r.universal u).0)), steady (λ n. h (λ r. n (r.universal u).1)));
      class = λ e. record {
        most = steady_less (λ n. h (λ r. n (r.class e).most));
        name = record {
          existential = steady_flag _ (λ n. h (λ r. n (r.class e).name.existential));
          itself = steady (λ n. h (λ r. n (r.class e).name.itself));
        };
        block = steady (λ n. h (λ r. n (r.class e).block));
      };
      parent = λ p. record {
        child = record {
          existential = steady_flag _ (λ n. h (λ r. n (r.parent p).child.existential));
          itself = steady (λ n. h (λ r. n (r.parent p).child.itself));
        };
        name = record {
          existential = steady_flag _ (λ n. h (λ r. n (r.parent p).name.existential));
          itself = steady (λ n. h (λ r. n (r.parent p).name.itself));
        };
        less = steady_less (λ n. h (λ r. n (r.parent p).less));
      };
    }

-- No cause of refusal 12: the tables are well formed ...
module _ {n : ℕ} {es classes parents counts : List ℕ} (none : None (ForestCause n es (rows classes parents counts))) where
  pub none_formed : WellFormed (variables n es) (lent (variables n es) classes parents)
  none_formed = rows_formed classes parents (lawful n es) (λ v a b. row_steady (λ wrong. none 12 v (bad_row refl a b wrong)))

  -- ... and every count is right.
  pub none_counted : Counted (variables n es) (lent (variables n es) classes parents) (row n counts)
  none_counted =
      record {
        right = λ v. by_cases (dec_le v n)
            (λ l. by_cases (ℕ_discrete v 0)
            (λ z. outside v (λ e. let w = (lawful n es).within v e in let a = w.0 in omega arith) (row_none n counts v z))
            (λ some. inside v (omega arith) l)) (λ l. outside v (λ e. let w = (lawful n es).within v e in let b = w.1 in omega arith)
            (row_over n counts v (omega arith)));
      }
    where
      outside : (v : ℕ) → ((variables n es).ex v ≡ true → ⊥) → row n counts v ≡ 0
          → CountRow (variables n es) (lent (variables n es) classes parents) (row n counts) v
      outside v no' z = record { class = λ c. absurd (no' c.existential); none = λ _. z }

      inside : (v : ℕ) → 1 ≤ v → v ≤ n → CountRow (variables n es) (lent (variables n es) classes parents) (row n counts) v
      inside v a b =
          let is = row_is none_formed {counts = row n counts} {v = v} (counts_counted (lawful n es) none_formed) in
          is.1 (steady (λ other. none 12 v (bad_count refl a b none_formed (λ r. other (is.0 r)))))
