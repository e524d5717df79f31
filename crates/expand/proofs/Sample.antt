-- Formula A (rule 17.1) with 3 expanded: the set, the blocks, the clauses and the literal total, computed.
use Prim.Native.Nat.{ℕ, ◌<◌}
use mathlib.Core.Path.{◌≡◌, refl, subst}
use mathlib.Core.List.Memᴰ
use mathlib.Core.List.{List, [], ◌∷◌, Memᴰ}
use mathlib.Core.Logic.Iff
use mathlib.Core.Logic.{◌↔◌}
use lib.Dec.{lit<}
use lib.IntN.{ℤ, pos, negsuc}
use Rattle.formula.specs.Lent.{Formula, formula_of}
use Rattle.formula.specs.Tables.{cut}
use Rattle.formula.specs.Meaning.{blocks, clauses, opposite, denied, always_true, connected, level, is_universal, is_existential}
use Rattle.formula.specs.InnerLevels.{free_level}
use Rattle.forest_theory.specs.Reach.{Depends}
use Rattle.forest_theory.specs.InnerSearch.{has, meets, keep, put_back, find, see, spread, reached, reaches, is_from, sift, set_of}
use Rattle.forest_theory.proofs.Search.{cons_all, set_of_depends}
use Rattle.forest_tables.specs.Formula.{variables, joined, Shares}
use Rattle.forest_tables.proofs.Agreeing.{lawful}
use Rattle.formula_rules.specs.Joined.{in_front, joined_blocks, table_of}
use Rattle.expand_clauses.specs.Expansion.{is_member, member_number, with_copy, placed, expanded_block, expanded_prefix, made_true, satisfied, has_x, has_member, without}
use Rattle.expand_clauses.specs.Expansion.{renamed, named, has_copy, copies, expanded_list, clause_table, expanded_clauses}
use Rattle.expand.specs.Promise.{SetOf, expanded_by}
use Rattle.expand_clauses.specs.Total.{x_literals, counts, total_of, literal_total}

-- blocks e 1 2, a 3, e 4 5, a 6, e 7 8 9; clauses {3 4 7} {-4 8} {6 9} {5 9} {1 5} (negsuc k is -(k + 1))
abbrev prefix_a : List ℕ
prefix_a = 1 ∷ 1 ∷ 2 ∷ 0 ∷ 2 ∷ 3 ∷ 0 ∷ 1 ∷ 4 ∷ 5 ∷ 0 ∷ 2 ∷ 6 ∷ 0 ∷ 1 ∷ 7 ∷ 8 ∷ 9 ∷ 0 ∷ []

abbrev clauses_a : List ℤ
clauses_a = pos 3 ∷ pos 4 ∷ pos 7 ∷ pos 0 ∷ negsuc 3 ∷ pos 8 ∷ pos 0 ∷ pos 6 ∷ pos 9 ∷ pos 0 ∷ pos 5 ∷ pos 9 ∷ pos 0 ∷ pos 1 ∷ pos 5 ∷ pos 0 ∷ []

abbrev formula_A : Formula
formula_A = formula_of 9 prefix_a clauses_a

abbrev members : List ℕ
members = 4 ∷ 7 ∷ 8 ∷ []

-- What the definitions give for A and 3.
pub record Expanded-A : Type 0 where
  pub set : SetOf formula_A 3 members
  -- e 1 2 4 10 5, a 6, e 7 11 8 12 9
  pub prefix : (expanded_by formula_A 3 members).prefix ≡ 1 ∷ 1 ∷ 2 ∷ 4 ∷ 10 ∷ 5 ∷ 0 ∷ 2 ∷ 6 ∷ 0 ∷ 1 ∷ 7 ∷ 11 ∷ 8 ∷ 12 ∷ 9 ∷ 0 ∷ []
  -- 4 7, -4 8, 6 9, 5 9, 1 5, -10 12
  pub table : (expanded_by formula_A 3 members).clauses
      ≡ pos 4 ∷ pos 7 ∷ pos 0 ∷ negsuc 3 ∷ pos 8 ∷ pos 0 ∷ pos 6 ∷ pos 9 ∷ pos 0 ∷ pos 5 ∷ pos 9 ∷ pos 0
      ∷ pos 1 ∷ pos 5 ∷ pos 0 ∷ negsuc 9 ∷ pos 12 ∷ pos 0 ∷ []
  -- twelve variables, and twelve literals
  pub count : (expanded_by formula_A 3 members).n ≡ 12
  pub total : literal_total 3 members clauses_a ≡ 12

-- the set as it computes
computed : set_of (variables 9 prefix_a) (joined clauses_a) 3 ≡ members
unfolding cut blocks clauses opposite denied always_true connected free_level level is_universal is_existential joined has meets keep put_back find see spread reached reaches is_from sift set_of
computed = refl

depends : (y : ℕ) → Depends (variables 9 prefix_a) (Shares clauses_a) 3 y ↔ Memᴰ y members
depends y = subst (λ (l : List ℕ). Depends (variables 9 prefix_a) (Shares clauses_a) 3 y ↔ Memᴰ y l) computed (Iff.symm (set_of_depends (lawful 9 prefix_a)))

pub expanded_A : Expanded-A
unfolding cut blocks clauses opposite denied always_true in_front joined_blocks table_of is_member member_number with_copy placed expanded_block expanded_prefix made_true
    satisfied has_x has_member without renamed named has_copy copies expanded_list clause_table expanded_clauses x_literals counts total_of literal_total
expanded_A = record {
  set = record {
    ascending = (
      cons_all (λ b. 4 < b) (lit< tt) (cons_all (λ b. 4 < b) (lit< tt) (λ b m. absurd (Memᴰ.not-nil m))),
      (cons_all (λ b. 7 < b) (lit< tt) (λ b m. absurd (Memᴰ.not-nil m)), (λ b m. absurd (Memᴰ.not-nil m), tt)),
    );
    each = λ v m. (depends v).1 m;
    all = λ v d. (depends v).0 d;
  };
  prefix = refl;
  table = refl;
  count = refl;
  total = refl;
}
