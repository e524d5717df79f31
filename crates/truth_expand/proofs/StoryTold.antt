-- The story computed: its formula holds, and so does what expanding 1 by its set leaves; what expanding leaves by the members that are found too far in does not.
use Prim.Native.Nat.{ℕ, ◌+◌, ◌<◌}
use mathlib.Core.Path.{◌≡◌, refl, sym, ap, ◌∙◌, subst}
use mathlib.Core.Bool.{true, false}
use mathlib.Core.List.Memᴰ
use mathlib.Core.List.{List, [], ◌∷◌, Memᴰ}
use mathlib.Core.Logic.Iff
use mathlib.Core.Logic.{⊎_elim, ◌↔◌}
use native.Mathlib.Omega.{arith}
use lib.Dec.{lit<}
use Rattle.terms.specs.Listed.{Listed}
use Rattle.terms.specs.Refusals.{None}
use Rattle.terms.specs.declared.Scheme.TheVariants.{Standard}
use Rattle.terms.proofs.Common.{clash}
use Rattle.formula.specs.Causes.{ClauseCause}
use Rattle.formula.specs.Meaning.{blocks, clauses, opposite, denied, always_true, connected, level, is_universal, is_existential}
use Rattle.formula.specs.InnerLevels.{free_level}
use Rattle.formula.specs.Tables.{cut}
use Rattle.formula.proofs.Accepts.{prefix_passes, clauses_pass, accepts}
use Rattle.formula_rules.specs.Joined.{in_front, joined_blocks, table_of}
use Rattle.forest_theory.specs.Reach.{Reach, From}
use Rattle.forest_theory.specs.InnerSearch.{has, meets, keep, put_back, find, see, spread, reached, reaches, is_from, sift, set_of}
use Rattle.forest_theory.proofs.Search.{cons_all, has_member_lem, member_has, reaches_true, from_test, set_of_depends}
use Rattle.forest_tables.specs.Formula.{joined, Shares}
use Rattle.forest_tables.specs.Lent.{variables_of}
use Rattle.forest_tables.proofs.Agreeing.{lawful}
use Rattle.forest.specs.Answers.{DependsBy}
use Rattle.expand_clauses.specs.Expansion.{is_member, member_number, with_copy, placed, expanded_block, expanded_prefix, made_true, satisfied, has_x, has_member, without}
use Rattle.expand_clauses.specs.Expansion.{renamed, named, has_copy, copies, expanded_list, clause_table, expanded_clauses}
use Rattle.expand.specs.Promise.{expanded_by}
use Rattle.truth.specs.Game.{put, insert_turn, turns_of}
use Rattle.truth.proofs.Computing.{satisfies, satisfies_all, tried, won}
use Rattle.truth_formula.specs.Holds.{Holds}
use Rattle.truth_formula.proofs.Computed.{won_by, holds_computed}
use Rattle.truth_expand.specs.Story.{story, FoundTooFarIn}
use Rattle.truth_expand.proofs.Story.{right, wrong}

-- What antt computes: the games, the set, and what is reached from too far in.
record Computed : Type 0 where
  game : won_by story ≡ true
  right_game : won_by right ≡ true
  wrong_game : won_by wrong ≡ false
  set : set_of (variables_of story) (joined story.clauses) 1 ≡ 2 ∷ 4 ∷ []
  too_far : reached (is_from (variables_of story) 3) (joined story.clauses) 1 ≡ 4 ∷ 4 ∷ 1 ∷ []
  universal : is_existential 4 story.prefix 1 ≡ false
  existential : is_existential 4 story.prefix 4 ≡ true
  level_1 : level story.prefix 1 ≡ 1

computed : Computed
unfolding cut blocks clauses opposite denied always_true connected free_level level is_universal is_existential in_front joined_blocks table_of joined
    is_member member_number with_copy placed expanded_block expanded_prefix made_true satisfied has_x has_member without renamed named has_copy copies expanded_list
    clause_table expanded_clauses has meets keep put_back find see spread reached reaches is_from sift set_of put insert_turn turns_of satisfies satisfies_all
    tried won
computed = record { game = refl; right_game = refl; wrong_game = refl; set = refl; too_far = refl; universal = refl; existential = refl; level_1 = refl }

-- Their clause tables are accepted.
accepted : None (ClauseCause 4 story.clauses) × None (ClauseCause 6 right.clauses) × None (ClauseCause 5 wrong.clauses)
unfolding cut blocks clauses opposite denied always_true is_member member_number made_true satisfied has_x has_member without renamed named has_copy copies expanded_list
    clause_table expanded_clauses prefix_passes clauses_pass
accepted = (
  (accepts 4 [] story.clauses (omega arith) (omega arith) (omega arith) refl refl).1.1.1.0,
  (accepts 6 [] right.clauses (omega arith) (omega arith) (omega arith) refl refl).1.1.1.0,
  (accepts 5 [] wrong.clauses (omega arith) (omega arith) (omega arith) refl refl).1.1.1.0,
)

pub story_holds : Holds story
story_holds = (holds_computed story accepted.0).0 computed.game

pub right_holds : Holds (expanded_by story 1 (2 ∷ 4 ∷ []))
right_holds = (holds_computed right accepted.1).0 computed.right_game

pub wrong_fails : Holds (expanded_by story 1 (4 ∷ [])) → ⊥
wrong_fails h = clash ((holds_computed wrong accepted.2).1 h) computed.wrong_game

-- The set of 1, and what is found too far in.
pub story_set : Listed (DependsBy Standard story 1) (2 ∷ 4 ∷ [])
story_set =
    record {
      ascending = (cons_all (λ b. 2 < b) (lit< tt) (λ b m. absurd (Memᴰ.not-nil m)), (λ b m. absurd (Memᴰ.not-nil m), tt));
      each = λ v m. (depends v).1 m;
      all = λ v d. (depends v).0 d;
    }
  where
    depends : (y : ℕ) → DependsBy Standard story 1 y ↔ Memᴰ y (2 ∷ 4 ∷ [])
    depends y = subst (λ (l : List ℕ). DependsBy Standard story 1 y ↔ Memᴰ y l) computed.set (Iff.symm (set_of_depends (lawful 4 story.prefix)))

pub story_too_far_in : Listed (FoundTooFarIn story 1) (4 ∷ [])
unfolding reaches
story_too_far_in =
    record {
      ascending = (λ b m. absurd (Memᴰ.not-nil m), tt);
      each = λ v m. subst (FoundTooFarIn story 1) (sym (Memᴰ.eq_of_singleton m)) found_4;
      all = λ v d. only v d.existential (has_member_lem (4 ∷ 4 ∷ 1 ∷ []) (from_3 v d.reached));
    }
  where
    too_far_is : 2 + level story.prefix 1 ≡ 3
    too_far_is = ap (λ (k : ℕ). 2 + k) computed.level_1

    from_3 : (v : ℕ) → Reach (Shares story.clauses) (From (variables_of story) (2 + level story.prefix 1)) 1 v → has v (4 ∷ 4 ∷ 1 ∷ []) ≡ true
    from_3 v r =
        let there : Reach (Shares story.clauses) (From (variables_of story) 3) 1 v =
        subst (λ (k : ℕ). Reach (Shares story.clauses) (From (variables_of story) k) 1 v) too_far_is r in
        subst (λ (l : List ℕ). has v l ≡ true) computed.too_far ((reaches_true from_test).1 there)

    found_4 : FoundTooFarIn story 1 4
    found_4 =
        record {
          existential = computed.existential;
          reached = subst (λ (k : ℕ). Reach (Shares story.clauses) (From (variables_of story) k) 1 4) (sym too_far_is)
              ((reaches_true from_test).0 (subst (λ (l : List ℕ). has 4 l ≡ true) (sym computed.too_far) (member_has (Memᴰ.head refl))));
        }

    only : (v : ℕ) → is_existential 4 story.prefix v ≡ true → Memᴰ v (4 ∷ 4 ∷ 1 ∷ []) → Memᴰ v (4 ∷ [])
    only v e m = ⊎_elim Memᴰ.head (λ n. ⊎_elim Memᴰ.head (λ k. absurd (one k)) (Memᴰ.cases_cons n)) (Memᴰ.cases_cons m)
      where
        one : Memᴰ v (1 ∷ []) → ⊥
        one k = clash e (ap (is_existential 4 story.prefix) (Memᴰ.eq_of_singleton k) ∙ computed.universal)
