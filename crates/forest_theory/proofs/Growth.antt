-- One clause at a time: the forest of a list exists, is computed, and grows by fusing.
use Prim.Native.Nat.{ℕ}
use mathlib.Core.Path.{◌≡◌, refl, sym, ◌∙◌, ap, subst}
use mathlib.Core.Bool.{cond}
use mathlib.Core.List.Memᴰ
use mathlib.Core.List.{List, [], ◌∷◌, ◌++◌, append_assoc, append-nil}
use mathlib.Core.Logic.{◌↔◌}
use native.Mathlib.Omega.{arith}
use Rattle.forest_theory.specs.Reach.{Variables, From, Joined, Reach, here, step}
use Rattle.forest_theory.specs.InnerVariables.{Lawful}
use Rattle.forest_theory.specs.Tables.{Table, row, lent, WellFormed, start, joins}
use Rattle.forest_theory.specs.Forest.{Forest}
use Rattle.forest_theory.specs.InnerClimb.{top, Represents}
use Rattle.forest_theory.specs.InnerFused.{Single, Fused}
use Rattle.forest_theory.specs.InnerFusing.{fill, Rows, table_of, rows_by, fuse, fuse_all, singles, forest_of}
use Rattle.forest_theory.proofs.Reach.{reach_along, joined_added, joined_sym}
use Rattle.forest_theory.proofs.Climb.{top_class}
use Rattle.forest_theory.proofs.Joins.{represents_itself}
use Rattle.forest_theory.proofs.Forest.{forest_one, same_rows, represents_forest, represents_rows, represents_reach}
use Rattle.forest_theory.proofs.Fuse.{fused_represents}
use Rattle.forest_theory.proofs.Fusing.{row_all, marks_fused, fuse_fused}

-- No clause joins nothing.
joined_none : {v y : ℕ} → Joined [] v y → ⊥
joined_none j = Memᴰ.not-nil j.listed

-- So nothing else is reached.
pub reach_none : {E : ℕ → Type 0} {v y : ℕ} → Reach (Joined []) E v y → v ≡ y
reach_none here = refl
reach_none (step r j e) = absurd (joined_none j)

module _ {X : Variables} (lawful : Lawful X) where
  -- The invariant of building: no clause at first ...
  pub single_represents : {W : Table} → Single X W → Represents X (Joined []) W
  single_represents {W} s = record {
    formed = formed;
    tops = λ i v y fv fy. (λ r. ap (top X W i) (reach_none r), λ e. subst (Reach (Joined []) (From X i) v) (sym (own i v fv) ∙ e ∙ own i y fy) here);
  }
    where
      formed : WellFormed X W
      formed = record {
        right = λ v. record {
          universal = λ e. (s.universal v e, s.parent v);
          class = λ e. let c = s.class v e in
              record { most = omega arith; name = record { existential = rw c e; itself = ap W.cls c }; block = ap X.lev c };
          parent = λ n. absurd (n (s.parent v));
        };
      }

      own : (i v : ℕ) → From X i v → top X W i v ≡ v
      own i v f = top_class formed (record { existential = f.existential; itself = s.class v f.existential })
          (record { above = start; deep = f.deep; stop = λ n. absurd (n (s.parent v)) })

  -- ... then one more each time that one is fused in.
  pub represents_grows : {cs : List (List ℕ)} {C : List ℕ} {W W' : Table} → Represents X (Joined cs) W → Fused X W C W'
      → Represents X (Joined (cs ++ (C ∷ []))) W'
  represents_grows rep fused = represents_reach (λ i v y fv fy. (
    reach_along (λ a b. (joined_added a b).1),
    reach_along (λ a b. (joined_added a b).0),
  )) (fused_represents lawful rep.formed fused rep)

  -- The computed rows of no clause.
  singles_single : Single X (table_of X (singles X))
  unfolding table_of lent singles rows_by
  singles_single = record { universal = λ v e. class v ∙ rw e; class = λ v e. class v ∙ rw e; parent = row_all lawful (λ v. 0) (λ v e. refl) }
    where
      class : (v : ℕ) → row X.count (fill X.count 1 (λ v. cond (X.ex v) v 0)) v ≡ cond (X.ex v) v 0
      class = row_all lawful (λ v. cond (X.ex v) v 0) (λ v e. rw e)

  -- Clauses put in one after another.
  pub fuse_all_represents : {ds : List (List ℕ)} (R : Rows) (cs : List (List ℕ)) → Represents X (Joined ds) (table_of X R)
      → Represents X (Joined (ds ++ cs)) (table_of X (fuse_all X R cs))
  unfolding fuse_all
  fuse_all_represents {ds} R [] rep = rw append-nil rep
  fuse_all_represents {ds} R (C ∷ cs) rep =
      rw append_assoc at (fuse_all_represents {ds = ds ++ (C ∷ [])} (fuse X R C) cs (represents_grows rep (fuse_fused lawful R rep.formed C)))

  -- Theorem (c): the computed rows are the forest of the list; so it exists.
  pub forest_represents : (cs : List (List ℕ)) → Represents X (Joined cs) (table_of X (forest_of X cs))
  unfolding forest_of
  forest_represents cs = fuse_all_represents (singles X) cs (single_represents singles_single)

  -- It is the forest.
  pub forest_exists : (cs : List (List ℕ)) → Forest X (Joined cs) (table_of X (forest_of X cs))
  forest_exists cs = represents_forest (forest_represents cs)

  -- Conversely, any table that is the forest of a list represents it.
  pub forest_is : {cs : List (List ℕ)} {W : Table} → Forest X (Joined cs) W ↔ Represents X (Joined cs) W
  forest_is {cs} = (λ f. represents_rows (forest_one joined_sym (forest_exists cs) f) (forest_represents cs), represents_forest)

  -- Demand 3, first sentence: a clause put into the forest of a list gives the forest of the longer list.
  pub forest_grows : {cs : List (List ℕ)} {C : List ℕ} {W W' : Table} → Forest X (Joined cs) W → Fused X W C W' → Forest X (Joined (cs ++ (C ∷ []))) W'
  forest_grows f fused = represents_forest (represents_grows (forest_is.0 f) fused)

  -- And into a well-formed table, wherever it comes from, it gives the forest of the table's own joins with the clause added.
  pub table_grows : {C : List ℕ} {W W' : Table} → WellFormed X W → Fused X W C W' → Forest X (Joined (joins X W ++ (C ∷ []))) W'
  table_grows formed fused = represents_forest (represents_grows (represents_itself lawful formed) fused)

  -- To fuse is to grow: the forest of the longer list stands to that of the shorter one as fused.
  pub forest_fused : {cs : List (List ℕ)} {C : List ℕ} {W W' : Table} → Forest X (Joined cs) W → Forest X (Joined (cs ++ (C ∷ []))) W' → Fused X W C W'
  forest_fused {cs} {C} {W} {W'} f g =
      let fused = marks_fused lawful (forest_is.0 f).formed C in
      subst (Fused X W C) (same_rows (forest_one joined_sym (forest_grows f fused) g)) fused
