-- For any formula and tables whose forest, set and climb are computed: the one outcome that the promise of each call allows.
use Prim.Native.Nat.{ℕ, zero, suc, ◌+◌, ◌-◌, ◌≤◌, ◌<◌}
use mathlib.Core.Path.{◌≡◌, refl, sym, ap, ◌∙◌, subst, subst₂}
use mathlib.Core.Bool.{Bool, true, ◌&&◌}
use mathlib.Core.List.Memᴰ
use mathlib.Core.List.{List, [], ◌∷◌, ◌++◌, Memᴰ}
use mathlib.Core.Logic.{◌⊎◌, inl, ⊎_elim, ◌↔◌}
use native.Mathlib.Omega.{arith}
use lib.Dec.{leb}
use lib.IntN.{ℤ}
use lib.ListN.{length, get_or, drop, length-append, length-drop, get_or-append}
use lib.Seq.{get_or-append-add, get_or-drop}
use Rattle.std.specs.Prelude.{Ok}
use Rattle.terms.specs.Literals.{variable_of}
use Rattle.terms.specs.Refusals.{At0, None, NoneOf}
use Rattle.terms.specs.Says.{Answer}
use Rattle.terms.specs.declared.Point.{Point}
use Rattle.terms.specs.Overwritten.{overwritten}
use Rattle.terms.proofs.Common.{clash}
use Rattle.terms.proofs.Verdicts.{at0_none}
use Rattle.formula.specs.Causes.{PrefixLong, ClausesLong}
use Rattle.formula.specs.Lent.{Formula, formula_of}
use Rattle.formula_rules.specs.Rules.{read_as, read_by, check_order}
use Rattle.formula_rules.proofs.Orders.{clauses_sound}
use Rattle.formula.specs.Meaning.{level, is_existential, connected}
use Rattle.formula.specs.Tables.{literal_at}
use Rattle.forest_theory.specs.Reach.{Variables, Joined, Depends}
use Rattle.forest_theory.specs.InnerVariables.{Lawful}
use Rattle.forest_theory.specs.Tables.{Table, row, lent, joins, WellFormed, EntryPoint}
use Rattle.forest_theory.specs.InnerClimb.{Climbed, climb}
use Rattle.forest_theory.specs.Forest.{Forest}
use Rattle.forest_theory.specs.InnerSearch.{has, reached, is_from, sift, set_of}
use Rattle.forest_theory.specs.InnerFusing.{Rows, table_of}
use Rattle.forest_theory.specs.Counts.{Counted, how_many, names_itself}
use Rattle.terms.specs.Listed.{Ascending, Listed}
use Rattle.forest_theory.proofs.Choice.{choice}
use Rattle.forest_theory.proofs.Counting.{counts_counted}
use Rattle.forest_theory.proofs.Fewer.{fewer_added}
use Rattle.forest_theory.proofs.Climb.{climb_entry, entry_rises}
use Rattle.forest_theory.proofs.Forest.{same_rows}
use Rattle.forest_theory.proofs.Growth.{forest_exists, forest_is, forest_fused, table_grows}
use Rattle.terms.proofs.Listed.{listed_one}
use Rattle.forest_theory.proofs.Rows.{row_same}
use Rattle.forest_theory.proofs.Search.{set_of_depends}
use Rattle.forest_theory.proofs.Sets.{set_members}
use Rattle.forest_tables.specs.Formula.{variables, universal, joined, Shares}
use Rattle.forest_tables.specs.Causes.{ForestCause}
use Rattle.terms.specs.declared.Scheme.TheVariants.{Standard}
use Rattle.forest.specs.Answers.{MembersBy, EntryAnswered, SetListed}
use Rattle.forest_tables.proofs.Agreeing.{lawful}
use Rattle.forest.proofs.Demands.{universal_alone, own_forest_fine, list_settled, entry_settled}
use Rattle.forest_tables.proofs.Readings.{flag_within}
use Rattle.grow_refusals.specs.Admitted.{AddedCause, outside, WrongTally}
use Rattle.grow.specs.Grown.{Standing, forest_in, class_names, existentials, Extended, Grown, Took, Builds, Adds, with_last}
use Rattle.grow.specs.InnerTallies.{many}
use Rattle.grow.specs.InnerTallies.{SumsUp}
use Rattle.grow_passes.specs.Past.{Past}
use Rattle.grow_passes.proofs.Passes.{many_most}
use Rattle.grow.proofs.Appended.{many_last, joined_last}
use Rattle.grow.proofs.Taking.{fell_took, none_added as no-class-new, sum_tallies}
use Rattle.grow.proofs.Tight.{build_tight, add_tight}
use Rattle.grow_cases.specs.Cases.{lengthened}
use Rattle.grow_cases.proofs.Computed.{ForestRows}

-- A computed set is ascending.
sift_least : {y : ℕ} (n s : ℕ) (p : ℕ → Bool) → Memᴰ y (sift n s p) → s ≤ y
unfolding sift
sift_least zero s p m = absurd (Memᴰ.not-nil m)
sift_least {y} (suc n) s p m = choice (λ (l : List ℕ). Memᴰ y l → s ≤ y) (p s)
    (λ t h. ⊎_elim (λ q. omega arith) (λ later. omega (arith, sift_least n (suc s) p later)) (Memᴰ.cases_cons h)) (λ t h. omega (arith, sift_least n (suc s) p h)) m

sift_ascending : (n s : ℕ) (p : ℕ → Bool) → Ascending (sift n s p)
unfolding sift
sift_ascending zero s p = tt
sift_ascending (suc n) s p = choice Ascending (p s) (λ t. (λ b m. sift_least n (suc s) p m, sift_ascending n (suc s) p)) (λ t. sift_ascending n (suc s) p)

set_ascending : (X : Variables) (cs : List (List ℕ)) (x : ℕ) → Ascending (set_of X cs x)
unfolding set_of
set_ascending X cs x = sift_ascending X.count 1 (λ y. X.ex y && has y (reached (is_from X (X.lev x)) cs x))

-- A clause whose literals have variables from 1 to n has no cause of 10.
abbrev pub in_range : ℕ → List ℤ → Bool
in_range n [] = true
in_range n (z ∷ ls) = leb 1 (variable_of z) && leb (variable_of z) n && in_range n ls

in_range_lem : (n : ℕ) (ls : List ℤ) → in_range n ls ≡ true → (e : ℕ) → e < length ls → (1 ≤ variable_of (literal_at ls e)) × (variable_of (literal_at ls e) ≤ n)
in_range_lem n [] t e l = absurd (omega arith)
in_range_lem n (z ∷ ls) t zero l = let (a, b, _) = flag_within n (variable_of z) (in_range n ls) t in (a, b)
in_range_lem n (z ∷ ls) t (suc e) l = in_range_lem n ls (flag_within n (variable_of z) (in_range n ls) t).2 e (omega arith)

none_added : (n : ℕ) (ls : List ℤ) → in_range n ls ≡ true → None (AddedCause n ls)
none_added n ls t k e (outside _ l bad) = let (a, b) = in_range_lem n ls t e l in ⊎_elim (λ z. omega arith) (λ over. omega arith) bad

-- Rows past n are not read, and computed rows put in front of what a lent table has past n leave that as it was.
in_front_lem : {n : ℕ} (rows more : List ℕ) → length rows ≡ n → (v : ℕ) → row n rows v ≡ row n (rows ++ more) v
in_front_lem {n} rows more q v = row_same n v rows (rows ++ more) (λ i l. sym (get_or-append rows more 0 i (omega arith)))

past_front : (n : ℕ) (rows table : List ℕ) → length rows ≡ n → n ≤ length table → Past n table (rows ++ drop n table)
past_front n rows table q long =
    record {
      size = let all = length-append rows (drop n table) in let rest = length-drop n table in omega arith;
      stays = λ u l.
          let at : u ≡ length rows + (u - n) = omega arith in
          let back : n + (u - n) ≡ u = omega arith in
          ap (λ (i : ℕ). get_or (rows ++ drop n table) i 0) at ∙ get_or-append-add rows (drop n table) (u - n) 0 ∙ get_or-drop n table (u - n) 0 ∙ ap (λ (i : ℕ). get_or table i 0) back;
    }

-- Rows with more past them are as many as there are variables, or more.
enough : {n : ℕ} (rows more : List ℕ) → length rows ≡ n → n ≤ length (rows ++ more)
enough rows more q = omega (arith, length-append rows more)

module _ (n : ℕ) (es : List ℕ) where
  abbrev X : Variables
  X = variables n es

  -- What is lent stands for the clauses: tables with a row for each variable, the forest, its counts and the tally.
  pub record Stands (ls : List ℤ) (s : Standing) : Type 0 where
    pub long : (n ≤ length s.rows.classes) × (n ≤ length s.rows.parents) × (n ≤ length s.rows.counts)
    pub forest : Forest X (Shares ls) (forest_in X s)
    pub counted : Counted X (forest_in X s) (row n s.rows.counts)
    pub tallied : SumsUp X (many ls) s

  -- Computed rows do, whatever stands past them.
  pub rows_stand : {ls : List ℤ} {s : Standing} → ForestRows X ls s → (more more' more'' : List ℕ) → Stands ls (lengthened s more more' more'')
  unfolding table_of lent
  rows_stand {ls} {s} f more more' more'' =
      record {
        long = (enough s.rows.classes more f.long.0, enough s.rows.parents more' f.long.1, enough s.rows.counts more'' f.long.2);
        forest = subst (Forest X (Shares ls)) same own;
        counted = subst₂ (Counted X) same (λ i v. in_front_lem s.rows.counts more'' f.long.2 v i)
            (subst (λ (l : List ℕ). Counted X (forest_in X s) (row n l)) f.counted (counts_counted (lawful n es) ((forest_is (lawful n es)).0 own).formed));
        tallied = record { clauses = f.tallied.clauses; classes = f.tallied.classes ∙ ap (λ (W : Table). how_many (names_itself X W) n) same; merges = f.tallied.merges };
      }
    where
      own : Forest X (Shares ls) (forest_in X s)
      own = subst (λ (R : Rows). Forest X (Shares ls) (table_of X R)) f.computed (forest_exists (lawful n es) (joined ls))

      same : forest_in X s ≡ forest_in X (lengthened s more more' more'')
      same = same_rows (λ v. (in_front_lem s.rows.classes more f.long.0 v, in_front_lem s.rows.parents more' f.long.1 v))

  -- The computed rows in front of what the lent tables have past n.
  abbrev pub left : Standing → Standing → Standing
  left built s = lengthened built (drop n s.rows.classes) (drop n s.rows.parents) (drop n s.rows.counts)

  -- They are how build and add leave the tables.
  grown : {J : ℕ → ℕ → Type 0} {ls : List ℤ} {built : Standing} → ForestRows X ls built → (s : Standing) → n ≤ length s.rows.classes → n ≤ length s.rows.parents → n ≤ length s.rows.counts
      → Forest X J (forest_in X (left built s)) → Grown X J s (left built s)
  grown {built = built} f s long long' long'' forest =
      record {
        past = (
          past_front n built.rows.classes s.rows.classes f.long.0 long,
          past_front n built.rows.parents s.rows.parents
              f.long.1 long',
          past_front n built.rows.counts s.rows.counts f.long.2 long'',
        );
        forest = forest;
        counted = (rows_stand f (drop n s.rows.classes) (drop n s.rows.parents) (drop n s.rows.counts)).counted;
      }

  -- The forest of a table's joins and a clause, where the table is the forest of a list, is that of the list with the clause put last.
  added_forest : {cs : List (List ℕ)} (clause : List ℕ) {W W' : Table} → Forest X (Joined cs) W → Forest X (Joined (cs ++ (clause ∷ []))) W' → Forest X (Joined (joins X W ++ (clause ∷ []))) W'
  added_forest clause f g = table_grows (lawful n es) ((forest_is (lawful n es)).0 f).formed (forest_fused (lawful n es) f g)

-- The calls under a rule, by the prefix as it reads it.
module _ (rule n : ℕ) (es : List ℕ) where
  abbrev read : List ℕ
  read = read_as rule es

  abbrev Y : Variables
  Y = variables n read

  abbrev law : Lawful Y
  law = lawful n read

  module _ (ls : List ℤ) (accepted : NoneOf (check_order rule (formula_of n es ls))) where
    abbrev f : Formula
    f = formula_of n es ls

    -- Build leaves the computed rows and the tally.
    pub build_only : {built : Standing} → ForestRows Y ls built → (s : Standing) → n ≤ length s.rows.classes → n ≤ length s.rows.parents
        → n ≤ length s.rows.counts → (answer : Answer ℕ) (s' : Standing)
        → Builds rule f s s' answer ↔ ((answer ≡ Ok n) × (s' ≡ left n read built s))
    build_only {built} g s long long' long'' answer s' =
        (λ b. build_tight f answer (Ok n) b stated, λ q. subst₂ (λ r t. Builds rule f s t r) (sym q.0) (sym q.1) stated)
      where
        stands : Stands n read ls (left n read built s)
        stands = rows_stand n read g (drop n s.rows.classes) (drop n s.rows.parents) (drop n s.rows.counts)

        stated : Builds rule f s (left n read built s) (Ok n)
        stated = record {
          judged = (
            accepted.0,
            (
              accepted.1.0,
              (
                accepted.1.1.0,
                (
                  accepted.1.1.1.0,
                  (
                    accepted.1.1.1.1.0,
                    (at0_none 14 (⊎_elim (λ l. omega arith) (⊎_elim (λ l. omega arith) (λ l. omega arith))), tt),
                  ),
                ),
              ),
            ),
          );
          leaves = (refl, grown n read g s long long' long'' stands.forest, sum_tallies law ls (left n read built s) stands.forest stands.tallied);
        }

    -- so many clause entries beside the prefix are within the limits
    lengths : (entries : ℕ) → entries ≤ 16384 → None (At0 2 (PrefixLong es ⊎ ClausesLong entries))
    lengths entries few = at0_none 2 (⊎_elim (λ l. accepted.1.1.0 2 0 (refl, refl, inl l)) (λ l. omega arith))

    module _ (s : Standing) (stands : Stands n read ls s) where
      fine : None (ForestCause n read s.rows)
      fine = own_forest_fine (read_by rule f) s.rows 0 stands.forest stands.long.0 stands.long.1 stands.long.2 stands.counted

      -- The tally of accepted clauses is not refused: they are fewer than it may have.
      right : WrongTally s.tally (class_names Y s) (existentials Y) → ⊥
      right wrong = let t = stands.tallied in ⊎_elim (λ full. omega (arith, t.clauses, many_most ls, (clauses_sound rule f accepted).short))
          (λ rest. ⊎_elim (λ d. d t.classes) (λ d. d t.merges) rest) wrong

      -- Add of a clause leaves the computed rows and the tally of the list with the clause put last.
      pub add_only : (clause : List ℤ) → in_range n clause ≡ true → length clause ≤ 16384 → {built : Standing} → ForestRows Y (with_last ls clause) built → (answer : Answer ℕ) (s' : Standing)
          → Adds rule n es s clause s' answer ↔ ((answer ≡ Ok n) × (s' ≡ left n read built s))
      add_only clause range small {built} g answer s' =
          (λ a. add_tight es answer (Ok n) a stated, λ q. subst₂ (λ r t. Adds rule n es s clause t r) (sym q.0) (sym q.1) stated)
        where
          first : None (AddedCause n clause)
          first = none_added n clause range

          after : Stands n read (with_last ls clause) (left n read built s)
          after = rows_stand n read g (drop n s.rows.classes) (drop n s.rows.parents) (drop n s.rows.counts)

          forest : Forest Y (Extended Y (forest_in Y s) clause) (forest_in Y (left n read built s))
          forest = added_forest n read (connected clause) stands.forest
              (subst (λ (cs : List (List ℕ)). Forest Y (Joined cs) (forest_in Y (left n read built s)))
              (joined_last {ls = ls} {clause = clause} accepted.1.1.1.1.0 first) after.forest)

          took : Took Y s (left n read built s)
          took = let t = stands.tallied in let u = after.tallied in
              let formed = ((forest_is law).0 stands.forest).formed in
              fell_took law s (left n read built s) (no-class-new law (connected clause) formed forest)
              (record {
                clauses = u.clauses ∙ many_last accepted.1.1.1.1.0 first ∙ ap (λ (k : ℕ). k + 1) (sym t.clauses);
                merges = omega (arith, t.merges, u.merges, t.classes, u.classes, fewer_added (connected clause) law formed forest n);
                classes = u.classes;
              })

          stated : Adds rule n es s clause (left n read built s) (Ok n)
          stated = record {
            judged = (accepted.0, (accepted.1.0, (lengths (length clause) small, (accepted.1.1.1.0, (first, (fine, (at0_none 18 right, tt)))))));
            leaves = (refl, grown n read g s stands.long.0 stands.long.1 stands.long.2 forest, took);
          }

      module _ (x : ℕ) (u : universal n read x ≡ true) where
        -- The set call lists the computed set.
        pub set_only : {list : List ℕ} → set_of Y (joined ls) x ≡ list → (before : List ℕ) → length list ≤ length before → (answer : Answer ℕ) (after : List ℕ)
            → SetListed rule Standard f s.rows x before after answer ↔ ((answer ≡ Ok (length list)) × (after ≡ overwritten list before))
        set_only {list} is before room answer after = (
          λ a. list_settled rule f s.rows x (λ g. MembersBy Standard g s.rows x) before after (overwritten list before) answer (Ok (length list)) a stated,
          λ q. subst₂ (λ r t. SetListed rule Standard f s.rows x before t r) (sym q.0) (sym q.1) stated,
        )
          where
            same : (y : ℕ) → Depends Y (Shares ls) x y ↔ MembersBy Standard (read_by rule f) s.rows x y
            same y = set_members {y = y} law stands.forest (universal_alone n read x u)

            listed : Listed (MembersBy Standard (read_by rule f) s.rows x) list
            listed = subst (Listed (MembersBy Standard (read_by rule f) s.rows x)) is (record {
              ascending = set_ascending Y (joined ls) x;
              each = λ y m. (same y).0 ((set_of_depends law).0 m);
              all = λ y m. (set_of_depends law).1 ((same y).1 m);
            })

            stated : SetListed rule Standard f s.rows x before (overwritten list before) (Ok (length list))
            stated = (
              (
                accepted.0,
                (
                  accepted.1.0,
                  (
                    accepted.1.1.0,
                    (
                      accepted.1.1.1.0,
                      (
                        accepted.1.1.1.1.0,
                        (
                          fine,
                          (
                            at0_none 13 (clash u),
                            (at0_none 14 (λ long. let size = ap length (listed_one long.0 list long.1 listed) in let over = long.2 in omega arith), tt),
                          ),
                        ),
                      ),
                    ),
                  ),
                ),
              ),
              (list, listed, refl, refl),
            )

        -- The entry point call answers where the climb ends.
        pub entry_only : (y : ℕ) {e k : ℕ} → is_existential n read y ≡ true → level read x < level read y
            → climb Y (forest_in Y s) (suc (level read x)) ((forest_in Y s).cls y) 0 ≡ record { top = e; rises = k }
            → (answer : Answer Point) → EntryAnswered rule (formula_of n es []) s.rows x y answer ↔ (answer ≡ Ok (record { class = record { 0 = e }; rises = k }))
        entry_only y {e} {k} ex deeper is answer = (
          λ a. entry_settled rule (formula_of n es []) s.rows x y answer (Ok (record { class = record { 0 = e }; rises = k })) a stated,
          λ q. subst (EntryAnswered rule (formula_of n es []) s.rows x y) (sym q) stated,
        )
          where
            formed : WellFormed Y (forest_in Y s)
            formed = ((forest_is law).0 stands.forest).formed

            entry : EntryPoint Y (forest_in Y s) x y e k
            entry = subst (λ (c : Climbed). EntryPoint Y (forest_in Y s) x y c.top c.rises) is (climb_entry formed y ex deeper)

            stated : EntryAnswered rule (formula_of n es []) s.rows x y (Ok (record { class = record { 0 = e }; rises = k }))
            stated = (
              (
                accepted.0,
                (
                  accepted.1.0,
                  (
                    lengths 0 (omega arith),
                    (
                      accepted.1.1.1.0,
                      (
                        fine,
                        (at0_none 13 (⊎_elim (clash u) (⊎_elim (clash ex) (λ l. omega arith))), tt),
                      ),
                    ),
                  ),
                ),
              ),
              (entry, entry_rises formed ex entry),
            )
