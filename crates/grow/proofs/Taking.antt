-- The tally, both ways: that of a list, as if each clause had been added from none, is the one with all clauses taken whose classes left are the class
-- names and sum with the merges to the existentials; and the classes that an add made disappear are as many as the number of class names falls by.
use Prim.Native.Nat.{ℕ, ◌+◌}
use mathlib.Core.Path.{◌≡◌, refl, sym, ◌∙◌, subst}
use mathlib.Core.Bool.{Bool, true, false, not, ◌&&◌}
use mathlib.Core.List.{List, [], ◌∷◌, ◌++◌, append_assoc, append-nil}
use mathlib.Core.Logic.{◌⊎◌, inl, inr, ⊎_elim, ◌↔◌}
use native.Mathlib.Omega.{arith}
use borrow.Author.Tests.{not-true}
use lib.IntN.{ℤ}
use lib.ListN.{length, length-append, length-map}
use Rattle.terms.specs.declared.Tally.{Tally}
use Rattle.terms.proofs.Common.{clash, by_test}
use Rattle.forest_theory.specs.Reach.{Variables, Joined}
use Rattle.forest_theory.specs.InnerVariables.{Lawful}
use Rattle.forest_theory.specs.Tables.{Table, ClassName, WellFormed, joins}
use Rattle.forest_theory.specs.Forest.{Forest}
use Rattle.forest_theory.specs.InnerFusing.{table_of, forest_of}
use Rattle.forest_theory.specs.InnerSearch.{has}
use Rattle.forest_theory.specs.Counts.{Numbered, how_many, names_itself}
use Rattle.forest_theory.specs.InnerGrowth.{before}
use Rattle.forest_theory.proofs.Choice.{both}
use Rattle.forest_theory.proofs.Counts.{names_class, names_numbered}
use Rattle.forest_theory.proofs.Fewer.{names_fall, none_names}
use Rattle.forest_theory.proofs.Forest.{class_names, represents_forest}
use Rattle.forest_theory.proofs.Growth.{forest_exists}
use Rattle.forest_theory.proofs.Joins.{represents_itself}
use Rattle.forest_theory.proofs.Numbered.{numbered_one, numbered_same, numbered_plus, how_many_numbered}
use Rattle.forest_theory.proofs.Reach.{joined_added}
use Rattle.forest_theory.proofs.Search.{has_member_lem, member_has}
use Rattle.formula.specs.Meaning.{clauses, connected}
use Rattle.forest_tables.specs.Formula.{joined, Shares}
use Rattle.grow.specs.Taken.{Taken, NamesIn, TallyOf, of_none, of_more}
use Rattle.grow.specs.Grown.{Standing, forest_in, existentials, Tallies, Took}
use Rattle.grow.specs.InnerTallies.{many}
use Rattle.grow.specs.InnerTallies.{SumsUp, Fell}

-- Tallies with the same numbers are one.
pub tally_one : (t u : Tally) → t.clauses ≡ u.clauses → t.merges ≡ u.merges → t.classes ≡ u.classes → t ≡ u
tally_one t u c m k i = record { clauses = c i; merges = m i; classes = k i }

-- What is numbered is decided.
decided : {P : ℕ → Type 0} {k : ℕ} → Numbered P k → (v : ℕ) → P v ⊎ (P v → ⊥)
decided {P} m v =
    by_test {P = P v ⊎ (P v → ⊥)} (has v m.list) (λ yes'. inl (m.listed.each v (has_member_lem m.list yes')))
    (λ no'. inr (λ p. clash (member_has (m.listed.all v p)) no'))

-- Where no class is new, those that disappeared are as many as there are fewer.
pub fallen : {Before After : ℕ → Type 0} {k j gone : ℕ} → ((c : ℕ) → After c → Before c) → Numbered Before k → Numbered After j
    → Numbered (λ c. Before c × (After c → ⊥)) gone → k ≡ j + gone
fallen {Before} {After} fall all left vanished =
    numbered_one all
    (numbered_plus left (λ v a p. p.1 a)
    (λ v. (λ b. ⊎_elim (λ a. inl a) (λ none. inr (b, none)) (decided left v), λ s. ⊎_elim (fall v) (λ p. p.0) s)) vanished)

module _ {X : Variables} (law : Lawful X) where
  ex_numbered : Numbered (λ v. X.ex v ≡ true) (existentials X)
  ex_numbered =
      numbered_same (λ v. (λ p. p.2, λ e. let (a, b) = law.within v e in (a, b, e))) (how_many_numbered X.ex X.count)

  -- how many class names of one table are none of another
  abbrev lost : Table → Table → ℕ
  lost W W' = how_many (λ v. names_itself X W v && not (names_itself X W' v)) X.count

  lost_numbered : (W W' : Table) → Numbered (λ c. ClassName X W c × (ClassName X W' c → ⊥)) (lost W W')
  lost_numbered W W' = numbered_same
      (λ v. (
        λ p.
            let (t, n) = both (names_itself X W v) (not (names_itself X W' v)) p.2 in
            (names_class.0 t, λ c. clash (names_class.1 c) (not-true (names_itself X W' v) n)),
        λ p.
            let (a, b) = law.within v p.0.existential in
            (a, b, kept (names_itself X W v) (names_itself X W' v) (names_class.1 p.0) (λ t. p.1 (names_class.0 t))),
      ))
      (how_many_numbered (λ v. names_itself X W v && not (names_itself X W' v)) X.count)
    where
      kept : (a b : Bool) → a ≡ true → (b ≡ true → ⊥) → (a && not b) ≡ true
      kept true true t f = absurd (f refl)
      kept true false t f = refl
      kept false b t f = t

  -- What an add makes of a tally, where no class is new.
  module _ (s s' : Standing) (fall : (c : ℕ) → ClassName X (forest_in X s') c → ClassName X (forest_in X s) c) where
    pub took_fell : Took X s s' → Fell X s s'
    took_fell took =
        let classes = numbered_one took.classes (names_numbered law) in
        let fewer = fallen fall (names_numbered law) (names_numbered law) took.disappeared in
        record { clauses = took.clauses; merges = omega (arith, took.merges); classes = classes }

    pub fell_took : Fell X s s' → Took X s s'
    fell_took fell =
        let vanished = lost_numbered (forest_in X s) (forest_in X s') in
        let fewer = fallen fall (names_numbered law) (names_numbered law) vanished in
        record {
          gone = lost (forest_in X s) (forest_in X s');
          disappeared = vanished;
          clauses = fell.clauses;
          merges = omega (arith, fell.merges);
          classes = subst (Numbered (ClassName X (forest_in X s'))) (sym fell.classes) (names_numbered law);
        }

  -- The names of the forest of a list are the class names of its table.
  list_names : (cs : List (List ℕ)) {W : Table} → Forest X (Joined cs) W → (c : ℕ) → ClassName X W c ↔ NamesIn X cs c
  list_names cs f c = ((class_names f.class).1, (class_names f.class).0)

  list_numbered : (cs : List (List ℕ)) {W : Table} → Forest X (Joined cs) W → Numbered (NamesIn X cs) (how_many (names_itself X W) X.count)
  list_numbered cs f = numbered_same (list_names cs f) (names_numbered law)

  abbrev own : List (List ℕ) → Table
  own cs = table_of X (forest_of X cs)

  none_new : (cs : List (List ℕ)) (clause : List ℕ) (c : ℕ) → NamesIn X (cs ++ (clause ∷ [])) c → NamesIn X cs c
  none_new cs clause c n =
      let more = cs ++ (clause ∷ []) in
      let f = forest_exists law cs in
      let g = forest_exists law more in
      (list_names cs f c).0
      (names_class.0 (names_fall (λ a b j. (joined_added a b).1 (before j)) f g c (names_class.1 ((list_names more g c).1 n))))

  -- The tally of a list sums up.
  tally_sums : {cs : List (List ℕ)} {t : Tally} → TallyOf X cs t
      → (t.clauses ≡ length cs) × Numbered (NamesIn X cs) t.classes × (t.merges + t.classes ≡ existentials X)
  tally_sums (of_none {t} clauses merges classes) =
      let all = numbered_one classes ex_numbered in
      let f = forest_exists law [] in
      let named : how_many (names_itself X (own [])) X.count ≡ t.classes = none_names f X.count ∙ sym all in
      (clauses, subst (Numbered (NamesIn X [])) named (list_numbered [] f), omega arith)
  tally_sums (of_more {cs} clause earlier taken) =
      let (clauses, named, sum) = tally_sums earlier in
      let fewer = fallen (none_new cs clause) named taken.classes taken.disappeared in
      let long = length-append cs (clause ∷ []) in
      (omega (arith, taken.clauses), taken.classes, omega (arith, taken.merges))

  -- A list has one tally.
  pub tally_of_one : {cs : List (List ℕ)} {t u : Tally} → TallyOf X cs t → TallyOf X cs u → t ≡ u
  tally_of_one {t = t} {u = u} a b =
      let (clauses, named, sum) = tally_sums a in
      let (clauses', named', sum') = tally_sums b in
      let classes = numbered_one named named' in
      tally_one t u (clauses ∙ sym clauses') (omega arith) classes

  -- Every list has a tally: clause after clause is taken.
  all_taken : (done rest : List (List ℕ)) (t : Tally) → TallyOf X done t → (t' : Tally) × TallyOf X (done ++ rest) t'
  all_taken done [] t o = (t, subst (λ (cs : List (List ℕ)). TallyOf X cs t) (sym (append-nil done)) o)
  all_taken done (clause ∷ rest) t o =
      let more = done ++ (clause ∷ []) in
      let f = forest_exists law done in
      let g = forest_exists law more in
      let t' : Tally = record { clauses = t.clauses + 1; merges = t.merges + lost (own done) (own more); classes = how_many (names_itself X (own more)) X.count } in
      let taken : Taken (NamesIn X done) (NamesIn X more) t t' = record {
        gone = lost (own done) (own more);
        disappeared =
            numbered_same (λ c. (
              λ p. ((list_names done f c).0 p.0, λ n. p.1 ((list_names more g c).1 n)),
              λ p. ((list_names done f c).1 p.0, λ n. p.1 ((list_names more g c).0 n)),
            )) (lost_numbered (own done) (own more));
        clauses = refl;
        merges = refl;
        classes = list_numbered more g;
      } in
      let (u, all) = all_taken more rest t' (of_more clause o taken) in
      (u, subst (λ (cs : List (List ℕ)). TallyOf X cs u) (append_assoc done (clause ∷ []) rest) all)

  -- Both ways, of a tally that stands beside the forest of the list.
  module _ (cs : List (List ℕ)) (s : Standing) (f : Forest X (Joined cs) (forest_in X s)) where
    pub tally_sums_up : TallyOf X cs s.tally → SumsUp X (length cs) s
    tally_sums_up o =
        let (clauses, named, sum) = tally_sums o in
        record { clauses = clauses; classes = numbered_one named (list_numbered cs f); merges = sum }

    pub sums_up_tally : SumsUp X (length cs) s → TallyOf X cs s.tally
    sums_up_tally t =
        let none : Tally = record { clauses = 0; merges = 0; classes = existentials X } in
        let (u, o) = all_taken [] cs none (of_none refl refl ex_numbered) in
        let (clauses, named, sum) = tally_sums o in
        let classes = t.classes ∙ numbered_one (list_numbered cs f) named in
        let same : u ≡ s.tally = tally_one u s.tally (clauses ∙ sym t.clauses) (omega (arith, t.merges)) (sym classes) in
        subst (TallyOf X cs) same o

  -- Where a clause is added to a table, no class is new.
  pub none_added : (C : List ℕ) {W W' : Table} → WellFormed X W → Forest X (Joined (joins X W ++ (C ∷ []))) W' → (c : ℕ) → ClassName X W' c → ClassName X W c
  none_added C formed g c n =
      let f = represents_forest (represents_itself law formed) in
      names_class.0 (names_fall (λ a b j. (joined_added a b).1 (before j)) f g c (names_class.1 n))

-- So of the clauses of a table, as many as it holds.
module _ {X : Variables} (law : Lawful X) (ls : List ℤ) (s : Standing) (f : Forest X (Shares ls) (forest_in X s)) where
  all_joined : length (joined ls) ≡ many ls
  unfolding joined
  all_joined = length-map (clauses ls) connected

  pub tallies_sum : Tallies X ls s → SumsUp X (many ls) s
  tallies_sum o = subst (λ (k : ℕ). SumsUp X k s) all_joined (tally_sums_up law (joined ls) s f o)

  pub sum_tallies : SumsUp X (many ls) s → Tallies X ls s
  sum_tallies t = sums_up_tally law (joined ls) s f (subst (λ (k : ℕ). SumsUp X k s) (sym all_joined) t)
