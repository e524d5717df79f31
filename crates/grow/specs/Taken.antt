-- To be believed: the tally beside a forest (rule 4.3, rule 4.4): what a clause that is taken makes of it, and the tally of a list, as if each clause had
-- been added from none.
use Rattle.std.specs.Prelude.{ℕ, ◌+◌, ◌≡◌, true, List, [], ◌∷◌, ◌++◌}
use Rattle.terms.specs.declared.Tally.{Tally}
use Rattle.forest_theory.specs.Reach.{Variables, Joined}
use Rattle.forest_theory.specs.Forest.{Names}
use Rattle.forest_theory.specs.Counts.{Numbered}

-- A clause is taken, by what names a class before and after: there is one clause more, the merges grow by the number of classes that disappeared, those
-- whose names name none any more, and the classes left are as many as there are.
pub record Taken (Before After : ℕ → Type 0) (t t' : Tally) : Type 0 where
  pub gone : ℕ
  pub disappeared : Numbered (λ c. Before c × (After c → ⊥)) gone
  pub clauses : t'.clauses ≡ t.clauses + 1
  pub merges : t'.merges ≡ t.merges + gone
  pub classes : Numbered After t'.classes

-- c names a class of the forest of a list of clauses, each given by the variables that it connects
abbrev pub NamesIn : Variables → List (List ℕ) → ℕ → Type 0
NamesIn X cs c = Names X (Joined cs) c c

-- The tally of a list. Of no clause none is taken, none merged, and the classes are as many as the existentials; of one clause more it is what that makes of
-- it.
pub data TallyOf (X : Variables) : List (List ℕ) → Tally → Type 0 where
  of_none : {t : Tally} → t.clauses ≡ 0 → t.merges ≡ 0 → Numbered (λ v. X.ex v ≡ true) t.classes → TallyOf X [] t
  of_more : {cs : List (List ℕ)} (clause : List ℕ) {t t' : Tally} → TallyOf X cs t
      → Taken (NamesIn X cs) (NamesIn X (cs ++ (clause ∷ []))) t t' → TallyOf X (cs ++ (clause ∷ [])) t'
