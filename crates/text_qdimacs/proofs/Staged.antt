-- The text of n and two tables, plainly and by stages, is the same (text_staged, staged_text).
use Prim.Native.Nat.{ℕ, suc, ◌+◌, ◌<◌}
use mathlib.Core.Path.{◌≡◌, refl, sym, ap, ◌∙◌, subst}
use mathlib.Core.List.{List, [], ◌∷◌, ◌++◌, append_assoc}
use mathlib.Core.Logic.{◌↔◌}
use native.Mathlib.Omega.{arith}
use lib.ListN.{length}
use lib.IntN.{ℤ}
use Rattle.text_lines.specs.declared.Stage.{Stage}
use Rattle.text_lines.specs.declared.Stage.TheVariants.{Opening, Body}
use Rattle.text_lines.specs.Format.{CommentLine, ProblemLine, QuantifierLine, ClauseLine, All, all_none, all_more, Say, say_none, say_more, TextOf}
use Rattle.text_lines.specs.InnerGrammar.{a_comment, the_problem, a_block, a_clause, Lines, no_line, one_more, TextByStages}

-- Plain to stages: lines of one kind in front of lines that follow.
comments_on : {cs ls : List (List ℕ)} {t : Stage} {P : List ℕ} {C : List ℤ} → All CommentLine cs → Lines Opening ls t P C → Lines Opening (cs ++ ls) t P C
comments_on all_none more = more
comments_on (all_more c cs) more = one_more (a_comment c) (comments_on cs more)

quantifiers_on : {n m : ℕ} {qs ls : List (List ℕ)} {t : Stage} {P : List ℕ} {C : List ℤ} → Say QuantifierLine qs P → Lines (Body n m 0) ls t [] C
    → Lines (Body n m 0) (qs ++ ls) t P C
quantifiers_on say_none more = more
quantifiers_on (say_more q qs) more = one_more (a_block refl q) (quantifiers_on qs more)

pub clauses_to : (n m k : ℕ) {cs : List (List ℕ)} {C : List ℤ} → Say ClauseLine cs C → k + length cs ≡ m → Lines (Body n m k) cs (Body n m m) [] C
clauses_to n m k say_none e = let all : k ≡ m = omega arith in subst (λ (j : ℕ). Lines (Body n m k) [] (Body n m j) [] []) all no_line
clauses_to n m k (say_more c cs) e = let less : k < m = omega arith in one_more (a_clause less c) (clauses_to n m (suc k) cs (omega arith))

pub text_staged : {n : ℕ} {P : List ℕ} {C : List ℤ} {text : List ℕ} → TextOf n P C text → TextByStages n P C text
text_staged {n} t =
    let l = t.lines in
    let m = length t.clauses in
    let body = t.quantifiers ++ t.clauses in
    record {
      announced = m;
      lines = l.comments ++ (l.problem ∷ body);
      cut = l.cut ∙ sym (append_assoc l.comments (l.problem ∷ body) ([] ∷ []));
      follow =
          comments_on l.are_comments
          (one_more (the_problem l.is_problem) (quantifiers_on t.quantifiers_say (clauses_to n m 0 t.clauses_say (omega arith))));
    }

-- Stages to plain: behind a clause line stand only clause lines.
pub record OnlyClauses (n n' m k : ℕ) (lines : List (List ℕ)) (P : List ℕ) (C : List ℤ) : Type 0 where
  pub no_prefix : P ≡ []
  pub say : Say ClauseLine lines C
  pub counted : k + length lines ≡ m
  pub number : n ≡ n'

pub only_clauses : {t : Stage} {lines : List (List ℕ)} {P : List ℕ} {C : List ℤ} {n m k : ℕ} (n' a : ℕ) → 0 < k → Lines (Body n m k) lines t P C
    → t ≡ Body n' a a → OnlyClauses n n' m k lines P C
only_clauses {n = n} {m = m} {k = k} n' a some no_line end =
    let x : k ≡ a = cc in
    let y : m ≡ a = cc in
    record { no_prefix = refl; say = say_none; counted = omega arith; number = cc }
only_clauses n' a some (one_more (a_block z q) more) end = let no : ⊥ = omega arith in absurd no
only_clauses n' a some (one_more (a_clause h c) more) end =
    let r = only_clauses n' a (omega arith) more end in
    let counted = r.counted in
    record { no_prefix = r.no_prefix; say = say_more c r.say; counted = omega arith; number = r.number }

-- Behind the problem line stand quantifier lines, and then clause lines.
record BodyOf (n n' m : ℕ) (lines : List (List ℕ)) (P : List ℕ) (C : List ℤ) : Type 0 where
  quantifiers : List (List ℕ)
  clauses : List (List ℕ)
  are : lines ≡ quantifiers ++ clauses
  quantifiers_say : Say QuantifierLine quantifiers P
  clauses_say : Say ClauseLine clauses C
  counted : m ≡ length clauses
  number : n ≡ n'

body_of : {t : Stage} {lines : List (List ℕ)} {P : List ℕ} {C : List ℤ} {n m k : ℕ} (n' a : ℕ) → k ≡ 0 → Lines (Body n m k) lines t P C → t ≡ Body n' a a
    → BodyOf n n' m lines P C
body_of {n = n} {m = m} {k = k} n' a z no_line end =
    let x : k ≡ a = cc in
    let y : m ≡ a = cc in
    record { quantifiers = []; clauses = []; are = refl; quantifiers_say = say_none; clauses_say = say_none; counted = omega arith; number = cc }
body_of n' a z (one_more {line = line} (a_block z' q) more) end =
    let r = body_of n' a z more end in
    record {
      quantifiers = line ∷ r.quantifiers;
      clauses = r.clauses;
      are = ap (λ (ls : List (List ℕ)). line ∷ ls) r.are;
      quantifiers_say = say_more q r.quantifiers_say;
      clauses_say = r.clauses_say;
      counted = r.counted;
      number = r.number;
    }
body_of n' a z (one_more {line = line} {lines = lines} (a_clause h c) more) end =
    let o = only_clauses n' a (omega arith) more end in
    let counted = o.counted in
    record {
      quantifiers = [];
      clauses = line ∷ lines;
      are = refl;
      quantifiers_say = subst (Say QuantifierLine []) (sym o.no_prefix) say_none;
      clauses_say = say_more c o.say;
      counted = omega arith;
      number = o.number;
    }

-- Before it stand comments.
record Opens (lines : List (List ℕ)) (t : Stage) (P : List ℕ) (C : List ℤ) : Type 0 where
  n : ℕ
  m : ℕ
  comments : List (List ℕ)
  problem : List ℕ
  body : List (List ℕ)
  are : lines ≡ comments ++ (problem ∷ body)
  are_comments : All CommentLine comments
  is_problem : ProblemLine problem n m
  rest : Lines (Body n m 0) body t P C

opens : {t : Stage} {lines : List (List ℕ)} {P : List ℕ} {C : List ℤ} (n a : ℕ) → Lines Opening lines t P C → t ≡ Body n a a → Opens lines t P C
opens n a no_line end = let no : ◌≡◌ {A = ℕ} 0 1 = cc in let no : ⊥ = omega arith in absurd no
opens n a (one_more {line = line} (a_comment c) more) end =
    let o = opens n a more end in
    record {
      n = o.n;
      m = o.m;
      comments = line ∷ o.comments;
      problem = o.problem;
      body = o.body;
      are = ap (λ (ls : List (List ℕ)). line ∷ ls) o.are;
      are_comments = all_more c o.are_comments;
      is_problem = o.is_problem;
      rest = o.rest;
    }
opens n a (one_more {line = line} {lines = lines} (the_problem {n = first} {m = m} p) more) end =
    record {
      n = first;
      m = m;
      comments = [];
      problem = line;
      body = lines;
      are = refl;
      are_comments = all_none;
      is_problem = p;
      rest = more;
    }

pub staged_text : {n : ℕ} {P : List ℕ} {C : List ℤ} {text : List ℕ} → TextByStages n P C text → TextOf n P C text
staged_text {n} t =
    let o = opens n t.announced t.follow refl in
    let b = body_of n t.announced refl o.rest refl in
    record {
      quantifiers = b.quantifiers;
      clauses = b.clauses;
      lines =
          record {
            comments = o.comments;
            problem = o.problem;
            cut =
                t.cut ∙ ap (λ (ls : List (List ℕ)). ls ++ ([] ∷ [])) (o.are ∙ ap (λ (ls : List (List ℕ)). o.comments ++ (o.problem ∷ ls)) b.are)
                ∙ append_assoc o.comments (o.problem ∷ (b.quantifiers ++ b.clauses)) ([] ∷ []);
            are_comments = o.are_comments;
            is_problem =
                subst (λ (k : ℕ). ProblemLine o.problem k (length b.clauses)) b.number
                (subst (ProblemLine o.problem o.n) b.counted o.is_problem);
          };
      quantifiers_say = b.quantifiers_say;
      clauses_say = b.clauses_say;
    }

pub text_by_stages : (n : ℕ) (P : List ℕ) (C : List ℤ) (text : List ℕ) → TextOf n P C text ↔ TextByStages n P C text
text_by_stages n P C text = (text_staged, staged_text)
