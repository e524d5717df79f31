-- The text of n and three tables, plainly and by stages, is the same (text_staged, staged_text). What stands behind a clause line is as in QDIMACS.
use Prim.Native.Nat.{ℕ, suc, ◌<◌}
use mathlib.Core.Path.{◌≡◌, refl, sym, ap, ◌∙◌, subst}
use mathlib.Core.Bool.{Bool, true, false, true≢false}
use mathlib.Core.List.{List, [], ◌∷◌, ◌++◌, append_assoc}
use mathlib.Core.Logic.{◌↔◌}
use native.Mathlib.Omega.{arith}
use lib.ListN.{length}
use lib.IntN.{ℤ}
use Rattle.text_lines.specs.declared.Stage.{Stage}
use Rattle.text_lines.specs.declared.Stage.TheVariants.{Opening, Body}
use Rattle.text_lines.specs.Format.{CommentLine, ProblemLine, QuantifierLine, e_line, a_line as universal-line, ClauseLine, All, all_none, all_more, Say}
use Rattle.text_lines.specs.Format.{say_none, say_more}
use Rattle.text_lines.specs.InnerGrammar.{a_comment, the_problem, a_block, a_clause, Lines}
use Rattle.text_qdimacs.proofs.Staged.{clauses_to, only_clauses}
use Rattle.dqbf_text.specs.Format.{ListLine, ListedText}
use Rattle.dqbf_text.specs.InnerGrammar.{a_line, a_list, ListedLines, no_line, one_more, ListedByStages}

-- Plain to stages: lines of QDIMACS may stand where they may there, but behind a list line only if they add nothing to the prefix table.
front_empty : (xs ys : List ℕ) → xs ++ ys ≡ [] → xs ≡ []
front_empty [] ys e = refl
front_empty (x ∷ xs) ys e = let no : ◌≡◌ {A = ℕ} 0 1 = cc in let no : ⊥ = omega arith in absurd no

rest_empty : (xs ys : List ℕ) → xs ++ ys ≡ [] → ys ≡ []
rest_empty [] ys e = e
rest_empty (x ∷ xs) ys e = let no : ◌≡◌ {A = ℕ} 0 1 = cc in let no : ⊥ = omega arith in absurd no

pub with_flag : (b : Bool) {s t : Stage} {ls : List (List ℕ)} {P : List ℕ} {C : List ℤ} → (b ≡ true → P ≡ []) → Lines s ls t P C → ListedLines b s ls b t P [] C
with_flag b none Lines.no_line = no_line
with_flag b none (Lines.one_more {p = p} {P = P} line more) =
    one_more (a_line (λ e. front_empty p P (none e)) line) (with_flag b (λ e. rest_empty p P (none e)) more)

-- Lines of one kind in front of lines that follow.
comments_on : {b : Bool} {cs ls : List (List ℕ)} {t : Stage} {P L : List ℕ} {C : List ℤ} → All CommentLine cs → ListedLines false Opening ls b t P L C
    → ListedLines false Opening (cs ++ ls) b t P L C
comments_on all_none more = more
comments_on (all_more c cs) more = one_more (a_line (λ _. refl) (a_comment c)) (comments_on cs more)

quantifiers_on : {b : Bool} {n m : ℕ} {qs ls : List (List ℕ)} {t : Stage} {P L : List ℕ} {C : List ℤ} → Say QuantifierLine qs P
    → ListedLines false (Body n m 0) ls b t [] L C → ListedLines false (Body n m 0) (qs ++ ls) b t P L C
quantifiers_on say_none more = more
quantifiers_on (say_more q qs) more = one_more (a_line (λ e. absurd (true≢false (sym e))) (a_block refl q)) (quantifiers_on qs more)

-- The flag is set by a list line, and stays.
record After (b : Bool) (s : Stage) (ls : List (List ℕ)) (t : Stage) (P L : List ℕ) (C : List ℤ) : Type 0 where
  flag : Bool
  follow : ListedLines b s ls flag t P L C

lists_on : (n m : ℕ) (b : Bool) {ds ls : List (List ℕ)} {t : Stage} {L : List ℕ} {C : List ℤ} → Say ListLine ds L → Lines (Body n m 0) ls t [] C
    → After b (Body n m 0) (ds ++ ls) t [] L C
lists_on n m b say_none more = record { flag = b; follow = with_flag b (λ e. refl) more }
lists_on n m b (say_more d ds) more = let r = lists_on n m true ds more in record { flag = r.flag; follow = one_more (a_list refl d) r.follow }

pub text_staged : {n : ℕ} {P L : List ℕ} {C : List ℤ} {text : List ℕ} → ListedText n P L C text → ListedByStages n P L C text
text_staged {n} t =
    let l = t.lines in
    let m = length t.clauses in
    let body = t.quantifiers ++ (t.list_lines ++ t.clauses) in
    let r = lists_on n m false t.lists_say (clauses_to n m 0 t.clauses_say (omega arith)) in
    record {
      announced = m;
      listed = r.flag;
      lines = l.comments ++ (l.problem ∷ body);
      cut = l.cut ∙ sym (append_assoc l.comments (l.problem ∷ body) ([] ∷ []));
      follow =
          comments_on l.are_comments
          (one_more (a_line (λ _. refl) (the_problem l.is_problem)) (quantifiers_on t.quantifiers_say r.follow));
    }

-- Stages to plain: behind a clause line stand lines of QDIMACS, none of which is a list line.
without_lists : {b b' : Bool} {t : Stage} {lines : List (List ℕ)} {P L : List ℕ} {C : List ℤ} {n m k : ℕ} → 0 < k
    → ListedLines b (Body n m k) lines b' t P L C → Lines (Body n m k) lines t P C × (L ≡ [])
without_lists some no_line = (Lines.no_line, refl)
without_lists some (one_more (a_line e (a_block z q)) more) = let no : ⊥ = omega arith in absurd no
without_lists some (one_more (a_line e (a_clause h c)) more) =
    let (lines, none) = without_lists (omega arith) more in (Lines.one_more (a_clause h c) lines, none)
without_lists some (one_more (a_list z x) more) = let no : ⊥ = omega arith in absurd no

-- A quantifier line adds to the prefix table.
pub marked : {line es : List ℕ} → QuantifierLine line es → es ≡ [] → ⊥
marked (e_line i r) e = let no : ◌≡◌ {A = ℕ} 0 1 = cc in omega arith
marked (universal-line i r) e = let no : ◌≡◌ {A = ℕ} 0 1 = cc in omega arith

-- Behind a list line stand list lines, and then clause lines.
record ListsOf (n n' m : ℕ) (lines : List (List ℕ)) (P L : List ℕ) (C : List ℤ) : Type 0 where
  list_lines : List (List ℕ)
  clauses : List (List ℕ)
  are : lines ≡ list_lines ++ clauses
  no_prefix : P ≡ []
  lists_say : Say ListLine list_lines L
  clauses_say : Say ClauseLine clauses C
  counted : m ≡ length clauses
  number : n ≡ n'

-- a clause line, and those behind it
clause_tail : {b b' : Bool} {t : Stage} {line : List ℕ} {lines : List (List ℕ)} {P L : List ℕ} {c C : List ℤ} {n m k : ℕ} (n' a : ℕ) → k ≡ 0
    → ClauseLine line c → ListedLines b (Body n m (suc k)) lines b' t P L C → t ≡ Body n' a a → ListsOf n n' m (line ∷ lines) P L (c ++ C)
clause_tail {line = line} {lines = lines} n' a z c more end =
    let (plain, none) = without_lists (omega arith) more in
    let o = only_clauses n' a (omega arith) plain end in
    let counted = o.counted in
    record {
      list_lines = [];
      clauses = line ∷ lines;
      are = refl;
      no_prefix = o.no_prefix;
      lists_say = subst (Say ListLine []) (sym none) say_none;
      clauses_say = say_more c o.say;
      counted = omega arith;
      number = o.number;
    }

lists_of : {b b' : Bool} {t : Stage} {lines : List (List ℕ)} {P L : List ℕ} {C : List ℤ} {n m k : ℕ} (n' a : ℕ) → k ≡ 0 → b ≡ true
    → ListedLines b (Body n m k) lines b' t P L C → t ≡ Body n' a a → ListsOf n n' m lines P L C
lists_of {n = n} {m = m} {k = k} n' a z listed no_line end =
    let x : k ≡ a = cc in
    let y : m ≡ a = cc in
    record { list_lines = []; clauses = []; are = refl; no_prefix = refl; lists_say = say_none; clauses_say = say_none; counted = omega arith; number = cc }
lists_of n' a z listed (one_more (a_line e (a_block z' q)) more) end = absurd (marked q (e listed))
lists_of n' a z listed (one_more (a_line e (a_clause h c)) more) end = clause_tail n' a z c more end
lists_of n' a z listed (one_more {line = line} (a_list z' d) more) end =
    let r = lists_of n' a z refl more end in
    record {
      list_lines = line ∷ r.list_lines;
      clauses = r.clauses;
      are = ap (λ (ls : List (List ℕ)). line ∷ ls) r.are;
      no_prefix = r.no_prefix;
      lists_say = say_more d r.lists_say;
      clauses_say = r.clauses_say;
      counted = r.counted;
      number = r.number;
    }

-- Behind the problem line stand quantifier lines, and then those.
record BodyOf (n n' m : ℕ) (lines : List (List ℕ)) (P L : List ℕ) (C : List ℤ) : Type 0 where
  quantifiers : List (List ℕ)
  list_lines : List (List ℕ)
  clauses : List (List ℕ)
  are : lines ≡ quantifiers ++ (list_lines ++ clauses)
  quantifiers_say : Say QuantifierLine quantifiers P
  lists_say : Say ListLine list_lines L
  clauses_say : Say ClauseLine clauses C
  counted : m ≡ length clauses
  number : n ≡ n'

no_quantifier : {n n' m : ℕ} {lines : List (List ℕ)} {P L : List ℕ} {C : List ℤ} → ListsOf n n' m lines P L C → BodyOf n n' m lines P L C
no_quantifier r =
    record {
      quantifiers = [];
      list_lines = r.list_lines;
      clauses = r.clauses;
      are = r.are;
      quantifiers_say = subst (Say QuantifierLine []) (sym r.no_prefix) say_none;
      lists_say = r.lists_say;
      clauses_say = r.clauses_say;
      counted = r.counted;
      number = r.number;
    }

body_of : {b b' : Bool} {t : Stage} {lines : List (List ℕ)} {P L : List ℕ} {C : List ℤ} {n m k : ℕ} (n' a : ℕ) → k ≡ 0
    → ListedLines b (Body n m k) lines b' t P L C → t ≡ Body n' a a → BodyOf n n' m lines P L C
body_of {n = n} {m = m} {k = k} n' a z no_line end =
    let x : k ≡ a = cc in
    let y : m ≡ a = cc in
    no_quantifier
    (record { list_lines = []; clauses = []; are = refl; no_prefix = refl; lists_say = say_none; clauses_say = say_none; counted = omega arith; number = cc })
body_of n' a z (one_more {line = line} (a_line e (a_block z' q)) more) end =
    let r = body_of n' a z more end in
    record {
      quantifiers = line ∷ r.quantifiers;
      list_lines = r.list_lines;
      clauses = r.clauses;
      are = ap (λ (ls : List (List ℕ)). line ∷ ls) r.are;
      quantifiers_say = say_more q r.quantifiers_say;
      lists_say = r.lists_say;
      clauses_say = r.clauses_say;
      counted = r.counted;
      number = r.number;
    }
body_of n' a z (one_more (a_line e (a_clause h c)) more) end = no_quantifier (clause_tail n' a z c more end)
body_of n' a z (one_more {line = line} (a_list z' d) more) end =
    let r = lists_of n' a z refl more end in
    no_quantifier
    (record {
      list_lines = line ∷ r.list_lines;
      clauses = r.clauses;
      are = ap (λ (ls : List (List ℕ)). line ∷ ls) r.are;
      no_prefix = r.no_prefix;
      lists_say = say_more d r.lists_say;
      clauses_say = r.clauses_say;
      counted = r.counted;
      number = r.number;
    })

-- Before it stand comments.
record Opens (lines : List (List ℕ)) (b : Bool) (t : Stage) (P L : List ℕ) (C : List ℤ) : Type 0 where
  n : ℕ
  m : ℕ
  comments : List (List ℕ)
  problem : List ℕ
  body : List (List ℕ)
  are : lines ≡ comments ++ (problem ∷ body)
  are_comments : All CommentLine comments
  is_problem : ProblemLine problem n m
  flag : Bool
  rest : ListedLines flag (Body n m 0) body b t P L C

opens : {a b : Bool} {t : Stage} {lines : List (List ℕ)} {P L : List ℕ} {C : List ℤ} (n k : ℕ) → ListedLines a Opening lines b t P L C → t ≡ Body n k k
    → Opens lines b t P L C
opens n k no_line end = let no : ◌≡◌ {A = ℕ} 0 1 = cc in let no : ⊥ = omega arith in absurd no
opens n k (one_more {line = line} (a_line e (a_comment c)) more) end =
    let o = opens n k more end in
    record {
      n = o.n;
      m = o.m;
      comments = line ∷ o.comments;
      problem = o.problem;
      body = o.body;
      are = ap (λ (ls : List (List ℕ)). line ∷ ls) o.are;
      are_comments = all_more c o.are_comments;
      is_problem = o.is_problem;
      flag = o.flag;
      rest = o.rest;
    }
opens {a = a} n k (one_more {line = line} {lines = lines} (a_line e (the_problem {n = first} {m = m} p)) more) end =
    record {
      n = first;
      m = m;
      comments = [];
      problem = line;
      body = lines;
      are = refl;
      are_comments = all_none;
      is_problem = p;
      flag = a;
      rest = more;
    }

pub staged_text : {n : ℕ} {P L : List ℕ} {C : List ℤ} {text : List ℕ} → ListedByStages n P L C text → ListedText n P L C text
staged_text {n} t =
    let o = opens n t.announced t.follow refl in
    let b = body_of n t.announced refl o.rest refl in
    record {
      quantifiers = b.quantifiers;
      list_lines = b.list_lines;
      clauses = b.clauses;
      lines =
          record {
            comments = o.comments;
            problem = o.problem;
            cut =
                t.cut ∙ ap (λ (ls : List (List ℕ)). ls ++ ([] ∷ [])) (o.are ∙ ap (λ (ls : List (List ℕ)). o.comments ++ (o.problem ∷ ls)) b.are)
                ∙ append_assoc o.comments (o.problem ∷ (b.quantifiers ++ (b.list_lines ++ b.clauses))) ([] ∷ []);
            are_comments = o.are_comments;
            is_problem =
                subst (λ (k : ℕ). ProblemLine o.problem k (length b.clauses)) b.number
                (subst (ProblemLine o.problem o.n) b.counted o.is_problem);
          };
      quantifiers_say = b.quantifiers_say;
      lists_say = b.lists_say;
      clauses_say = b.clauses_say;
    }

pub text_by_stages : (n : ℕ) (P L : List ℕ) (C : List ℤ) (text : List ℕ) → ListedText n P L C text ↔ ListedByStages n P L C text
text_by_stages n P L C text = (text_staged, staged_text)
