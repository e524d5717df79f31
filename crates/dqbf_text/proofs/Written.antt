-- The round trip, at the grammar: the text written for tables that a text can hold is the text of those tables.
use Prim.Native.Nat.{ℕ, ◌<◌}
use mathlib.Core.Path.{◌≡◌, refl, sym, ap, ◌∙◌, subst}
use mathlib.Core.Bool.{Bool, true, false, true≢false}
use mathlib.Core.List.{List, [], ◌∷◌, ◌++◌, append_assoc, append-nil}
use native.Mathlib.Omega.{arith}
use lib.IntN.{ℤ}
use Rattle.text_lines.specs.declared.Stage.{Stage}
use Rattle.text_lines.specs.declared.Stage.TheVariants.{Body}
use Rattle.text_words.specs.Words.{LF, SPACE, ZERO, onto, pieces, words, VariableWords}
use Rattle.text_words.proofs.Spelled.{decimal_spells, variables_read}
use Rattle.text_lines.specs.Format.{p_cnf}
use Rattle.text_lines.specs.InnerGrammar.{the_problem}
use Rattle.text_write.specs.Numbers.{decimal, digits_of}
use Rattle.text_write.specs.InnerText.{spaced, ended, prefix_text, clause_text, clause_count}
use Rattle.text_qdimacs.proofs.Holdable.{Holdable}
use Rattle.text_qdimacs.proofs.Written.{pieces_front, pieces_spaced, decimal_without, zero_row, variable_taken, letter_words, BlockLines, blocks, ClauseLines}
use Rattle.text_qdimacs.proofs.Written.{clauses, problem_bytes, problem_cut, problem_words}
use Rattle.dqbf_text.specs.Format.{LETTER-D, ListedText}
use Rattle.dqbf_text.specs.Written.{listed_text_of}
use Rattle.dqbf_text.specs.InnerGrammar.{a_line, a_list, ListedLines, no_line, one_more, ListedByStages}
use Rattle.dqbf_text.specs.InnerText.{lettered, list_text, listed_by_entries}
use Rattle.dqbf_text.proofs.Letters.{list_line}
use Rattle.dqbf_text.proofs.Staged.{with_flag, staged_text}
use Rattle.dqbf_text.proofs.Holdable.{Lists, no_list, list, list_end, member}
use Rattle.dqbf_text.proofs.Blockwise.{member_text, text_is}

-- The lists of a table, before a text that goes on.
module _ (n m : ℕ) (rest : List ℕ) where
  record ListLines (L : List ℕ) : Type 0 where
    lines : List (List ℕ)
    cut : pieces LF (list_text true L ++ rest) ≡ lines ++ pieces LF rest
    then : Bool → Bool
    follow : (b : Bool) → ListedLines b (Body n m 0) lines (then b) (Body n m 0) [] L []

  record ListRest (es : List ℕ) : Type 0 where
    body : List ℕ
    first : ℕ
    others : List ℕ
    after : List ℕ
    lines : List (List ℕ)
    is : es ≡ first ∷ (others ++ after)
    cut : pieces LF (list_text false es ++ rest) ≡ spaced false body ∷ (lines ++ pieces LF rest)
    read : VariableWords (words body) (first ∷ others)
    then : Bool → Bool
    follow : (b : Bool) → ListedLines b (Body n m 0) lines (then b) (Body n m 0) [] after []

  abbrev ListsAre : Bool → List ℕ → Type 0
  ListsAre true L = ListLines L
  ListsAre false es = ListRest es

  -- a number in front of the rest of its list
  abbrev member_body : {more : List ℕ} → ℕ → ListRest more → List ℕ
  member_body v r = decimal v ++ (SPACE ∷ r.body)

  member_cut : (v : ℕ) (more : List ℕ) → (v ≡ 0 → ⊥) → v < 100000 → (r : ListRest more)
      → pieces LF (list_text false (v ∷ more) ++ rest) ≡ spaced false (member_body v r) ∷ (r.lines ++ pieces LF rest)
  unfolding spaced
  member_cut v more positive small r =
      ap (λ (t : List ℕ). pieces LF (t ++ rest)) (member_text v more positive)
      ∙ ap (λ (t : List ℕ). pieces LF (SPACE ∷ t)) (append_assoc (decimal v) (list_text false more) rest)
      ∙ pieces_spaced false (decimal v ++ (list_text false more ++ rest)) (member_body v r) (r.lines ++ pieces LF rest)
      (pieces_front LF (list_text false more ++ rest) (SPACE ∷ r.body) (r.lines ++ pieces LF rest) (decimal_without v LF (omega arith)) r.cut)

  member_read : (v : ℕ) (more : List ℕ) → (v ≡ 0 → ⊥) → v < 100000 → (r : ListRest more)
      → VariableWords (words (member_body v r)) (v ∷ r.first ∷ r.others)
  member_read v more positive small r = variable_taken v r.body (r.first ∷ r.others) positive small r.read

  -- the letter in front of the first
  lettered_cut : (v : ℕ) (more : List ℕ) (line : List ℕ) (ls : List (List ℕ)) → pieces LF (list_text false (v ∷ more) ++ rest) ≡ line ∷ ls
      → pieces LF (list_text true (v ∷ more) ++ rest) ≡ (LETTER-D ∷ line) ∷ ls
  unfolding list_text lettered pieces onto
  lettered_cut v more line ls e = ap (onto LETTER-D) e

  lists : {first : Bool} {L : List ℕ} → Lists first L → ListsAre first L
  unfolding list_text lettered spaced ended decimal digits_of pieces onto
  lists no_list = record { lines = []; cut = refl; then = λ b. b; follow = λ b. no_line }
  lists (list {y} {more} positive small b) =
      let r = lists b in
      let line = LETTER-D ∷ spaced false (member_body y r) in
      record {
        lines = line ∷ r.lines;
        cut = lettered_cut y more (spaced false (member_body y r)) (r.lines ++ pieces LF rest) (member_cut y more positive small r);
        then = λ f. r.then true;
        follow =
            λ f. subst (λ (L : List ℕ). ListedLines f (Body n m 0) (line ∷ r.lines) (r.then true) (Body n m 0) [] (y ∷ L) []) (sym r.is)
            (one_more (a_list refl (list_line (letter_words LETTER-D (member_body y r) refl) (variables_read (member_read y more positive small r)))) (r.follow true));
      }
  lists (list_end {more} b) =
      let r = lists b in
      record {
        body = ZERO ∷ [];
        first = 0;
        others = [];
        after = more;
        lines = r.lines;
        is = refl;
        cut = rw r.cut;
        read = zero_row;
        then = r.then;
        follow = r.follow;
      }
  lists (member {x} {more} positive small b) =
      let r = lists b in
      record {
        body = member_body x r;
        first = x;
        others = r.first ∷ r.others;
        after = r.after;
        lines = r.lines;
        is = ap (λ (xs : List ℕ). x ∷ xs) r.is;
        cut = member_cut x more positive small r;
        read = member_read x more positive small r;
        then = r.then;
        follow = r.follow;
      }

-- Lines that follow lines.
lines_join : {a b c : Bool} {s t u : Stage} {ks ls : List (List ℕ)} {P Q K L : List ℕ} {C D : List ℤ} → ListedLines a s ks b t P K C
    → ListedLines b t ls c u Q L D → ListedLines a s (ks ++ ls) c u (P ++ Q) (K ++ L) (C ++ D)
lines_join no_line x = x
lines_join {a = a} {c = c'} {s = s} {u = u} {ls = ls} {Q = Q} {L = L} {D = D}
    (one_more {line = k} {lines = ks} {p = p} {P = P} {l = l} {L = K} {c = c} {C = C} line more) x =
    subst (λ (e : List ℕ). ListedLines a s (k ∷ (ks ++ ls)) c' u e ((l ++ K) ++ L) ((c ++ C) ++ D)) (sym (append_assoc p P Q))
    (subst (λ (e : List ℕ). ListedLines a s (k ∷ (ks ++ ls)) c' u (p ++ (P ++ Q)) e ((c ++ C) ++ D)) (sym (append_assoc l K L))
    (subst (λ (e : List ℤ). ListedLines a s (k ∷ (ks ++ ls)) c' u (p ++ (P ++ Q)) (l ++ (K ++ L)) e) (sym (append_assoc c C D))
    (one_more line (lines_join more x))))

-- The text that is written entry by entry, by stages.
staged : (n : ℕ) (prefix : List ℕ) (clauses' : List ℤ) (lists' : List ℕ) → Holdable n prefix clauses' → Lists true lists'
    → ListedByStages n prefix lists' clauses' (listed_by_entries n prefix clauses' lists')
unfolding listed_by_entries
staged n prefix clauses' lists' h d =
    let m = clause_count clauses' in
    let end = clause_text true clauses' in
    let bs : BlockLines n m (list_text true lists' ++ end) prefix = blocks n m (list_text true lists' ++ end) h.blocks in
    let ds : ListLines n m end lists' = lists n m end d in
    let cs : ClauseLines n m 0 clauses' = clauses n m 0 h.all_clauses (omega arith) in
    record {
      announced = m;
      listed = ds.then false;
      lines = problem_bytes n m ∷ (bs.lines ++ (ds.lines ++ cs.lines));
      cut =
          problem_cut n m (prefix_text true prefix ++ (list_text true lists' ++ end))
          ∙ ap (λ (ls : List (List ℕ)). problem_bytes n m ∷ ls)
          (bs.cut
          ∙ ap (λ (ls : List (List ℕ)). bs.lines ++ ls)
          (ds.cut ∙ ap (λ (ls : List (List ℕ)). ds.lines ++ ls) cs.cut ∙ sym (append_assoc ds.lines cs.lines ([] ∷ [])))
          ∙ sym (append_assoc bs.lines (ds.lines ++ cs.lines) ([] ∷ [])));
      follow =
          one_more
          (a_line (λ e. refl)
          (the_problem (p_cnf (problem_words n m) (decimal_spells n h.number) (decimal_spells m h.count))))
          (subst (λ (P : List ℕ). ListedLines false (Body n m 0) (bs.lines ++ (ds.lines ++ cs.lines)) (ds.then false) (Body n m m) P lists' clauses')
          (append-nil prefix)
          (subst
          (λ (L : List ℕ).
          ListedLines false (Body n m 0) (bs.lines ++ (ds.lines ++ cs.lines)) (ds.then false) (Body n m m) (prefix ++ []) L clauses')
          (append-nil lists')
          (lines_join (with_flag false (λ e. absurd (true≢false (sym e))) bs.follow)
          (lines_join (ds.follow false) (with_flag (ds.then false) (λ e. refl) cs.follow)))));
    }

-- The written text is the text of its tables.
pub written : (n : ℕ) (prefix : List ℕ) (table : List ℤ) (ds : List ℕ) → Holdable n prefix table → Lists true ds
    → ListedText n prefix ds table (listed_text_of n prefix table ds)
written n prefix table ds h d = subst (ListedText n prefix ds table) (text_is n prefix table ds h d) (staged_text (staged n prefix table ds h d))
