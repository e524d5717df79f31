-- The round trip, at the grammar: the text written for tables that a text can hold is the text of those tables.
use Prim.Native.Nat.{ℕ, suc, ◌+◌, ◌<◌, ◌≤◌}
use mathlib.Core.Path.{◌≡◌, refl, sym, ap, ◌∙◌, subst, subst₂}
use mathlib.Core.Logic.{⊎_elim}
use mathlib.Core.Bool.{Bool, true, false, ◌&&◌}
use mathlib.Core.List.{List, [], ◌∷◌, ◌++◌, append_assoc, append-nil}
use native.Mathlib.Omega.{arith}
use borrow.Author.Tests.{leb-true, ne_eqb}
use lib.Dec.{eqb, leb}
use lib.ListN.{length}
use lib.IntN.{ℤ, pos, negsuc, nat_abs}
use Rattle.text_lines.specs.declared.Stage.{Stage}
use Rattle.text_lines.specs.declared.Stage.TheVariants.{Body}
use Rattle.text_words.specs.Words.{LF, SPACE, MINUS, ZERO, LETTER-A, LETTER-C, LETTER-E, LETTER-F, LETTER-N, LETTER-P, onto, pieces, filled, words}
use Rattle.text_words.specs.InnerNumbers.{NINE, all_digits}
use Rattle.text_words.specs.Words.{variable_word, LiteralWord, unsigned_word, negated_word, Entries, closing, entry, VariableWords, LiteralWords}
use Rattle.text_lines.specs.Format.{p_cnf, QuantifierLine, e_line, a_line, literals_line, TextOf}
use Rattle.text_lines.specs.InnerGrammar.{the_problem, a_block, a_clause, Lines, no_line, one_more, TextByStages}
use Rattle.text_write.specs.Numbers.{decimal, digits_of}
use Rattle.text_write.specs.Written.{mark_word, literal_word, problem_line, text_of}
use Rattle.text_write.specs.InnerText.{spaced, ended, prefix_text, clause_text, clause_count, text_by_entries}
use Rattle.text_write.proofs.Decimal.{decimal_is}
use Rattle.text_words.proofs.Numbers.{both}
use Rattle.text_words.proofs.Lines.{filled_some}
use Rattle.text_words.proofs.Spelled.{digits_read, decimal_spells}
use Rattle.text_qdimacs.proofs.Holdable.{Blocks, no_block, block, block_end, variable, Clauses, no_clause, clause_end, literal, Holdable}
use Rattle.text_qdimacs.proofs.Staged.{staged_text}
use Rattle.text_qdimacs.proofs.Blockwise.{variable_text, literal_text, text_is}

-- Bytes among which a mark does not stand.
pub data Without (mark : ℕ) : List ℕ → Type 0 where
  without_none : Without mark []
  without_more : {b : ℕ} {bs : List ℕ} → eqb b mark ≡ false → Without mark bs → Without mark (b ∷ bs)

-- Such bytes in front go into the first piece; and a mark after them ends it.
pub pieces_front : (mark : ℕ) {w : List ℕ} (x l : List ℕ) (ps : List (List ℕ)) → Without mark w → pieces mark x ≡ l ∷ ps → pieces mark (w ++ x) ≡ (w ++ l) ∷ ps
unfolding pieces onto
pieces_front mark x l ps without_none e = e
pieces_front mark x l ps (without_more b r) e = rw (b, pieces_front mark x l ps r e)

pieces_mark : (mark : ℕ) {w : List ℕ} (x : List ℕ) → eqb mark mark ≡ true → Without mark w → pieces mark (w ++ (mark ∷ x)) ≡ w ∷ pieces mark x
unfolding pieces
pieces_mark mark {w} x same r = pieces_front mark (mark ∷ x) [] (pieces mark x) r (rw same) ∙ ap (λ (l : List ℕ). l ∷ pieces mark x) (append-nil w)

pieces_last : (mark : ℕ) {w : List ℕ} → Without mark w → pieces mark w ≡ w ∷ []
unfolding pieces
pieces_last mark {w} r = ap (pieces mark) (sym (append-nil w)) ∙ pieces_front mark [] [] [] r refl ∙ ap (λ (l : List ℕ). l ∷ []) (append-nil w)

-- A word, and the words after it.
words_more : {w : List ℕ} (x : List ℕ) → Without SPACE w → 1 ≤ length w → words (w ++ (SPACE ∷ x)) ≡ w ∷ words x
unfolding words
words_more {w} x r h = ap filled (pieces_mark SPACE x refl r) ∙ filled_some w (pieces SPACE x) h

words_last : {w : List ℕ} → Without SPACE w → 1 ≤ length w → words w ≡ w ∷ []
unfolding words filled
words_last {w} r h = ap filled (pieces_last SPACE r) ∙ filled_some w [] h

-- Digits hold neither a space nor an LF.
digits_without : (mark : ℕ) → mark < ZERO → (xs : List ℕ) → all_digits xs ≡ true → Without mark xs
unfolding all_digits
digits_without mark h [] e = without_none
digits_without mark h (x ∷ xs) e =
    let (digit, more) = both (leb ZERO x && leb x NINE) (all_digits xs) e in
    let low = leb-true ZERO x (both (leb ZERO x) (leb x NINE) digit).0 in
    without_more (ne_eqb x mark (λ z. omega arith)) (digits_without mark h xs more)

pub decimal_without : (value : ℕ) → (mark : ℕ) → mark < ZERO → Without mark (decimal value)
decimal_without value mark low = digits_without mark low (decimal value) (digits_read (decimal_is value).digits).0

-- The closing 0 alone.
pub zero_row : {A : Type 0} {Says : List ℕ → A → Type 0} {nought : A} → Entries Says nought (words (ZERO ∷ [])) (nought ∷ [])
unfolding words filled pieces onto decimal digits_of
zero_row = closing (decimal_spells 0 (omega arith))

-- A line in two parts, and a space or none in front.
pub pieces_spaced : (first : Bool) (x l : List ℕ) (ps : List (List ℕ)) → pieces LF x ≡ l ∷ ps → pieces LF (spaced first x) ≡ spaced first l ∷ ps
unfolding spaced pieces onto
pieces_spaced true x l ps e = e
pieces_spaced false x l ps e = rw e

-- What a variable in its line adds to the entries.
pub variable_taken : (v : ℕ) (body vs : List ℕ) → (v ≡ 0 → ⊥) → v < 100000 → VariableWords (words body) vs
    → VariableWords (words (decimal v ++ (SPACE ∷ body))) (v ∷ vs)
variable_taken v body vs some small r =
    subst (λ (ws : List (List ℕ)). VariableWords ws (v ∷ vs)) (sym (words_more body (decimal_without v SPACE (omega arith)) (decimal_is v).some))
    (entry (variable_word (decimal_spells v small) some) r)

-- A letter in front of a line.
pub letter_words : (letter : ℕ) (body : List ℕ) → eqb letter SPACE ≡ false → words (letter ∷ spaced false body) ≡ (letter ∷ []) ∷ words body
unfolding spaced
letter_words letter body plain = words_more {w = letter ∷ []} body (without_more plain without_none) (omega arith)

-- The blocks of a prefix, before a text that goes on.
module _ (n m : ℕ) (rest : List ℕ) where
  pub record BlockLines (P : List ℕ) : Type 0 where
    pub lines : List (List ℕ)
    pub cut : pieces LF (prefix_text true P ++ rest) ≡ lines ++ pieces LF rest
    pub follow : Lines (Body n m 0) lines (Body n m 0) P []

  pub record BlockRest (es : List ℕ) : Type 0 where
    body : List ℕ
    entries : List ℕ
    after : List ℕ
    lines : List (List ℕ)
    is : es ≡ entries ++ after
    cut : pieces LF (prefix_text false es ++ rest) ≡ spaced false body ∷ (lines ++ pieces LF rest)
    read : VariableWords (words body) entries
    follow : Lines (Body n m 0) lines (Body n m 0) after []

  abbrev pub BlocksAre : Bool → List ℕ → Type 0
  BlocksAre true P = BlockLines P
  BlocksAre false es = BlockRest es

  -- a letter in front of the rest of its line
  marked : (letter mark : ℕ) (more : List ℕ) → eqb letter LF ≡ false → (r : BlockRest more)
      → QuantifierLine (letter ∷ spaced false r.body) (mark ∷ r.entries) → prefix_text true (mark ∷ more) ≡ letter ∷ prefix_text false more
      → BlockLines (mark ∷ more)
  unfolding pieces onto
  marked letter mark more plain r line text =
      record {
        lines = (letter ∷ spaced false r.body) ∷ r.lines;
        cut = ap (λ (t : List ℕ). pieces LF (t ++ rest)) text ∙ rw (plain, r.cut);
        follow =
            subst (λ (P : List ℕ). Lines (Body n m 0) ((letter ∷ spaced false r.body) ∷ r.lines) (Body n m 0) (mark ∷ P) []) (sym r.is)
            (one_more (a_block refl line) r.follow);
      }

  pub blocks : {first : Bool} {P : List ℕ} → Blocks first P → BlocksAre first P
  unfolding prefix_text mark_word spaced ended decimal digits_of pieces onto
  blocks no_block = record { lines = []; cut = refl; follow = no_line }
  blocks (block {mark} {more} which b) =
      let r = blocks b in
      ⊎_elim
      (λ e.
      let l : QuantifierLine (LETTER-E ∷ spaced false r.body) (1 ∷ r.entries) = e_line (letter_words LETTER-E r.body refl) r.read in
      subst (λ (k : ℕ). BlockLines (k ∷ more)) (sym e) (marked LETTER-E 1 more refl r l refl))
      (λ e.
      let l : QuantifierLine (LETTER-A ∷ spaced false r.body) (2 ∷ r.entries) = a_line (letter_words LETTER-A r.body refl) r.read in
      subst (λ (k : ℕ). BlockLines (k ∷ more)) (sym e) (marked LETTER-A 2 more refl r l refl))
      which
  blocks (block_end {more} b) =
      let r = blocks b in
      record { body = ZERO ∷ []; entries = 0 ∷ []; after = more; lines = r.lines; is = refl; cut = rw r.cut; read = zero_row; follow = r.follow }
  blocks (variable {entry = v} {more = more} positive small b) =
      let r = blocks b in
      let body = decimal v ++ (SPACE ∷ r.body) in
      record {
        body = body;
        entries = v ∷ r.entries;
        after = r.after;
        lines = r.lines;
        is = ap (λ (xs : List ℕ). v ∷ xs) r.is;
        cut =
            ap (λ (t : List ℕ). pieces LF (t ++ rest)) (variable_text v more positive)
            ∙ ap (λ (t : List ℕ). pieces LF (SPACE ∷ t)) (append_assoc (decimal v) (prefix_text false more) rest)
            ∙ pieces_spaced false (decimal v ++ (prefix_text false more ++ rest)) body (r.lines ++ pieces LF rest)
            (pieces_front LF (prefix_text false more ++ rest) (SPACE ∷ r.body) (r.lines ++ pieces LF rest) (decimal_without v LF (omega arith))
            r.cut);
        read = variable_taken v r.body r.entries positive small r.read;
        follow = r.follow;
      }

-- A literal in its line: its word, and what it adds to the entries.
literal_says : (z : ℤ) → nat_abs z < 100000 → (nat_abs z ≡ 0 → ⊥) → LiteralWord (literal_word z) z
unfolding literal_word
literal_says (pos v) small some = unsigned_word (decimal_spells v small) some
literal_says (negsuc v) small some = negated_word (decimal_spells (suc v) small) some

literal_without : (z : ℤ) → (mark : ℕ) → mark < MINUS → Without mark (literal_word z)
unfolding literal_word
literal_without (pos v) mark low = decimal_without v mark (omega arith)
literal_without (negsuc v) mark low = without_more (ne_eqb MINUS mark (λ e. omega arith)) (decimal_without (suc v) mark (omega arith))

literal_some : (z : ℤ) → 1 ≤ length (literal_word z)
unfolding literal_word
literal_some (pos v) = (decimal_is v).some
literal_some (negsuc v) = omega arith

literal_taken : (z : ℤ) (body : List ℕ) (zs : List ℤ) → (nat_abs z ≡ 0 → ⊥) → nat_abs z < 100000 → LiteralWords (words body) zs
    → LiteralWords (words (literal_word z ++ (SPACE ∷ body))) (z ∷ zs)
literal_taken z body zs some small r =
    subst (λ (ws : List (List ℕ)). LiteralWords ws (z ∷ zs)) (sym (words_more body (literal_without z SPACE (omega arith)) (literal_some z)))
    (entry (literal_says z small some) r)

-- The clauses of a table, of which k have stood before.
module _ (n m : ℕ) where
  pub record ClauseLines (k : ℕ) (C : List ℤ) : Type 0 where
    pub lines : List (List ℕ)
    pub cut : pieces LF (clause_text true C) ≡ lines ++ ([] ∷ [])
    pub follow : Lines (Body n m k) lines (Body n m m) [] C

  pub record ClauseRest (first : Bool) (k : ℕ) (zs : List ℤ) : Type 0 where
    body : List ℕ
    entries : List ℤ
    after : List ℤ
    lines : List (List ℕ)
    is : zs ≡ entries ++ after
    cut : pieces LF (clause_text first zs) ≡ spaced first body ∷ (lines ++ ([] ∷ []))
    read : LiteralWords (words body) entries
    less : k < m
    follow : Lines (Body n m (suc k)) lines (Body n m m) [] after

  abbrev pub ClausesAre : Bool → ℕ → List ℤ → Type 0
  ClausesAre true k C = ClauseLines k C
  ClausesAre false k zs = ClauseRest false k zs

  -- a line that begins here is whole
  clause_whole : (first : Bool) (k : ℕ) (zs : List ℤ) → ClauseRest first k zs → ClausesAre first k zs
  unfolding spaced
  clause_whole true k zs r =
      record {
        lines = r.body ∷ r.lines;
        cut = r.cut;
        follow =
            subst (λ (C : List ℤ). Lines (Body n m k) (r.body ∷ r.lines) (Body n m m) [] C) (sym r.is)
            (one_more (a_clause r.less (literals_line r.read)) r.follow);
      }
  clause_whole false k zs r = r

  pub clauses : {first : Bool} {C : List ℤ} (k : ℕ) → Clauses first C → k + clause_count C ≡ m → ClausesAre first k C
  unfolding clause_text clause_count literal_word spaced ended decimal digits_of pieces onto
  clauses k no_clause e =
      let all : k ≡ m = omega arith in record { lines = []; cut = refl; follow = subst (λ (j : ℕ). Lines (Body n m k) [] (Body n m j) [] []) all no_line }
  clauses k (clause_end {first} {more} b) e =
      let r = clauses (suc k) b (omega arith) in
      clause_whole first k (pos 0 ∷ more)
      (record {
        body = ZERO ∷ [];
        entries = pos 0 ∷ [];
        after = more;
        lines = r.lines;
        is = refl;
        cut = pieces_spaced first (ZERO ∷ LF ∷ clause_text true more) (ZERO ∷ []) (r.lines ++ ([] ∷ [])) (rw r.cut);
        read = zero_row;
        less = omega arith;
        follow = r.follow;
      })
  clauses k (literal {first} {entry = z} {more = more} positive small b) e =
      let r = clauses k b (sym (count_same z more positive) ∙ e) in
      let body = literal_word z ++ (SPACE ∷ r.body) in
      clause_whole first k (z ∷ more)
      (record {
        body = body;
        entries = z ∷ r.entries;
        after = r.after;
        lines = r.lines;
        is = ap (λ (xs : List ℤ). z ∷ xs) r.is;
        cut =
            ap (pieces LF) (literal_text first z more positive)
            ∙ pieces_spaced first (literal_word z ++ clause_text false more) body (r.lines ++ ([] ∷ []))
            (pieces_front LF (clause_text false more) (SPACE ∷ r.body) (r.lines ++ ([] ∷ [])) (literal_without z LF (omega arith)) r.cut);
        read = literal_taken z r.body r.entries positive small r.read;
        less = r.less;
        follow = r.follow;
      })
    where
      count_same : (z : ℤ) (more : List ℤ) → (nat_abs z ≡ 0 → ⊥) → k + clause_count (z ∷ more) ≡ k + clause_count more
      count_same z more positive = rw (ne_eqb (nat_abs z) 0 positive)

-- The problem line.
pub problem_bytes : ℕ → ℕ → List ℕ
problem_bytes n m = LETTER-P ∷ SPACE ∷ LETTER-C ∷ LETTER-N ∷ LETTER-F ∷ SPACE ∷ (decimal n ++ (SPACE ∷ decimal m))

problem_text : (n m : ℕ) (rest : List ℕ)
    → problem_line n m ++ rest ≡ LETTER-P ∷ SPACE ∷ LETTER-C ∷ LETTER-N ∷ LETTER-F ∷ SPACE ∷ (decimal n ++ (SPACE ∷ (decimal m ++ (LF ∷ rest))))
unfolding problem_line
problem_text n m rest = simp append_assoc

module _ (n m : ℕ) where
  pub problem_cut : (rest : List ℕ) → pieces LF (problem_line n m ++ rest) ≡ problem_bytes n m ∷ pieces LF rest
  unfolding problem_bytes pieces onto
  problem_cut rest =
      ap (pieces LF) (problem_text n m rest)
      ∙ rw (pieces_front LF (SPACE ∷ (decimal m ++ (LF ∷ rest))) (SPACE ∷ decimal m) (pieces LF rest) (decimal_without n LF (omega arith))
      (rw (pieces_mark LF rest refl (decimal_without m LF (omega arith)))))

  pub problem_words : words (problem_bytes n m) ≡ (LETTER-P ∷ []) ∷ (LETTER-C ∷ LETTER-N ∷ LETTER-F ∷ []) ∷ decimal n ∷ decimal m ∷ []
  unfolding problem_bytes
  problem_words =
      words_more {w = LETTER-P ∷ []} _ (without_more refl without_none) (omega arith)
      ∙ ap (λ (ws : List (List ℕ)). (LETTER-P ∷ []) ∷ ws)
      (words_more {w = LETTER-C ∷ LETTER-N ∷ LETTER-F ∷ []} _ (without_more refl (without_more refl (without_more refl without_none))) (omega arith))
      ∙ ap (λ (ws : List (List ℕ)). (LETTER-P ∷ []) ∷ (LETTER-C ∷ LETTER-N ∷ LETTER-F ∷ []) ∷ ws)
      (words_more (decimal m) (decimal_without n SPACE (omega arith)) (decimal_is n).some
      ∙ ap (λ (ws : List (List ℕ)). decimal n ∷ ws) (words_last (decimal_without m SPACE (omega arith)) (decimal_is m).some))

-- Lines that follow lines.
lines_join : {s t u : Stage} {ks ls : List (List ℕ)} {P Q : List ℕ} {C D : List ℤ} → Lines s ks t P C → Lines t ls u Q D
    → Lines s (ks ++ ls) u (P ++ Q) (C ++ D)
lines_join no_line b = b
lines_join {s = s} {u = u} {ls = ls} {Q = Q} {D = D} (one_more {line = l} {lines = ks} {p = p} {P = P} {c = c} {C = C} line more) b =
    subst₂ (λ (x : List ℕ) (y : List ℤ). Lines s (l ∷ (ks ++ ls)) u x y) (sym (append_assoc p P Q)) (sym (append_assoc c C D))
    (one_more line (lines_join more b))

-- The text that is written entry by entry, by stages.
staged : (n : ℕ) (prefix : List ℕ) (clauses' : List ℤ) → Holdable n prefix clauses' → TextByStages n prefix clauses' (text_by_entries n prefix clauses')
unfolding text_by_entries
staged n prefix clauses' h =
    let m = clause_count clauses' in
    let rest = clause_text true clauses' in
    let bs = blocks n m rest h.blocks in
    let cs = clauses n m 0 h.all_clauses (omega arith) in
    record {
      announced = m;
      lines = problem_bytes n m ∷ (bs.lines ++ cs.lines);
      cut =
          problem_cut n m (prefix_text true prefix ++ rest)
          ∙ ap (λ (ls : List (List ℕ)). problem_bytes n m ∷ ls)
          (bs.cut ∙ ap (λ (ls : List (List ℕ)). bs.lines ++ ls) cs.cut ∙ sym (append_assoc bs.lines cs.lines ([] ∷ [])));
      follow =
          one_more (the_problem (p_cnf (problem_words n m) (decimal_spells n h.number) (decimal_spells m h.count)))
          (subst (λ (P : List ℕ). Lines (Body n m 0) (bs.lines ++ cs.lines) (Body n m m) P clauses') (append-nil prefix)
          (lines_join bs.follow cs.follow));
    }

-- The written text is the text of its tables.
pub written : (n : ℕ) (prefix : List ℕ) (table : List ℤ) → Holdable n prefix table → TextOf n prefix table (text_of n prefix table)
written n prefix table h = subst (TextOf n prefix table) (text_is n prefix table h) (staged_text (staged n prefix table h))
