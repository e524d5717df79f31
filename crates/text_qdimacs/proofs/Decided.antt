-- A text is the text of tables, or the stages stop at a fault (decided), and so the plain causes and the faults of the stages are the same both ways
-- (fault_by_stages), and a text without a cause is the text of tables (nothing_wrong).
use Prim.Native.Nat.{ℕ, ◌<◌}
use mathlib.Core.Path.{◌≡◌, refl, sym, ap, ◌∙◌, subst, subst₂}
use mathlib.Core.List.{List, [], ◌∷◌, ◌++◌, append_assoc, List-discrete}
use mathlib.Core.Option.{Option, none, some}
use mathlib.Core.Logic.{inl, ◌↔◌, ◌≢◌}
use native.Mathlib.Decide.{ℕ_discrete}
use native.Mathlib.Omega.{arith}
use lib.IntN.{ℤ}
use Rattle.terms.specs.Refusals.{First, None}
use Rattle.terms.proofs.Verdicts.{first_of_same}
use Rattle.text_words.specs.InnerNumbers.{Number}
use Rattle.std.specs.Prelude.{Some, None as NoNumber}
use Rattle.text_words.specs.Words.{LF, LETTER-A, LETTER-C, LETTER-E, LETTER-F, LETTER-N, LETTER-P, pieces, words, VariableWords}
use Rattle.text_words.specs.InnerNumbers.{number_of, entries_of, variables, literals}
use Rattle.text_words.proofs.Lines.{front_later}
use Rattle.text_words.proofs.Spelled.{number_of_lem, spells, variables_read, read_variables, literals_read, read_literals}
use Rattle.text_lines.specs.declared.Stage.{Stage}
use Rattle.text_lines.specs.declared.Stage.TheVariants.{Opening, Body}
use Rattle.text_lines.specs.Format.{CommentLine, comment, ProblemLine, p_cnf, e_line, a_line, literals_line, TextOf, IsQuantifier, IsClause}
use Rattle.text_lines.specs.Format.{MayFollow, LineCause}
use Rattle.text_lines.specs.InnerGrammar.{Line, a_comment, the_problem, a_block, a_clause, Lines, no_line, TooMany, too_many, Fault, outside, unended}
use Rattle.text_lines.specs.InnerGrammar.{no_problem, many, few, TextByStages, FaultByStages}
use Rattle.text_lines.specs.InnerSteps.{Sound}
use Rattle.text_qdimacs.proofs.Staged.{staged_text}
use Rattle.text_qdimacs.proofs.Causes.{first_cause, no_cause}
use Rattle.text_qdimacs.proofs.Scans.{lines_more}

pub same_word : (a b : List ℕ) → Dec (a ≡ b)
same_word a b = List-discrete ℕ_discrete a b

-- Whether words say variables.
pub variables? : (ws : List (List ℕ)) → Dec ((entries : List ℕ) × VariableWords ws entries)
variables? ws = go (entries_of variables ws) refl
  where
    refute : entries_of variables ws ≡ none → (entries : List ℕ) × VariableWords ws entries → ⊥
    refute e (entries, r) = let q = variables_read r in let no : ◌≡◌ {A = ℕ} 0 1 = cc in omega arith

    go : (r : Option (List ℕ)) → entries_of variables ws ≡ r → Dec ((entries : List ℕ) × VariableWords ws entries)
    go none e = no (refute e)
    go (some entries) e = yes (entries, read_variables e)

-- Whether a line is of a kind.
comment? : (line : List ℕ) → Dec (CommentLine line)
comment? [] = no (λ c. empty c refl)
  where
    empty : {line : List ℕ} → CommentLine line → line ≡ [] → ⊥
    empty (comment is) e = let no : ◌≡◌ {A = ℕ} 0 1 = cc in omega arith
comment? (b ∷ bs) = go (ℕ_discrete b LETTER-C)
  where
    first : {line : List ℕ} → CommentLine line → line ≡ b ∷ bs → b ≡ LETTER-C
    first (comment is) e = cc

    go : Dec (b ≡ LETTER-C) → Dec (CommentLine (b ∷ bs))
    go (yes e) = yes (comment (ap (λ (x : ℕ). x ∷ bs) e))
    go (no e) = no (λ c. e (first c refl))

clause? : (line : List ℕ) → Dec (IsClause line)
clause? line = go (entries_of literals (words line)) refl
  where
    refute : entries_of literals (words line) ≡ none → IsClause line → ⊥
    refute e (entries, literals_line r) = let q = literals_read r in let no : ◌≡◌ {A = ℕ} 0 1 = cc in omega arith

    go : (r : Option (List ℤ)) → entries_of literals (words line) ≡ r → Dec (IsClause line)
    go none e = no (refute e)
    go (some entries) e = yes (entries, literals_line (read_literals e))

module _ (line w : List ℕ) (more : List (List ℕ)) (e : words line ≡ w ∷ more) where
  rowless : ((entries : List ℕ) × VariableWords more entries → ⊥) → IsQuantifier line → ⊥
  rowless r (_, e_line {entries = es} {more = ws} i j) = let q : ws ≡ more = cc in r (es, subst (λ (x : List (List ℕ)). VariableWords x es) q j)
  rowless r (_, a_line {entries = es} {more = ws} i j) = let q : ws ≡ more = cc in r (es, subst (λ (x : List (List ℕ)). VariableWords x es) q j)

  letterless : w ≢ LETTER-E ∷ [] → w ≢ LETTER-A ∷ [] → IsQuantifier line → ⊥
  letterless x y (_, e_line i j) = x cc
  letterless x y (_, a_line i j) = y cc

  marked? : (entries : List ℕ) → VariableWords more entries → Dec (w ≡ LETTER-E ∷ []) → Dec (w ≡ LETTER-A ∷ []) → Dec (IsQuantifier line)
  marked? entries r (yes q) d = yes (1 ∷ entries, e_line (e ∙ ap (λ (x : List ℕ). x ∷ more) q) r)
  marked? entries r (no q) (yes q') = yes (2 ∷ entries, a_line (e ∙ ap (λ (x : List ℕ). x ∷ more) q') r)
  marked? entries r (no q) (no q') = no (letterless q q')

  row? : Dec ((entries : List ℕ) × VariableWords more entries) → Dec (IsQuantifier line)
  row? (yes (entries, r)) = marked? entries r (same_word w (LETTER-E ∷ [])) (same_word w (LETTER-A ∷ []))
  row? (no r) = no (rowless r)

quantifier? : (line : List ℕ) → Dec (IsQuantifier line)
quantifier? line = go (words line) refl
  where
    wordless : words line ≡ [] → IsQuantifier line → ⊥
    wordless e (_, e_line i j) = let no : ◌≡◌ {A = ℕ} 0 1 = cc in omega arith
    wordless e (_, a_line i j) = let no : ◌≡◌ {A = ℕ} 0 1 = cc in omega arith

    go : (ws : List (List ℕ)) → words line ≡ ws → Dec (IsQuantifier line)
    go [] e = no (wordless e)
    go (w ∷ more) e = row? line w more e (variables? more)

abbrev IsProblem : List ℕ → Type 0
IsProblem line = (n : ℕ) × (m : ℕ) × ProblemLine line n m

abbrev p_word : List ℕ
p_word = LETTER-P ∷ []

abbrev cnf_word : List ℕ
cnf_word = LETTER-C ∷ LETTER-N ∷ LETTER-F ∷ []

problem? : (line : List ℕ) → Dec (IsProblem line)
problem? line = go (words line) refl
  where
    -- the words of a problem line, and so none if its words are others
    clash : (ws : List (List ℕ)) → words line ≡ ws
        → ((number count : List ℕ) → ws ≡ p_word ∷ cnf_word ∷ number ∷ count ∷ [] → (n m : ℕ) → number_of number ≡ Some n → number_of count ≡ Some m → ⊥)
        → IsProblem line → ⊥
    clash ws e f (n, m, p_cnf {number = a} {count = b} is x y) = f a b (sym e ∙ is) n m (number_of_lem x) (number_of_lem y)

    numbers : (a b : List ℕ) → words line ≡ p_word ∷ cnf_word ∷ a ∷ b ∷ [] → (x y : Number) → number_of a ≡ x → number_of b ≡ y → Dec (IsProblem line)
    numbers a b e (Some n) (Some m) p q = yes (n, m, p_cnf e (spells p) (spells q))
    numbers a b e NoNumber y p q =
        no (clash _ e (λ c d w n m u v. let s : a ≡ c = cc in let t = ap number_of s in let no : ◌≡◌ {A = ℕ} 0 1 = cc in omega arith))
    numbers a b e (Some n) NoNumber p q =
        no (clash _ e (λ c d w n m u v. let s : b ≡ d = cc in let t = ap number_of s in let no : ◌≡◌ {A = ℕ} 0 1 = cc in omega arith))

    four : (p cnf a b : List ℕ) → words line ≡ p ∷ cnf ∷ a ∷ b ∷ [] → Dec (p ≡ p_word) → Dec (cnf ≡ cnf_word) → Dec (IsProblem line)
    four p cnf a b e (yes x) (yes y) =
        numbers a b (e ∙ ap (λ (w : List ℕ). w ∷ cnf ∷ a ∷ b ∷ []) x ∙ ap (λ (w : List ℕ). p_word ∷ w ∷ a ∷ b ∷ []) y) (number_of a) (number_of b) refl refl
    four p cnf a b e (no x) d = no (clash _ e (λ c d w n m u v. x cc))
    four p cnf a b e (yes x) (no y) = no (clash _ e (λ c d w n m u v. y cc))

    go : (ws : List (List ℕ)) → words line ≡ ws → Dec (IsProblem line)
    go [] e = no (clash _ e (λ c d w n m u v. let no : ◌≡◌ {A = ℕ} 0 1 = cc in omega arith))
    go (a ∷ []) e = no (clash _ e (λ c d w n m u v. let no : ◌≡◌ {A = ℕ} 0 1 = cc in omega arith))
    go (a ∷ b ∷ []) e = no (clash _ e (λ c d w n m u v. let no : ◌≡◌ {A = ℕ} 0 1 = cc in omega arith))
    go (a ∷ b ∷ g ∷ []) e = no (clash _ e (λ c d w n m u v. let no : ◌≡◌ {A = ℕ} 0 1 = cc in omega arith))
    go (a ∷ b ∷ g ∷ h ∷ []) e = four a b g h e (same_word a p_word) (same_word b cnf_word)
    go (a ∷ b ∷ g ∷ h ∷ i ∷ more) e = no (clash _ e (λ c d w n m u v. let no : ◌≡◌ {A = ℕ} 0 1 = cc in omega arith))

-- What a line leads to at a stage, or the fault that it is.
pub data Next (stage : Stage) (line : List ℕ) : Type 0 where
  leads : {t : Stage} {p : List ℕ} {c : List ℤ} → Line stage line t p c → Sound t → Next stage line
  stops : (k : ℕ) → ((next : List ℕ) (more : List (List ℕ)) → Fault k stage (line ∷ next ∷ more)) → Next stage line

pub next : (stage : Stage) (line : List ℕ) → Sound stage → Next stage line
next Opening line sound = go (comment? line) (problem? line)
  where
    nothing : {s t : Stage} {p : List ℕ} {c : List ℤ} → (CommentLine line → ⊥) → (IsProblem line → ⊥) → Line s line t p c → s ≡ Opening → ⊥
    nothing a b (a_comment c) e = a c
    nothing a b (the_problem {n = n} {m = m} p) e = b (n, m, p)
    nothing a b (a_block z q) e = let no : ◌≡◌ {A = ℕ} 0 1 = cc in omega arith
    nothing a b (a_clause h q) e = let no : ◌≡◌ {A = ℕ} 0 1 = cc in omega arith

    never : {s : Stage} → TooMany s line → s ≡ Opening → ⊥
    never (too_many e c) q = let no : ◌≡◌ {A = ℕ} 0 1 = cc in omega arith

    go : Dec (CommentLine line) → Dec (IsProblem line) → Next Opening line
    go (yes c) d = leads (a_comment c) tt
    go (no a) (yes (n, m, p)) = leads (the_problem p) (omega arith)
    go (no a) (no b) = stops 16 (λ x more. outside (λ t p c l. nothing a b l refl) (λ w. never w refl))
next (Body n m k) line sound = go (clause? line) (quantifier? line) (ℕ_discrete k m) (ℕ_discrete k 0)
  where
    nothing : {s t : Stage} {p : List ℕ} {c : List ℤ} → (k ≡ 0 → IsQuantifier line → ⊥) → (IsClause line → ⊥) → Line s line t p c → s ≡ Body n m k → ⊥
    nothing a b (a_comment c) e = let no : ◌≡◌ {A = ℕ} 0 1 = cc in omega arith
    nothing a b (the_problem p) e = let no : ◌≡◌ {A = ℕ} 0 1 = cc in omega arith
    nothing a b (a_block {entries = entries} {k = j} z q) e = let y : j ≡ k = cc in let z' : k ≡ 0 = omega arith in a z' (entries, q)
    nothing a b (a_clause {entries = entries} h q) e = b (entries, q)

    never : {s : Stage} → (IsClause line → ⊥) → TooMany s line → ⊥
    never b (too_many {entries = entries} e c) = b (entries, c)

    go : Dec (IsClause line) → Dec (IsQuantifier line) → Dec (k ≡ m) → Dec (k ≡ 0) → Next (Body n m k) line
    go (yes (es, c)) d (yes e) z = stops 17 (λ x more. many (too_many e c))
    go (yes (es, c)) d (no e) z = let less : k < m = omega arith in leads (a_clause less c) (omega arith)
    go (no b) (yes (es, q)) e (yes z) = leads (a_block z q) sound
    go (no b) (yes (es, q)) e (no z) = stops 16 (λ x more. outside (λ t p c l. nothing (λ z' _. z z') b l refl) (never b))
    go (no b) (no q) e z = stops 16 (λ x more. outside (λ t p c l. nothing (λ _ i. q i) b l refl) (never b))

-- What all lines of a text lead to.
pub data Decided (text : List ℕ) : Type 0 where
  accepted : {n : ℕ} {P : List ℕ} {C : List ℤ} → TextByStages n P C text → Decided text
  refused : {k p : ℕ} → FaultByStages text k p → Decided text

module _ (text : List ℕ) where
  run : (left lines : List (List ℕ)) (stage : Stage) (P : List ℕ) (C : List ℤ) → Lines Opening lines stage P C → Sound stage
      → pieces LF text ≡ lines ++ left → left ≢ [] → Decided text
  run [] lines stage P C follow sound cut left? = absurd (left? refl)
  run ((b ∷ bs) ∷ []) lines stage P C follow sound cut left? =
      refused
      (record { lines = lines; left = (b ∷ bs) ∷ []; stage = stage; prefix = P; clauses = C; cut = cut; follow = follow; fault = unended; at = refl })
  run ([] ∷ []) lines Opening P C follow sound cut left? =
      refused (record { lines = lines; left = [] ∷ []; stage = Opening; prefix = P; clauses = C; cut = cut; follow = follow; fault = no_problem; at = refl })
  run ([] ∷ []) lines (Body n m k) P C follow sound cut left? = go (ℕ_discrete k m)
    where
      go : Dec (k ≡ m) → Decided text
      go (yes e) = accepted (record { announced = m; lines = lines; cut = cut; follow = subst (λ (j : ℕ). Lines Opening lines (Body n m j) P C) e follow })
      go (no e) =
          let less : k < m = omega arith in
          refused
          (record { lines = lines; left = [] ∷ []; stage = Body n m k; prefix = P; clauses = C; cut = cut; follow = follow; fault = few less; at = refl })
  run (line ∷ x ∷ more) lines stage P C follow sound cut left? =
      go (λ l s p c f sd e. run (x ∷ more) l s p c f sd e (λ z. let no : ◌≡◌ {A = ℕ} 0 1 = cc in omega arith)) (next stage line sound)
    where
      go : ((lines : List (List ℕ)) (stage : Stage) (P : List ℕ) (C : List ℤ) → Lines Opening lines stage P C → Sound stage
          → pieces LF text ≡ lines ++ (x ∷ more) → Decided text) → Next stage line → Decided text
      go on (leads {t} {p} {c} step sd) =
          on (lines ++ (line ∷ [])) t (P ++ p) (C ++ c) (lines_more follow step) sd (cut ∙ sym (append_assoc lines (line ∷ []) (x ∷ more)))
      go on (stops k f) =
          refused
          (record { lines = lines; left = line ∷ x ∷ more; stage = stage; prefix = P; clauses = C; cut = cut; follow = follow; fault = f x more; at = refl })

  pub decided : Decided text
  decided =
      run (pieces LF text) [] Opening [] [] no_line tt refl (λ e. let f = front_later LF text in let no : ◌≡◌ {A = ℕ} 0 1 = cc in omega arith)

  -- A text is refused exactly as the stages stop, and is the text of tables where nothing is wrong with it.
  pub fault_by_stages : (k p : ℕ) → First (LineCause MayFollow text) k p ↔ FaultByStages text k p
  fault_by_stages k p = ((λ f. go f decided), first_cause)
    where
      go : First (LineCause MayFollow text) k p → Decided text → FaultByStages text k p
      go f (accepted t) = absurd (no_cause (staged_text t) k p f.holds)
      go f (refused {k = k'} {p = p'} g) =
          let (x, y) = first_of_same (LineCause MayFollow text ∷ []) k' p' k p (inl (first_cause g)) (inl f) in
          subst₂ (λ (a b : ℕ). FaultByStages text a b) x y g

  pub nothing_wrong : None (LineCause MayFollow text) → (n : ℕ) × (P : List ℕ) × (C : List ℤ) × TextOf n P C text
  nothing_wrong clean = go decided
    where
      go : Decided text → (n : ℕ) × (P : List ℕ) × (C : List ℤ) × TextOf n P C text
      go (accepted {n} {P} {C} t) = (n, P, C, staged_text t)
      go (refused {k} {p} g) = absurd (clean k p (first_cause g).holds)
