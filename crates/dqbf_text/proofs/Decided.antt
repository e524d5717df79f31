-- A text is the text of tables, or the stages stop at a fault (decided), and so the plain causes and the faults of the stages are the same both ways
-- (fault_by_stages), and a text without a cause is the text of tables (nothing_wrong). A line that is no list line is decided as in QDIMACS.
use Prim.Native.Nat.{ℕ, ◌<◌}
use mathlib.Core.Path.{◌≡◌, refl, sym, ap, ◌∙◌, subst, subst₂}
use mathlib.Core.Bool.{Bool, true, false, true≢false}
use mathlib.Core.List.{List, [], ◌∷◌, ◌++◌, append_assoc}
use mathlib.Core.Logic.{inl, ◌↔◌, ◌≢◌}
use native.Mathlib.Decide.{ℕ_discrete}
use native.Mathlib.Omega.{arith}
use lib.IntN.{ℤ}
use Rattle.terms.specs.Refusals.{First, None}
use Rattle.terms.proofs.Verdicts.{first_of_same}
use Rattle.text_words.specs.Words.{LF, pieces, words, VariableWords, closing, entry}
use Rattle.text_words.specs.InnerPlaces.{front}
use Rattle.text_words.proofs.Lines.{front_later}
use Rattle.text_words.proofs.Spelled.{variables_read, read_variables}
use Rattle.text_lines.specs.declared.Stage.{Stage}
use Rattle.text_lines.specs.declared.Stage.TheVariants.{Opening, Body}
use Rattle.text_lines.specs.Format.{LineCause}
use Rattle.text_lines.specs.InnerSteps.{Sound}
use Rattle.text_qdimacs.proofs.Decided.{same_word, variables?, Next, leads, stops, next}
use Rattle.text_qdimacs.proofs.Unique.{many_stuck}
use Rattle.dqbf_text.specs.Format.{LETTER-D, ListLine, ListedText, IsList, ListedFollow}
use Rattle.dqbf_text.specs.InnerGrammar.{ListedLine, a_line, a_list, ListedLines, no_line, ListedByStages, ListedFault, outside, unended, no_problem}
use Rattle.dqbf_text.specs.InnerGrammar.{few, ListedFaultByStages}
use Rattle.dqbf_text.proofs.Letters.{list_line, list_words}
use Rattle.dqbf_text.proofs.Staged.{staged_text}
use Rattle.dqbf_text.proofs.Causes.{first_cause, no_cause}
use Rattle.dqbf_text.proofs.Faults.{fault_plain, late_none}
use Rattle.dqbf_text.proofs.Scans.{listed_sound, lines_more}

-- Whether a line is a list line: `d`, and two numbers at least, of which the last is 0.
list? : (line : List ℕ) → Dec (IsList line)
list? line = go (words line) refl
  where
    wordless : words line ≡ [] → IsList line → ⊥
    wordless e (_, x) = let q = (list_words x).begins in let no : ◌≡◌ {A = ℕ} 0 1 = cc in omega arith

    letterless : (w : List ℕ) (more : List (List ℕ)) → words line ≡ w ∷ more → w ≢ LETTER-D ∷ [] → IsList line → ⊥
    letterless w more e other (_, x) = let q = (list_words x).begins in other cc

    rowless : (w : List ℕ) (more : List (List ℕ)) → words line ≡ w ∷ more → ((entries : List ℕ) × VariableWords more entries → ⊥) → IsList line → ⊥
    rowless w more e none (l, x) =
        let v = list_words x in
        let q = v.begins in
        let same : v.more ≡ more = cc in
        none (l, subst (λ (ws : List (List ℕ)). VariableWords ws l) same (read_variables v.read))

    -- the entries that are said are those of the list
    short : (w : List ℕ) (more : List (List ℕ)) (a : ℕ) → words line ≡ w ∷ more → VariableWords more (a ∷ []) → IsList line → ⊥
    short w more a e r (l, x) =
        let v = list_words x in
        let q = v.begins in
        let same : v.more ≡ more = cc in
        let one = variables_read r in
        let two = variables_read (subst (λ (ws : List (List ℕ)). VariableWords ws l) same (read_variables v.read)) in
        let are = v.are in
        let no : ◌≡◌ {A = ℕ} 0 1 = cc in
        omega arith

    none_said : {ws : List (List ℕ)} {es : List ℕ} → VariableWords ws es → es ≡ [] → ⊥
    none_said (closing s) e = let no : ◌≡◌ {A = ℕ} 0 1 = cc in omega arith
    none_said (entry s r) e = let no : ◌≡◌ {A = ℕ} 0 1 = cc in omega arith

    row : (w : List ℕ) (more : List (List ℕ)) → words line ≡ w ∷ more → w ≡ LETTER-D ∷ [] → (entries : List ℕ) → VariableWords more entries → Dec (IsList line)
    row w more e d [] r = absurd (none_said r refl)
    row w more e d (y ∷ []) r = no (short w more y e r)
    row w more e d (y ∷ next ∷ others) r =
        yes (y ∷ next ∷ others, list_line (e ∙ ap (λ (x : List ℕ). x ∷ more) d) (variables_read r))

    letter : (w : List ℕ) (more : List (List ℕ)) → words line ≡ w ∷ more → Dec (w ≡ LETTER-D ∷ []) → Dec ((entries : List ℕ) × VariableWords more entries)
        → Dec (IsList line)
    letter w more e (yes d) (yes (entries, r)) = row w more e d entries r
    letter w more e (yes d) (no none) = no (rowless w more e none)
    letter w more e (no other) r = no (letterless w more e other)

    go : (ws : List (List ℕ)) → words line ≡ ws → Dec (IsList line)
    go [] e = no (wordless e)
    go (w ∷ more) e = letter w more e (same_word w (LETTER-D ∷ [])) (variables? more)

-- What a line leads to at a stage, or the fault that it is.
data ListedNext (b : Bool) (stage : Stage) (line : List ℕ) : Type 0 where
  goes_on : {b' : Bool} {t : Stage} {p l : List ℕ} {c : List ℤ} → ListedLine b stage line b' t p l c → ListedNext b stage line
  ends : (k : ℕ) → ((next : List ℕ) (more : List (List ℕ)) → ListedFault k b stage (line ∷ next ∷ more)) → ListedNext b stage line

-- no list line may stand there, or none does
abbrev Unlisted : Stage → List ℕ → Type 0
Unlisted stage line = (n m : ℕ) (l : List ℕ) → stage ≡ Body n m 0 → ListLine line l → ⊥

plain_next : (b : Bool) (stage : Stage) (line : List ℕ) → Unlisted stage line → Next stage line → ListedNext b stage line
unfolding front
plain_next b stage line none (stops k f) = ends k (λ x more. fault_plain b none (f x more))
plain_next false stage line none (leads step sound) = goes_on (a_line (λ e. absurd (true≢false (sym e))) step)
plain_next true stage line none (leads {t} {p} {c} step sound) = go p refl
  where
    go : (q : List ℕ) → p ≡ q → ListedNext true stage line
    go [] e = goes_on (a_line (λ _. e) step)
    go (x ∷ xs) e =
        ends 16 (λ y more. outside (λ then after p' l c'. late_none none refl step (λ z. let no : ◌≡◌ {A = ℕ} 0 1 = cc in omega arith)) (λ w. many_stuck w step))

listed_next : (b : Bool) (stage : Stage) (line : List ℕ) → Sound stage → ListedNext b stage line
listed_next b Opening line sound =
    plain_next b Opening line (λ n m l e x. let no : ◌≡◌ {A = ℕ} 0 1 = cc in omega arith) (next Opening line sound)
listed_next b (Body n m k) line sound = go (ℕ_discrete k 0) (list? line)
  where
    go : Dec (k ≡ 0) → Dec (IsList line) → ListedNext b (Body n m k) line
    go (yes z) (yes (l, x)) = goes_on (a_list z x)
    go (yes z) (no none) = plain_next b (Body n m k) line (λ n' m' l e x. none (l, x)) (next (Body n m k) line sound)
    go (no some) d = plain_next b (Body n m k) line (λ n' m' l e x. let q : k ≡ 0 = cc in some q) (next (Body n m k) line sound)

-- What all lines of a text lead to.
pub data Decided (text : List ℕ) : Type 0 where
  accepted : {n : ℕ} {P L : List ℕ} {C : List ℤ} → ListedByStages n P L C text → Decided text
  refused : {k p : ℕ} → ListedFaultByStages text k p → Decided text

module _ (text : List ℕ) where
  fault_behind : {b : Bool} {stage : Stage} {P L : List ℕ} {C : List ℤ} {k : ℕ} (left lines : List (List ℕ)) → ListedLines false Opening lines b stage P L C
      → pieces LF text ≡ lines ++ left → ListedFault k b stage left → Decided text
  fault_behind {b} {stage} {P} {L} {C} left lines follow cut fault =
      refused
      (record {
        lines = lines;
        left = left;
        listed = b;
        stage = stage;
        prefix = P;
        lists = L;
        clauses = C;
        cut = cut;
        follow = follow;
        fault = fault;
        at = refl;
      })

  run : (left lines : List (List ℕ)) (b : Bool) (stage : Stage) (P L : List ℕ) (C : List ℤ) → ListedLines false Opening lines b stage P L C → Sound stage
      → pieces LF text ≡ lines ++ left → left ≢ [] → Decided text
  run [] lines b stage P L C follow sound cut left? = absurd (left? refl)
  run ((x ∷ xs) ∷ []) lines b stage P L C follow sound cut left? = fault_behind ((x ∷ xs) ∷ []) lines follow cut unended
  run ([] ∷ []) lines b Opening P L C follow sound cut left? = fault_behind ([] ∷ []) lines follow cut no_problem
  run ([] ∷ []) lines b (Body n m k) P L C follow sound cut left? = go (ℕ_discrete k m)
    where
      go : Dec (k ≡ m) → Decided text
      go (yes e) =
          accepted
          (record {
            announced = m;
            listed = b;
            lines = lines;
            cut = cut;
            follow = subst (λ (j : ℕ). ListedLines false Opening lines b (Body n m j) P L C) e follow;
          })
      go (no e) = let less : k < m = omega arith in fault_behind ([] ∷ []) lines follow cut (few less)
  run (line ∷ x ∷ more) lines b stage P L C follow sound cut left? =
      go (λ ls f s p l c follow' sd e. run (x ∷ more) ls f s p l c follow' sd e (λ z. let no : ◌≡◌ {A = ℕ} 0 1 = cc in omega arith))
      (listed_next b stage line sound)
    where
      go : ((lines : List (List ℕ)) (b : Bool) (stage : Stage) (P L : List ℕ) (C : List ℤ) → ListedLines false Opening lines b stage P L C → Sound stage
          → pieces LF text ≡ lines ++ (x ∷ more) → Decided text) → ListedNext b stage line → Decided text
      go on (goes_on {b'} {t} {p} {l} {c} step) =
          on (lines ++ (line ∷ [])) b' t (P ++ p) (L ++ l) (C ++ c) (lines_more follow step) (listed_sound step sound)
          (cut ∙ sym (append_assoc lines (line ∷ []) (x ∷ more)))
      go on (ends k f) = fault_behind (line ∷ x ∷ more) lines follow cut (f x more)

  pub decided : Decided text
  decided =
      run (pieces LF text) [] false Opening [] [] [] no_line tt refl (λ e. let f = front_later LF text in let no : ◌≡◌ {A = ℕ} 0 1 = cc in omega arith)

  -- A text is refused exactly as the stages stop, and is the text of tables where nothing is wrong with it.
  pub fault_by_stages : (k p : ℕ) → First (LineCause ListedFollow text) k p ↔ ListedFaultByStages text k p
  fault_by_stages k p = ((λ f. go f decided), first_cause)
    where
      go : First (LineCause ListedFollow text) k p → Decided text → ListedFaultByStages text k p
      go f (accepted t) = absurd (no_cause (staged_text t) k p f.holds)
      go f (refused {k = k'} {p = p'} g) =
          let (x, y) = first_of_same (LineCause ListedFollow text ∷ []) k' p' k p (inl (first_cause g)) (inl f) in
          subst₂ (λ (a b : ℕ). ListedFaultByStages text a b) x y g

  pub nothing_wrong : None (LineCause ListedFollow text) → (n : ℕ) × (P : List ℕ) × (L : List ℕ) × (C : List ℤ) × ListedText n P L C text
  nothing_wrong clean = go decided
    where
      go : Decided text → (n : ℕ) × (P : List ℕ) × (L : List ℕ) × (C : List ℤ) × ListedText n P L C text
      go (accepted {n} {P} {L} {C} t) = (n, P, L, C, staged_text t)
      go (refused {k} {p} g) = absurd (clean k p (first_cause g).holds)
