-- The laws of a scan: the lines passed lead to a stage, and what they added stands in the tables.
use Rattle.std.specs.Prelude.{Ok, Err}
use Rattle.terms.specs.Says.{Answer, fault_number}
use Rattle.terms.specs.declared.ListedCounts.{ListedCounts}
use Prim.Native.Nat.{ℕ, ◌<◌, ◌≤◌}
use mathlib.Core.Path.{◌≡◌, refl, sym, ap, ◌∙◌, subst}
use mathlib.Core.Bool.{Bool, false}
use mathlib.Core.List.{List, [], ◌∷◌, ◌++◌, append_assoc, append-nil}
use native.Mathlib.Omega.{arith}
use native.Mathlib.Nat.{zero-add}
use lib.ListN.{length, drop, length-append, drop_of_length-le}
use lib.Seq.{length-sets}
use lib.IntN.{ℤ}
use Rattle.text_lines.specs.declared.Stage.{Stage}
use Rattle.text_lines.specs.declared.Stage.TheVariants.{Opening}
use Rattle.text_words.specs.Words.{LF, pieces}
use Rattle.text_lines.specs.Format.{place_after, LineCause}
use Rattle.text_words.specs.InnerPlaces.{line_at}
use Rattle.text_lines.specs.InnerSteps.{Sound, announced_at}
use Rattle.text_words.proofs.Lines.{line_length}
use Rattle.text_lines.proofs.Bodies.{line_then}
use Rattle.text_qdimacs.proofs.Scans.{line_sound, place_more, stored_more}
use Rattle.terms.specs.Refusals.{First}
use Rattle.dqbf_text.specs.Format.{ListedFollow}
use Rattle.dqbf_text.specs.InnerGrammar.{ListedLine, a_line, a_list, ListedLines, no_line, one_more, ListedFault}
use Rattle.dqbf_text.specs.Reading.{Tables}
use Rattle.dqbf_text.specs.InnerSteps.{Counts, Few, Adds, Went, FinishIs, ScanIs}
use Rattle.dqbf_text.proofs.Staged.{staged_text}
use Rattle.dqbf_text.proofs.Causes.{first_cause}

-- No line lets more clause lines stand than were announced.
pub listed_sound : {b b' : Bool} {s s' : Stage} {l p d : List ℕ} {c : List ℤ} → ListedLine b s l b' s' p d c → Sound s → Sound s'
listed_sound (a_line k x) h = line_sound x h
listed_sound (a_list z x) h = h

lines_sound : {b b' : Bool} {s s' : Stage} {ls : List (List ℕ)} {P L : List ℕ} {C : List ℤ} → ListedLines b s ls b' s' P L C → Sound s → Sound s'
lines_sound no_line h = h
lines_sound (one_more line lines) h = lines_sound lines (listed_sound line h)

-- One more line at the end.
pub lines_more : {a b b' : Bool} {s t t' : Stage} {ls : List (List ℕ)} {l P p L d : List ℕ} {C c : List ℤ} → ListedLines a s ls b t P L C
    → ListedLine b t l b' t' p d c → ListedLines a s (ls ++ (l ∷ [])) b' t' (P ++ p) (L ++ d) (C ++ c)
lines_more {b = b} {b' = b'} {t = t} {t' = t'} {l = l} {p = p} {d = d} {c = c} no_line line =
    subst (λ (x : List ℕ). ListedLines b t (l ∷ []) b' t' x d c) (append-nil p)
    (subst (λ (y : List ℕ). ListedLines b t (l ∷ []) b' t' (p ++ []) y c) (append-nil d)
    (subst (λ (z : List ℤ). ListedLines b t (l ∷ []) b' t' (p ++ []) (d ++ []) z) (append-nil c) (one_more line no_line)))
lines_more {a = a} {b' = b'} {s = s} {t' = t'} {l = l} {p = p} {d = d} {c = c}
    (one_more {line = first} {lines = lines} {p = p₁} {P = P₁} {l = d₁} {L = L₁} {c = c₁} {C = C₁} first-line more) line =
    let ls = first ∷ (lines ++ (l ∷ [])) in
    subst (λ (x : List ℕ). ListedLines a s ls b' t' x ((d₁ ++ L₁) ++ d) ((c₁ ++ C₁) ++ c)) (sym (append_assoc p₁ P₁ p))
    (subst (λ (y : List ℕ). ListedLines a s ls b' t' (p₁ ++ (P₁ ++ p)) y ((c₁ ++ C₁) ++ c)) (sym (append_assoc d₁ L₁ d))
    (subst (λ (z : List ℤ). ListedLines a s ls b' t' (p₁ ++ (P₁ ++ p)) (d₁ ++ (L₁ ++ d)) z) (sym (append_assoc c₁ C₁ c))
    (one_more first-line (lines_more more line))))

-- A table that is filled further.
adds_more : {A : Type 0} {P p before now now' : List A} {k k' : ℕ} → Adds P 0 k before now → Adds p k k' now now' → Adds (P ++ p) 0 k' before now'
adds_more {P = P} {p = p} {before = before} {now = now} {now' = now'} {k = k} a b =
    let l = length-append P p in
    let e = a.counted in
    let f = b.counted in
    record { counted = omega arith; stored = stored_more before now now' P p k a.stored (e ∙ zero-add (length P)) b.stored }

pub adds_length : {A : Type 0} {P before now : List A} {k : ℕ} → Adds P 0 k before now → length now ≡ length before
adds_length {P = P} {before = before} a = ap length a.stored ∙ length-sets before 0 P

-- The lines of a text before a place.
pub record Reached (text : List ℕ) (before : Tables) (at : ℕ) (listed : Bool) (stage : Stage) (counts : Counts) (now : Tables) : Type 0 where
  pub lines : List (List ℕ)
  pub P : List ℕ
  pub C : List ℤ
  pub L : List ℕ
  pub cut : pieces LF text ≡ lines ++ pieces LF (drop at text)
  pub follow : ListedLines false Opening lines listed stage P L C
  pub place : at ≡ place_after lines
  pub prefix_adds : Adds P 0 counts.0 before.0 now.0
  pub clauses_adds : Adds C 0 counts.1 before.1 now.1
  pub lists_adds : Adds L 0 counts.2 before.2 now.2
  pub few_now : Few counts at
  pub within : at ≤ length text

pub reached_none : (text : List ℕ) (before : Tables) → Reached text before 0 false Opening (0, 0, 0) before
reached_none text before =
    record {
      lines = [];
      P = [];
      C = [];
      L = [];
      cut = refl;
      follow = no_line;
      place = refl;
      prefix_adds = record { counted = refl; stored = refl };
      clauses_adds = record { counted = refl; stored = refl };
      lists_adds = record { counted = refl; stored = refl };
      few_now = (omega arith, omega arith, omega arith);
      within = omega arith;
    }

-- a line that is passed has bytes, its LF at least
pub went_less : {listed listed' : Bool} {stage stage' : Stage} {text : List ℕ} {at next : ℕ} {from counts : Counts} {before after : Tables}
    → Went listed stage text at from before after listed' stage' next counts → at < next
went_less w = let from = w.passed.place in omega arith

module _ {text : List ℕ} {before : Tables} {at : ℕ} {listed : Bool} {stage : Stage} {counts : Counts} {now : Tables}
    (reached : Reached text before at listed stage counts now) where
  pub reached_sound : Sound stage
  reached_sound = lines_sound reached.follow tt

  -- a line is passed
  pub reached_more : {now' : Tables} {listed' : Bool} {stage' : Stage} {next : ℕ} {counts' : Counts}
      → Went listed stage text at counts now now' listed' stage' next counts' → Reached text before next listed' stage' counts' now'
  reached_more {now'} {listed'} {stage'} {next} {counts'} w =
      let line = line_at text at in
      let from = w.passed.place in
      let size = line_length (drop at text) in
      let place = reached.place in
      let sum = place_more reached.lines line in
      record {
        lines = reached.lines ++ (line ∷ []);
        P = reached.P ++ w.p;
        C = reached.C ++ w.c;
        L = reached.L ++ w.l;
        cut =
            reached.cut ∙ ap (λ (ls : List (List ℕ)). reached.lines ++ ls) (line_then text at w.passed.after)
            ∙ sym (append_assoc reached.lines (line ∷ []) (pieces LF (drop next text)));
        follow = lines_more reached.follow w.line;
        place = omega arith;
        prefix_adds = adds_more reached.prefix_adds w.prefix_adds;
        clauses_adds = adds_more reached.clauses_adds w.clauses_adds;
        lists_adds = adds_more reached.lists_adds w.lists_adds;
        few_now = w.few;
        within = w.passed.within;
      }

  -- a fault at this place is the first cause
  pub reached_fault : {number : ℕ} → ListedFault number listed stage (pieces LF (drop at text)) → First (LineCause ListedFollow text) number at
  reached_fault fault =
      first_cause (record {
        lines = reached.lines;
        left = pieces LF (drop at text);
        listed = listed;
        stage = stage;
        prefix = reached.P;
        lists = reached.L;
        clauses = reached.C;
        cut = reached.cut;
        follow = reached.follow;
        fault = fault;
        at = reached.place;
      })

  -- the text's end
  pub reached_end : length text ≤ at → (r : Answer ListedCounts) → FinishIs stage at counts r → ScanIs text before now r
  unfolding pieces
  reached_end h (Ok listed-counts) f =
      record {
        P = reached.P;
        C = reached.C;
        L = reached.L;
        text_of =
            staged_text (record {
              announced = announced_at stage;
              listed = listed;
              lines = reached.lines;
              cut = reached.cut ∙ ap (λ (xs : List ℕ). reached.lines ++ pieces LF xs) (drop_of_length-le text h);
              follow =
                  subst (λ (s : Stage). ListedLines false Opening reached.lines listed s reached.P reached.L reached.C) f.0
                  reached.follow;
            });
        prefix_adds = record { counted = f.1 ∙ reached.prefix_adds.counted; stored = reached.prefix_adds.stored };
        clauses_adds = record { counted = f.2 ∙ reached.clauses_adds.counted; stored = reached.clauses_adds.stored };
        lists_adds = record { counted = f.3 ∙ reached.lists_adds.counted; stored = reached.lists_adds.stored };
      }
  reached_end h (Err refusal) f =
      subst (First (LineCause ListedFollow text) (fault_number refusal.0)) (sym f.1)
      (reached_fault (subst (λ (xs : List ℕ). ListedFault (fault_number refusal.0) listed stage (pieces LF xs)) (sym (drop_of_length-le text h)) (f.0 listed)))
