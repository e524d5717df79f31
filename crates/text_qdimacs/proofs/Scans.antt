-- The laws of a scan: the lines passed lead to a stage, and what they added stands in the tables.
use Rattle.std.specs.Prelude.{Ok, Err}
use Rattle.terms.specs.Says.{Answer, fault_number}
use Rattle.terms.specs.declared.Counts.{Counts}
use Prim.Native.Nat.{ℕ, ◌+◌, ◌<◌, ◌≤◌}
use mathlib.Core.Path.{◌≡◌, refl, sym, ap, ◌∙◌, subst, subst₂}
use mathlib.Core.List.{List, [], ◌∷◌, ◌++◌, append_assoc, append-nil}
use native.Mathlib.Omega.{arith}
use native.Mathlib.Nat.{zero-add}
use lib.ListN.{length, drop, length-append, drop_of_length-le}
use lib.Seq.{sets, length-sets}
use lib.IntN.{ℤ}
use Rattle.text_lines.specs.declared.Stage.{Stage}
use Rattle.text_lines.specs.declared.Stage.TheVariants.{Opening}
use Rattle.terms.specs.Refusals.{First}
use Rattle.text_words.specs.Words.{LF, pieces}
use Rattle.text_lines.specs.InnerGrammar.{Line, a_comment, the_problem, a_block, a_clause, Lines, no_line, one_more, Fault}
use Rattle.text_lines.specs.Format.{MayFollow, place_after, LineCause}
use Rattle.text_words.specs.InnerPlaces.{line_at}
use Rattle.text_lines.specs.InnerSteps.{Went, Sound, announced_at}
use Rattle.text_qdimacs.specs.InnerScans.{FinishIs, ScanIs}
use Rattle.text_words.proofs.Lines.{front_later, line_length}
use Rattle.text_qdimacs.proofs.Staged.{staged_text}
use Rattle.text_qdimacs.proofs.Causes.{first_cause}
use Rattle.terms.proofs.Common.{sets_append}

-- No line lets more clause lines stand than were announced.
pub line_sound : {s s' : Stage} {l p : List ℕ} {c : List ℤ} → Line s l s' p c → Sound s → Sound s'
line_sound (a_comment x) h = tt
line_sound (the_problem x) h = omega arith
line_sound (a_block z x) h = h
line_sound (a_clause more x) h = more

lines_sound : {s s' : Stage} {ls : List (List ℕ)} {P : List ℕ} {C : List ℤ} → Lines s ls s' P C → Sound s → Sound s'
lines_sound no_line h = h
lines_sound (one_more line lines) h = lines_sound lines (line_sound line h)

-- One more line at the end.
pub lines_more : {s t t' : Stage} {ls : List (List ℕ)} {l P p : List ℕ} {C c : List ℤ} → Lines s ls t P C → Line t l t' p c
    → Lines s (ls ++ (l ∷ [])) t' (P ++ p) (C ++ c)
lines_more {t = t} {t' = t'} {l = l} {p = p} {c = c} no_line line =
    subst₂ (λ (x : List ℕ) (y : List ℤ). Lines t (l ∷ []) t' x y) (append-nil p) (append-nil c) (one_more line no_line)
lines_more {s = s} {t' = t'} {l = l} {p = p} {c = c} (one_more {line = first} {lines = lines} {p = p₁} {P = P₁} {c = c₁} {C = C₁} first-line more) line =
    subst₂ (λ (x : List ℕ) (y : List ℤ). Lines s (first ∷ (lines ++ (l ∷ []))) t' x y) (sym (append_assoc p₁ P₁ p)) (sym (append_assoc c₁ C₁ c))
    (one_more first-line (lines_more more line))

pub place_more : (ls : List (List ℕ)) (l : List ℕ) → place_after (ls ++ (l ∷ [])) ≡ place_after ls + length l + 1
place_more [] l = omega arith
place_more (x ∷ ls) l = let e = place_more ls l in omega arith

-- The lines of a text before a place.
pub record Reached (text : List ℕ) (before : List ℕ × List ℤ) (at : ℕ) (stage : Stage) (entries literals : ℕ) (now : List ℕ × List ℤ) : Type 0 where
  pub lines : List (List ℕ)
  pub P : List ℕ
  pub C : List ℤ
  pub cut : pieces LF text ≡ lines ++ pieces LF (drop at text)
  pub follow : Lines Opening lines stage P C
  pub place : at ≡ place_after lines
  pub entries_counted : entries ≡ length P
  pub literals_counted : literals ≡ length C
  pub prefix_stored : now.0 ≡ sets before.0 0 P
  pub clauses_stored : now.1 ≡ sets before.1 0 C
  pub few_entries : entries ≤ at
  pub few_literals : literals ≤ at
  pub within : at ≤ length text

pub reached_none : (text : List ℕ) (before : List ℕ × List ℤ) → Reached text before 0 Opening 0 0 before
reached_none text before =
    record {
      lines = [];
      P = [];
      C = [];
      cut = refl;
      follow = no_line;
      place = refl;
      entries_counted = refl;
      literals_counted = refl;
      prefix_stored = refl;
      clauses_stored = refl;
      few_entries = omega arith;
      few_literals = omega arith;
      within = omega arith;
    }

-- what one more run of stores adds to a table
pub stored_more : {A : Type 0} (before now now' P p : List A) (k : ℕ) → now ≡ sets before 0 P → k ≡ length P → now' ≡ sets now k p
    → now' ≡ sets before 0 (P ++ p)
stored_more before now now' P p k is counted more =
    more ∙ ap (λ (t : List _). sets t k p) is ∙ ap (λ (n : ℕ). sets (sets before 0 P) n p) (counted ∙ sym (zero-add (length P)))
    ∙ sym (sets_append before 0 P p)

-- a line that is passed has bytes, its LF at least
pub went_less : {stage stage' : Stage} {text : List ℕ} {at entries literals next entries' literals' : ℕ} {before after : List ℕ × List ℤ}
    → Went stage text at entries literals before after stage' next entries' literals' → at < next
went_less w = let from = w.passed.place in omega arith

module _ {text : List ℕ} {before : List ℕ × List ℤ} {at : ℕ} {stage : Stage} {entries literals : ℕ} {now : List ℕ × List ℤ}
    (reached : Reached text before at stage entries literals now) where
  pub reached_sound : Sound stage
  reached_sound = lines_sound reached.follow tt

  pub reached_prefix : length now.0 ≡ length before.0
  reached_prefix = ap length reached.prefix_stored ∙ length-sets before.0 0 reached.P

  pub reached_clauses : length now.1 ≡ length before.1
  reached_clauses = ap length reached.clauses_stored ∙ length-sets before.1 0 reached.C

  -- a line is passed
  pub reached_more : {now' : List ℕ × List ℤ} {stage' : Stage} {next entries' literals' : ℕ}
      → Went stage text at entries literals now now' stage' next entries' literals' → Reached text before next stage' entries' literals' now'
  reached_more {now'} {stage'} {next} w =
      let line = line_at text at in
      let from = w.passed.place in
      let size = line_length (drop at text) in
      let place = reached.place in
      let sum = place_more reached.lines line in
      let lp = length-append reached.P w.p in
      let lc = length-append reached.C w.c in
      let e = reached.entries_counted in
      let l = reached.literals_counted in
      let e' = w.entries_counted in
      let l' = w.literals_counted in
      record {
        lines = reached.lines ++ (line ∷ []);
        P = reached.P ++ w.p;
        C = reached.C ++ w.c;
        cut =
            reached.cut
            ∙ ap (λ (ls : List (List ℕ)). reached.lines ++ ls) (front_later LF (drop at text) ∙ ap (λ (ls : List (List ℕ)). line ∷ ls) w.passed.after)
            ∙ sym (append_assoc reached.lines (line ∷ []) (pieces LF (drop next text)));
        follow = lines_more reached.follow w.line;
        place = omega arith;
        entries_counted = omega arith;
        literals_counted = omega arith;
        prefix_stored = stored_more before.0 now.0 now'.0 reached.P w.p entries reached.prefix_stored e w.prefix_stored;
        clauses_stored = stored_more before.1 now.1 now'.1 reached.C w.c literals reached.clauses_stored l w.clauses_stored;
        few_entries = w.few_entries;
        few_literals = w.few_literals;
        within = w.passed.within;
      }

  -- a fault at this place is the first cause
  pub reached_fault : {number : ℕ} → Fault number stage (pieces LF (drop at text)) → First (LineCause MayFollow text) number at
  reached_fault fault =
      first_cause (record {
        lines = reached.lines;
        left = pieces LF (drop at text);
        stage = stage;
        prefix = reached.P;
        clauses = reached.C;
        cut = reached.cut;
        follow = reached.follow;
        fault = fault;
        at = reached.place;
      })

  -- the text's end
  pub reached_end : length text ≤ at → (r : Answer Counts) → FinishIs stage at entries literals r → ScanIs text before now r
  unfolding pieces
  reached_end h (Ok counts) f =
      record {
        P = reached.P;
        C = reached.C;
        text_of =
            staged_text (record {
              announced = announced_at stage;
              lines = reached.lines;
              cut = reached.cut ∙ ap (λ (xs : List ℕ). reached.lines ++ pieces LF xs) (drop_of_length-le text h);
              follow = subst (λ (s : Stage). Lines Opening reached.lines s reached.P reached.C) f.0 reached.follow;
            });
        entries_counted = f.1 ∙ reached.entries_counted;
        literals_counted = f.2 ∙ reached.literals_counted;
        prefix_stored = reached.prefix_stored;
        clauses_stored = reached.clauses_stored;
      }
  reached_end h (Err refusal) f =
      subst (First (LineCause MayFollow text) (fault_number refusal.0)) (sym f.1)
      (reached_fault (subst (λ (xs : List ℕ). Fault (fault_number refusal.0) stage (pieces LF xs)) (sym (drop_of_length-le text h)) f.0))
