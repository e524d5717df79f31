-- The laws of one line at a stage: what it adds, what may not stand there, and what is then wrong.
use Prim.Native.Nat.{ℕ, ◌+◌, ◌<◌, ◌≤◌}
use mathlib.Core.Path.{◌≡◌, refl, sym, ap, ◌∙◌, subst}
use mathlib.Core.Bool.{Bool, true, false, true≢false}
use mathlib.Core.List.{List, [], ◌∷◌}
use mathlib.Core.Option.{some}
use native.Mathlib.Omega.{arith}
use native.Mathlib.Nat.{add-zero}
use lib.ListN.{length, drop}
use lib.IntN.{ℤ}
use Rattle.text_lines.specs.declared.Stage.{Stage}
use Rattle.text_lines.specs.declared.Stage.TheVariants.{Body}
use Rattle.std.specs.Prelude.{Option, None, Some}
use Rattle.text_words.specs.Words.{LF, pieces, filled, words}
use Rattle.text_words.specs.InnerNumbers.{entries_of, variables}
use Rattle.text_lines.specs.InnerGrammar.{Line, TooMany, Fault}
use Rattle.text_words.specs.InnerPlaces.{front, line_at, after_at, words_at, WholeRow, unread, endless_row}
use Rattle.text_words.specs.InnerExpected.{SpeltIs}
use Rattle.text_lines.specs.InnerSteps as plain
use Rattle.text_lines.proofs.Bodies.{last_line, line_then, line_passed}
use Rattle.text_qdimacs.proofs.Unique.{line_same, many_stuck}
use Rattle.dqbf_text.specs.Format.{LETTER-D, ListLine}
use Rattle.dqbf_text.specs.InnerGrammar.{ListedLine, a_line, a_list, ListedFault, outside, unended, no_problem, many, few}
use Rattle.dqbf_text.specs.InnerSteps.{WholeList, NoList, no_row, alone, Unlisted, ListMark, ListMarkIs, Late, LateIs, Adds, Few, Went}
use Rattle.dqbf_text.proofs.Letters.{list_line, list_words, d_none, d_many}

module _ (listed : Bool) (stage : Stage) (text : List ℕ) (at : ℕ) (h : at < length text) where
  -- no LF
  fault_endless : after_at text at ≡ [] → ListedFault 16 listed stage (pieces LF (drop at text))
  fault_endless e =
      let l = last_line text at h e in
      subst (ListedFault 16 listed stage) (sym l.is) (unended {listed = listed} {stage = stage} {byte = l.byte} {bytes = l.bytes})

  -- a line that may not stand there
  fault_outside : ((then : Bool) (after : Stage) (p l : List ℕ) (c : List ℤ) → ListedLine listed stage (line_at text at) then after p l c → ⊥)
      → (TooMany stage (line_at text at) → ⊥) → ListedFault 16 listed stage (pieces LF (drop at text))
  fault_outside no_line no-many = go (after_at text at) refl
    where
      go : (ls : List (List ℕ)) → after_at text at ≡ ls → ListedFault 16 listed stage (pieces LF (drop at text))
      go [] e = fault_endless e
      go (next ∷ more) e = subst (ListedFault 16 listed stage) (sym (line_then text at e)) (outside no_line no-many)

-- A line that begins with `d` where list lines may stand is one or may not stand there.
pub no_listed : {listed then : Bool} {s t : Stage} {line p l : List ℕ} {c : List ℤ} {more : List (List ℕ)} (n m : ℕ) → s ≡ Body n m 0
    → words line ≡ (LETTER-D ∷ []) ∷ more
    → ((y next : ℕ) (others : List ℕ) → entries_of variables more ≡ some (y ∷ next ∷ others) → ⊥) → ListedLine listed s line then t p l c → ⊥
no_listed n m is begins none (a_line {next = next} {line = line} {p = p} {c = c} k x) = d_none begins (subst (λ (s : Stage). Line s line next p c) is x)
no_listed {more = more} n m is begins none (a_list z x) =
    let w = list_words x in
    let q = w.begins in
    let same : w.more ≡ more = cc in
    none w.y w.next w.others (sym (ap (entries_of variables) same) ∙ w.read ∙ ap some w.are)

module _ {listed : Bool} {stage : Stage} {text : List ℕ} {at : ℕ} (h : at < length text) {i : ℕ} (mark : ListMark stage text at i) where
  list_fault : ((y next : ℕ) (others : List ℕ) → entries_of variables (words_at text i) ≡ some (y ∷ next ∷ others) → ⊥)
      → ListedFault 16 listed stage (pieces LF (drop at text))
  list_fault none =
      fault_outside listed stage text at h (λ then after p l c. no_listed mark.n mark.m mark.stands mark.goes.first none)
      (d_many mark.goes.first)

  pub fault_list : NoList text i → ListedFault 16 listed stage (pieces LF (drop at text))
  fault_list (no_row (endless_row e)) = fault_endless listed stage text at h (mark.goes.after ∙ e)
  fault_list (no_row (unread r)) = list_fault (λ y next others e. let no : ◌≡◌ {A = ℕ} 0 1 = cc in omega arith)
  fault_list (alone {entries = entries} e short) =
      list_fault (λ y next others f. let same : entries ≡ y ∷ next ∷ others = cc in let size = ap length same in omega arith)

-- Whether it does so.
pub list_mark_lem : {stage : Stage} {n m : ℕ} (text : List ℕ) (at : ℕ) → stage ≡ Body n m 0 → (r : Option ℕ) → SpeltIs (LETTER-D ∷ []) text at r
    → ListMarkIs stage text at r
list_mark_lem text at is None missing = λ n' m' l e x. no_list x
  where
    no_list : {l : List ℕ} → ListLine (line_at text at) l → ⊥
    no_list x = let w = list_words x in missing w.more w.begins
list_mark_lem {n = n} {m = m} text at is (Some next) goes = record { n = n; m = m; stands = is; goes = goes }

-- A fault of QDIMACS is one here where no list line may stand, or none stands.
no_list_line : {listed then : Bool} {s t : Stage} {line p l : List ℕ} {c : List ℤ} → ((n m : ℕ) (l : List ℕ) → s ≡ Body n m 0 → ListLine line l → ⊥)
    → ((after : Stage) (p : List ℕ) (c : List ℤ) → Line s line after p c → ⊥) → ListedLine listed s line then t p l c → ⊥
no_list_line none no_line (a_line {next = next} {p = p} {c = c} k x) = no_line next p c x
no_list_line none no_line (a_list {l = l} {n = n} {m = m} z x) = none n m l (ap (Body n m) z) x

pub fault_plain : {k : ℕ} (listed : Bool) {s : Stage} {left : List (List ℕ)} → ((n m : ℕ) (l : List ℕ) → s ≡ Body n m 0 → ListLine (front left) l → ⊥)
    → Fault k s left → ListedFault k listed s left
unfolding front
fault_plain listed none (Fault.outside no_line no-many) = outside (λ then after p l c. no_list_line none no_line) no-many
fault_plain listed none Fault.unended = unended
fault_plain listed none Fault.no_problem = no_problem
fault_plain listed none (Fault.many t) = many t
fault_plain listed none (Fault.few h) = few h

pub empty_line : {l : List ℕ} → ListLine [] l → ⊥
unfolding words filled pieces
empty_line x = let q = (list_words x).begins in let no : ◌≡◌ {A = ℕ} 0 1 = cc in omega arith

pub end_fault : {number : ℕ} {stage : Stage} → Fault number stage ([] ∷ []) → (listed : Bool) → ListedFault number listed stage ([] ∷ [])
unfolding front
end_fault fault listed = fault_plain listed (λ n m l e x. empty_line x) fault

-- A table to which nothing was added.
empty : {A : Type 0} (xs : List A) → length xs ≡ 0 → xs ≡ []
empty [] e = refl
empty (x ∷ xs) e = let no : ⊥ = omega arith in absurd no

adds_none : {A : Type 0} (count : ℕ) (table : List A) → Adds [] count count table table
adds_none count table = record { counted = sym (add-zero count); stored = refl }

-- Whether a line came late, where it added to the prefix table.
pub late_is : (listed : Bool) (before after : ℕ) → (before ≡ after → ⊥) → LateIs listed before after listed
late_is true before after differ = record { after_list = refl; counted = differ }
late_is false before after differ = λ e. absurd (true≢false (sym e))

pub late_none : {listed then : Bool} {s t t' : Stage} {line p p' l : List ℕ} {c c' : List ℤ} → ((n m : ℕ) (l : List ℕ) → s ≡ Body n m 0 → ListLine line l → ⊥)
    → listed ≡ true → Line s line t' p' c' → (p' ≡ [] → ⊥) → ListedLine listed s line then t p l c → ⊥
late_none none after_list line adds (a_line k x) = adds (sym (line_same x line).prefix ∙ k after_list)
late_none none after_list line adds (a_list {l = l} {n = n} {m = m} z x) = none n m l (ap (Body n m) z) x

-- A line of QDIMACS.
module _ {stage stage' : Stage} {text : List ℕ} {at entries literals next entries' literals' : ℕ} {before after : List ℕ × List ℤ}
    (w : plain.Went stage text at entries literals before after stage' next entries' literals') where
  -- a quantifier line after a list line
  pub fault_late : (listed : Bool) → Unlisted stage text at → Late listed entries entries' → ListedFault 16 listed stage (pieces LF (drop at text))
  fault_late listed none late =
      subst (ListedFault 16 listed stage) (sym (line_passed text at next w.passed))
      (outside (λ then t p l c. late_none none late.after_list w.line adds) (λ t. many_stuck t w.line))
    where
      adds : w.p ≡ [] → ⊥
      adds e = let size = ap length e in let count = w.entries_counted in late.counted (omega arith)

  -- any other
  pub went_plain : (listed : Bool) → (listed ≡ true → entries ≡ entries') → (rows : ℕ) → rows ≤ at → (lists : List ℕ)
      → Went listed stage text at (entries, literals, rows) (before.0, before.1, lists) (after.0, after.1, lists) listed stage' next
      (entries', literals', rows)
  went_plain listed kept rows low lists =
      let place = w.passed.place in
      let count = w.entries_counted in
      record {
        p = w.p;
        c = w.c;
        l = [];
        line = a_line (λ e. let same = kept e in empty w.p (omega arith)) w.line;
        passed = w.passed;
        prefix_adds = record { counted = w.entries_counted; stored = w.prefix_stored };
        clauses_adds = record { counted = w.literals_counted; stored = w.clauses_stored };
        lists_adds = adds_none rows lists;
        few = (w.few_entries, w.few_literals, omega arith);
      }

-- The numbers after the letter, by their count: the closing 0 alone, or y before it.
module _ {text : List ℕ} {at from next count : ℕ} {before after : List ℕ} (row : WholeRow variables text at from before after next count) where
  pub row_alone : count ≤ from + 1 → NoList text at
  row_alone short = let sum = row.counted in alone row.read (omega arith)

  pub row_list : from + 1 < count → WholeList text at from before after next count
  row_list long = go row.entries refl
    where
      go : (es : List ℕ) → row.entries ≡ es → WholeList text at from before after next count
      go [] e = let size = ap length e in let sum = row.counted in let no : ⊥ = omega arith in absurd no
      go (only ∷ []) e = let size = ap length e in let sum = row.counted in let no : ⊥ = omega arith in absurd no
      go (y ∷ second ∷ others) e = record { row = row; y = y; second = second; others = others; are = e }

-- A list line.
pub went_list : {listed : Bool} {stage : Stage} {text : List ℕ} {at i entries literals rows next count : ℕ} {lists lists' : List ℕ} (prefix : List ℕ)
    (clauses : List ℤ) → Few (entries, literals, rows) at
    → ListMark stage text at i → WholeList text i rows lists lists' next count
    → Went listed stage text at (entries, literals, rows) (prefix, clauses, lists) (prefix, clauses, lists') true stage next (entries, literals, count)
went_list {listed} {stage} {text} {at} {i} {entries} {literals} {rows} {next} {count} {lists} {lists'} prefix clauses low mark list =
    let row = list.row in
    let place = row.passed.place in
    let on = mark.goes.on in
    let entries-low = low.0 in
    let literals_low = low.1 in
    record {
      p = [];
      c = [];
      l = row.entries;
      line =
          subst (λ (l : List ℕ). ListedLine listed stage (line_at text at) true stage [] l []) (sym list.are)
          (subst (λ (s : Stage). ListedLine listed s (line_at text at) true s [] (list.y ∷ list.second ∷ list.others) []) (sym mark.stands)
          (a_list refl (list_line mark.goes.first (row.read ∙ ap some list.are))));
      passed =
          record {
            after = mark.goes.after ∙ row.passed.after;
            place = row.passed.place ∙ sym (ap (λ (n : ℕ). n + 1) mark.goes.line);
            within = row.passed.within;
          };
      prefix_adds = adds_none entries prefix;
      clauses_adds = adds_none literals clauses;
      lists_adds = record { counted = row.counted; stored = row.stored };
      few = (omega arith, omega arith, row.few);
    }
