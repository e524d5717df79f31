-- Clauses and the places where they stand: what passes a clause by its places is what crosses it.
use Prim.Native.Nat.{ℕ, zero, suc, ◌+◌, ◌-◌, ◌≤◌, ◌<◌}
use mathlib.Core.Path.{◌≡◌, refl, sym, ap, ◌∙◌, subst}
use mathlib.Core.Bool.{false}
use mathlib.Core.List.Memᴰ
use mathlib.Core.List.{List, Memᴰ}
use mathlib.Core.Logic.{◌↔◌, ⊎_elim, by_cases}
use native.Mathlib.Decide.{dec_lt}
use native.Mathlib.Omega.{arith}
use lib.IntN.{ℤ}
use lib.ListN.{length, take, drop, drop_of_length-le}
use Rattle.terms.specs.Literals.{variable_of}
use Rattle.formula.specs.Tables.{literal_at, cut}
use Rattle.formula.specs.Meaning.{clauses, always_true}
use Rattle.formula.specs.InnerLookup.{NextZero}
use Rattle.formula.proofs.Lookups.{clauses_closed, clauses_unclosed}
use Rattle.forest_entries.specs.InnerFlags.{HasLiteral}
use Rattle.forest_entries.proofs.Flags.{clause_literal}
use Rattle.sets_occurrences.specs.InnerThreads.{Begins, first, after, Inside, Closed}
use Rattle.sets_occurrences.proofs.Followed.{next_from, closed_next}
use Rattle.path_resolution.specs.Paths.{Crosses}
use Rattle.path_resolution.specs.InnerWalk.{Passes}
use Rattle.path_resolution.proofs.Places.{inside_less, inside_has}

has_inside : {ls : List ℤ} {s z : ℕ} {l : ℤ} → Begins ls s → NextZero ls s z → (h : HasLiteral ls s z l) → Inside ls s h.place
has_inside begins next h = record { begins = begins; from = h.from; literals = λ e f g. next.literals e f (let l = h.before in omega arith) }

-- A clause of the list stands somewhere in the table.
record Standing (ls clause : List ℤ) : Type 0 where
  start : ℕ
  end : ℕ
  begins : Begins ls start
  next : NextZero ls start end
  closed : end < length ls
  is : clause ≡ take (end - start) (drop start ls)

stands : {ls clause : List ℤ} (fuel start : ℕ) → length ls ≤ start + fuel → Begins ls start → Memᴰ clause (clauses (drop start ls)) → Standing ls clause
unfolding clauses cut
stands {ls} {clause} zero start enough begins m =
    let over : length ls ≤ start = omega arith in absurd (Memᴰ.not-nil (subst (λ rest. Memᴰ clause (clauses rest)) (drop_of_length-le ls over) m))
stands {ls} {clause} (suc fuel) start enough begins m =
    by_cases (dec_lt start (length ls)) (λ l. by (next_from ls (length ls - start) start (omega arith)) (λ z low b later. stands fuel (z + 1) (omega arith) b later))
    (λ l. let over : length ls ≤ start = omega arith in absurd (Memᴰ.not-nil (subst (λ rest. Memᴰ clause (clauses rest)) (drop_of_length-le ls over) m)))
  where
    by : (z : ℕ) × NextZero ls start z → ((z : ℕ) → start ≤ z → Begins ls (z + 1) → Memᴰ clause (clauses (drop (z + 1) ls)) → Standing ls clause) → Standing ls clause
    by (z, next) onward =
        by_cases (dec_lt z (length ls))
        (λ c. ⊎_elim (λ q. record { start = start; end = z; begins = begins; next = next; closed = c; is = q })
        (λ later. onward z next.from (after start z begins next c refl) later)
        (Memᴰ.cases_cons (subst (Memᴰ clause) (clauses_closed ls start z next c) m)))
        (λ c. absurd (Memᴰ.not-nil (subst (Memᴰ clause) (clauses_unclosed ls start z next (omega arith)) m)))

-- And back: what stands among the clauses from one on with which a clause begins is one of the list.
listed_from : {ls clause : List ℤ} {s : ℕ} → Begins ls s → Memᴰ clause (clauses (drop s ls)) → Memᴰ clause (clauses ls)
listed_from {ls} {clause} (first q) m = subst (λ s. Memᴰ clause (clauses (drop s ls))) q m
listed_from {ls} {clause} (after b z begins next l q) m = listed_from begins
    (subst (Memᴰ clause) (sym (clauses_closed ls b z next l)) (Memᴰ.tail (subst (λ s. Memᴰ clause (clauses (drop s ls))) q m)))

-- What passes a clause by its places is what crosses it.
pub passes_crosses : {ls : List ℤ} → Closed ls → (l m : ℤ) → Passes ls l m ↔ Crosses ls l m
passes_crosses {ls} closed l m = (there, back)
  where
    there : Passes ls l m → Crosses ls l m
    there pass =
        let leaves = pass.leaves in
        let (z, next, plain) = leaves.connecting in
        let s = leaves.start in
        let begun : s < length ls = let a = inside_less leaves.own in let f = leaves.own.from in omega arith in
        let c = closed_next closed begun next in
        let has : (literal : ℤ) → Memᴰ literal (take (z - s) (drop s ls)) ↔ HasLiteral ls s z literal = clause_literal ls s z next.from (omega arith) in
        record {
          clause = take (z - s) (drop s ls);
          listed = listed_from leaves.own.begins (subst (Memᴰ (take (z - s) (drop s ls))) (sym (clauses_closed ls s z next c)) (Memᴰ.head refl));
          takes_part = plain;
          entered = subst (λ k. Memᴰ k (take (z - s) (drop s ls))) pass.entered ((has (literal_at ls pass.entry)).1 (inside_has next leaves.own));
          left = subst (λ k. Memᴰ k (take (z - s) (drop s ls))) leaves.is ((has (literal_at ls leaves.place)).1 (inside_has next leaves.other));
          another = λ q. leaves.another (ap variable_of pass.entered ∙ q);
        }

    back : Crosses ls l m → Passes ls l m
    back cross =
        let at = stands (length ls) 0 (omega arith) (first refl) cross.listed in
        let s = at.start in
        let z = at.end in
        let c = at.closed in
        let has : (literal : ℤ) → Memᴰ literal (take (z - s) (drop s ls)) ↔ HasLiteral ls s z literal = clause_literal ls s z at.next.from (omega arith) in
        let enter = (has l).0 (subst (Memᴰ l) at.is cross.entered) in
        let leave = (has m).0 (subst (Memᴰ m) at.is cross.left) in
        record {
          entry = enter.place;
          entered = enter.is;
          leaves =
              record {
                start = s;
                place = leave.place;
                own = has_inside at.begins at.next enter;
                other = has_inside at.begins at.next leave;
                connecting = (z, at.next, subst (λ d. always_true d ≡ false) at.is cross.takes_part);
                is = leave.is;
                another = λ q. cross.another (sym (ap variable_of enter.is) ∙ q);
              };
        }
