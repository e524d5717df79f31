-- The lines that were printed so far: the first line, and those of the universals among the variables that were passed.
use Prim.Native.Nat.{ℕ, suc, ◌+◌, ◌≤◌, ◌<◌}
use mathlib.Core.Path.{◌≡◌, refl, sym, ap, ◌∙◌, subst}
use mathlib.Core.Bool.{Bool, true, false}
use mathlib.Core.List.{List, [], ◌∷◌, ◌++◌, append-nil}
use native.Mathlib.Omega.{arith}
use lib.ListN.{length}
use Rattle.formula.specs.Lent.{Formula}
use Rattle.forest_tables.specs.Formula.{universal}
use Rattle.forest_tables.proofs.Agreeing.{universal_within}
use Rattle.forest_members.specs.InnerPicked.{picked}
use Rattle.forest_members.proofs.Picked.{Counted, count_none, count_more, count_same, count_all, picked_more, picked_same, picked_most, picked_listed}
use Rattle.std.proofs.Common.{Option, Some}
use Rattle.std.specs.List.{concat}
use Rattle.std.specs.Io.KnownBytes.{Appends}
use Rattle.std.proofs.KnownBytes.{Appends-nil, Appends-trans}
use Rattle.std.proofs.lemmas.List.Folds.{concat-append}
use Rattle.listing.specs.Listing.{LineOf, LinesOf, no_line, one_more, lists}
use Rattle.listing.specs.Inner.{RestPrinted}

-- There is a line for each universal, and one more may follow.
lines_length : {f : Formula} {xs : List ℕ} {lines : List (List ℕ)} → LinesOf f xs lines → length lines ≡ length xs
lines_length no_line = refl
lines_length (one_more _ more) = ap suc (lines_length more)

lines_last : {f : Formula} {xs : List ℕ} {lines : List (List ℕ)} (x : ℕ) (line : List ℕ) → LinesOf f xs lines → LineOf f x line
    → LinesOf f (xs ++ (x ∷ [])) (lines ++ (line ∷ []))
lines_last x line no_line is = one_more is no_line
lines_last x line (one_more one more) is = one_more one (lines_last x line more is)

-- whether a variable is a universal of the formula
abbrev test : Formula → ℕ → Bool
test f = universal f.n f.prefix

-- The lines of the universals up to a number exist, and with the first line they are as many as was counted; what a writer holds has grown by them.
pub record Passed (f : Formula) (passed count : ℕ) (before now : Option (List ℕ)) : Type 0 where
  pub counted : Counted f.n (test f) 1 count passed
  pub lines : List (List ℕ)
  pub are : LinesOf f (picked (test f) passed) lines
  pub sent : Appends before now (concat lines)

pub passed_none : (f : Formula) (held : Option (List ℕ)) → Passed f 0 1 held held
unfolding picked
passed_none f held =
    record {
      counted = count_none f.n (test f) 1 0 (omega arith) (λ v low high. absurd (omega arith));
      lines = [];
      are = no_line;
      sent = Appends-nil held;
    }

-- A line more is written behind the others.
sent_last : (a b c : Option (List ℕ)) (lines : List (List ℕ)) (line : List ℕ) → Appends a b (concat lines) → Appends b c line
    → Appends a c (concat (lines ++ (line ∷ [])))
sent_last a b c lines line sent more =
    let is = concat-append lines (line ∷ []) ∙ ap (λ (bytes : List ℕ). concat lines ++ bytes) (append-nil line) in
    subst (Appends a c) (sym is) (Appends-trans a b c (concat lines) line sent more)

module _ {f : Formula} {passed count x : ℕ} {before now : Option (List ℕ)} (p : Passed f passed count before now) (more : passed < f.n) (is : x ≡ passed + 1) where
  -- A universal has a line of its own ...
  pub passed_more : universal f.n f.prefix x ≡ true → (line : List ℕ) → LineOf f x line → (then : Option (List ℕ)) → Appends now then line
      → Passed f (passed + 1) (count + 1) before then
  passed_more u line own then wrote =
      let flag = ap (test f) (sym is) ∙ u in
      let here = subst (λ (v : ℕ). LineOf f v line) is own in
      record {
        counted = count_more p.counted more is refl u;
        lines = p.lines ++ (line ∷ []);
        are = subst (λ (xs : List ℕ). LinesOf f xs (p.lines ++ (line ∷ []))) (sym (picked_more (test f) passed flag)) (lines_last (passed + 1) line p.are here);
        sent = sent_last before now then p.lines line p.sent wrote;
      }

  -- ... and any other variable none.
  pub passed_other : universal f.n f.prefix x ≡ false → Passed f (passed + 1) count before now
  passed_other u =
      let flag = ap (test f) (sym is) ∙ u in
      record {
        counted = count_same p.counted more is refl u;
        lines = p.lines;
        are = subst (λ (xs : List ℕ). LinesOf f xs p.lines) (sym (picked_same (test f) passed flag)) p.are;
        sent = p.sent;
      }

-- The count stays small ...
pub passed_few : {f : Formula} {passed count : ℕ} {before now : Option (List ℕ)} → Passed f passed count before now → count ≤ passed + 1
passed_few {f} {passed} p =
    let most = picked_most (test f) passed in
    let here = p.counted.counted in
    omega arith

-- ... and behind the last variable it is that of all lines of the formula.
pub passed_all : {f : Formula} {passed count : ℕ} {before now : Option (List ℕ)} → Passed f passed count before now → f.n ≤ passed
    → RestPrinted f before now (Some count)
passed_all {f} {passed} {count} {before} {now} p done start (head, is, wrote) =
    let end : passed ≡ f.n = let most = p.counted.most in omega arith in
    let all = picked_listed {P = λ x. universal f.n f.prefix x ≡ true} (test f) f.n
    (λ v u. let (a, b, _) = universal_within f.n f.prefix v u in (a, b)) (λ v a b. (λ u. u, λ u. u)) in
    let own = subst (λ (m : ℕ). LinesOf f (picked (test f) m) p.lines) end p.are in
    let size = lines_length own in
    let here = count_all p.counted done in (
      head ∷ p.lines,
      lists (picked (test f) f.n) is all own,
      omega arith,
      Appends-trans start before now head (concat p.lines) wrote p.sent,
    )
