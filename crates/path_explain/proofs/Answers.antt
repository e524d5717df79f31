-- What is written is settled: two explanations are equal, and a table that holds one is refused by nobody.
use Prim.Native.Nat.{ℕ, zero, suc, ◌≤◌, ◌<◌}
use mathlib.Core.Path.{◌≡◌, refl, sym, ◌∙◌}
use mathlib.Core.List.{List, []}
use mathlib.Core.Logic.{inl}
use native.Mathlib.Omega.{arith}
use lib.IntN.{ℤ}
use lib.ListN.{length}
use lib.Seq.{ext_get_or}
use Rattle.std.specs.Prelude.{Ok}
use Rattle.terms.specs.Overwritten.{overwritten}
use Rattle.terms.specs.Refusals.{NoneOf}
use Rattle.terms.specs.Says.{refused}
use Rattle.terms.specs.declared.Fault.TheVariants.{TooLittleRoom}
use Rattle.terms.proofs.Common.{below_suc}
use Rattle.terms.proofs.Verdicts.{at0_first, at0_none}
use Rattle.formula.specs.Causes.{ClauseCause}
use Rattle.formula.specs.Lent.{Formula}
use Rattle.formula.specs.Tables.{at}
use Rattle.formula_rules.specs.Rules.{check_order}
use Rattle.sets_occurrences.specs.InnerThreads.{Closed}
use Rattle.forest_theory.specs.Reach.{Variables}
use Rattle.forest_entries.specs.declared.Signs.{Signs}
use Rattle.path_explain.specs.Ways.{Way, Shortest, FirstShortest, Explains, by, none}
use Rattle.path_explain.specs.InnerOrders.{WayListed}

module _ {X : Variables} {ls : List ℤ} {signs : Signs} {x y : ℕ} where
  -- Two shortest ways are as long ...
  pub shortest-long : {path other : List ℕ} → Shortest X ls signs x y path → Shortest X ls signs x y other → length path ≡ length other
  shortest-long {path} {other} a b = let one = a.least other b.way in let two = b.least path a.way in omega arith

  -- ... and the first two of them are equal, entry by entry.
  first_one : {path other : List ℕ} → FirstShortest X ls signs x y path → FirstShortest X ls signs x y other → path ≡ other
  first_one {path} {other} a b = ext_get_or 0 path other long (λ i l. upto (suc i) l i (omega arith))
    where
      long : length path ≡ length other
      long = shortest-long a.shortest b.shortest

      upto : (i : ℕ) → i ≤ length path → (j : ℕ) → j < i → at path j ≡ at other j
      upto zero l j less = absurd (omega arith)
      upto (suc i) l j less =
          let size = long in
          let before = upto i (omega arith) in
          let one = a.first other b.shortest.way (sym long) i (omega arith) before in
          let two = b.first path a.shortest.way long i (omega arith) (λ e under. sym (before e under)) in
          below_suc (λ j. at path j ≡ at other j) i before (omega arith) j less

  pub explains-one : {path other : List ℕ} → Explains X ls signs x y path → Explains X ls signs x y other → path ≡ other
  explains-one (by a) (by b) = first_one a b
  explains-one {path} (by a) (none _ no_way) = absurd (no_way path a.shortest.way)
  explains-one {other = other} (none _ no_way) (by b) = absurd (no_way other b.shortest.way)
  explains-one (none p _) (none q _) = p ∙ sym q

  -- What the call answers: nothing where there is no way, a refusal where the table is too short, and else the way.
  pub listed-none : (before : List ℕ) → ((other : List ℕ) → Way X ls signs x y other → ⊥) → WayListed X ls signs x y before before (Ok 0)
  listed-none before no_way = ((at0_none 14 (λ long. no_way long.0 long.1.way), tt), ([], none refl no_way, refl, refl))

  pub listed-long : (before path : List ℕ) → Shortest X ls signs x y path → length before < length path → WayListed X ls signs x y before before (refused TooLittleRoom 0)
  listed-long before path s long = (inl (at0_first 14 (path, s, long)), refl)

  pub listed-way : (before after path : List ℕ) (count : ℕ) → FirstShortest X ls signs x y path → count ≡ length path → length path ≤ length before
      → after ≡ overwritten path before → WayListed X ls signs x y before after (Ok count)
  listed-way before after path count f is room written =
      ((at0_none 14 (λ long. let same = shortest-long long.1 f.shortest in let over = long.2 in omega arith), tt), (path, by f, is, written))

-- A clause table that check accepts does not end inside a clause.
pub clauses_closed : (rule : ℕ) (f : Formula) → NoneOf (check_order rule f) → Closed f.clauses
clauses_closed rule f sound inside = sound.1.1.1.1.0 11 (length f.clauses) (ClauseCause.ends_inside refl refl inside)
