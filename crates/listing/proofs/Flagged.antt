-- From the flags of the tops that both signs of x have to the line of x: they are its entry points, and the variables with those tops are its set. In the
-- formula's own forest both are so by reach.
use Prim.Native.Nat.{ℕ, ◌≤◌}
use mathlib.Core.Path.{ap}
use mathlib.Core.Bool.{Bool}
use mathlib.Core.List.{List, []}
use mathlib.Core.Logic.{◌↔◌}
use lib.IntN.{ℤ}
use Rattle.terms.specs.declared.Scheme.TheVariants.{Strict}
use Rattle.terms.specs.Answers.{InFront}
use Rattle.terms.proofs.Answers.{listed-as}
use Rattle.formula.specs.Lent.{Formula, formula_of}
use Rattle.forest_theory.specs.Forest.{Forest}
use Rattle.forest_theory.proofs.Growth.{forest_is}
use Rattle.forest_theory.proofs.Sets.{entry_class}
use Rattle.forest_tables.specs.Formula.{Shares}
use Rattle.forest_tables.specs.Lent.{Rows, rows, variables_of, forest_of}
use Rattle.forest_tables.proofs.Agreeing.{lawful}
use Rattle.forest_members.specs.declared.Asked.TheVariants.{Points, Set}
use Rattle.forest_members.specs.InnerPicked.{pick, picked}
use Rattle.forest.specs.Answers.{EntriesBy}
use Rattle.forest.proofs.Demands.{universal_alone, members_depend}
use Rattle.sets_occurrences.specs.InnerThreads.{Closed, EnteredBy}
use Rattle.sets.proofs.AllSets.{set_picked, points_picked}
use Rattle.listing_lines.specs.Lines.{universal_line, LineIn}
use Rattle.listing.specs.Listing.{Enters, LineOf}
use Rattle.listing.specs.Inner.{OwnTops, flagged_line}
use Rattle.listing.proofs.Printed.{line_is}

-- In the formula's own forest the strict entry points of x are those by reach.
pub entries_enter : (f : Formula) (r : Rows) (x : ℕ) → Forest (variables_of f) (Shares f.clauses) (forest_of f r)
    → (e : ℕ) → EntriesBy Strict f r x e ↔ Enters f x e
entries_enter f r x own e =
    let by-reach = (forest_is (lawful f.n f.prefix)).0 own in (
      λ s sign.
          let o = s.by sign in
          record {
            for = o.for;
            shares = o.shares;
            deeper = record { existential = o.existential; deep = o.deeper };
            entry = (entry_class by-reach o.existential).1 (o.rises, o.entry);
          },
      λ s. record {
        by = λ sign.
            let o = s sign in
            let (rises, entry) = (entry_class by-reach o.deeper.existential).0 o.entry in
            record { for = o.for; shares = o.shares; existential = o.deeper.existential; deeper = o.deeper.deep; rises = rises; entry = entry };
      },
    )

module _ {n : ℕ} {es : List ℕ} {ls : List ℤ} {x floor : ℕ} {tops : List ℕ} {flags : List Bool} (few : n ≤ 4096) (closed : Closed ls)
    (t : OwnTops (formula_of n es ls) x floor tops) (entered : EnteredBy Strict n tops ls x flags) where
  -- The line by the flags is the line of x.
  pub line_flagged : {before after : List ℕ} {end : ℕ} → LineIn (flagged_line n tops flags x floor) before after end
      → InFront (LineOf (formula_of n es ls) x) before after end
  line_flagged stored =
      let f = formula_of n es ls in
      let classes = t.classes in
      let parents = t.parents in
      let r = rows classes parents [] in
      let formed = ((forest_is (lawful n es)).0 t.own).formed in
      let entries = picked (pick Points n flags tops) n in
      let members = picked (pick Set n flags tops) n in
      let points = points_picked Strict n es ls classes parents few closed formed x floor tops flags t.low t.rows entered in
      let set = set_picked Strict n es ls classes parents few closed formed x floor tops flags t.low t.rows entered in
      let alone = universal_alone n es x t.universal_is in
      let line : LineOf f x (flagged_line n tops flags x floor) =
      record {
        entries = entries;
        set = members;
        entries_are = listed-as (entries_enter f r x t.own) points;
        set_is = listed-as (members_depend f r x t.own Strict alone) set;
        is = ap (λ level. universal_line x level entries members) t.low;
      } in
      line_is line stored
