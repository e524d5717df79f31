-- The claim: the worked cases of rule 17.1 hold of what the calls ensure.
use Prim.Native.Nat.{ℕ, ◌≤◌}
use mathlib.Core.Path.{◌≡◌, refl, sym, subst}
use mathlib.Core.Bool.{true}
use mathlib.Core.List.{List, [], ◌∷◌}
use lib.Dec.{lit≤}
use lib.IntN.{ℤ}
use lib.ListN.{length}
use Rattle.terms.specs.Refusals.{NoneOf}
use Rattle.formula_rules.specs.Rules.{read_as, check_order}
use Rattle.forest_theory.specs.InnerSearch.{set_of}
use Rattle.forest_tables.specs.Formula.{universal, joined}
use Rattle.grow.specs.Grown.{Standing, with_last}
use Rattle.grow_cases.specs.FormulaA.{prefix_a, clauses_a, with_clauses, stand_a, clause79, clause58, clause12}
use Rattle.grow_cases.specs.Cases.{lengthened, AddLeaves, SetIs, EntryIs, Cases}
use Rattle.grow_cases.proofs.Computed.{A, ForestRows, accepted, forests, sets_A, Climbs, climb_3_8, climb_6_9}
use Rattle.grow_cases.proofs.Allowed.{in_range, Stands, rows_stand, build_only, add_only, set_only, entry_only}

module _ (more more' more'' : List ℕ) where
  -- The tables of A stand for its clauses.
  own : Stands 9 prefix_a clauses_a (lengthened stand_a more more' more'')
  own = rows_stand 9 prefix_a forests.own more more' more''

  -- The set of x, by computed rows.
  lists : {ls : List ℤ} {s : Standing} → NoneOf (check_order 1 (with_clauses ls)) → ForestRows A ls s → (x : ℕ) → universal 9 prefix_a x ≡ true
      → {list : List ℕ} → set_of A (joined ls) x ≡ list → SetIs ls (lengthened s more more' more'') x list
  unfolding read_as
  lists {ls} {s} fine f x u is = set_only 1 9 prefix_a ls fine (lengthened s more more' more'') (rows_stand 9 prefix_a f more more' more'') x u is

  -- A clause added to the rows of A.
  adds : (clause : List ℤ) → in_range 9 clause ≡ true → length clause ≤ 16384 → {built : Standing}
      → ForestRows A (with_last clauses_a clause) built → AddLeaves (lengthened stand_a more more' more'') clause (lengthened built more more' more'')
  unfolding read_as
  adds = add_only 1 9 prefix_a clauses_a accepted.own (lengthened stand_a more more' more'') own

  -- The entry point of x for y, by the rows of A.
  enters : {x y e rises : ℕ} → Climbs more more' more'' x y e rises → EntryIs (lengthened stand_a more more' more'') x y e rises
  unfolding read_as
  enters {x} {y} c = entry_only 1 9 prefix_a clauses_a accepted.own (lengthened stand_a more more' more'') own x c.of_universal y c.for_existential c.deeper c.ends

  -- All of them hold.
  pub cases : Cases more more' more''
  unfolding read_as
  cases =
      let of_3 = (climb_3_8 more more' more'').of_universal in
      let of_6 = (climb_6_9 more more' more'').of_universal in
      record {
        p1p2 = build_only 1 9 prefix_a clauses_a accepted.own forests.own;
        p3 = lists accepted.own forests.own 3 of_3 sets_A.of_3;
        p4 = lists accepted.own forests.own 6 of_6 sets_A.of_6;
        p5 = adds clause79 refl (lit≤ tt) forests.with79;
        p6 = (lists accepted.with79 forests.with79 3 of_3 sets_A.of_3_with79, lists accepted.with79 forests.with79 6 of_6 sets_A.of_6_with79);
        p7 = λ answer s a.
            let q = (adds clause58 refl (lit≤ tt) forests.with58 answer s).0 a in (
              q.0,
              subst (λ (t : Standing). SetIs (with_last clauses_a clause58) t 6 (9 ∷ []) × SetIs (with_last clauses_a clause58) t 3 (4 ∷ 5 ∷ 7 ∷ 8 ∷ 9 ∷ [])) (sym q.1)
                  (lists accepted.with58 forests.with58 6 of_6 sets_A.of_6_with58, lists accepted.with58 forests.with58 3 of_3 sets_A.of_3_with58),
            );
        p8 = adds clause12 refl (lit≤ tt) forests.with12;
        p9 = adds [] refl (lit≤ tt) forests.with_none;
        p10 = (enters (climb_3_8 more more' more''), enters (climb_6_9 more more' more''));
      }
