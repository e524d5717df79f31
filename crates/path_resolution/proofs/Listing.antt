-- From flags of what depends on x to the list that the call promises, and what check gives to the walk.
use Prim.Native.Nat.{ℕ, ◌≤◌, ◌<◌}
use mathlib.Core.Path.{◌≡◌, refl, sym, ap}
use mathlib.Core.Bool.{Bool, true, false}
use mathlib.Core.List.{List}
use mathlib.Core.Logic.{by_cases}
use native.Mathlib.Decide.{dec_lt, dec_le}
use native.Mathlib.Omega.{arith}
use lib.IntN.{ℤ, pos, neg_ℤ, neg_ℤ-neg_ℤ}
use lib.ListN.{length, get_or}
use Rattle.terms.specs.Listed.{Listed}
use Rattle.terms.specs.Literals.{variable_of}
use Rattle.terms.specs.Refusals.{NoneOf}
use Rattle.formula.specs.Causes.{ClauseCause}
use Rattle.formula.specs.Lent.{Formula}
use Rattle.formula.specs.InnerLevels.{SoundPrefix, Levelled}
use Rattle.formula.specs.Tables.{literal_at}
use Rattle.formula_rules.specs.Rules.{check_order}
use Rattle.formula_rules.proofs.Orders.{clauses_sound}
use Rattle.forest_tables.specs.Formula.{variables, signed}
use Rattle.forest_tables.specs.InnerTabled.{tabled, universal_in}
use Rattle.forest_tables.proofs.Agreeing.{lawful, same_back, tables_agree, level_agrees}
use Rattle.forest_tables.proofs.Readings.{flag_within}
use Rattle.forest_members.specs.declared.Asked.TheVariants.{Points}
use Rattle.forest_members.specs.InnerPicked.{pick, picked}
use Rattle.forest_members.proofs.Picked.{picked_listed}
use Rattle.forest_entries.proofs.Flags.{literal_past}
use Rattle.path_resolution.specs.Paths.{DependsByPaths}
use Rattle.path_resolution.specs.InnerEnds.{ReadClauses, Flags}
use Rattle.path_resolution.proofs.Reaching.{depends_same}

-- The two literals of x are each other's complement.
pub complement_plain : (x : ℕ) → neg_ℤ (signed true x) ≡ signed false x
unfolding signed
complement_plain x = refl

pub complement_negation : (x : ℕ) → neg_ℤ (signed false x) ≡ signed true x
unfolding signed
complement_negation x = neg_ℤ-neg_ℤ (pos x)

-- A clause table that check accepts.
pub read_clauses : (rule : ℕ) (f : Formula) → NoneOf (check_order rule f) → ReadClauses f.n f.clauses
read_clauses rule f none =
    record {
      sound = clauses_sound rule f none;
      upto = λ e. by_cases (dec_lt e (length ls)) (within e) (λ l. let past = literal_past ls e (omega arith) in omega arith);
      closed = λ inside. none.1.1.1.1.0 11 (length ls) (ClauseCause.ends_inside refl refl inside);
    }
  where
    ls : List ℤ
    ls = f.clauses

    within : (e : ℕ) → e < length ls → variable_of (literal_at ls e) ≤ f.n
    within e l =
        by_cases (dec_le (variable_of (literal_at ls e)) f.n) (λ low. low)
        (λ over. absurd (none.1.1.1.1.0 10 e (ClauseCause.outside refl l (λ z. let q = ap variable_of z in omega arith) (omega arith))))

-- A universal by the level table is one of the variables.
pub universal_upto : (n : ℕ) (universals : List Bool) (x : ℕ) → universal_in n universals x ≡ true → x ≤ n
unfolding universal_in
universal_upto n universals x u = (flag_within n x (get_or universals x false) u).1

-- What is flagged by the level table is the list of all that depends on x by the prefix.
pub dependents_listed : {n : ℕ} {es levels : List ℕ} {universals : List Bool} → SoundPrefix n es → Levelled es levels universals
    → {x : ℕ} → universal_in n universals x ≡ true → {ls : List ℤ} (flags : List Bool) (tops : List ℕ)
    → Flags n (DependsByPaths (tabled n levels universals) ls x) flags
    → Listed (DependsByPaths (variables n es) ls x) (picked (pick Points n flags tops) n)
unfolding pick
dependents_listed {n} {es} {levels} {universals} sound table {x} u flags tops told =
    let s = tables_agree sound table in
    let own = level_agrees sound table x (universal_upto n universals x u) in
    picked_listed (pick Points n flags tops) n (λ v d. (lawful n es).within v d.deeper.existential)
    (λ v low high. let t = told v low high in (λ f. depends_same s own (t.0 f), λ d. t.1 (depends_same (same_back s) (sym own) d)))
