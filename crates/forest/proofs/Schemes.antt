-- What a scheme takes of the two signs of x: of their flags, and so of the entry points.
use Rattle.terms.specs.Says.{accepted}
use Prim.Native.Nat.{ℕ}
use mathlib.Core.Path.{◌≡◌}
use mathlib.Core.Bool.{Bool, true, false}
use mathlib.Core.List.{List}
use mathlib.Core.Logic.{⊎_elim, ◌↔◌}
use Rattle.formula.specs.Meaning.{level}
use Rattle.forest_theory.specs.Tables.{WellFormed, EntryPointOf}
use Rattle.forest_theory.proofs.Strict.{strict_entry_within}
use Rattle.terms.specs.declared.Scheme.{Scheme}
use Rattle.formula.specs.Lent.{Formula}
use Rattle.forest_tables.specs.Formula.{Shares, SharesBy}
use Rattle.forest_tables.specs.Lent.{Rows, variables_of, forest_of}
use Rattle.forest.specs.Answers.{EntriesBy}
use Rattle.forest_climb.specs.InnerSearch.{EntryRows, TopRows}
use Rattle.forest_entries.specs.InnerFlags.{Takes, Via, Entering}
use Rattle.forest.specs.InnerWanted.{Enters}
use Rattle.forest_climb.proofs.Climbing.{tops_entries}
use Rattle.forest_entries.proofs.Flags.{via_as, via_or}
use Rattle.forest_tables.proofs.Agreeing.{lawful}
use Rattle.forest.proofs.Entered.{entries_of}
use Rattle.forest_entries.proofs.Sides.{shares_some, shares_signed}

-- The entry points by a scheme are among the standard ones.
pub scheme_points : (f : Formula) (r : Rows) (x : ℕ) (scheme : Scheme) (e : ℕ)
    → EntriesBy scheme f r x e → EntryPointOf (variables_of f) (forest_of f r) (Shares f.clauses) x e
scheme_points f r x Scheme.Standard e o = o
scheme_points f r x Scheme.Strict e s = strict_entry_within (λ sign z. shares_some sign) s

-- The entries that a scheme takes of those by either sign are the entry points by the scheme.
module _ (f : Formula) (r : Rows) {x : ℕ} (tops : List ℕ) (formed : WellFormed (variables_of f) (forest_of f r))
    (entries : EntryRows (variables_of f) (forest_of f r) x tops) where
  -- those by one sign
  of : (sign : Bool) (e : ℕ) → Via f.n tops (SharesBy f.clauses sign x) e ↔ EntryPointOf (variables_of f) (forest_of f r) (SharesBy f.clauses sign) x e
  of sign e = entries_of (lawful f.n f.prefix) formed tops entries {S = SharesBy f.clauses sign} e

  takes_entries : (scheme : Scheme) (e : ℕ) → Takes scheme (λ sign. Via f.n tops (SharesBy f.clauses sign x) e) ↔ EntriesBy scheme f r x e
  takes_entries Scheme.Standard e =
      let all = entries_of (lawful f.n f.prefix) formed tops entries {S = Shares f.clauses} e in (
        λ t. all.0 (⊎_elim (via_as (λ y. shares_some true)) (via_as (λ y. shares_some false)) t),
        λ o. via_or (via_as (λ y. shares_signed) (all.1 o)),
      )
  takes_entries Scheme.Strict e = (λ t. record { by = λ sign. (of sign e).0 (each sign t) }, λ s. ((of true e).1 (s.by true), (of false e).1 (s.by false)))
    where
      each : (sign : Bool) → Via f.n tops (SharesBy f.clauses true x) e × Via f.n tops (SharesBy f.clauses false x) e
          → Via f.n tops (SharesBy f.clauses sign x) e
      each true t = t.0
      each false t = t.1

-- The tops over the level of x, and the flags of those that a scheme takes of the variables that share a clause with x.
pub over_enters : (f : Formula) (r : Rows) (x floor : ℕ) (tops : List ℕ) {kept : List ℕ} {flags : List Bool} (scheme : Scheme)
    → WellFormed (variables_of f) (forest_of f r) → floor ≡ level f.prefix x → TopRows (variables_of f) (forest_of f r) floor tops
    → Entering f.n (λ e. Takes scheme (λ sign. Via f.n tops (SharesBy f.clauses sign x) e)) tops kept flags
    → Enters scheme f r x kept flags accepted
over_enters f r x floor tops scheme formed low rows e =
    let entries = tops_entries formed floor tops low rows in
    let points = takes_entries f r tops formed entries scheme in
    (tops, entries, record { tells = λ v l. let t = e.tells v l in (λ q. (points v).0 (t.0 q), λ p. t.1 ((points v).1 p)); same = e.same })
