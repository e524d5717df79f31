-- Demand 3: what add left is what build may leave of the longer list, so that demand 2 holds of it; and what is reached from a universal that is left
-- alone stays.
use Prim.Native.Nat.{ℕ, ◌≤◌}
use mathlib.Core.Path.{◌≡◌, sym, ap, ◌∙◌, subst}
use mathlib.Core.List.{List, [], ◌∷◌, ◌++◌}
use mathlib.Core.Logic.{◌↔◌}
use native.Mathlib.Omega.{arith}
use lib.IntN.{ℤ, pos}
use lib.ListN.{length, length-append}
use Rattle.std.specs.Prelude.{Ok, Err}
use Rattle.terms.specs.Answers.{verdict_by}
use Rattle.terms.specs.Listed.{Listed}
use Rattle.terms.specs.Limits.{clause_entries}
use Rattle.terms.specs.Says.{Answer, gives, said}
use Rattle.terms.specs.declared.Scheme.{Scheme}
use Rattle.terms.specs.declared.Scheme.TheVariants.{Standard, Strict}
use Rattle.terms.proofs.Answers.{listed-as}
use Rattle.terms.proofs.Listed.{listed_one}
use Rattle.formula.specs.Lent.{Formula}
use Rattle.formula_rules.specs.Rules.{read_by}
use Rattle.forest_theory.specs.Counts.{Counted}
use Rattle.forest_theory.specs.Reach.{Variables}
use Rattle.forest_theory.specs.Tables.{Table, row, lent}
use Rattle.forest_theory.proofs.Counts.{counts_one}
use Rattle.forest_theory.proofs.Forest.{forest_one, same_rows}
use Rattle.forest_theory.proofs.Growth.{forest_is}
use Rattle.forest_theory.proofs.Numbered.{numbered_one, numbered_same}
use Rattle.forest_theory.proofs.Reach.{joined_sym}
use Rattle.forest_tables.specs.Lent.{variables_of, forest_of}
use Rattle.forest_tables.proofs.Agreeing.{lawful}
use Rattle.forest.specs.Answers.{EntriesBy, DependsBy, EntriesListed, SetListed, Sized}
use Rattle.forest.specs.Causes.{ask_order}
use Rattle.grow.specs.Grown.{Standing, Adds}
use Rattle.grow.proofs.Demand3.{built_accepted, added_builds, adding_builds, adding_depends, adding_entries}
use Rattle.grow.proofs.StrictDemand.{adding_strictly, adding_strict_entries}
use Rattle.grow.proofs.Taking.{tally_of_one}
use Rattle.demands.specs.Words.{Built}
use Rattle.demands.specs.Demand3.{longer, AddedTo, SameStanding, LeftAlone, Demand3}
use Rattle.demands.proofs.Putting.{puts, puts_one}
use Rattle.demands.proofs.Demand2.{built_forest, built_counted, built_asked, demand2}

-- Whatever build was lent, it leaves one forest, with one table of counts and one tally.
module _ {rule : ℕ} {f : Formula} {s s' : Standing} (a : Built rule f s) (b : Built rule f s') where
  abbrev X : Variables
  X = variables_of (read_by rule f)

  abbrev W : Standing → Table
  W t = forest_of (read_by rule f) t.rows

  same_forest : (v : ℕ) → ((W s).cls v ≡ (W s').cls v) × ((W s).par v ≡ (W s').par v)
  same_forest = forest_one joined_sym (built_forest a) (built_forest b)

  built_one : SameStanding f.n s s'
  unfolding lent
  built_one =
      let law = lawful f.n (read_by rule f).prefix in
      let own = subst (λ (table : Table). Counted X table (row f.n s.rows.counts)) (same_rows same_forest) (built_counted a) in
      record {
        classes = λ v. (same_forest v).0;
        parents = λ v. (same_forest v).1;
        counts = counts_one ((forest_is law).0 (built_forest b)).formed own (built_counted b);
        tally = tally_of_one law a.builds.leaves.2 b.builds.leaves.2;
      }

module _ {rule : ℕ} {f : Formula} {clause : List ℤ} {s s' : Standing} (added : AddedTo rule f clause s s') where
  built : Built rule f s
  built = added.built

  -- the clause alone is no longer than the list
  short : length clause ≤ clause_entries
  short =
      let all = length-append f.clauses (clause ++ (pos 0 ∷ [])) in
      let last = length-append clause (pos 0 ∷ []) in
      let most = added.may.short in
      omega arith

  -- Add is not refused, and a call that is not counts its rows.
  taken : added.answer ≡ Ok f.n
  taken = go added.answer added.adds (built_accepted rule f.n f.prefix added.answer built.builds short added.may.literals added.adds)
    where
      go : (answer : Answer ℕ) → Adds rule f.n f.prefix s clause s' answer → verdict_by (said answer) ≡ gives tt → answer ≡ Ok f.n
      go (Ok rows) adds is = ap Ok adds.leaves.0
      go (Err refusal) adds is = absurd (cc)

  adds : Adds rule f.n f.prefix s clause s' (Ok f.n)
  adds = subst (Adds rule f.n f.prefix s clause s') taken added.adds

  -- So it is what build may leave of the longer list.
  afresh : Built rule (longer f clause) s'
  afresh = record { lent = built.lent; rows = f.n; builds = added_builds rule f.n f.prefix built.builds adds added.may.short }

  module _ (x : ℕ) (left : LeftAlone rule f clause x) where
    depends : (scheme : Scheme) (y : ℕ) → DependsBy scheme (read_by rule f) x y ↔ DependsBy scheme (read_by rule (longer f clause)) x y
    depends Standard y = adding_depends rule f.n f.prefix built.builds adds left.alone
    depends Strict y = adding_strictly rule f.n f.prefix built.builds adds left.alone

    points : (scheme : Scheme) (e : ℕ) → EntriesBy scheme (read_by rule f) s.rows x e ↔ EntriesBy scheme (read_by rule (longer f clause)) s'.rows x e
    points Standard e = adding_entries rule f.n f.prefix built.builds adds left.universal left.alone
    points Strict e = adding_strict_entries rule f.n f.prefix built.builds adds left.alone left.universal

    same_set : (scheme : Scheme) (before after after' : List ℕ) (answer answer' : Answer ℕ) → SetListed rule scheme f s.rows x before after answer
        → SetListed rule scheme (longer f clause) s'.rows x before after' answer' → (answer ≡ answer') × (after ≡ after')
    same_set scheme before after after' answer answer' old new =
        puts_one (λ list other l o. listed_one list other (listed-as (depends scheme) l) o)
        (demand2.set rule scheme f s x before after answer built left.universal old)
        (demand2.set rule scheme (longer f clause) s' x before after' answer' afresh left.universal new)

    same_entries : (scheme : Scheme) (before after after' : List ℕ) (answer answer' : Answer ℕ) → EntriesListed rule scheme f s.rows x before after answer
        → EntriesListed rule scheme (longer f clause) s'.rows x before after' answer' → (answer ≡ answer') × (after ≡ after')
    same_entries scheme before after after' answer answer' old new =
        puts_one (λ list other l o. listed_one list other (listed-as (points scheme) l) o)
        (puts (ask_order rule f s.rows x) (Listed (EntriesBy scheme (read_by rule f) s.rows x)) before after answer (built_asked built x left.universal) old)
        (puts (ask_order rule (longer f clause) s'.rows x) (Listed (EntriesBy scheme (read_by rule (longer f clause)) s'.rows x)) before after' answer'
        (built_asked afresh x left.universal) new)

    same_size : (scheme : Scheme) (answer answer' : Answer ℕ) → Sized rule scheme f s.rows x answer
        → Sized rule scheme (longer f clause) s'.rows x answer' → answer ≡ answer'
    same_size scheme answer answer' old new =
        let (size, is, many) = demand2.size rule scheme f s x answer built left.universal old in
        let (size', is', many') = demand2.size rule scheme (longer f clause) s' x answer' afresh left.universal new in
        is ∙ ap Ok (numbered_one (numbered_same (depends scheme) many) many') ∙ sym is'

pub demand3 : Demand3
demand3 =
    record {
      taken = λ rule f clause s s' added. taken added;
      building = λ rule f clause s s' s'' answer added again.
          let (is, same) = adding_builds rule f.n f.prefix added.built.builds (adds added) answer added.may.short again in
          (is, sym same);
      anywhere = λ rule f clause s s' s'' added again. built_one (afresh added) again;
      set = λ rule scheme f clause s s' x before after after' answer answer' added left. same_set added x left scheme before after after' answer answer';
      entries = λ rule scheme f clause s s' x before after after' answer answer' added left. same_entries added x left scheme before after after' answer answer';
      size = λ rule scheme f clause s s' x answer answer' added left. same_size added x left scheme answer answer';
    }
