-- Where rule 1 accepts a prefix both reading rules promise the same (rule 6.3); and what was lent settles what the check of lists answers (rule 18.1).
use Prim.Native.Nat.{ℕ}
use mathlib.Core.Path.{◌≡◌}
use mathlib.Core.List.{List, [], ◌∷◌, ◌++◌}
use mathlib.Core.Logic.{◌↔◌}
use lib.ListN.{length}
use Rattle.terms.specs.Refusals.{Causes, NoneOf, Judged}
use Rattle.terms.specs.Says.{Verdict}
use Rattle.terms.proofs.Orders.{Carries, carry_judged}
use Rattle.terms.proofs.Verdicts.{judged_unique}
use Rattle.formula.specs.Causes.{ClauseCause}
use Rattle.formula.specs.Lent.{Formula}
use Rattle.formula_rules.specs.Rules.{read_as, ruled_prefix}
use Rattle.formula_rules.proofs.Agreement.{one_to_two, two_to_one}
use Rattle.dqbf_lists.specs.Causes.{ListCause, check_lists_order}
use Rattle.dqbf_lists.specs.Inner.{listed_prefix}
use Rattle.dqbf_lists.specs.Answers.{ListsChecked}
use Rattle.dqbf_lists.proofs.Ordering.{short_lists, to_listed, from_listed}

-- A promise by an order and by the prefix as it is read, which goes over from one order to another: where rule 1 accepts the prefix beside lists of so many
-- entries, it is the same under both rules.
module _ (f : Formula) (entries : ℕ) (none : NoneOf (listed_prefix 1 f entries)) (S : List Causes → List ℕ → Type 0)
    (carry : (order order' : List Causes) (read : List ℕ) → Carries order order' → S order read → S order' read) (later : List ℕ → List Causes) where
  -- the promise under a rule, by the order of a call that takes lists, and by that of one that takes none
  abbrev Listed : ℕ → Type 0
  Listed rule = let read = read_as rule f.prefix in S (listed_prefix rule f entries ++ later read) read

  abbrev Ruled : ℕ → Type 0
  Ruled rule = let read = read_as rule f.prefix in S (ruled_prefix rule f.n f.prefix (length f.clauses) ++ later read) read

  to : (rule : ℕ) → Ruled rule → Listed rule
  to rule =
      let read = read_as rule f.prefix in
      carry (ruled_prefix rule f.n f.prefix (length f.clauses) ++ later read) (listed_prefix rule f entries ++ later read) read
      (to_listed rule f entries (short_lists 1 f entries [] none) (later read))

  from : (rule : ℕ) → Listed rule → Ruled rule
  from rule =
      let read = read_as rule f.prefix in
      carry (listed_prefix rule f entries ++ later read) (ruled_prefix rule f.n f.prefix (length f.clauses) ++ later read) read
      (from_listed rule f entries (short_lists 1 f entries [] none) (later read))

  pub agreed : Listed 1 ↔ Listed 2
  agreed =
      let plain = (from_listed 1 f entries (short_lists 1 f entries [] none) []).none none in
      let count = length f.clauses in (
        λ s. to 2 (one_to_two S carry later f.n f.prefix count plain (from 1 s)),
        λ s. to 1 (two_to_one S carry later f.n f.prefix count plain (from 2 s)),
      )

pub check_agrees : (f : Formula) (ds : List ℕ) → NoneOf (listed_prefix 1 f (length ds)) → (v : Verdict) → ListsChecked 1 f ds v ↔ ListsChecked 2 f ds v
check_agrees f ds none v =
    agreed f (length ds) none (λ order read. Judged order v) (λ order order' read carries. carry_judged order order' carries v)
    (λ read. ClauseCause f.n f.clauses ∷ ListCause f.n read ds ∷ [])

-- Any two verdicts that the promise allows are equal.
pub check_settled : (rule : ℕ) (f : Formula) (ds : List ℕ) (v w : Verdict) → ListsChecked rule f ds v → ListsChecked rule f ds w → v ≡ w
check_settled rule f ds v w = judged_unique (check_lists_order rule f ds) v w
