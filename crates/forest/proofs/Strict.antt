-- Strict sets, of what the calls promise: they lie within the standard ones, and are empty where x has one sign only (rule 5.3); and their first
-- steps with a clause put last.
use Rattle.std.specs.Prelude.{Ok, Err}
use Prim.Native.Nat.{ℕ}
use mathlib.Core.Path.{◌≡◌, refl, sym, ap, ◌∙◌, subst}
use mathlib.Core.Bool.{Bool, false}
use mathlib.Core.List.Memᴰ
use mathlib.Core.List.{List, [], ◌∷◌, ◌++◌, Memᴰ}
use mathlib.Core.Logic.{⊎_elim, ◌↔◌}
use lib.IntN.{ℤ}
use lib.ListN.{length}
use Rattle.formula.specs.Meaning.{clauses, always_true, connected}
use Rattle.forest_theory.specs.Tables.{row}
use Rattle.forest_theory.specs.Counts.{sum}
use Rattle.terms.specs.Listed.{Listed}
use Rattle.forest_theory.proofs.Strict.{strict_member_within, one_sign_entry}
use Rattle.terms.specs.declared.Scheme.TheVariants.{Standard, Strict}
use Rattle.forest_tables.specs.Formula.{signed, SharesBy}
use Rattle.formula.specs.Lent.{Formula}
use Rattle.formula_rules.specs.Rules.{read_by}
use Rattle.forest_tables.specs.Lent.{Rows}
use Rattle.forest.specs.Answers.{EntriesBy, MembersBy, EntriesListed, SetListed, Sized}
use Rattle.forest_entries.proofs.Sides.{connected_open, shares_some, shares_x}

-- The strict set lies within the standard one, by the lent tables, whatever they are.
pub strict_set_within : (f : Formula) (r : Rows) (x y : ℕ) → MembersBy Strict f r x y → MembersBy Standard f r x y
strict_set_within f r x y m = strict_member_within (λ sign z. shares_some sign) m

-- The list of the numbers of which P holds is empty where it holds of none.
none_listed : {P : ℕ → Type 0} → ((v : ℕ) → P v → ⊥) → (list : List ℕ) → Listed P list → list ≡ []
none_listed none [] l = refl
none_listed none (v ∷ list) l = absurd (none v (l.each v (Memᴰ.head refl)))

-- A universal with one sign only, in the clauses that connect, has no strict entry points, an empty strict set, and size 0.
module _ (rule : ℕ) (f : Formula) (r : Rows) (x : ℕ) (sign : Bool)
    (missing : (clause : List ℤ) → Memᴰ clause (clauses f.clauses) → always_true clause ≡ false → Memᴰ (signed sign x) clause → ⊥) where
  no_entry : (e : ℕ) → EntriesBy Strict (read_by rule f) r x e → ⊥
  no_entry e s = one_sign_entry sign (λ z h. missing h.clause h.listed (connected_open h.clause z h.connects) h.literal) s

  pub one_sign_entries : (before after : List ℕ) (count : ℕ) → EntriesListed rule Strict f r x before after (Ok count) → count ≡ 0
  one_sign_entries before after count (none, written) = written.2 ∙ ap length (none_listed no_entry written.0 written.1)

  pub one_sign_set : (before after : List ℕ) (count : ℕ) → SetListed rule Strict f r x before after (Ok count) → count ≡ 0
  one_sign_set before after count (none, written) = written.2 ∙ ap length (none_listed (λ y m. no_entry m.entry m.entered) written.0 written.1)

  pub one_sign_size : (size : ℕ) → Sized rule Strict f r x (Ok size) → size ≡ 0
  unfolding sum
  one_sign_size size (none, sized) = sized.2 ∙ ap (sum (row f.n r.counts)) (none_listed no_entry sized.0 sized.1)

-- With a clause put last that has no x, what shares a clause with a literal of x is what shared one before: with `strict_stays` and
-- `strict_entries_stay` this is demand 3, second sentence, for strict sets.
pub shares_last : {ls longer : List ℤ} (clause : List ℤ) {x : ℕ} → clauses longer ≡ clauses ls ++ (clause ∷ []) → (Memᴰ x (connected clause) → ⊥)
    → (sign : Bool) (y : ℕ) → SharesBy ls sign x y ↔ SharesBy longer sign x y
shares_last {ls} {longer} clause {x} is alone sign y = (
  λ s. let listed = subst (Memᴰ s.clause) (sym is) (Memᴰ.append_left (clause ∷ []) s.listed) in
      record { clause = s.clause; listed = listed; literal = s.literal; connects = s.connects },
  λ s. ⊎_elim (λ m. record { clause = s.clause; listed = m; literal = s.literal; connects = s.connects })
      (λ last. absurd (alone (subst (λ c. Memᴰ x (connected c)) (Memᴰ.eq_of_singleton last) (shares_x sign s))))
      (Memᴰ.append_cases (clauses ls) (subst (Memᴰ s.clause) is s.listed)),
)
