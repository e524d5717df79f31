-- A clause copied literal by literal, and clauses copied one after the other: where each loop stands.
use Prim.Native.Nat.{ℕ, suc, ◌+◌, ◌-◌, ◌≤◌, ◌<◌}
use mathlib.Core.Path.{◌≡◌, refl, sym, ap, ◌∙◌}
use mathlib.Core.Bool.{Bool, true, false, cond}
use mathlib.Core.List.{List, [], ◌∷◌, ◌++◌, map, append_assoc}
use mathlib.Core.Logic.{◌≢◌}
use native.Mathlib.Numerals.{add-one}
use native.Mathlib.Omega.{arith}
use borrow.Author.Tests.{eq-eqb, ne_eqb}
use lib.Dec.{eqb}
use lib.IntN.{ℤ, pos}
use lib.ListN.{length, set, take, drop, drop_of_length-le, length-append, length-map, length-take, length-drop}
use lib.Seq.{drop-cons, length-take-le}
use Rattle.terms.specs.Literals.{variable_of}
use Rattle.formula.specs.InnerLookup.{NextZero}
use Rattle.formula.specs.Meaning.{clauses}
use Rattle.formula.specs.Tables.{literal_at, cut}
use Rattle.formula.proofs.Lookups.{clauses_closed, clauses_unclosed}
use Rattle.expand_clauses.specs.Expansion.{without, clause_table}
use Rattle.expand_clauses.specs.InnerCopies.{named, has_copy, copies, expanded_list, expanded_clauses}
use Rattle.expand_clauses.specs.InnerCopied.{Stored, closed, copied}
use Rattle.expand_clauses.proofs.Storing.{stored_one, stored_none, stored_as, stored_more, Onward, onward_none, onward_as, onward_all, onward_more}

-- The literals before entry i are passed, and those that are not of x are stored.
pub record Literals (value : Bool) (x : ℕ) (copy : ℕ → ℕ) (clause out₀ : List ℤ) (at i : ℕ) (out : List ℤ) (end : ℕ) : Type 0 where
  pub within : i ≤ length clause
  pub few : end ≤ at + i
  pub on : Onward (closed value x copy clause) out₀ at (closed value x copy (drop i clause)) out end

module _ {value : Bool} {x : ℕ} {copy : ℕ → ℕ} {clause out₀ : List ℤ} {at i : ℕ} {out : List ℤ} {end : ℕ}
    (s : Literals value x copy clause out₀ at i out end) where
  module _ (more : i < length clause) {variable : ℕ} (is : variable ≡ variable_of (literal_at clause i)) where
    -- what is left from the entry on, by whether the entry is of x
    abbrev rest : List ℤ
    rest = closed value x copy (drop (suc i) clause)

    abbrev left : Bool → List ℤ
    left own = cond own rest (named value copy (literal_at clause i) ∷ rest)

    here : closed value x copy (drop i clause) ≡ left (eqb variable x)
    unfolding without
    here = ap (closed value x copy) (drop-cons clause i (pos 0) more) ∙ by (eqb variable x) (ap (λ (v : ℕ). eqb v x) is)
      where
        kept : Bool → List ℤ
        kept own = cond own (without x (drop (suc i) clause)) (literal_at clause i ∷ without x (drop (suc i) clause))

        by : (b : Bool) → b ≡ eqb (variable_of (literal_at clause i)) x → closed value x copy (literal_at clause i ∷ drop (suc i) clause) ≡ left b
        by true q = sym (ap (λ b. map (named value copy) (kept b) ++ (pos 0 ∷ [])) q)
        by false q = sym (ap (λ b. map (named value copy) (kept b) ++ (pos 0 ∷ [])) q)

    pub literals_x : variable ≡ x → Literals value x copy clause out₀ at (i + 1) out end
    literals_x q =
        rw (add-one i)
        record { within = more; few = omega (arith, s.few); on = onward_as s.on (here ∙ ap left (eq-eqb variable x q)) }

    pub literals_more : {out' : List ℤ} → variable ≢ x → out' ≡ set out end (named value copy (literal_at clause i))
        → Literals value x copy clause out₀ at (i + 1) out' (end + 1)
    literals_more other stored =
        let name = named value copy (literal_at clause i) in
        rw (add-one i)
        record {
          within = more;
          few = omega (arith, s.few);
          on = onward_more (name ∷ []) rest (onward_as s.on (here ∙ ap left (ne_eqb variable x other))) (stored_one name end stored);
        }

  -- At the end of the clause its 0 is stored.
  pub literals_all : {out' : List ℤ} → length clause ≤ i → out' ≡ set out end (pos 0)
      → Stored (closed value x copy clause) out₀ out' at (end + 1)
  unfolding without
  literals_all done stored = onward_all (onward_as s.on (ap (closed value x copy) (drop_of_length-le clause done))) (stored_one (pos 0) end stored)

-- a clause without x has no more literals than with it
without_most : (x : ℕ) (clause : List ℤ) → length (without x clause) ≤ length clause
unfolding without
without_most x [] = omega arith
without_most x (literal ∷ more) = by (eqb (variable_of literal) x) (without_most x more)
  where
    by : (b : Bool) → length (without x more) ≤ length more → length (cond b (without x more) (literal ∷ without x more)) ≤ suc (length more)
    by true l = omega arith
    by false l = omega arith

closed_most : (value : Bool) (x : ℕ) (copy : ℕ → ℕ) (clause : List ℤ) → length (closed value x copy clause) ≤ length clause + 1
closed_most value x copy clause =
    omega (
      arith,
      length-append (map (named value copy) (without x clause)) (pos 0 ∷ []),
      length-map (without x clause) (named value copy),
      without_most x clause,
    )

-- the copies of some clauses, and behind them others
table_append : (cs ds : List (List ℤ)) → clause_table (cs ++ ds) ≡ clause_table cs ++ clause_table ds
unfolding clause_table
table_append [] ds = refl
table_append (c ∷ cs) ds =
    ap (λ (r : List ℤ). c ++ (pos 0 ∷ r)) (table_append cs ds) ∙ sym (append_assoc c (pos 0 ∷ clause_table cs) (clause_table ds))

-- the first clause, and behind it the others
copied_more : (value : Bool) (x : ℕ) (copy : ℕ → ℕ) (clause : List ℤ) (later : List (List ℤ))
    → copied value x copy (clause ∷ later) ≡ copied value x copy (clause ∷ []) ++ copied value x copy later
unfolding copies clause_table
copied_more value x copy clause later = by (has_copy value x copy clause)
  where
    by : (b : Bool)
        → clause_table (cond b (map (named value copy) (without x clause) ∷ copies value x copy later) (copies value x copy later))
        ≡ clause_table (cond b (map (named value copy) (without x clause) ∷ []) []) ++ clause_table (copies value x copy later)
    by true = table_append (map (named value copy) (without x clause) ∷ []) (copies value x copy later)
    by false = refl

-- one clause that has a copy, and one that has none
pub one_copied : (value : Bool) (x : ℕ) (copy : ℕ → ℕ) (clause : List ℤ) → true ≡ has_copy value x copy clause
    → closed value x copy clause ≡ copied value x copy (clause ∷ [])
unfolding copies clause_table
one_copied value x copy clause q = ap (λ b. clause_table (cond b (map (named value copy) (without x clause) ∷ []) [])) q

pub none_copied : (value : Bool) (x : ℕ) (copy : ℕ → ℕ) (clause : List ℤ) → false ≡ has_copy value x copy clause
    → [] ≡ copied value x copy (clause ∷ [])
unfolding copies clause_table
none_copied value x copy clause q = ap (λ b. clause_table (cond b (map (named value copy) (without x clause) ∷ []) [])) q

copied_most : (value : Bool) (x : ℕ) (copy : ℕ → ℕ) (clause : List ℤ) → length (copied value x copy (clause ∷ [])) ≤ length clause + 1
unfolding copies clause_table
copied_most value x copy clause = by (has_copy value x copy clause)
  where
    by : (b : Bool) → length (clause_table (cond b (map (named value copy) (without x clause) ∷ []) [])) ≤ length clause + 1
    by true = closed_most value x copy clause
    by false = omega arith

-- The clauses before entry `start` are passed, and the copies that they have are stored.
pub record Clauses (value : Bool) (x : ℕ) (copy : ℕ → ℕ) (ls out₀ : List ℤ) (at start : ℕ) (out : List ℤ) (end : ℕ) : Type 0 where
  pub within : start ≤ length ls
  pub few : end ≤ at + start
  pub on : Onward (copied value x copy (clauses ls)) out₀ at (copied value x copy (clauses (drop start ls))) out end

pub clauses_none : (value : Bool) (x : ℕ) (copy : ℕ → ℕ) (ls out : List ℤ) (at : ℕ) → Clauses value x copy ls out at 0 out at
clauses_none value x copy ls out at = record { within = omega arith; few = omega arith; on = onward_none }

module _ {value : Bool} {x : ℕ} {copy : ℕ → ℕ} {ls out₀ : List ℤ} {at start : ℕ} {out : List ℤ} {end : ℕ}
    (s : Clauses value x copy ls out₀ at start out end) where
  -- A clause is passed, and the copy that it has is stored.
  pub clauses_more : (z : ℕ) → NextZero ls start z → z < length ls → {out' : List ℤ} {end' : ℕ}
      → Stored (copied value x copy (take (z - start) (drop start ls) ∷ [])) out out' end end'
      → Clauses value x copy ls out₀ at (z + 1) out' end'
  clauses_more z next more stored =
      let clause = take (z - start) (drop start ls) in
      let size : length (take (z - start) (drop start ls)) ≡ z - start =
      length-take-le (z - start) (drop start ls) (rw (length-drop start ls) (omega arith)) in
      record {
        within = omega arith;
        few = omega (arith, s.few, stored.count, copied_most value x copy (take (z - start) (drop start ls)), next.from);
        on = onward_more (copied value x copy (clause ∷ [])) (copied value x copy (clauses (drop (z + 1) ls)))
            (onward_as s.on
            (ap (copied value x copy) (clauses_closed ls start z next more) ∙ copied_more value x copy clause (clauses (drop (z + 1) ls)))) stored;
      }

  done : clauses (drop start ls) ≡ [] → Stored (copied value x copy (clauses ls)) out₀ out at end × (end ≤ at + length ls)
  unfolding copies clause_table
  done none = (onward_all (onward_as s.on (ap (copied value x copy) none)) (stored_none out end), omega (arith, s.few, s.within))

  pub clauses_open : (z : ℕ) → NextZero ls start z → length ls ≤ z
      → Stored (copied value x copy (clauses ls)) out₀ out at end × (end ≤ at + length ls)
  clauses_open z next short = done (clauses_unclosed ls start z next short)

  pub clauses_all : length ls ≤ start → Stored (copied value x copy (clauses ls)) out₀ out at end × (end ≤ at + length ls)
  unfolding clauses cut
  clauses_all over = done (ap clauses (drop_of_length-le ls over))

-- a clause is no longer than its table
pub part_short : (ls : List ℤ) (start z : ℕ) → length (take (z - start) (drop start ls)) ≤ length ls
part_short ls start z = omega (arith, length-take (z - start) (drop start ls), length-drop start ls)

-- First the copies with x false, then those with x true.
pub copied_both : (x : ℕ) (copy : ℕ → ℕ) (ls : List ℤ) {out mid out' : List ℤ} {end end' : ℕ}
    → Stored (copied false x copy (clauses ls)) out mid 0 end → Stored (copied true x copy (clauses ls)) mid out' end end'
    → Stored (expanded_clauses x copy ls) out out' 0 end'
unfolding expanded_clauses expanded_list
copied_both x copy ls first second =
    stored_as (sym (table_append (copies false x copy (clauses ls)) (copies true x copy (clauses ls))))
    (stored_more (copied false x copy (clauses ls)) (copied true x copy (clauses ls)) first second)
