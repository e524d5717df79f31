-- Every place fits a cell of 32 bits.
use Prim.Native.Nat.{ℕ, ◌≤◌, ◌<◌}
use mathlib.Core.Path.{refl}
use mathlib.Core.Bool.{Bool, true, false}
use mathlib.Core.List.{List, [], ◌∷◌, ◌++◌}
use mathlib.Core.Logic.{◌⊎◌, inl, inr}
use native.Mathlib.Omega.{arith}
use lib.Dec.{eqb}
use lib.IntN.{ℤ}
use lib.ListN.{length}
use Rattle.terms.specs.Refusals.{Causes, At0, FirstOf, NoneOf}
use Rattle.formula.specs.Meaning.{clauses}
use Rattle.formula.specs.Causes.{VariableCount, PrefixLong, ClausesLong, ClauseCause, clause_order}
use Rattle.formula.proofs.Places.{prefix_place, clause_place}
use Rattle.forest_tables.specs.Causes.{ForestCause, short, bad_row, bad_count}
use Rattle.forest_tables.specs.Formula.{variables}
use Rattle.terms.specs.declared.Scheme.{Scheme}
use Rattle.terms.specs.Answers.{TooLong}
use Rattle.formula.specs.Lent.{Formula}
use Rattle.forest_tables.specs.Lent.{Rows}
use Rattle.forest.specs.Causes.{NotUniversal, NotDeeper, entry_order, ask_order, list_order}
use Rattle.sets.specs.Sets.{SetsTooLong, sets_order}
use Rattle.grow_refusals.specs.Admitted.{AddedCause, WrongTally}
use Rattle.grow.specs.Grown.{Standing, class_names, existentials, TooShort, build_order, add_order}
use Rattle.formula_rules.specs.Rules.{read_as, JoinedCause, causes_if, PrefixCauseBy, NoRule, ruled_prefix, check_order, read_by}

-- the places of an order's causes fit 32 bits, if each is the first one
abbrev pub Small : List Causes → Type 0
Small order = (number place : ℕ) → FirstOf order number place → place < 4294967296

-- Orders one after the other: the second is looked at where the first has no cause.
pub small_then : (order more : List Causes) → Small order → (NoneOf order → Small more) → Small (order ++ more)
small_then [] more first later k p f = later tt k p f
small_then (causes ∷ rest) more first later k p (inl f) = first k p (inl f)
small_then (causes ∷ rest) more first later k p (inr f) =
    small_then rest more (λ k' p' g. first k' p' (inr (f.0, g))) (λ none. later (f.0, none)) k p f.1

-- causes whose places are all within a bound that fits
pub small_within : (causes : Causes) (most : ℕ) → most < 4294967296 → ((k p : ℕ) → causes k p → p ≤ most) → Small (causes ∷ [])
small_within causes most fits within k p (inl f) = let l = within k p f.holds in omega arith
small_within causes most fits within k p (inr f) = absurd f.1

pub small_at0 : (number : ℕ) (condition : Type 0) → Small (At0 number condition ∷ [])
small_at0 number condition = small_within (At0 number condition) 0 (omega arith) (λ k p cause. let q = cause.1 in omega arith)

-- nothing to look at; and a cause at place 0, with whatever is looked at after it
pub small_none : Small []
small_none k p f = absurd f

pub small_zero : (number : ℕ) (condition : Type 0) (more : List Causes) → Small more → Small (At0 number condition ∷ more)
small_zero number condition more later = small_then (At0 number condition ∷ []) more (small_at0 number condition) (λ _. later)

-- the entries of a joined prefix and of an added clause, and their lengths
joined_place : {n : ℕ} {es : List ℕ} (k p : ℕ) → JoinedCause n es k p → p ≤ length es
joined_place k p (JoinedCause.ends_inside _ q _) = omega arith
joined_place k p (JoinedCause.no_mark _ m _ _) = let l = m.0 in omega arith
joined_place k p (JoinedCause.too_many_blocks _ m _ _) = let l = m.0 in omega arith
joined_place k p (JoinedCause.outside _ m _) = let l = m.0 in omega arith
joined_place k p (JoinedCause.named_before _ _ m _ _ _) = let l = m.0 in omega arith

ruled_place : (joins : Bool) (n : ℕ) (es : List ℕ) (k p : ℕ) → causes_if joins n es k p → p ≤ length es
ruled_place false n es k p cause = (prefix_place k p cause).1
ruled_place true n es k p cause = joined_place k p cause

added_place : {n : ℕ} {ls : List ℤ} (k p : ℕ) → AddedCause n ls k p → p ≤ length ls
added_place k p (AddedCause.outside _ l _) = omega arith

-- the variables of a forest
forest_place : {n : ℕ} {es : List ℕ} {r : Rows} (k p : ℕ) → ForestCause n es r k p → p ≤ n
forest_place k p (short _ q _) = omega arith
forest_place k p (bad_row _ _ l _) = l
forest_place k p (bad_count _ _ l _ _) = l

-- What is known of n where 1 is not given.
few : (n : ℕ) → NoneOf (VariableCount n ∷ []) → n ≤ 4096
few n none = let over : ¬ (4096 < n) = λ l. none.0 1 0 (refl, refl, l) in omega arith

pub small_clauses : (n : ℕ) (ls : List ℤ) → length ls ≤ 16384 → Small (ClauseCause n ls ∷ [])
small_clauses n ls l = small_within (ClauseCause n ls) 16384 (omega arith) (λ k p cause. let m = (clause_place k p cause).1 in omega arith)

small_added : (n : ℕ) (ls : List ℤ) → length ls ≤ 16384 → Small (AddedCause n ls ∷ [])
small_added n ls l = small_within (AddedCause n ls) 16384 (omega arith) (λ k p cause. let m = added_place k p cause in omega arith)

pub small_forest : (n : ℕ) (es : List ℕ) (r : Rows) → n ≤ 4096 → Small (ForestCause n es r ∷ [])
small_forest n es r l = small_within (ForestCause n es r) 4096 (omega arith) (λ k p cause. let m = forest_place k p cause in omega arith)

module _ (rule n : ℕ) (es : List ℕ) where
  -- the prefix as the rule reads it
  abbrev read : List ℕ
  read = read_as rule es

  -- A prefix of a length within its limit, and whatever is looked at after it.
  pub small_prefix : length es ≤ 8192 → Small (PrefixCauseBy rule n es ∷ [])
  small_prefix l =
      small_within (PrefixCauseBy rule n es) 8192 (omega arith) (λ k p cause. let m = ruled_place (eqb rule 2) n es k p cause in omega arith)

  -- 23, 1, 2 and the prefix; and then causes in a table of literals
  pub small_first : (entries : ℕ) → Small (ruled_prefix rule n es entries)
  small_first entries =
      let long = PrefixLong es ⊎ ClausesLong entries in
      let prefix = PrefixCauseBy rule n es ∷ [] in
      small_zero 23 (NoRule rule) (VariableCount n ∷ At0 2 long ∷ prefix) (small_zero 1 (4096 < n) (At0 2 long ∷ prefix)
      (small_then (At0 2 long ∷ []) prefix (small_at0 2 long)
      (λ none. let most : ¬ (8192 < length es) = λ l. none.0 2 0 (refl, refl, inl l) in small_prefix (omega arith))))

  pub small_two : (ls : List ℤ) (causes : Causes) → (length ls ≤ 16384 → Small (causes ∷ []))
      → Small (ruled_prefix rule n es (length ls) ++ (causes ∷ []))
  small_two ls causes last =
      small_then (ruled_prefix rule n es (length ls)) (causes ∷ []) (small_first (length ls))
      (λ none. let large : ¬ (16384 < length ls) = λ l. none.1.1.0 2 0 (refl, refl, inr l) in last (omega arith))

  -- the forest after what comes first, and then causes at place 0
  small_after : (first : List Causes) (r : Rows) (number : ℕ) (condition : Type 0) → Small first → (NoneOf first → n ≤ 4096)
      → Small (first ++ (ForestCause n read r ∷ At0 number condition ∷ []))
  small_after first r number condition small most =
      small_then first (ForestCause n read r ∷ At0 number condition ∷ []) small
      (λ none. small_then (ForestCause n read r ∷ []) (At0 number condition ∷ []) (small_forest n read r (most none)) (λ _. small_at0 number condition))

  pub small_add : (s : Standing) (ls : List ℤ) → Small (add_order rule n es s ls)
  small_add s ls =
      small_after (ruled_prefix rule n es (length ls) ++ (AddedCause n ls ∷ [])) s.rows 18
      (WrongTally s.tally (class_names (variables n read) s) (existentials (variables n read)))
      (small_two ls (AddedCause n ls) (small_added n ls)) (λ none. few n (none.1.0, tt))

-- The calls that take a formula.
module _ (rule : ℕ) (f : Formula) where
  pub small_check : Small (check_order rule f)
  small_check = small_two rule f.n f.prefix f.clauses (ClauseCause f.n f.clauses) (small_clauses f.n f.clauses)

  pub small_build : (s : Standing) → Small (build_order rule f s)
  small_build s = small_then (check_order rule f) (At0 14 (TooShort f.n s) ∷ []) small_check (λ _. small_at0 14 (TooShort f.n s))

  module _ (r : Rows) where
    pub small_entry : (x y : ℕ) → Small (entry_order rule f r x y)
    small_entry x y =
        let es = read_as rule f.prefix in
        small_after rule f.n f.prefix (ruled_prefix rule f.n f.prefix 0) r 13 (NotUniversal f.n es x ⊎ NotDeeper f.n es x y)
        (small_first rule f.n f.prefix 0) (λ none. few f.n (none.1.0, tt))

    pub small_ask : (x : ℕ) → Small (ask_order rule f r x)
    small_ask x =
        small_after rule f.n f.prefix (check_order rule f) r 13 (NotUniversal f.n (read_as rule f.prefix) x) small_check
        (λ none. few f.n (none.1.0, tt))

    pub small_list : (x : ℕ) (P : ℕ → Type 0) (before : List ℕ) → Small (list_order rule f r x P before)
    small_list x P before = small_then (ask_order rule f r x) (At0 14 (TooLong P before) ∷ []) (small_ask x) (λ _. small_at0 14 (TooLong P before))

    pub small_sets : (scheme : Scheme) (before : List ℕ) → Small (sets_order rule scheme f r before)
    small_sets scheme before =
        small_after rule f.n f.prefix (check_order rule f) r 14 (SetsTooLong scheme (read_by rule f) r before) small_check
        (λ none. few f.n (none.1.0, tt))

pub small_clause : (n : ℕ) (ls : List ℤ) (asked : ℕ) → Small (clause_order n ls asked)
small_clause n ls asked =
    let long = At0 2 (ClausesLong (length ls)) in
    let past = At0 13 (length (clauses ls) ≤ asked) in
    small_zero 1 (4096 < n) (long ∷ ClauseCause n ls ∷ past ∷ [])
    (small_then (long ∷ []) (ClauseCause n ls ∷ past ∷ []) (small_at0 2 (ClausesLong (length ls)))
    (λ none.
    let large : ¬ (16384 < length ls) = λ l. none.0 2 0 (refl, refl, l) in
    small_then (ClauseCause n ls ∷ []) (past ∷ []) (small_clauses n ls (omega arith)) (λ _. small_at0 13 (length (clauses ls) ≤ asked))))
