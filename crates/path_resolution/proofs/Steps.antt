-- The two steps of the walk: marks that are added one walk after the other, along a variable's occurrence list (its chain) and through the entries of a
-- clause.
use Prim.Native.Nat.{ℕ, suc, ◌+◌, ◌-◌, ◌≤◌, ◌<◌}
use mathlib.Core.Path.{◌≡◌, refl, sym, ap, ◌∙◌, subst}
use mathlib.Core.Bool.{Bool, true, false}
use mathlib.Core.List.{List}
use mathlib.Core.Logic.{◌≢◌, ◌⊎◌, inl, inr, ⊎_elim, by_cases}
use native.Mathlib.Decide.{ℕ_discrete, dec_lt}
use native.Mathlib.Omega.{arith}
use lib.IntN.{ℤ, neg_ℤ}
use lib.ListN.{length, get_or, set, length-set}
use lib.Seq.{get_or-set_same, get_or-set_other}
use Rattle.terms.specs.Literals.{variable_of}
use Rattle.terms.specs.InnerLiteralRows.{row_of, other_row}
use Rattle.terms.proofs.Common.{clash}
use Rattle.formula.specs.Tables.{literal_at}
use Rattle.sets_occurrences.specs.InnerThreads.{LastZero, Inside, Connecting, link_at, On, Noted}
use Rattle.sets_occurrences.proofs.Chains.{last_one, inside_one, on_some, on_here, on_later, on_cases}
use Rattle.path_resolution.specs.InnerWalk.{marked, Leaves, Passes, Walk, starts, steps, Grown, Walked, Chained}
use Rattle.path_resolution.proofs.Marks.{row_one, row_complement, complement_row, complement_variable}
use Rattle.path_resolution.proofs.Places.{one_literal}

-- either a flag is set or it is not
flag_cases : (b : Bool) {A : Type 0} → (b ≡ true → A) → (b ≡ false → A) → A
flag_cases true f g = f refl
flag_cases false f g = g refl

-- One mark more.
module _ (a : List Bool) (m : ℤ) (room : row_of m < length a) where
  set_same : (l : ℤ) → row_of l ≢ row_of m → marked (set a (row_of m) true) l ≡ marked a l
  set_same l other = get_or-set_other a (row_of m) (row_of l) true false other

  set_kept : (row : ℕ) → get_or a row false ≡ true → get_or (set a (row_of m) true) row false ≡ true
  set_kept row t =
      by_cases (ℕ_discrete row (row_of m)) (λ q. ap (λ r. get_or (set a (row_of m) true) r false) q ∙ get_or-set_same a (row_of m) true false room)
      (λ other. get_or-set_other a (row_of m) row true false other ∙ t)

  set_free : (l : ℤ) → marked (set a (row_of m) true) l ≡ false → marked a l ≡ false
  set_free l f = flag_cases (marked a l) (λ t. absurd (clash (set_kept (row_of l) t) f)) (λ f'. f')

-- A walk is one also where less is marked, and from starts to which another walk has come.
walk_as : {ls : List ℤ} {a b : List Bool} {S T : ℤ → Type 0} {l : ℤ} → ((m : ℤ) → marked b m ≡ false → marked a m ≡ false)
    → ((m : ℤ) → S m → marked b m ≡ false → Walk ls a T m) → Walk ls b S l → Walk ls a T l
walk_as less first (starts {l = m} s free) = first m s free
walk_as less first (steps {m = m} w pass free) = steps (walk_as less first w) pass (less m free)

module _ {ls : List ℤ} {S : ℤ → Type 0} where
  -- Nothing is added.
  pub grown_none : (marks : List Bool) → Grown ls S marks marks
  grown_none marks = record { size = refl; kept = λ row t. t; come = λ l f t. absurd (clash t f); whole = λ l m f t. absurd (clash t f) }

  free_less : {a b : List Bool} → Grown ls S a b → (m : ℤ) → marked b m ≡ false → marked a m ≡ false
  free_less {a} g m free = flag_cases (marked a m) (λ t. absurd (clash (g.kept (row_of m) t) free)) (λ f. f)

  -- Some marks after others.
  pub grown_then : {a b c : List Bool} → Grown ls S a b → Grown ls S b c → Grown ls S a c
  grown_then {a} {b} {c} f g =
      record {
        size = g.size ∙ f.size;
        kept = λ row t. g.kept row (f.kept row t);
        come =
            λ l old new. flag_cases (marked b l) (λ t. f.come l old t)
            (λ free. walk_as (free_less f) (λ m s fm. starts s (free_less f m fm)) (g.come l free new));
        whole = λ l m old new pass. flag_cases (marked b l) (λ t. g.kept (row_of m) (f.whole l m old t pass)) (λ free. g.whole l m free new pass);
      }

  -- The marks of a walk from other starts.
  pub grown_as : {T : ℤ → Type 0} {a b : List Bool} → ((m : ℤ) → S m → T m) → Grown ls S a b → Grown ls T a b
  grown_as more g = record {
    size = g.size;
    kept = g.kept;
    come = λ l old new. walk_as (λ m f. f) (λ m s f. starts (more m s) f) (g.come l old new);
    whole = g.whole;
  }

-- One mark, and all that the walk on from there adds.
grown_new : {ls : List ℤ} {S : ℤ → Type 0} {a b : List Bool} (m : ℤ) → S m → marked a m ≡ false → row_of m < length a
    → Walked ls (Passes ls (neg_ℤ m)) (set a (row_of m) true) b → Grown ls S a b
grown_new {ls} {S} {a} m start free room w =
    record {
      size = w.grown.size ∙ length-set a (row_of m) true;
      kept = λ row t. w.grown.kept row (set_kept a m room row t);
      come = λ l old new.
          by_cases (ℕ_discrete (row_of l) (row_of m)) (λ q. subst (Walk ls a S) (sym (row_one l m q)) (starts start free))
          (λ other. walk_as (set_free a m room) (λ k pass f. steps (starts start free) pass (set_free a m room k f))
          (w.grown.come l (set_same a m room l other ∙ old) new));
      whole = λ l k old new pass.
          by_cases (ℕ_discrete (row_of l) (row_of m)) (λ q. w.all k (subst (λ h. Passes ls (neg_ℤ h) k) (row_one l m q) pass))
          (λ other. w.grown.whole l k (set_same a m room l other ∙ old) new pass);
    }

-- What the literal step knows at k on the chain of the variable of l: what is ahead is on the chain, and all clauses behind that are entered by the
-- complement are left.
pub record Stepping (ls : List ℤ) (heads next : List ℕ) (l : ℤ) (before after : List Bool) (k : ℕ) : Type 0 where
  pub grown : Grown ls (Passes ls (neg_ℤ l)) before after
  pub ahead : (p : ℕ) → On next p k → On next p (get_or heads (variable_of l) 0)
  pub behind : (p : ℕ) → On next p (get_or heads (variable_of l) 0)
      → On next p k ⊎ (literal_at ls p ≡ neg_ℤ l → (m : ℤ) → Leaves ls p m → marked after m ≡ true)

module _ {ls : List ℤ} {heads next : List ℕ} (chained : Chained ls heads next) {l : ℤ} {before after : List Bool} {k : ℕ}
    (s : Stepping ls heads next l before after k) where
  module _ (some : k ≢ 0) where
    -- the entry that the chain stands at
    abbrev q : ℕ
    q = k - 1

    is : k ≡ suc q
    is = omega arith

    pub step_noted : Noted ls next (length ls) (variable_of l) q
    step_noted = chained.sound (variable_of l) q (s.ahead q (on_here q is))

    pub step_within : q < length next
    step_within = let less = step_noted.before in let room = chained.links in omega arith

    on_ahead : (p : ℕ) → On next p (link_at next q) → On next p (get_or heads (variable_of l) 0)
    on_ahead p o = s.ahead p (on_later q is o)

    -- An entry with another literal.
    pub step_other : {row complement : ℕ} → row ≡ row_of (literal_at ls q) → complement ≡ other_row l → row ≢ complement
        → Stepping ls heads next l before after (link_at next q)
    step_other r-is c-is other =
        record {
          grown = s.grown;
          ahead = on_ahead;
          behind =
              λ p o.
              ⊎_elim (λ on. ⊎_elim (λ e. inr (λ entered. absurd (none (ap (literal_at ls) (sym e) ∙ entered)))) inl (on_cases q is on)) inr
              (s.behind p o);
        }
      where
        none : literal_at ls q ≡ neg_ℤ l → ⊥
        none e = other (r-is ∙ complement_row l (literal_at ls q) (step_noted.inside.literals q step_noted.inside.from (omega arith)) e ∙ sym c-is)

    -- An entry with the complement: its clause is left by all that it may be left by.
    pub step_clause : {row complement : ℕ} → row ≡ row_of (literal_at ls q) → complement ≡ other_row l → row ≡ complement
        → {more : List Bool} → Walked ls (Leaves ls q) after more → Stepping ls heads next l before more (link_at next q)
    step_clause r-is c-is same w =
        record {
          grown =
              grown_then s.grown (grown_as
              (λ m leaves. record { entry = q; entered = row_complement l (literal_at ls q) (sym r-is ∙ same ∙ c-is); leaves = leaves })
              w.grown);
          ahead = on_ahead;
          behind =
              λ p o. ⊎_elim (λ on. ⊎_elim (λ e. inr (λ _ m leaves. w.all m (subst (λ i. Leaves ls i m) e leaves))) inl (on_cases q is on))
              (λ done. inr (λ entered m leaves. w.grown.kept (row_of m) (done entered m leaves))) (s.behind p o);
        }

  -- The chain is at its end: every clause that has the complement is left.
  pub step_end : k ≡ 0 → Walked ls (Passes ls (neg_ℤ l)) before after
  step_end done = record { grown = s.grown; all = all' }
    where
      all' : (m : ℤ) → Passes ls (neg_ℤ l) m → marked after m ≡ true
      all' m pass =
          let leaves = pass.leaves in
          let (q, on, inside) = chained.complete leaves.start pass.entry leaves.own leaves.connecting in
          let here : On next q (get_or heads (variable_of l) 0) =
          subst (λ v. On next q (get_or heads v 0)) (ap variable_of pass.entered ∙ complement_variable l) on in
          let own : variable_of (literal_at ls q) ≡ variable_of l = (chained.sound (variable_of l) q here).is in
          let same : literal_at ls q ≡ literal_at ls pass.entry =
          one_literal inside leaves.own leaves.connecting (own ∙ sym (ap variable_of pass.entered ∙ complement_variable l)) in
          ⊎_elim (λ o. absurd (on_some o done))
          (λ past. past (same ∙ pass.entered) m (record {
            start = leaves.start;
            place = leaves.place;
            own = inside;
            other = leaves.other;
            connecting = leaves.connecting;
            is = leaves.is;
            another = λ e. leaves.another (sym (ap variable_of same) ∙ e);
          }))
          (s.behind q here)

-- What the clause step knows at entry i of the clause of p: every literal passed that the clause may be left by is marked.
pub record Leaving (ls : List ℤ) (p start : ℕ) (before after : List Bool) (i : ℕ) : Type 0 where
  pub grown : Grown ls (Leaves ls p) before after
  pub inside : Inside ls start p
  pub connecting : Connecting ls start
  pub from : start ≤ i
  pub literals : (e : ℕ) → start ≤ e → e < i → variable_of (literal_at ls e) ≢ 0
  pub left : (e : ℕ) → start ≤ e → e < i → variable_of (literal_at ls p) ≢ variable_of (literal_at ls e) → marked after (literal_at ls e) ≡ true

pub leave_none : {ls : List ℤ} {p start : ℕ} (marks : List Bool) → (s : ℕ) × Inside ls s p × Connecting ls s → LastZero ls p start
    → Leaving ls p start marks marks start
leave_none {ls} {p} {start} marks (s, inside, connecting) last =
    let q = last_one inside last in
    record {
      grown = grown_none marks;
      inside = subst (λ i. Inside ls i p) q inside;
      connecting = subst (Connecting ls) q connecting;
      from = omega arith;
      literals = λ e l g. absurd (omega arith);
      left = λ e l g. absurd (omega arith);
    }

module _ {ls : List ℤ} {p start : ℕ} {before after : List Bool} {i : ℕ} (s : Leaving ls p start before after i)
    (some : variable_of (literal_at ls i) ≢ 0) where
  all_literals : (e : ℕ) → start ≤ e → e < i + 1 → variable_of (literal_at ls e) ≢ 0
  all_literals e l g =
      by_cases (ℕ_discrete e i) (λ q. subst (λ j. variable_of (literal_at ls j) ≢ 0) (sym q) some) (λ other. s.literals e l (omega arith))

  -- A literal by which the clause may not be left, or that is marked.
  pub leave_past : (variable_of (literal_at ls p) ≢ variable_of (literal_at ls i) → marked after (literal_at ls i) ≡ true)
      → Leaving ls p start before after (i + 1)
  leave_past here =
      record {
        grown = s.grown;
        inside = s.inside;
        connecting = s.connecting;
        from = let f = s.from in omega arith;
        literals = all_literals;
        left =
            λ e l g. by_cases (ℕ_discrete e i)
            (λ q. subst (λ j. variable_of (literal_at ls p) ≢ variable_of (literal_at ls j) → marked after (literal_at ls j) ≡ true) (sym q) here)
            (λ other. s.left e l (omega arith));
      }

  -- One by which it is left now.
  pub leave_new : {more : List Bool} (m : ℤ) → m ≡ literal_at ls i → variable_of (literal_at ls p) ≢ variable_of m → marked after m ≡ false
      → row_of m < length after → Walked ls (Passes ls (neg_ℤ m)) (set after (row_of m) true) more → Leaving ls p start before more (i + 1)
  leave_new {more} m is another free room w =
      record {
        grown = grown_then s.grown new;
        inside = s.inside;
        connecting = s.connecting;
        from = let f = s.from in omega arith;
        literals = all_literals;
        left =
            λ e l g apart. by_cases (ℕ_discrete e i) (λ q. subst (λ (z : ℤ). marked more z ≡ true) (is ∙ ap (literal_at ls) (sym q))
            (w.grown.kept (row_of m) (get_or-set_same after (row_of m) true false room)))
            (λ other. new.kept (row_of (literal_at ls e)) (s.left e l (omega arith) apart));
      }
    where
      leaves : Leaves ls p m
      leaves = record {
        start = start;
        place = i;
        own = s.inside;
        other = record { begins = s.inside.begins; from = s.from; literals = λ e l g. all_literals e l (omega arith) };
        connecting = s.connecting;
        is = sym is;
        another = another;
      }

      new : Grown ls (Leaves ls p) after more
      new = grown_new m leaves free room w

module _ {ls : List ℤ} {p start : ℕ} {before after : List Bool} {i : ℕ} (s : Leaving ls p start before after i) where
  -- The clause is at its end.
  pub leave_end : variable_of (literal_at ls i) ≡ 0 → Walked ls (Leaves ls p) before after
  leave_end none = record { grown = s.grown; all = all' }
    where
      all' : (m : ℤ) → Leaves ls p m → marked after m ≡ true
      all' m leaves =
          let q : leaves.start ≡ start = inside_one leaves.own s.inside in
          let low = leaves.other.from in
          let high = s.from in
          let less : leaves.place < i =
          by_cases (dec_lt leaves.place i) (λ l. l) (λ l. absurd (leaves.other.literals i (omega arith) (omega arith) none)) in
          subst (λ (z : ℤ). marked after z ≡ true) leaves.is
          (s.left leaves.place (omega arith) less (λ e. leaves.another (e ∙ ap variable_of leaves.is)))
