-- A chain followed to its end: the tops of all that stands beside its entries with some signs are flagged, which is all that shares a clause with x
-- by these signs.
use Prim.Native.Nat.{ℕ, zero, suc, ◌+◌, ◌-◌, ◌≤◌, ◌<◌}
use mathlib.Core.Path.{◌≡◌, refl, sym, ap, ◌∙◌, subst}
use mathlib.Core.Bool.{Bool, true, false}
use mathlib.Core.List.Memᴰ
use mathlib.Core.List.{List, [], Memᴰ}
use mathlib.Core.Logic.{◌≢◌, ◌⊎◌, inl, inr, ⊎_elim, ◌↔◌, by_cases}
use native.Mathlib.Decide.{ℕ_discrete, dec_lt}
use native.Mathlib.Omega.{arith}
use lib.IntN.{ℤ}
use lib.ListN.{length, get_or, drop, drop_of_length-le}
use Rattle.terms.specs.Literals.{variable_of}
use Rattle.formula.specs.Tables.{literal_at, cut}
use Rattle.formula.specs.Meaning.{clauses}
use Rattle.formula.specs.InnerLookup.{NextZero}
use Rattle.formula.proofs.Lookups.{clauses_unclosed}
use Rattle.forest_tables.specs.Formula.{signed, SharesBy}
use Rattle.forest_entries.specs.declared.Side.{Side}
use Rattle.forest_entries.specs.declared.Signs.{Signs}
use Rattle.forest_entries.specs.InnerFlags.{Has, HasLiteral, Sided, By, side_by, Connects, Via}
use Rattle.sets_occurrences.specs.InnerThreads.{Begins, first, after, Inside, Connecting, Beside, Together, link_at, start_at, On, Noted, Threaded, Tied, Closed}
use Rattle.sets_occurrences.proofs.Chains.{inside_one, on_some, on_here, on_later, on_cases}
use Rattle.forest_entries.proofs.Sides.{signed_variable, sign_of, side_has, side_not}
use Rattle.forest_entries.proofs.Flags.{unclosed_none, unclosed_zero, unclosed_end, literal_past, next_none, via_as}
use Rattle.forest_entries.proofs.Flags.{via_or, connects_all, connects_has, connects_open, signed_split, sides_apart}

-- An entry of a clause stands within the table, and before the next 0.
inside_within : {ls : List ℤ} {s p : ℕ} → Inside ls s p → p < length ls
inside_within {ls} {s} {p} i = by_cases (dec_lt p (length ls)) (λ l. l) (λ l. absurd (i.literals p i.from (omega arith) (literal_past ls p (omega arith))))

inside_before : {ls : List ℤ} {s p z : ℕ} → NextZero ls s z → Inside ls s p → p < z
inside_before {p = p} {z = z} next i = by_cases (dec_lt p z) (λ l. l) (λ l. absurd (i.literals z next.from (omega arith) (next_none next)))

-- A clause that is not always true has a variable in one sign only.
module _ {ls : List ℤ} {s p q : ℕ} (i : Inside ls s p) (j : Inside ls s q) (connecting : Connecting ls s) (x : ℕ) where
  one_side : literal_at ls p ≡ signed true x → literal_at ls q ≡ signed false x → ⊥
  one_side a b =
      let (z, next, plain) = connecting in
      let to : z ≤ length ls = next.within (let l = inside_within i in let f = i.from in omega arith) in
      let here : Connects ls s z x = (connects_all ls s z next.from to plain x).1
      (record { place = p; from = i.from; before = inside_before next i; is = ap variable_of a ∙ signed_variable true x }) in
      sides_apart ls x s z next to x (record { place = p; from = i.from; before = inside_before next i; is = a })
      (record { place = q; from = j.from; before = inside_before next j; is = b }) here

same_side : {ls : List ℤ} {s p q : ℕ} (sign : Bool) → Inside ls s p → Inside ls s q → Connecting ls s → (x : ℕ)
    → literal_at ls p ≡ signed sign x → variable_of (literal_at ls q) ≡ x → literal_at ls q ≡ signed sign x
same_side {ls} {s} {p} {q} sign i j connecting x a own = let (other, is) = sign_of (literal_at ls q) in go sign other a (is ∙ ap (signed other) own)
  where
    go : (sign other : Bool) → literal_at ls p ≡ signed sign x → literal_at ls q ≡ signed other x → literal_at ls q ≡ signed sign x
    go true true a b = b
    go true false a b = absurd (one_side i j connecting x a b)
    go false true a b = absurd (one_side j i connecting x b a)
    go false false a b = b

-- What stands beside an entry: the entries of its clause.
module _ {ls : List ℤ} {t p z : ℕ} (inside : Inside ls t p) (connecting : Connecting ls t) (next : NextZero ls t z) where
  beside_has : (v : ℕ) → Beside ls p v → Has ls t z v
  beside_has v b =
      let q : b.start ≡ t = inside_one b.own inside in
      let other = subst (λ s. Inside ls s b.place) q b.other in
      record { place = b.place; from = other.from; before = inside_before next other; is = b.is }

  has_beside : (v : ℕ) → Has ls t z v → Beside ls p v
  has_beside v h =
      record {
        start = t;
        place = h.place;
        own = inside;
        other = record { begins = inside.begins; from = h.from; literals = λ e f g. next.literals e f (let l = h.before in omega arith) };
        connecting = connecting;
        is = h.is;
      }

-- What holds of signs, as it holds of each.
by_as : (signs : Signs) {P Q : Bool → Type 0} → ((sign : Bool) → P sign → Q sign) → By signs P → By signs Q
by_as Signs.Either more = ⊎_elim (λ p. inl (more true p)) (λ p. inr (more false p))
by_as Signs.Positive more = more true
by_as Signs.Negative more = more false

-- What is to come along the chain from k, where its entries have one of the signs.
pub record Along (ls : List ℤ) (next : List ℕ) (signs : Signs) (x k v : ℕ) : Type 0 where
  pub entry : ℕ
  pub on : On next entry k
  pub own : By signs (λ sign. literal_at ls entry ≡ signed sign x)
  pub beside : Beside ls entry v

module _ {ls : List ℤ} {next : List ℕ} {signs : Signs} {x k v : ℕ} (q : ℕ) (e : k ≡ suc q) where
  along_cases : Along ls next signs x k v → (By signs (λ sign. literal_at ls q ≡ signed sign x) × Beside ls q v) ⊎ Along ls next signs x (link_at next q) v
  along_cases a =
      ⊎_elim (λ s. inl (subst (λ p. By signs (λ sign. literal_at ls p ≡ signed sign x)) s a.own, subst (λ p. Beside ls p v) s a.beside))
      (λ o. inr (record { entry = a.entry; on = o; own = a.own; beside = a.beside })) (on_cases q e a.on)

  along_here : By signs (λ sign. literal_at ls q ≡ signed sign x) → Beside ls q v → Along ls next signs x k v
  along_here h b = record { entry = q; on = on_here q e; own = h; beside = b }

  along_past : Along ls next signs x (link_at next q) v → Along ls next signs x k v
  along_past a = record { entry = a.entry; on = on_later q e a.on; own = a.own; beside = a.beside }

along_of : (ls : List ℤ) (next : List ℕ) (signs : Signs) (x k v : ℕ)
    → By signs (λ sign. (q : ℕ) × On next q k × (literal_at ls q ≡ signed sign x) × Beside ls q v) → Along ls next signs x k v
along_of ls next Signs.Either x k v (inl (q, on, is, b)) = record { entry = q; on = on; own = inl is; beside = b }
along_of ls next Signs.Either x k v (inr (q, on, is, b)) = record { entry = q; on = on; own = inr is; beside = b }
along_of ls next Signs.Positive x k v (q, on, is, b) = record { entry = q; on = on; own = is; beside = b }
along_of ls next Signs.Negative x k v (q, on, is, b) = record { entry = q; on = on; own = is; beside = b }

-- What holds of all on the chain from its head, if it is that of x.
abbrev pub Heading : List ℤ → List ℕ → ℕ → ℕ → Type 0
Heading ls next x head = (p : ℕ) → On next p head → Noted ls next (length ls) x p

-- What is told and what is to come, of the tops that are asked for, are what was told at first and all along the chain from its head.
pub record Following (n : ℕ) (tops : List ℕ) (ls : List ℤ) (next : List ℕ) (signs : Signs) (x head : ℕ) (Asked Old New : ℕ → Type 0) (k : ℕ) : Type 0 where
  pub noted : Heading ls next x k
  pub told : (e : ℕ) → Asked e → (New e ⊎ Via n tops (Along ls next signs x k) e) ↔ (Old e ⊎ Via n tops (Along ls next signs x head) e)

pub follow_none : (n : ℕ) (tops : List ℕ) (ls : List ℤ) (next : List ℕ) (signs : Signs) (x head : ℕ) (Asked Old : ℕ → Type 0)
    → Heading ls next x head → Following n tops ls next signs x head Asked Old Old head
follow_none n tops ls next signs x head Asked Old noted = record { noted = noted; told = λ e l. (λ s. s, λ s. s) }

module _ {n : ℕ} {tops : List ℕ} {ls : List ℤ} {next : List ℕ} {signs : Signs} {x head : ℕ} {Asked Old New : ℕ → Type 0} {k : ℕ}
    (f : Following n tops ls next signs x head Asked Old New k) where
  module _ (entry : ℕ) (is : k ≡ suc entry) where
    -- the entry that the chain stands at
    pub follow_noted : Noted ls next (length ls) x entry
    follow_noted = f.noted entry (on_here entry is)

    -- its clause, by the start that its row has
    inside : Inside ls (start_at next entry) entry
    inside = subst (λ s. Inside ls s entry) (sym follow_noted.begun) follow_noted.inside

    pub follow_clause : Connecting ls (start_at next entry)
    follow_clause = subst (Connecting ls) (sym follow_noted.begun) follow_noted.connecting

    -- it is a literal of x, of one sign only
    pub follow_side : (side : Side) (z : ℤ) → z ≡ literal_at ls entry → Sided side (λ sign. z ≡ signed sign (variable_of z))
        → Sided side (λ sign. literal_at ls entry ≡ signed sign x)
    follow_side side z read s = go side s
      where
        own : (sign : Bool) → (z ≡ signed sign (variable_of z)) ↔ (literal_at ls entry ≡ signed sign x)
        own sign =
            let same = ap (signed sign) (ap variable_of read ∙ follow_noted.is) in
            (λ q. sym read ∙ q ∙ same, λ q. read ∙ q ∙ sym same)

        go : (side : Side) → Sided side (λ sign. z ≡ signed sign (variable_of z)) → Sided side (λ sign. literal_at ls entry ≡ signed sign x)
        go Side.Neither s = λ sign q. s sign ((own sign).1 q)
        go Side.Positive s = (own true).0 s
        go Side.Negative s = (own false).0 s

    pub follow_apart : literal_at ls entry ≡ signed true x → literal_at ls entry ≡ signed false x → ⊥
    follow_apart = one_side follow_noted.inside follow_noted.inside follow_noted.connecting x

    -- One entry with one of the signs is passed: all beside it is told.
    pub follow_more : (New' : ℕ → Type 0) (z : ℕ) → By signs (λ sign. literal_at ls entry ≡ signed sign x)
        → NextZero ls (start_at next entry) z → ((e : ℕ) → Asked e → New' e ↔ (New e ⊎ Via n tops (Has ls (start_at next entry) z) e))
        → Following n tops ls next signs x head Asked Old New' (link_at next entry)
    follow_more New' z own nz more =
        record {
          noted = λ p o. f.noted p (on_later entry is o);
          told = λ e l.
              let m = f.told e l in
              let k = more e l in (
                ⊎_elim
                    (λ t. ⊎_elim (λ o. m.0 (inl o))
                    (λ h. m.0 (inr (via_as (λ v g. along_here entry is own (has_beside inside follow_clause nz v g)) h))) (k.0 t))
                    (λ a. m.0 (inr (via_as (λ v b. along_past entry is b) a))),
                λ t. ⊎_elim (λ o. inl (k.1 (inl o)))
                    (λ a. ⊎_elim (λ b. inl (k.1 (inr (via_as (λ v g. beside_has inside follow_clause nz v g.1) b)))) inr
                    (via_or (via_as (λ v b. along_cases entry is b) a)))
                    (m.1 t),
              );
        }

    -- An entry with none of the signs is passed: nothing beside it is told.
    pub follow_past : (By signs (λ sign. literal_at ls entry ≡ signed sign x) → ⊥) → Following n tops ls next signs x head Asked Old New (link_at next entry)
    follow_past none =
        record {
          noted = λ p o. f.noted p (on_later entry is o);
          told = λ e l.
              let m = f.told e l in (
                ⊎_elim (λ o. m.0 (inl o)) (λ a. m.0 (inr (via_as (λ v b. along_past entry is b) a))),
                λ t. ⊎_elim inl (λ a. inr (via_as (λ v b. ⊎_elim (λ h. absurd (none h.0)) (λ later. later) (along_cases entry is b)) a)) (m.1 t),
              );
        }

  -- The chain goes on within the table, to an entry before.
  pub follow_link : k ≢ 0 → (k - 1 < length ls) × (link_at next (k - 1) < k)
  follow_link some =
      let is : k ≡ suc (k - 1) = omega arith in
      let here = follow_noted (k - 1) is in
      (here.before, let l = here.falls in omega arith)

  -- The chain is at its end, and what is along the chain of a universal is what is together with it in a clause.
  pub follow_all : (universals : List Bool) (heads : List ℕ) → head ≡ get_or heads x 0 → Threaded ls universals heads next (length ls)
      → get_or universals x false ≡ true → k ≡ 0 → (e : ℕ) → Asked e
      → New e ↔ (Old e ⊎ Via n tops (λ v. By signs (λ sign. Together ls sign x v)) e)
  follow_all universals heads is threaded u done e l = (
    λ t. ⊎_elim inl (λ a. inr (via_as there a)) ((f.told e l).0 (inl t)),
    λ t. ⊎_elim (λ o. o) (λ a. absurd (on_some a.holds.on done))
        ((f.told e l).1 (⊎_elim inl (λ a. inr (via_as (λ v b. along_of ls next signs x head v (by_as signs (back v) b)) a)) t)),
  )
    where
      there : (v : ℕ) → Along ls next signs x head v → By signs (λ sign. Together ls sign x v)
      there v a = by_as signs (λ sign q. record { place = a.entry; is = q; beside = a.beside }) a.own

      back : (v : ℕ) (sign : Bool) → Together ls sign x v → (q : ℕ) × On next q head × (literal_at ls q ≡ signed sign x) × Beside ls q v
      back v sign t =
          let b = t.beside in
          let (q, on, inside) = threaded.complete x b.start t.place u (inside_within b.own) b.own b.connecting
          (ap variable_of t.is ∙ signed_variable sign x) in
          let own = (threaded.sound x q on).is in (
            q,
            subst (On next q) (sym is) on,
            same_side sign b.own inside b.connecting x t.is own,
            record { start = b.start; place = b.place; own = inside; other = b.other; connecting = b.connecting; is = b.is },
          )

-- The loop along a chain, whatever it tells. It does not name the variable of the chain: what it says holds of any such variable, and there is one.
pub record Tracing (n : ℕ) (tops : List ℕ) (ls : List ℤ) (next : List ℕ) (signs : Signs) (head : ℕ) (Asked Old New : ℕ → Type 0) (k : ℕ) : Type 0 where
  pub follows : (x : ℕ) → Heading ls next x head → Following n tops ls next signs x head Asked Old New k
  pub whose : ℕ
  pub heading : Heading ls next whose head
  pub small : k < 4294967296

pub trace_none : {n : ℕ} {tops : List ℕ} {ls : List ℤ} {first next : List ℕ} {signs : Signs} {x head : ℕ} {Asked Old : ℕ → Type 0}
    → Tied ls first next x → head ≡ get_or first x 0 → head < 4294967296 → Tracing n tops ls next signs head Asked Old Old head
trace_none {n} {tops} {ls} {first} {next} {signs} {x} {head} {Asked} {Old} tied is small =
    record {
      follows = λ x noted. follow_none n tops ls next signs x head Asked Old noted;
      whose = x;
      heading = λ p o. tied.threaded.sound x p (subst (On next p) is o);
      small = small;
    }

module _ {n : ℕ} {tops : List ℕ} {ls : List ℤ} {next : List ℕ} {signs : Signs} {head : ℕ} {Asked Old New : ℕ → Type 0} {k : ℕ}
    (t : Tracing n tops ls next signs head Asked Old New k) where
  module _ (some : k ≢ 0) where
    is_next : k ≡ suc (k - 1)
    is_next = omega arith

    here : Following n tops ls next signs t.whose head Asked Old New k
    here = t.follows t.whose t.heading

    -- The entry stands within the table, and the chain goes on to one before.
    pub trace_link : (k - 1 < length ls) × (link_at next (k - 1) < k)
    trace_link = follow_link here some

    -- Its clause ends somewhere.
    pub trace_clause : {begin : ℕ} → begin ≡ start_at next (k - 1) → (z : ℕ) × NextZero ls begin z
    trace_clause high = let (z, closes, _) = follow_clause here (k - 1) is_next in (z, subst (λ s. NextZero ls s z) (sym high) closes)

    -- The entry was read, and its row: what comes after it, and where its clause begins.
    module _ {z : ℤ} (read : z ≡ literal_at ls (k - 1)) (side : Side) (sided : Sided side (λ sign. z ≡ signed sign (variable_of z)))
        {after begin : ℕ} (low : after ≡ link_at next (k - 1)) (high : begin ≡ start_at next (k - 1)) where
      less : after < 4294967296
      less = let small = t.small in let falls = trace_link.1 in omega arith

      -- It has one of the signs: all beside it is told.
      pub trace_more : (New' : ℕ → Type 0) → side_by signs side ≡ true → (z : ℕ) → NextZero ls begin z
          → ((e : ℕ) → Asked e → New' e ↔ (New e ⊎ Via n tops (Has ls begin z) e)) → Tracing n tops ls next signs head Asked Old New' after
      trace_more New' has z closes more = record { follows = follows'; whose = t.whose; heading = t.heading; small = less }
        where
          follows' : (x : ℕ) → Heading ls next x head → Following n tops ls next signs x head Asked Old New' after
          follows' x noted =
              let f = t.follows x noted in
              let own = side_has signs side _ has (follow_side f (k - 1) is_next side _ read sided) in
              subst (Following n tops ls next signs x head Asked Old New') (sym low)
              (follow_more f (k - 1) is_next New' z own (subst (λ s. NextZero ls s z) high closes)
              (subst (λ s. (e : ℕ) → Asked e → New' e ↔ (New e ⊎ Via n tops (Has ls s z) e)) high more))

      -- It has none of them: nothing beside it is told.
      pub trace_past : side_by signs side ≡ false → Tracing n tops ls next signs head Asked Old New after
      trace_past not = record { follows = follows'; whose = t.whose; heading = t.heading; small = less }
        where
          follows' : (x : ℕ) → Heading ls next x head → Following n tops ls next signs x head Asked Old New after
          follows' x noted =
              let f = t.follows x noted in
              let own = follow_side f (k - 1) is_next side _ read sided in
              subst (Following n tops ls next signs x head Asked Old New) (sym low)
              (follow_past f (k - 1) is_next (side_not signs side _ not own (follow_apart f (k - 1) is_next)))

  -- At the end of the chain of the universal x all that is together with it in a clause is told.
  pub trace_all : {x : ℕ} {first : List ℕ} → Tied ls first next x → head ≡ get_or first x 0 → k ≡ 0
      → (e : ℕ) → Asked e → New e ↔ (Old e ⊎ Via n tops (λ v. By signs (λ sign. Together ls sign x v)) e)
  trace_all {x} {first} tied is done =
      follow_all (t.follows x (λ p o. tied.threaded.sound x p (subst (On next p) is o))) tied.universals first is tied.threaded tied.universal done

-- The next 0, found entry by entry.
pub next_from : (ls : List ℤ) (k start : ℕ) → start + k ≡ length ls → (z : ℕ) × NextZero ls start z
next_from ls zero start q = (start, unclosed_end (unclosed_none ls start) (omega arith))
next_from ls (suc k) start q =
    by_cases (ℕ_discrete (variable_of (literal_at ls start)) 0) (λ z. (start, unclosed_zero (unclosed_none ls start) refl z))
    (λ some. more some (next_from ls k (suc start) (omega arith)))
  where
    more : variable_of (literal_at ls start) ≢ 0 → (z : ℕ) × NextZero ls (suc start) z → (z : ℕ) × NextZero ls start z
    more some (z, n) = (
      z,
      record {
        from = let f = n.from in omega arith;
        within = λ w. n.within (omega arith);
        literals =
            λ e f l. by_cases (ℕ_discrete e start) (λ s. subst (λ i. variable_of (literal_at ls i) ≢ 0) (sym s) some) (λ other. n.literals e (omega arith) l);
        closes = n.closes;
      },
    )

-- In a table that does not end inside a clause every clause is closed.
pub closed_next : {ls : List ℤ} {s z : ℕ} → Closed ls → s < length ls → NextZero ls s z → z < length ls
closed_next {ls} {s} {z} closed l next =
    by_cases (dec_lt z (length ls)) (λ c. c)
    (λ c. absurd (closed (omega arith, λ q. next.literals (length ls - 1) (omega arith) (omega arith) (ap variable_of q))))

module _ (ls : List ℤ) (sign : Bool) (x v : ℕ) where
  -- v shares one of the clauses from `start` on with the literal of x
  abbrev Rest : ℕ → Type 0
  Rest start = SharesBy (drop start ls) sign x v

  empty_rest : (start : ℕ) → clauses (drop start ls) ≡ [] → Rest start → ⊥
  empty_rest start none r = Memᴰ.not-nil (subst (Memᴰ r.clause) none r.listed)

  no_rest : (start : ℕ) → length ls ≤ start → Rest start → ⊥
  unfolding clauses cut
  no_rest start l = empty_rest start (ap clauses (drop_of_length-le ls l))

  -- Clause by clause, from one on with which a clause begins.
  rest_together : (fuel start : ℕ) → length ls ≤ start + fuel → Begins ls start → Rest start → Together ls sign x v
  rest_together zero start enough begins r = absurd (no_rest start (omega arith) r)
  rest_together (suc fuel) start enough begins r =
      by_cases (dec_lt start (length ls))
      (λ l. by (next_from ls (length ls - start) start (omega arith)) (λ z low b r'. rest_together fuel (z + 1) (omega arith) b r'))
      (λ l. absurd (no_rest start (omega arith) r))
    where
      both : (z : ℕ) → NextZero ls start z → z < length ls → HasLiteral ls start z (signed sign x) → Connects ls start z v → Together ls sign x v
      both z next c own other =
          let has = connects_has ls start z next.from (omega arith) v other in
          let plain = connects_open ls start z next.from (omega arith) v other in
          record {
            place = own.place;
            is = own.is;
            beside =
                record {
                  start = start;
                  place = has.place;
                  own = entry own.place own.from own.before;
                  other = entry has.place has.from has.before;
                  connecting = (z, next, plain);
                  is = has.is;
                };
          }
        where
          entry : (p : ℕ) → start ≤ p → p < z → Inside ls start p
          entry p low high = record { begins = begins; from = low; literals = λ e f g. next.literals e f (omega arith) }

      by : (z : ℕ) × NextZero ls start z → ((z : ℕ) → start ≤ z → Begins ls (z + 1) → Rest (z + 1) → Together ls sign x v) → Together ls sign x v
      by (z, next) onward =
          by_cases (dec_lt z (length ls))
          (λ c. ⊎_elim (λ h. both z next c h.0 h.1) (λ r'. onward z next.from (after start z begins next c refl) r')
          ((signed_split ls sign x start z next c v).0 r))
          (λ c. absurd (empty_rest start (clauses_unclosed ls start z next (omega arith)) r))

  -- And back to the first.
  rest_first : {s : ℕ} → Begins ls s → Rest s → Rest 0
  rest_first (first q) r = subst Rest q r
  rest_first (after b z begins next l q) r = rest_first begins ((signed_split ls sign x b z next l v).1 (inr (subst Rest q r)))

  pub together_shares : Closed ls → Together ls sign x v ↔ SharesBy ls sign x v
  together_shares closed = (there, λ r. rest_together (length ls) 0 (omega arith) (first refl) r)
    where
      there : Together ls sign x v → SharesBy ls sign x v
      there t =
          let b = t.beside in
          let low = b.own.from in
          let less = inside_within b.own in
          let (z, next, plain) = b.connecting in
          let closes = closed_next closed (omega arith) next in
          let own : HasLiteral ls b.start z (signed sign x) = record { place = t.place; from = low; before = inside_before next b.own; is = t.is } in
          let other : Has ls b.start z v = record { place = b.place; from = b.other.from; before = inside_before next b.other; is = b.is } in
          rest_first b.own.begins
          ((signed_split ls sign x b.start z next closes v).1 (inl (own, (connects_all ls b.start z next.from (omega arith) plain v).1 other)))
