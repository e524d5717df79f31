-- Demand 1: each call's promise says its verdict by its order, and what is left where it refuses; with the theorem that two outcomes are equal, which each
-- crate has for its own calls, and with no cause that has the number 0, that is all that is asked.
use Prim.Native.Nat.{ℕ}
use mathlib.Core.Path.{◌≡◌, refl, subst}
use mathlib.Core.List.{List, []}
use lib.IntN.{ℤ}
use lib.ListN.{get_or}
use denote.Ref.{Bor}
use Rattle.std.specs.Prelude.{Ok, Err}
use Rattle.terms.specs.Answers.{Settles, verdict_by}
use Rattle.terms.specs.Refusals.{Causes, FirstOf, NoneOf, Judges, Judged}
use Rattle.terms.specs.Says.{Said, gives, refuses, said, entry_said, counts_said, listed_said, loaded_said, Answer}
use Rattle.terms.proofs.Verdicts.{judged_unique, verdict_unique, first_or_none}
use Rattle.formula.specs.Causes.{clause_order}
use Rattle.formula.specs.Clause.{begin_of, StandsIn, ClausePart, accepted, refused}
use Rattle.formula.specs.Meaning.{clauses}
use Rattle.formula.proofs.Tight.{clause_tight}
use Rattle.formula_rules.specs.Rules.{read_by, check_order}
use Rattle.forest_theory.specs.Reach.{Variables}
use Rattle.forest.specs.Answers.{EntriesBy, MembersBy}
use Rattle.forest.specs.Causes.{entry_order, ask_order, list_order}
use Rattle.forest.proofs.Demands.{entry_settled, list_settled, size_settled}
use Rattle.sets.specs.Sets.{sets_order}
use Rattle.sets.proofs.Settled.{sets_settled}
use Rattle.grow.specs.Grown.{Standing, Rewrites}
use Rattle.grow.proofs.Tight.{build_tight, add_tight}
use Rattle.text_qdimacs.specs.Reading.{read_order}
use Rattle.text_qdimacs.specs.Stored.{formula_text, writing_order}
use Rattle.text_qdimacs.proofs.Settled.{read_settled, write_settled}
use Rattle.dqbf_lists.specs.Causes.{check_lists_order}
use Rattle.dqbf_sets.specs.Answers.{set_order}
use Rattle.dqbf_sets.proofs.Agreement.{set_settled}
use Rattle.dqbf_sets.specs.Depends.{DependsOnBy}
use Rattle.dqbf_text.specs.Reading.{listed_read_order}
use Rattle.dqbf_text.specs.Stored.{listed_writing_order}
use Rattle.dqbf_text.proofs.Settled.{read_settled as read-lists-settled, write_settled as write-lists-settled}
use Rattle.path_check.specs.Causes.{path_order}
use Rattle.path_resolution.specs.Paths.{resolution_order}
use Rattle.path_resolution.proofs.Outcomes.{resolution_settled}
use Rattle.expand.specs.Promise.{expand_order}
use Rattle.expand.proofs.Tight.{expand_settled}
use Rattle.file_format.specs.Causes.{load_order, store_order}
use Rattle.file_format.proofs.Settled.{store_settled, load_settled}
use Rattle.demands.specs.Demand1.{Held, HeldAlone, ClauseHeld, Demand1}
use Rattle.demands.proofs.Numbers.{KnownFaults, first_some, zero_free, check_free, build_free, entry_free, ask_free, listing_free, sets_free, writing_free, path_free}
use Rattle.demands.proofs.Numbers.{resolution_free, expand_free, store_free, lists_free, listed_set_free, listed_writing_free, clause_free, add_free}
use Rattle.demands.proofs.Numbers.{read_free, read_lists_free, load_free}

-- What is said is right by an order: it accepts where no cause holds, and refuses with the first one.
accepts_none : {Values : Type 0} (order : List Causes) (told : Said Values) → Judges order told → verdict_by told ≡ gives tt → NoneOf order
accepts_none order (gives values) none q = none
accepts_none order (refuses number place) first q = absurd (cc)

refuses_first : {Values : Type 0} (order : List Causes) (told : Said Values) {k p : ℕ} → Judges order told → verdict_by told ≡ refuses k p → FirstOf order k p
refuses_first order (gives values) none q = absurd (cc)
refuses_first {Values} order (refuses number place) first q = subst (Judges order) q first

-- what is left by what is said: where that refuses, what was lent
abbrev Kept : {L : Type 0} → L → L → Said (Unit {0}) → Type 0
Kept lent left (gives none) = Unit {0}
Kept lent left (refuses number place) = left ≡ lent

-- what a promise says: what is right by its order, and what is left
abbrev Says : {L Values : Type 0} → List Causes → L → L → Said Values → Type 0
Says order lent left told = Judges order told × Kept lent left (verdict_by told)

module _ {L A Values : Type 0} {order : List Causes} {lent : L} {says_of : A → Said Values} {Promise : L → A → Type 0} where
  held : ((left left' : L) (answer answer' : A) → Promise left answer → Promise left' answer' → (answer ≡ answer') × (left ≡ left'))
      → ((left : L) (answer : A) → Promise left answer → Says order lent left (says_of answer)) → KnownFaults order → Held order lent says_of Promise
  held settled says free =
      record {
        settled = settled;
        accepts = λ left answer p.
            let judged = (says left answer p).0 in
            (λ q. accepts_none order (says_of answer) judged q, λ none. verdict_unique order (says_of answer) (gives tt) judged none);
        refuses = λ left answer p number place.
            let judged = (says left answer p).0 in
            (λ q. refuses_first order (says_of answer) judged q, λ first. verdict_unique order (says_of answer) (refuses number place) judged first);
        keeps = λ left answer p number place q. subst (Kept lent left) q (says left answer p).1;
        numbers = first_some order (zero_free order free);
      }

-- a call that is lent nothing to write into
nothing_left : (told : Said (Unit {0})) → Kept {L = Unit {0}} tt tt told
nothing_left (gives none) = tt
nothing_left (refuses number place) = refl

module _ {A Values : Type 0} {order : List Causes} {says_of : A → Said Values} {Promise : A → Type 0} where
  held_alone : ((answer answer' : A) → Promise answer → Promise answer' → answer ≡ answer')
      → ((answer : A) → Promise answer → Judges order (says_of answer)) → KnownFaults order → HeldAlone order says_of Promise
  held_alone settled says free =
      held (λ left left' answer answer' p p'. (settled answer answer' p p', refl)) (λ left answer p. (says answer p, nothing_left (verdict_by (says_of answer)))) free

-- a call that answers a verdict and nothing else
judged_held : (order : List Causes) → KnownFaults order → HeldAlone order said (Judged {Values = Unit {0}} order)
judged_held order free = held_alone (judged_unique order) (λ verdict judged. judged) free

-- What a promise of the one shape says, where what is kept is all that was lent.
settles_says : {L Values : Type 0} (order : List Causes) (given : Values → Type 0) (kept : Type 0) (lent left : L) → (kept → left ≡ lent) → (told : Said Values)
    → Settles order given kept told → Says order lent left told
settles_says order given kept lent left same (gives values) s = (s.0, tt)
settles_says order given kept lent left same (refuses number place) s = (s.0, same s.1)

settles_judged : {Values : Type 0} (order : List Causes) (given : Values → Type 0) (kept : Type 0) (told : Said Values) → Settles order given kept told
    → Judges order told
settles_judged order given kept (gives values) s = s.0
settles_judged order given kept (refuses number place) s = s.0

rewrites_says : {order : List Causes} {X : Variables} {J : ℕ → ℕ → Type 0} {T : Standing → Type 0} (s s' : Standing) (answer : Answer ℕ)
    → Rewrites order X J T s s' answer → Says order s s' (said answer)
rewrites_says s s' (Ok count) made = (made.judged, tt)
rewrites_says s s' (Err refusal) made = (made.judged, made.leaves)

clause_held : (n : ℕ) (table : Bor (List ℤ)) (asked : ℕ) → ClauseHeld n table asked
clause_held n table asked = record { settled = clause_tight n table asked; given = there; none = nowhere }
  where
    order : List Causes
    order = clause_order n table.now asked

    there : (part : Bor (List ℤ)) → ClausePart n table asked part → NoneOf order
        → (part.now ≡ get_or (clauses table.now) asked []) × StandsIn table (begin_of (clauses table.now) asked) part
    there part (accepted _ is at) none = (is, at)
    there part (refused number place first _ _) none = absurd (first_or_none order number place first none)

    nowhere : (part : Bor (List ℤ)) → ClausePart n table asked part → (number place : ℕ) → FirstOf order number place → part.now ≡ []
    nowhere part (accepted none _ _) number place first = absurd (first_or_none order number place first none)
    nowhere part (refused _ _ _ is _) number place first = is

pub demand1 : Demand1
demand1 =
    record {
      check = λ rule f. judged_held (check_order rule f) (check_free rule f);
      clause_verdict = λ n ls asked. judged_held (clause_order n ls asked) (clause_free n ls asked);
      clause = clause_held;
      build = λ rule f s. held (λ left left' answer answer'. build_tight f answer answer') (rewrites_says s) (build_free rule f s);
      add = λ rule n es s clause. held (λ left left' answer answer'. add_tight es answer answer') (rewrites_says s) (add_free rule n es s clause);
      entry_point = λ rule f r x y.
          held_alone (entry_settled rule f r x y) (λ answer. settles_judged (entry_order rule f r x y) _ _ (entry_said answer)) (entry_free rule f r x y);
      entry_points = λ rule scheme f r x out.
          held (list_settled rule f r x (λ read. EntriesBy scheme read r x) out)
          (λ left answer. settles_says (list_order rule f r x (EntriesBy scheme (read_by rule f) r x) out) _ _ out left (λ same. same) (said answer))
          (listing_free rule f r x (EntriesBy scheme (read_by rule f) r x) out);
      set = λ rule scheme f r x out.
          held (list_settled rule f r x (λ read. MembersBy scheme read r x) out)
          (λ left answer. settles_says (list_order rule f r x (MembersBy scheme (read_by rule f) r x) out) _ _ out left (λ same. same) (said answer))
          (listing_free rule f r x (MembersBy scheme (read_by rule f) r x) out);
      size = λ rule scheme f r x.
          held_alone (size_settled rule f r x scheme) (λ answer. settles_judged (ask_order rule f r x) _ _ (said answer)) (ask_free rule f r x);
      sets = λ rule scheme f r out.
          held (sets_settled rule scheme f r out)
          (λ left answer. settles_says (sets_order rule scheme f r out) _ _ out left (λ same. same) (said answer))
          (sets_free rule f r scheme out);
      read = λ text prefix clauses.
          held
          (λ left left' answer answer' a b.
          let same = read_settled text prefix clauses left.0 left'.0 left.1 left'.1 answer answer' a b in
          (same.answer, λ i. (same.prefix_rows i, same.clause_rows i)))
          (λ left answer. settles_says (read_order text prefix clauses) _ _ (prefix, clauses) left (λ same i. (same.0 i, same.1 i)) (counts_said answer))
          (read_free text prefix clauses);
      write = λ rule f out.
          held (write_settled (check_order rule f) (formula_text f) out)
          (λ left answer. settles_says (writing_order rule f out) _ _ out left (λ same. same) (said answer))
          (writing_free rule f out);
      path = λ rule f x y path. judged_held (path_order rule f x y path) (path_free rule f x y path);
      resolution_set = λ rule f x out.
          held (resolution_settled rule f x out) (λ left answer. settles_says (resolution_order rule f x out) _ _ out left (λ same. same) (said answer))
          (resolution_free rule f x out);
      expand = λ rule f x out.
          held (expand_settled rule f x out) (λ left answer. settles_says (expand_order rule f x out) _ _ out left (λ same. same) (counts_said answer))
          (expand_free rule f x out);
      store = λ rule f out.
          held (store_settled rule f out) (λ left answer. settles_says (store_order rule f out) _ _ out left (λ same. same) (said answer))
          (store_free rule f out);
      load = λ rule file lent.
          held (load_settled rule file lent) (λ left answer. settles_says (load_order rule file lent) _ _ lent left (λ same. same) (loaded_said answer))
          (load_free rule file lent);
      check_lists = λ rule f lists. judged_held (check_lists_order rule f lists) (lists_free rule f lists);
      listed_set = λ rule scheme f lists x out.
          held (set_settled rule scheme f lists x out)
          (λ left answer. settles_says (set_order rule f lists x (DependsOnBy scheme (read_by rule f) lists x) out) _ _ out left (λ same. same) (said answer))
          (listed_set_free rule f lists x (DependsOnBy scheme (read_by rule f) lists x) out);
      read_lists = λ text before.
          held
          (λ left left' answer answer' a b.
          let same = read-lists-settled text before left left' answer answer' a b in
          (same.answer, λ i. (same.prefix_rows i, same.clause_rows i, same.list_rows i)))
          (λ left answer. settles_says (listed_read_order text before) _ _ before left (λ same i. (same.0 i, same.1 i, same.2 i)) (listed_said answer))
          (read_lists_free text before);
      write_lists = λ rule f lists out.
          held (write-lists-settled rule f lists out)
          (λ left answer. settles_says (listed_writing_order rule f lists out) _ _ out left (λ same. same) (said answer))
          (listed_writing_free rule f lists out);
    }
