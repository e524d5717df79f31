-- The demands for C, from what the library's calls promise: 0 is returned where the answer accepts, and no refusal has that number.
use Rattle.std.specs.Prelude.{Ok, Err}
use Prim.Native.Nat.{ℕ}
use mathlib.Core.Path.{◌≡◌, refl, sym, ap, ◌∙◌, subst}
use mathlib.Core.List.{List}
use mathlib.Core.Logic.{◌↔◌}
use Rattle.terms.specs.Listed.{Listed}
use Rattle.terms.specs.Refusals.{Causes, NoneOf}
use Rattle.terms.specs.Says.{said, Answer, fault_number}
use Rattle.terms.specs.declared.Tally.{Tally}
use Rattle.terms.proofs.Verdicts.{first_or_none}
use Rattle.formula.specs.Lent.{Formula}
use Rattle.formula_rules.specs.Rules.{read_by}
use Rattle.forest_theory.specs.Reach.{Variables}
use Rattle.forest_tables.specs.Lent.{rows_out}
use Rattle.forest.specs.Answers.{EntriesBy, MembersBy, DependsBy}
use Rattle.grow.specs.Grown.{Standing, standing, Rewrites, Builds, Adds}
use Rattle.dqbf_sets.specs.Depends.{DependsOnBy}
use Rattle.expand.specs.Promise.{result_in}
use Rattle.c_answers.specs.Codes.{scheme_of, cells_of, tally_in}
use Rattle.snowcoddle.specs.Promises.{LentCell, LentTable, Kept, lent_standing, BuildTold}
use Rattle.snowcoddle.specs.Told.{Told, accepted, refused}
use Rattle.demands.specs.Words.{Built, Puts, with_room, no_room}
use Rattle.demands.specs.Demand2.{Demand2}
use Rattle.demands.specs.Demand3.{longer, AddedTo, Demand3}
use Rattle.demands.proofs.Numbers.{KnownFaults, first_some, zero_free, check_free, build_free, entry_free, ask_free, listing_free, sets_free, writing_free, path_free}
use Rattle.demands.proofs.Numbers.{resolution_free, expand_free, store_free, lists_free, listed_set_free, listed_writing_free, clause_free, add_free}
use Rattle.demands.proofs.Numbers.{read_free, read_lists_free, load_free}
use Rattle.demands.proofs.Demand2.{demand2}
use Rattle.demands.proofs.Demand3.{demand3}
use Rattle.demands_c.specs.Calls.{Reads, ReadsCount, TellsWhatIsPromised}
use Rattle.demands_c.specs.Demands.{ZeroIsAccepted, PutsForC, SetForC, AddForC, DemandsForC}
use Rattle.demands_c.proofs.Calls.{tells_what_is_promised}

-- 0 is returned exactly if no cause holds.
zero_is : {order : List Causes} {given kept : Type 0} {returned place place' : ℕ} → KnownFaults order → Told order given kept returned place place'
    → (returned ≡ 0) ↔ NoneOf order
zero_is free (accepted none _ zero _) = (λ _. none, λ _. zero)
zero_is {order} {returned = returned} {place' = place'} free (refused first _) =
    (λ zero. absurd (first_some order (zero_free order free) returned place' first zero), λ none. absurd (first_or_none order returned place' first none))

-- Where 0 is returned, build and add counted rows.
counted : {order : List Causes} {X : Variables} {J : ℕ → ℕ → Type 0} {T : Standing → Type 0} {s s' : Standing} → KnownFaults order → (answer : Answer ℕ)
    → Rewrites order X J T s s' answer → (cells : ℕ → Type 0) (kept : Type 0) (place : LentCell) (returned : ℕ)
    → Reads (said answer) cells kept place returned → returned ≡ 0 → (rows : ℕ) × (answer ≡ Ok rows) × cells rows
counted free (Ok rows) rewrites cells kept place returned reads zero = (rows, refl, reads.2)
counted {order} free (Err refusal) rewrites cells kept place returned reads zero =
    absurd (first_some order (zero_free order free) (fault_number refusal.0) refusal.1 rewrites.judged (sym reads.0 ∙ zero))

-- So what snow_build left is what the library's build may leave, with the tally that stands in its cells.
module _ (rule : ℕ) (f : Formula) (classes parents counts tally : LentTable) (rows place : LentCell) (told : BuildTold rule f classes parents counts tally rows place 0) where
  abbrev lent : Standing
  lent = lent_standing classes parents counts tally

  abbrev left : Tally → Standing
  left after = standing (rows_out classes parents counts) after

  built_for_c : (after : Tally) × Built rule f (left after) × (tally.exit.now ≡ cells_of after)
  built_for_c =
      let (after, answer, builds, reads) = tells_what_is_promised.build rule f classes parents counts tally rows place 0 told in
      let (many, is, cells) = counted (build_free rule f lent) answer builds (λ (k : ℕ). (rows.exit.now ≡ k) × (tally.exit.now ≡ cells_of after))
      (Kept rows × Kept tally) place 0 reads refl in
      (after, record { lent = lent; rows = many; builds = subst (Builds rule f lent (left after)) is builds }, cells.1)

  -- what build was lent is what it was lent here
  built_lent : built_for_c.1.lent ≡ lent
  unfolding built_for_c
  built_lent = refl

-- What the library put, as C reads it.
put : (L : List ℕ → Type 0) (out : LentTable) (count place : LentCell) (returned : ℕ) (answer : Answer ℕ) → ReadsCount answer count place returned
    → Puts L out.entry.now out.exit.now answer → PutsForC L out count place returned
put L out count place returned answer reads (with_room list is fits q left) =
    let r = subst (λ (a : Answer ℕ). ReadsCount a count place returned) q reads in
    PutsForC.with_room list is fits r.0 r.2 left r.1
put L out count place returned answer reads (no_room list is over q left) =
    let r = subst (λ (a : Answer ℕ). ReadsCount a count place returned) q reads in
    PutsForC.no_room list is over r.0 r.1 r.2 left

set_for_c : SetForC
set_for_c rule number f classes parents counts tally rows built x out count place returned told u asked =
    let (after, stands, _) = built_for_c rule f classes parents counts tally rows built told in
    let (answer, listed, reads) = tells_what_is_promised.set rule (scheme_of number) f (rows_out classes parents counts) x out count place returned asked in
    put (Listed (DependsBy (scheme_of number) (read_by rule f) x)) out count place returned answer reads
    (demand2.set rule (scheme_of number) f (standing (rows_out classes parents counts) after) x out.entry.now out.exit.now answer stands u listed)

add_for_c : AddForC
add_for_c rule f clause classes parents counts tally rows place classes' parents' counts' tally' place' returned' classes'' parents'' counts'' tally'' rows'' place''
    returned'' told may same tally-same told' first tally-first told'' =
    let (after, stands, cells) = built_for_c rule f classes parents counts tally rows place told in
    let (after', answer', adds, reads') = tells_what_is_promised.add rule f.n f.prefix classes' parents' counts' tally' clause place' returned' told' in
    let (after'', answer'', builds, reads'') =
    tells_what_is_promised.build rule (longer f clause) classes'' parents'' counts'' tally'' rows'' place'' returned'' told'' in
    let s = standing (rows_out classes parents counts) after in
    let s' = standing (rows_out classes' parents' counts') after' in
    let s'' = standing (rows_out classes'' parents'' counts'') after'' in
    let on : lent_standing classes' parents' counts' tally' ≡ s = λ i. standing (same i) (ap tally_in (tally-same ∙ cells) i) in
    let again : lent_standing classes'' parents'' counts'' tally'' ≡ lent_standing classes parents counts tally =
    λ i. standing (first i) (ap tally_in tally-first i) in
    let added : AddedTo rule f clause s s' = record {
      built = stands;
      may = may;
      answer = answer';
      adds = subst (λ (t : Standing). Adds rule f.n f.prefix t clause s' answer') on adds;
    } in
    let taken = demand3.taken rule f clause s s' added in
    let (is, one) = demand3.building rule f clause s s' s'' answer'' added
    (subst (λ (t : Standing). Builds rule (longer f clause) t s'' answer'') (again ∙ sym (built_lent rule f classes parents counts tally rows place told)) builds) in
    let r = subst (λ (a : Answer ℕ). Reads (said a) (λ (k : ℕ). tally'.exit.now ≡ cells_of after') (Kept tally') place' returned') taken reads' in
    let q = subst
    (λ (a : Answer ℕ). Reads (said a) (λ (k : ℕ). (rows''.exit.now ≡ k) × (tally''.exit.now ≡ cells_of after'')) (Kept rows'' × Kept tally'') place'' returned'')
    is reads'' in (
      r.0,
      q.0,
      ap (λ (t : Standing). t.rows) one,
      r.2 ∙ ap (λ (t : Standing). cells_of t.tally) one ∙ sym q.2.1,
    )

zero_is_accepted : ZeroIsAccepted
zero_is_accepted =
    record {
      check = λ rule f place returned. zero_is (check_free rule f);
      clause = λ n ls asked start len place returned. zero_is (clause_free n ls asked);
      build = λ rule f classes parents counts tally count place returned. zero_is (build_free rule f (lent_standing classes parents counts tally));
      add = λ rule n es classes parents counts tally clause place returned. zero_is (add_free rule n es (lent_standing classes parents counts tally) clause);
      entry_point = λ rule f r x y entry rises place returned. zero_is (entry_free rule f r x y);
      entry_points = λ rule scheme f r x out count place returned. zero_is (listing_free rule f r x (EntriesBy scheme (read_by rule f) r x) out.entry.now);
      set = λ rule scheme f r x out count place returned. zero_is (listing_free rule f r x (MembersBy scheme (read_by rule f) r x) out.entry.now);
      size = λ rule scheme f r x size place returned. zero_is (ask_free rule f r x);
      sets = λ rule scheme f r out count place returned. zero_is (sets_free rule f r scheme out.entry.now);
      read = λ text n prefix entries clauses literals place returned. zero_is (read_free text prefix.entry.now clauses.entry.now);
      write = λ rule f text count place returned. zero_is (writing_free rule f text.entry.now);
      path = λ rule f x y path place returned. zero_is (path_free rule f x y path);
      resolution_set = λ rule f x out count place returned. zero_is (resolution_free rule f x out.entry.now);
      expand = λ rule f x n prefix entries clauses literals place returned. zero_is (expand_free rule f x (result_in prefix clauses));
      check_lists = λ rule f lists place returned. zero_is (lists_free rule f lists);
      listed_set = λ rule scheme f lists x out count place returned.
          zero_is (listed_set_free rule f lists x (DependsOnBy scheme (read_by rule f) lists x) out.entry.now);
      read_lists = λ text n prefix entries clauses literals lists rows place returned.
          zero_is (read_lists_free text (prefix.entry.now, clauses.entry.now, lists.entry.now));
      write_lists = λ rule f lists text count place returned. zero_is (listed_writing_free rule f lists text.entry.now);
      store = λ rule f file count place returned. zero_is (store_free rule f file.entry.now);
      load = λ rule file lent lent' n entries literals with_sets place returned. zero_is (load_free rule file lent);
    }

pub demands_for_c : DemandsForC
demands_for_c = record { zero = zero_is_accepted; set = set_for_c; add = add_for_c }
