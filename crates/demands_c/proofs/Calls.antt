-- What C is told is what the library promises: the answer is read off the number that is returned and off the cells.
use Rattle.std.specs.Prelude.{Ok, Err}
use Prim.Native.Nat.{ℕ}
use mathlib.Core.Path.{◌≡◌, refl, sym, subst}
use mathlib.Core.List.{List}
use Rattle.terms.specs.Answers.{Settles}
use Rattle.terms.specs.Refusals.{Causes, FirstOf, NoneOf, Judged}
use Rattle.terms.specs.declared.Fault.{Fault}
use Rattle.terms.specs.Says.{said, Answer, Verdict, fault_number}
use Rattle.forest_tables.specs.Lent.{rows}
use Rattle.grow.specs.Grown.{standing}
use Rattle.file_format.specs.Places.{has_sets}
use Rattle.c_answers.specs.Codes.{tally_in}
use Rattle.snowcoddle.specs.Told.{Told, accepted, refused}
use Rattle.snowcoddle.specs.Promises.{LentCell, Kept, Tells, lent_standing}
use Rattle.expand.specs.Promise.{result_in}
use Rattle.demands.proofs.Numbers.{KnownFaults, first_known, check_free, build_free, entry_free, ask_free, listing_free, sets_free, writing_free, path_free}
use Rattle.demands.proofs.Numbers.{resolution_free, expand_free, store_free, lists_free, listed_set_free, listed_writing_free, clause_free, add_free}
use Rattle.demands.proofs.Numbers.{read_free, read_lists_free, load_free}
use Rattle.demands_c.specs.Calls.{Reads, ReadsCount, TellsWhatIsPromised}

-- What is told is one of two.
by_told : {order : List Causes} {given kept R : Type 0} {returned place place' : ℕ} → KnownFaults order
    → (NoneOf order → given → returned ≡ 0 → place' ≡ place → R)
    → ((fault : Fault) → fault_number fault ≡ returned → FirstOf order (fault_number fault) place' → kept → R)
    → Told order given kept returned place place' → R
by_told known take leave (accepted none holds zero same) = take none holds zero same
by_told {order} {place' = place'} known take leave (refused first stays) =
    let fault = first_known order known _ place' first in
    leave fault.0 fault.1 (subst (λ (k : ℕ). FirstOf order k place') (sym fault.1) first) stays

-- A verdict, with whatever else is given and kept.
verdict_told : (order : List Causes) → KnownFaults order → (given kept : Type 0) (place : LentCell) (returned : ℕ) → Tells order given kept place returned
    → (verdict : Verdict) × Judged order verdict × Reads (said verdict) (λ none. given) kept place returned
verdict_told order known given kept place returned =
    by_told known (λ none holds zero same. (Ok tt, none, (zero, same, holds)))
    (λ fault is first stays. (Err (record { 0 = fault; 1 = place.exit.now }), first, (sym is, refl, stays)))

-- A number in a cell, of which P holds, with what is kept beside it.
count_told : (order : List Causes) → KnownFaults order → (P : ℕ → Type 0) (kept : Type 0) (count place : LentCell) (returned : ℕ)
    → Tells order (P count.exit.now) (Kept count × kept) place returned
    → (answer : Answer ℕ) × Settles order P kept (said answer) × ReadsCount answer count place returned
count_told order known P kept count place returned =
    by_told known (λ none holds zero same. (Ok count.exit.now, (none, holds), (zero, same, refl)))
    (λ fault is first stays. (Err (record { 0 = fault; 1 = place.exit.now }), (first, stays.1), (sym is, refl, stays.0)))

pub tells_what_is_promised : TellsWhatIsPromised
tells_what_is_promised =
    record {
      check = λ rule f place returned. verdict_told _ (check_free rule f) (Unit {0}) (Unit {0}) place returned;
      clause = λ n ls asked start len place returned. verdict_told _ (clause_free n ls asked) _ (Kept start × Kept len) place returned;
      build = λ rule f classes parents counts tally count place returned.
          by_told (build_free rule f (lent_standing classes parents counts tally))
          (λ none given zero same. (
            given.1.0,
            Ok f.n,
            record { judged = none; leaves = (refl, given.1.1.0, given.1.1.1) },
            (zero, same, (given.0, given.1.2)),
          ))
          (λ fault is first stays. (
            tally_in tally.entry.now,
            Err (record { 0 = fault; 1 = place.exit.now }),
            record { judged = first; leaves = λ i. standing (rows (stays.1.0 i) (stays.1.1 i) (stays.1.2 i)) (tally_in tally.entry.now) },
            (sym is, refl, (stays.0, stays.1.3)),
          ));
      add = λ rule n es classes parents counts tally clause place returned.
          by_told (add_free rule n es (lent_standing classes parents counts tally) clause)
          (λ none given zero same. (
            given.0,
            Ok n,
            record { judged = none; leaves = (refl, given.1.0, given.1.1) },
            (zero, same, given.2),
          ))
          (λ fault is first stays. (
            tally_in tally.entry.now,
            Err (record { 0 = fault; 1 = place.exit.now }),
            record { judged = first; leaves = λ i. standing (rows (stays.0 i) (stays.1 i) (stays.2 i)) (tally_in tally.entry.now) },
            (sym is, refl, stays.3),
          ));
      entry_point = λ rule f r x y entry rises place returned.
          by_told (entry_free rule f r x y)
          (λ none given zero same. (
            Ok (record { class = record { 0 = entry.exit.now }; rises = rises.exit.now }),
            (none, given),
            (zero, same, (refl, refl)),
          ))
          (λ fault is first stays. (Err (record { 0 = fault; 1 = place.exit.now }), (first, tt), (sym is, refl, stays)));
      entry_points = λ rule scheme f r x out count place returned. count_told _ (listing_free rule f r x _ out.entry.now) _ (Kept out) count place returned;
      set = λ rule scheme f r x out count place returned. count_told _ (listing_free rule f r x _ out.entry.now) _ (Kept out) count place returned;
      size = λ rule scheme f r x size place returned.
          by_told (ask_free rule f r x) (λ none given zero same. (Ok size.exit.now, (none, given), (zero, same, refl)))
          (λ fault is first stays. (Err (record { 0 = fault; 1 = place.exit.now }), (first, tt), (sym is, refl, stays)));
      sets = λ rule scheme f r out count place returned. count_told _ (sets_free rule f r scheme out.entry.now) _ (Kept out) count place returned;
      read = λ text n prefix entries clauses literals place returned.
          by_told (read_free text prefix.entry.now clauses.entry.now)
          (λ none given zero same. (
            Ok (record { n = n.exit.now; prefix = entries.exit.now; clauses = literals.exit.now }),
            (none, given),
            (zero, same, (refl, refl, refl)),
          ))
          (λ fault is first stays. (
            Err (record { 0 = fault; 1 = place.exit.now }),
            (first, (stays.3, stays.4)),
            (sym is, refl, (stays.0, stays.1, stays.2)),
          ));
      write = λ rule f text count place returned. count_told _ (writing_free rule f text.entry.now) _ (Kept text) count place returned;
      path = λ rule f x y path place returned. verdict_told _ (path_free rule f x y path) (Unit {0}) (Unit {0}) place returned;
      resolution_set = λ rule f x out count place returned. count_told _ (resolution_free rule f x out.entry.now) _ (Kept out) count place returned;
      expand = λ rule f x n prefix entries clauses literals place returned.
          by_told (expand_free rule f x (result_in prefix clauses))
          (λ none given zero same. (
            Ok (record { n = n.exit.now; prefix = entries.exit.now; clauses = literals.exit.now }),
            (none, given),
            (zero, same, (refl, refl, refl)),
          ))
          (λ fault is first stays. (
            Err (record { 0 = fault; 1 = place.exit.now }),
            (first, stays.3),
            (sym is, refl, (stays.0, stays.1, stays.2)),
          ));
      check_lists = λ rule f lists place returned. verdict_told _ (lists_free rule f lists) (Unit {0}) (Unit {0}) place returned;
      listed_set = λ rule scheme f lists x out count place returned. count_told _ (listed_set_free rule f lists x _ out.entry.now) _ (Kept out) count place returned;
      read_lists = λ text n prefix entries clauses literals lists rows place returned.
          by_told (read_lists_free text (prefix.entry.now, clauses.entry.now, lists.entry.now))
          (λ none given zero same. (
            Ok (record { n = n.exit.now; prefix = entries.exit.now; clauses = literals.exit.now; lists = rows.exit.now }),
            (none, given),
            (zero, same, (refl, refl, refl, refl)),
          ))
          (λ fault is first stays. (
            Err (record { 0 = fault; 1 = place.exit.now }),
            (first, (stays.4, stays.5, stays.6)),
            (sym is, refl, (stays.0, stays.1, stays.2, stays.3)),
          ));
      write_lists = λ rule f lists text count place returned. count_told _ (listed_writing_free rule f lists text.entry.now) _ (Kept text) count place returned;
      store = λ rule f file count place returned. count_told _ (store_free rule f file.entry.now) _ (Kept file) count place returned;
      load = λ rule file lent lent' n entries literals with_sets place returned.
          by_told (load_free rule file lent)
          (λ none given zero same. (
            Ok (record { n = n.exit.now; prefix = entries.exit.now; clauses = literals.exit.now; sets = has_sets file }),
            (none, (given.count, given.prefix_count, given.clauses_count, refl, given.filled)),
            (zero, same, (refl, refl, refl, given.sets_told)),
          ))
          (λ fault is first stays. (
            Err (record { 0 = fault; 1 = place.exit.now }),
            (first, stays.4),
            (sym is, refl, (stays.0, stays.1, stays.2, stays.3)),
          ));
    }
