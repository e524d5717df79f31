-- Notes of the sole tops of clauses: what a note says, one note more, and what two sole tops have in common.
use Prim.Native.Nat.{ℕ, suc, ◌-◌, ◌≤◌, ◌<◌}
use mathlib.Core.Path.{◌≡◌, refl, sym, ◌∙◌, subst}
use mathlib.Core.List.{List}
use mathlib.Core.Logic.{◌≢◌, ◌⊎◌, inr, ⊎_elim, ◌↔◌, by_cases}
use native.Mathlib.Decide.{ℕ_discrete}
use native.Mathlib.Omega.{arith}
use lib.IntN.{ℤ}
use lib.ListN.{length, get_or, set, length-set}
use lib.Seq.{get_or-set_same, get_or-set_other}
use Rattle.std.specs.Prelude.{None, Some, Ok, Err}
use Rattle.formula.specs.InnerLookup.{NextZero}
use Rattle.forest_entries.specs.declared.Signs.{Signs}
use Rattle.forest_entries.specs.InnerFlags.{Has, Via}
use Rattle.sets_occurrences.specs.InnerSoleTops.{Sole, Names, SoleOf}
use Rattle.sets_occurrences.specs.InnerThreads.{start_at}
use Rattle.sets_occurrences.proofs.Followed.{Tracing, trace_link, follow_noted, next_from}
use Rattle.sets_occurrences.proofs.SoleTops.{sole_as, both_tops, both_none}
use Rattle.sets_subtrees.specs.InnerRuns.{Within}
use Rattle.sets_sizes.specs.InnerNotes.{SmallSole, NoteOf, NoteIs, Notes, CommonOf}

-- A note says one thing.
pub note_one : (note : ℕ) (P : ℕ → Type 0) (sole other : Sole) → NoteOf note sole → NoteOf note other → SoleOf sole P → SoleOf other P
note_one note P (Ok None) (Ok None) q q' p = p
note_one note P (Ok (Some a)) (Ok (Some b)) (q, _, _) (q', _, _) p = let same : a.0 ≡ b.0 = omega arith in λ e. subst (λ i. (e ≡ i) ↔ P e) same (p e)
note_one note P (Ok None) (Ok (Some b)) q (q', some, _) p = absurd (omega arith)
note_one note P (Ok (Some a)) (Ok None) (q, some, _) q' p = absurd (omega arith)
note_one note P (Ok None) (Err _) q q' p = absurd (omega arith)
note_one note P (Err _) (Ok None) q q' p = absurd (omega arith)
note_one note P (Ok (Some a)) (Err _) (_, _, other) q p = absurd (other q)
note_one note P (Err _) (Ok (Some b)) q (_, _, other) p = absurd (other q)
note_one note P (Err _) (Err _) q q' p = tt

-- With nothing before it, what is told of a clause is its own.
pub alone_sole : (P : ℕ → Type 0) (sole : Sole) → SoleOf sole (λ e. Names None e ⊎ P e) → SoleOf sole P
alone_sole P sole = sole_as (λ e. (⊎_elim (λ o. absurd o) (λ p. p), inr)) sole

-- A sole top is a variable.
pub sole_small : (n : ℕ) (tops : List ℕ) (ls : List ℤ) (start : ℕ) → n ≤ 4096 → Within n tops → start < length ls → (sole : Sole)
    → ((z : ℕ) → NextZero ls start z → SoleOf sole (Via n tops (Has ls start z))) → SmallSole sole
sole_small n tops ls start few within less (Err _) told = tt
sole_small n tops ls start few within less (Ok None) told = tt
sole_small n tops ls start few within less (Ok (Some top)) told =
    let (z, next) = next_from ls (length ls - start) start (omega arith) in
    let via = (told z next top.0).0 refl in
    let low : top.0 ≤ n = subst (λ e. e ≤ n) via.is (within via.for) in
    (via.some, omega arith)

-- One note more.
pub notes_set : (n : ℕ) (tops : List ℕ) (ls : List ℤ) (notes : List ℕ) (start note : ℕ) → start < length ls → Notes n tops ls notes → NoteIs n tops ls start note
    → Notes n tops ls (set notes start note)
notes_set n tops ls notes start note less (long, right) is = (
  let size = length-set notes start note in omega arith,
  λ s l some. by_cases (ℕ_discrete s start)
      (λ q. subst (λ i. NoteIs n tops ls i (get_or (set notes start note) i 0)) (sym q)
      (subst (NoteIs n tops ls start) (sym (get_or-set_same notes start note 0 (omega arith))) is))
      (λ other.
      let kept = get_or-set_other notes start s note 0 other in
      subst (NoteIs n tops ls s) (sym kept) (right s l (λ z. some (kept ∙ z)))),
)

-- Where no entry has a note, each is right.
pub notes_none : (n : ℕ) (tops : List ℕ) (ls : List ℤ) (notes : List ℕ) → length ls ≤ length notes → ((e : ℕ) → e < length ls → get_or notes e 0 ≡ 0)
    → Notes n tops ls notes
notes_none n tops ls notes long zero = (long, λ s l some. absurd (some (zero s l)))

-- The notes follow the tops: they stay while these do, and else are gone.
pub notes_follow : (n : ℕ) (tops tops' : List ℕ) (ls : List ℤ) (notes notes' : List ℕ) (old new : ℕ) → Notes n tops ls notes → length notes' ≡ length notes
    → (old ≡ new → tops' ≡ tops) → (old ≡ new → notes' ≡ notes) → (old ≢ new → (e : ℕ) → e < length ls → get_or notes' e 0 ≡ 0) → Notes n tops' ls notes'
notes_follow n tops tops' ls notes notes' old new right size same-tops same gone =
    by_cases (ℕ_discrete old new)
    (λ q. subst (λ t. Notes n t ls notes') (sym (same-tops q)) (subst (Notes n tops ls) (sym (same q)) right))
    (λ other. notes_none n tops' ls notes' (let long = right.0 in omega arith) (gone other))

-- What both have.
pub common_both : (P Q : ℕ → Type 0) (both one other : Sole) → CommonOf both one other → SoleOf one P → SoleOf other Q → SoleOf both (λ e. P e × Q e)
common_both P Q (Err _) one other c p q = tt
common_both P Q (Ok both) (Ok one) (Ok other) c p q = both_tops c p q
common_both P Q (Ok both) (Ok one) (Err _) (none, same) p q = subst (λ t. SoleOf (Ok t) (λ e. P e × Q e)) (sym same) (both_none none (λ e b. b.0) p)
common_both P Q (Ok both) (Err _) (Ok other) (none, same) p q = subst (λ t. SoleOf (Ok t) (λ e. P e × Q e)) (sym same) (both_none none (λ e b. b.1) q)
common_both P Q (Ok both) (Err _) (Err _) c p q = absurd c

-- The clause of an entry on a chain begins within the table.
pub trace_start : {n : ℕ} {tops : List ℕ} {ls : List ℤ} {next : List ℕ} {signs : Signs} {head : ℕ} {Asked Old New : ℕ → Type 0} {k : ℕ}
    → Tracing n tops ls next signs head Asked Old New k → k ≢ 0 → {begin : ℕ} → begin ≡ start_at next (k - 1) → begin < length ls
trace_start {k = k} t some {begin} high =
    let is : k ≡ suc (k - 1) = omega arith in
    let here = follow_noted (t.follows t.whose t.heading) (k - 1) is in
    let low = here.inside.from in
    let begun = here.begun in
    let less = (trace_link t some).0 in
    omega arith
