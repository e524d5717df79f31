-- The laws of read's answers: what a scan finds is the first cause in read's order, or that there is none.
use Rattle.std.specs.Prelude.{Ok, Err}
use Rattle.terms.specs.Says.{Answer, fault_number}
use Rattle.terms.specs.declared.ListedCounts.{ListedCounts}
use Prim.Native.Nat.{ℕ, ◌≤◌}
use mathlib.Core.Path.{ap, ◌∙◌}
use mathlib.Core.List.{List}
use mathlib.Core.Logic.{inl, inr}
use native.Mathlib.Omega.{arith}
use native.Mathlib.Nat.{zero-add}
use lib.ListN.{length}
use lib.IntN.{ℤ}
use Rattle.terms.specs.Refusals.{First, FirstOf, None, NoneOf}
use Rattle.terms.proofs.Overwritten.{stored_overwritten}
use Rattle.text_write.specs.Texts.{TEXT-MOST}
use Rattle.text_write.proofs.Outputs.{not_overlong}
use Rattle.text_lines.specs.Format.{LineCause}
use Rattle.dqbf_text.specs.Format.{ListedText, ListedFollow}
use Rattle.dqbf_text.specs.InnerSteps.{Adds, ScanIs}
use Rattle.dqbf_text.specs.Reading.{Tables, NoListedRoom, no_room_prefix, no_room_clauses, no_room_lists, listed_read_order, FrontFilled, ListedReadIs}
use Rattle.dqbf_text.proofs.Unique.{text_same}
use Rattle.dqbf_text.proofs.Causes.{no_cause}

-- A table that has room for what was added: that stands in front.
module _ {A : Type 0} {P before after : List A} {count : ℕ} (adds : Adds P 0 count before after) (room : length P ≤ length before) where
  filled : FrontFilled P count before after
  filled = record { counted = adds.counted ∙ zero-add (length P); left = adds.stored ∙ stored_overwritten P before room }

module _ (text : List ℕ) (before : Tables) (short : length text ≤ TEXT-MOST) where
  -- a fault
  pub first_fault : (number place : ℕ) → First (LineCause ListedFollow text) number place → FirstOf (listed_read_order text before) number place
  first_fault number place f = inr (not_overlong text short, inl f)

  module _ {n : ℕ} {P L : List ℕ} {C : List ℤ} (text_of : ListedText n P L C text) where
    -- no room
    pub first_room : NoListedRoom text before 14 0 → FirstOf (listed_read_order text before) 14 0
    first_room room =
        inr (
          not_overlong text short,
          inr (no_cause text_of, inl (record { holds = room; leftmost = λ number place c. omega arith; lowest = λ number c. lowest c })),
        )
      where
        lowest : {number place : ℕ} → NoListedRoom text before number place → 14 ≤ number
        lowest (no_room_prefix t h) = omega arith
        lowest (no_room_clauses t h) = omega arith
        lowest (no_room_lists t h) = omega arith

    -- nothing
    pub nothing_wrong : length P ≤ length before.0 → length C ≤ length before.1 → length L ≤ length before.2 → NoneOf (listed_read_order text before)
    nothing_wrong p c l = (not_overlong text short, (no_cause text_of, (room, tt)))
      where
        room : None (NoListedRoom text before)
        room number place (no_room_prefix t h) = let same = ap length (text_same text_of t).prefix in omega arith
        room number place (no_room_clauses t h) = let same = ap length (text_same text_of t).clauses in omega arith
        room number place (no_room_lists t h) = let same = ap length (text_same text_of t).lists in omega arith

    -- the answer of the second scan, where the text is known to be within the rules and to fit
    pub read_all : length P ≤ length before.0 → length C ≤ length before.1 → length L ≤ length before.2 → (after : Tables) (r : Answer ListedCounts)
        → ScanIs text before after r → ListedReadIs text before after r
    read_all p c l after (Err refusal) f = absurd (no_cause text_of (fault_number refusal.0) refusal.1 f.holds)
    read_all p c l after (Ok counts) s =
        let same = text_same text_of s.text_of in
        let lp = ap length same.prefix in
        let lc = ap length same.clauses in
        let ll = ap length same.lists in
        let pr : length s.P ≤ length before.0 = omega arith in
        let cr : length s.C ≤ length before.1 = omega arith in
        let lr : length s.L ≤ length before.2 = omega arith in (
          nothing_wrong p c l,
          record {
            P = s.P;
            C = s.C;
            L = s.L;
            text_of = s.text_of;
            prefix_filled = filled s.prefix_adds pr;
            clauses_filled = filled s.clauses_adds cr;
            lists_filled = filled s.lists_adds lr;
          },
        )
