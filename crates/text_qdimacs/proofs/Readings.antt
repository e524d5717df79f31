-- The laws of read's answers: what a scan finds is the first cause in read's order, or that there is none.
use Rattle.std.specs.Prelude.{Ok, Err}
use Rattle.terms.specs.Says.{Answer, fault_number}
use Rattle.terms.specs.declared.Counts.{Counts}
use Prim.Native.Nat.{ℕ, ◌≤◌}
use mathlib.Core.Path.{ap, ◌∙◌}
use mathlib.Core.List.{List}
use mathlib.Core.Logic.{inl, inr}
use native.Mathlib.Omega.{arith}
use lib.ListN.{length}
use lib.IntN.{ℤ}
use Rattle.terms.specs.Refusals.{First, FirstOf, None, NoneOf}
use Rattle.terms.proofs.Overwritten.{stored_overwritten}
pub use Rattle.text_write.proofs.Outputs.{first_overlong, not_overlong}
use Rattle.text_lines.specs.Format.{TextOf, MayFollow, LineCause}
use Rattle.text_qdimacs.specs.InnerScans.{ScanIs}
use Rattle.text_qdimacs.specs.Reading.{TEXT-MOST, NoRoom, no_room_prefix, no_room_clauses, read_order, ReadIs}
use Rattle.text_qdimacs.proofs.Causes.{no_cause}
use Rattle.text_qdimacs.proofs.Unique.{text_same}

module _ (text prefix : List ℕ) (clauses : List ℤ) (short : length text ≤ TEXT-MOST) where
  -- a fault
  pub first_fault : (number place : ℕ) → First (LineCause MayFollow text) number place → FirstOf (read_order text prefix clauses) number place
  first_fault number place f = inr (not_overlong text short, inl f)

  module _ {n : ℕ} {P : List ℕ} {C : List ℤ} (text_of : TextOf n P C text) where
    -- no room
    pub first_room : NoRoom text prefix clauses 14 0 → FirstOf (read_order text prefix clauses) 14 0
    first_room room =
        inr (
          not_overlong text short,
          inr (no_cause text_of, inl (record { holds = room; leftmost = λ number place c. omega arith; lowest = λ number c. lowest c })),
        )
      where
        lowest : {number place : ℕ} → NoRoom text prefix clauses number place → 14 ≤ number
        lowest (no_room_prefix t h) = omega arith
        lowest (no_room_clauses t h) = omega arith

    -- nothing
    pub none : length P ≤ length prefix → length C ≤ length clauses → NoneOf (read_order text prefix clauses)
    none p c = (not_overlong text short, (no_cause text_of, (room, tt)))
      where
        room : None (NoRoom text prefix clauses)
        room number place (no_room_prefix t h) = let same = ap length (text_same text_of t).prefix in omega arith
        room number place (no_room_clauses t h) = let same = ap length (text_same text_of t).clauses in omega arith

    -- the answer of the second scan, where the text is known to be within the rules and to fit
    pub read_all : length P ≤ length prefix → length C ≤ length clauses → (prefix' : List ℕ) (clauses' : List ℤ) (r : Answer Counts)
        → ScanIs text (prefix, clauses) (prefix', clauses') r → ReadIs text prefix prefix' clauses clauses' r
    read_all p c prefix' clauses' (Err refusal) f = absurd (no_cause text_of (fault_number refusal.0) refusal.1 f.holds)
    read_all p c prefix' clauses' (Ok counts) s =
        let same = text_same text_of s.text_of in
        let lp = ap length same.prefix in
        let lc = ap length same.clauses in
        let P-fits : length s.P ≤ length prefix = omega arith in
        let C-fits : length s.C ≤ length clauses = omega arith in (
          none p c,
          record {
            P = s.P;
            C = s.C;
            text_of = s.text_of;
            entries_counted = s.entries_counted;
            literals_counted = s.literals_counted;
            prefix_left = s.prefix_stored ∙ stored_overwritten s.P prefix P-fits;
            clauses_left = s.clauses_stored ∙ stored_overwritten s.C clauses C-fits;
          },
        )
