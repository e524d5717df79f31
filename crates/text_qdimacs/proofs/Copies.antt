-- The laws of copying: what a scan left in one pair of tables, copied into another.
use Prim.Native.Nat.{ℕ, ◌+◌, ◌<◌, ◌≤◌}
use mathlib.Core.Path.{◌≡◌, refl, sym, ap, ◌∙◌}
use mathlib.Core.List.{List, [], ◌∷◌, ◌++◌}
use native.Mathlib.Omega.{arith}
use lib.ListN.{length, take, drop, get_or}
use lib.Seq.{sets, sets-eq, length-sets, take_at}
use lib.IntN.{ℤ}
use Rattle.std.proofs.lemmas.List.{ext_get_or}
use Rattle.text_qdimacs.specs.InnerScans.{Scanned, Held}

-- Two tables of one length that have the same in each row are one.
module _ {A : Type 0} where
  pub same_rows : (now from : List A) → length now ≡ length from → ((d : A) (k : ℕ) → k < length now → get_or now k d ≡ get_or from k d) → now ≡ from
  same_rows [] [] long each = refl
  same_rows [] (x ∷ from) long each = absurd (omega arith)
  same_rows (x ∷ now) from long each = ext_get_or x (x ∷ now) from long (each x)

  -- what was stored stands in front, if the table has rows for all of it
  pub front_stored : (xs before after : List A) (count : ℕ) → count ≡ length xs → after ≡ sets before 0 xs → count ≤ length after → take count after ≡ xs
  front_stored xs before after count counted stored room =
      let long = ap length stored ∙ length-sets before 0 xs in
      ap (take count) (stored ∙ sets-eq xs before 0 (omega arith)) ∙ take_at xs (drop (0 + length xs) before) count (sym counted)

  -- rows in front of a table that has so many are stored there
  pub front_put : (xs rows before : List A) (count : ℕ) → count ≡ length xs → rows ≡ xs → count ≤ length before → rows ++ drop count before ≡ sets before 0 xs
  front_put xs rows before count counted same room =
      let behind : count ≡ 0 + length xs = omega arith in
      ap (λ (r : List A). r ++ drop count before) same ∙ ap (λ (k : ℕ). xs ++ drop k before) behind ∙ sym (sets-eq xs before 0 (omega arith))

-- what a scan left, in other tables
module _ {n entries literals : ℕ} {text own-prefix : List ℕ} {own-clauses : List ℤ} (held : Held n entries literals text own-prefix own-clauses) where
  pub held_copied : entries ≤ length own-prefix → literals ≤ length own-clauses → (prefix rows : List ℕ) (clauses rows' : List ℤ)
      → entries ≤ length prefix → literals ≤ length clauses → rows ≡ take entries own-prefix → rows' ≡ take literals own-clauses
      → Scanned n entries literals text (prefix, clauses) (rows ++ drop entries prefix, rows' ++ drop literals clauses)
  held_copied e l prefix rows clauses rows' e-room l-room p c =
      let s = held.scanned in
      record {
        P = s.P;
        C = s.C;
        text_of = s.text_of;
        entries_counted = s.entries_counted;
        literals_counted = s.literals_counted;
        prefix_stored =
            front_put s.P rows prefix entries s.entries_counted (p ∙ front_stored s.P held.before.0 own-prefix entries s.entries_counted s.prefix_stored e)
            e-room;
        clauses_stored =
            front_put s.C rows' clauses literals s.literals_counted
            (c ∙ front_stored s.C held.before.1 own-clauses literals s.literals_counted s.clauses_stored l) l-room;
      }
