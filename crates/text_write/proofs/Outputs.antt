-- The laws of writing's answers: what the writer of accepted tables finds is the first cause in its order, or that there is none.
use Rattle.std.specs.Prelude.{Ok, Err}
use Rattle.terms.specs.Says.{Answer, said, gives}
use Prim.Native.Nat.{ℕ, ◌<◌, ◌≤◌}
use mathlib.Core.Path.{◌≡◌, ap, ◌∙◌}
use mathlib.Core.Logic.{inl, inr}
use mathlib.Core.List.{List}
use native.Mathlib.Omega.{arith}
use native.Mathlib.Nat.{zero-add}
use lib.ListN.{length, take}
use Rattle.terms.specs.Refusals.{Causes, First, FirstOf, None, NoneOf}
use Rattle.terms.proofs.Verdicts.{judges_later}
use Rattle.terms.proofs.Overwritten.{stored_overwritten, overwritten_front}
use Rattle.text_write.specs.Texts.{TEXT-MOST, Overlong, overlong}
use Rattle.text_write.specs.Stored.{ShortOut, short_out, Stored}
use Rattle.text_write.specs.InnerBytes.{Wrote}
use Rattle.text_write.specs.InnerOrders.{write_order, WriteIs, WritesAfter}

-- A text that is too long, read or to be written, and one that is not.
pub first_overlong : (text : List ℕ) → TEXT-MOST < length text → First (Overlong text) 15 TEXT-MOST
first_overlong text h = record { holds = overlong h; leftmost = λ number place c. leftmost c; lowest = λ number c. lowest c }
  where
    leftmost : {number place : ℕ} → Overlong text number place → TEXT-MOST ≤ place
    leftmost (overlong x) = omega arith

    lowest : {number place : ℕ} → Overlong text number place → 15 ≤ number
    lowest (overlong x) = omega arith

pub not_overlong : (text : List ℕ) → length text ≤ TEXT-MOST → None (Overlong text)
not_overlong text short number place (overlong h) = omega arith

module _ (text out : List ℕ) (fits : length text ≤ TEXT-MOST) where
  pub first_short : length out < length text → FirstOf (write_order text out) 14 0
  first_short h = inr (not_overlong text fits, inl (record { holds = short_out h; leftmost = λ number place c. omega arith; lowest = λ number c. lowest c }))
    where
      lowest : {number place : ℕ} → ShortOut text out number place → 14 ≤ number
      lowest (short_out x) = omega arith

  pub stored_whole : length text ≤ length out → (out' : List ℕ) (count : ℕ) → Wrote text out out' 0 count → WriteIs text out out' (Ok count)
  stored_whole room out' count w =
      let e : count ≡ length text = w.end ∙ zero-add (length text) in
      ((not_overlong text fits, (not_short, tt)), record { counted = e; left = w.stored ∙ stored_overwritten text out room })
    where
      not_short : None (ShortOut text out)
      not_short number place (short_out h) = omega arith

-- The text stands in front.
pub text_front : {text out out' : List ℕ} {count : ℕ} → Stored text out out' count → take count out' ≡ text
text_front {text} {out} {out'} s = ap (λ (k : ℕ). take k out') s.counted ∙ ap (take (length text)) s.left ∙ overwritten_front text out

-- Once the tables are accepted, the writer's answer is that of the call.
pub writes_accepted : (order : List Causes) (text out out' : List ℕ) (r : Answer ℕ) → NoneOf order → WriteIs text out out' r → WritesAfter order text out out' r
writes_accepted order text out out' (Ok count) none w = (judges_later order (write_order text out) (gives count) none w.0, w.1)
writes_accepted order text out out' (Err refusal) none w = (judges_later {A = ℕ} order (write_order text out) (said (Err refusal)) none w.0, w.1)
