-- The line stands in front of its buffer, as long as its end says, and so it is what is written.
use Prim.Native.Nat.{ℕ}
use mathlib.Core.List.{List}
use Rattle.std.proofs.Common.{Option, None, Some, IfSome}
use Rattle.std.specs.Io.KnownBytes.{Appends}
use Rattle.formula.specs.Lent.{Formula, formula_of}
use Rattle.listing.specs.Listing.{HeadOf}
use Rattle.listing.specs.Inner.{HeadPrinted}
use Rattle.listing.proofs.Printed.{line_sent}
use Rattle.listing.proofs.print_head.Goals as goal

-- Where bytes were written that are the first line, the first line was.
head_sent : {T : Type 0} (told : Option T) (f : Formula) (before after : Option (List ℕ)) (bytes head : List ℕ) → HeadOf f head
    → (Appends before after bytes → Appends before after head) → IfSome told (λ _. Appends before after bytes)
    → IfSome told (λ _. HeadPrinted f before after)
head_sent None f before after bytes head is line p = p
head_sent (Some _) f before after bytes head is line p = (head, is, line p)

pub returns : goal.returns
returns g c =
    let (head, is, size, left) = c.head_of-end.ensures.stored in
    let f = formula_of c.args.n c.args.prefix.now c.args.clauses.now in
    record { printed = head_sent _ f _ _ _ head is (line_sent _ _ head _ size left) c.print.ensures.written }
