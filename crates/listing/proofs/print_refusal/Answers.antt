-- The line of a refusal ends within its buffer, which has room for every line, and it is the one line that the text prints.
use mathlib.Core.Path.{refl, sym, subst}
use mathlib.Core.List.{[], ◌∷◌, append-nil}
use Rattle.std.specs.Io.KnownBytes.{Appends}
use Rattle.listing.proofs.Printed.{line_sent}
use Rattle.listing.proofs.print_refusal.Goals as goal

pub returns : goal.returns
returns g c =
    let (line, prints, size, left) = c.refusal_of-end.ensures.stored in
    let sent = line_sent _ _ line _ size left (c.in_ok-print.ensures.written) in
    record { printed = (line ∷ [], prints, refl, subst (Appends _ _) (sym (append-nil line)) sent) }
