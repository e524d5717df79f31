-- The chain counts the entries whose magnitude is 0, and each closes a clause (counted_by).
use mathlib.Core.Path.{◌≡◌, sym, ◌∙◌}
use lib.Dec.{eqb}
use lib.IntN.{ℤ, nat_abs}
use Rattle.std.proofs.Common.{rules}
use Rattle.std.specs.List.{count_by}
use Rattle.text_write.proofs.Stores.{counted_by}
use Rattle.text_write.proofs.writing.count_clauses.Goals as goal

pub returns : goal.returns
returns c =
    let chain : c.count.result ≡ count_by (λ (z : ℤ). eqb (nat_abs z) 0) c.args.clauses.now = search rules in
    record { counted = chain ∙ sym (counted_by c.args.clauses.now) }
