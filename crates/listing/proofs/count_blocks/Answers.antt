-- The chain counts the 0 entries, and each closes a block (cut_counted).
use mathlib.Core.Path.{◌≡◌, sym, ◌∙◌}
use native.Mathlib.Omega.{arith}
use Rattle.std.proofs.Common.{rules}
use Rattle.std.specs.List.{count_by}
use Rattle.std.proofs.lemmas.List.Sums.{count_by-le-length}
use Rattle.formula.specs.Meaning.{is_zero, blocks}
use Rattle.listing.proofs.Counts.{cut_counted}
use Rattle.listing.proofs.count_blocks.Goals as goal

pub returns : goal.returns
unfolding blocks
returns c =
    let entries = c.args.prefix.now in
    let chain : c.count.result ≡ count_by is_zero entries = search rules in
    record { counted = (chain ∙ sym (cut_counted is_zero entries), omega (arith, chain, count_by-le-length is_zero entries)) }
