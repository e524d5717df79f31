-- The chain counts the 0 entries, and each closes a clause (cut_counted).
use mathlib.Core.Path.{◌≡◌, sym, ◌∙◌}
use mathlib.Core.Bool.{Bool}
use native.Mathlib.Omega.{arith}
use lib.IntN.{ℤ}
use Rattle.std.proofs.Common.{rules}
use Rattle.std.specs.List.{count_by}
use Rattle.std.proofs.lemmas.List.Sums.{count_by-le-length}
use Rattle.terms.specs.Literals.{variable_of}
use Rattle.formula.specs.Meaning.{is_zero, clauses}
use Rattle.listing.proofs.Counts.{cut_counted}
use Rattle.listing.proofs.count_clauses.Goals as goal

abbrev closes : ℤ → Bool
closes literal = is_zero (variable_of literal)

pub returns : goal.returns
unfolding clauses
returns c =
    let entries = c.args.clauses.now in
    let chain : c.count.result ≡ count_by closes entries = search rules in
    record { counted = (chain ∙ sym (cut_counted closes entries), omega (arith, chain, count_by-le-length closes entries)) }
