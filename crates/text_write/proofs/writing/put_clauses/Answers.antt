use lib.ListN.{get_or}
use mathlib.Core.Path.{sym, ap, ◌∙◌}
use lib.Dec.{eqb}
use lib.IntN.{ℤ, pos, nat_abs}
use Rattle.text_write.specs.InnerBytes.{literal_bytes}
use Rattle.text_write.proofs.Stores.{small_bits, wrote_as, upto_more, upto_all, literal_most}
use Rattle.text_write.proofs.writing.put_clauses.Goals as goal

pub loop-literal-preserved : goal.loop-literal-preserved
loop-literal-preserved c =
    let l = c.loop-literal in
    let h = c.loop-literal-test.true in
    let z = get_or c.args.clauses.now l.literal-index (pos 0) in
    let small = c.requires.small.2 l.literal-index h in
    let same = small_bits z small in
    let wrote = wrote_as (sym (ap (literal_bytes l.first) same)) c.put_clause_entry-next.ensures.wrote in
    upto_more l.invariant h wrote (literal_most l.first z small) (c.closes-first.ensures.told ∙ ap (λ (x : ℤ). eqb (nat_abs x) 0) same)

pub returns : goal.returns
returns c = record { wrote = upto_all c.loop-literal.invariant c.loop-literal-test.false }
