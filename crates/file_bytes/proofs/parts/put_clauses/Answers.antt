-- The head and the literals behind it are the record of kind 2 (clauses_wrote).
use Rattle.std.proofs.Common.{◌*◌, length, refl, arith, of_calls}
use Rattle.file_format.specs.Numbers.{literal_number}
use Rattle.file_bytes.proofs.Composed.{clauses_wrote}
use Rattle.file_format.specs.Layout.{clauses_kind}
use Rattle.file_bytes.proofs.Sizes.{head_end}
use Rattle.file_bytes.proofs.parts.put_clauses.Goals as goal

pub put_entries-requires : goal.put_entries-requires
put_entries-requires c =
    let head = head_end (4 * length c.args.clauses.now) clauses_kind c.put_head-start.ensures.wrote in
    record { near = (omega (arith, head, c.requires.near.0), omega arith, c.requires.near.1); callable = search of_calls }

pub returns : goal.returns
returns c =
    let ls = c.args.clauses.now in
    record { wrote = clauses_wrote (4 * length ls) ls refl c.put_head-start.ensures.wrote (c.put_entries.ensures.wrote literal_number (λ x y post. search of_calls)) }
