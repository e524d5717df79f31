-- Loose rows point to themselves or lower, so that they can be settled; settled and written out they represent what they stood for (written_exact).
use Rattle.grow_union_find.proofs.Steps.{class_falls}
use Rattle.grow_passes.proofs.Passes.{ends_classes}
use Rattle.grow_rows.proofs.Exact.{written_exact}
use Rattle.grow_rows.proofs.write_exact.Goals as goal

pub settle-requires : goal.settle-requires
settle-requires c =
    let rows = c.requires.rows in
    record {
      table = ends_classes rows.1 rows.0;
      falling = class_falls rows.0;
    }

pub returns : goal.returns
returns c =
    let g = c.requires.rows.0 in
    record { exact = λ es d. written_exact d g c.settle.ensures.settled c.write_out.ensures.written }
