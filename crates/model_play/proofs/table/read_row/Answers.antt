use Rattle.std.proofs.Common.{arith, ◌∙◌}
use Rattle.model_play.specs.Playing.{cycle_of}
use Rattle.model_play.proofs.Tables.{row_read}
use Rattle.model_play.proofs.table.read_row.Goals as goal

pub returns : goal.returns
returns c =
    let n = c.requires.as_many in
    let a = c.loop-k.auto in
    let t = c.loop-k-test.false in
    row_read (cycle_of c.args.table.now) c.args.places.now c.loop-k.row (a.row ∙ n) (λ k h. c.loop-k.invariant k (omega arith))
