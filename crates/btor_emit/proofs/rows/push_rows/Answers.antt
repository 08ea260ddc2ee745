use Rattle.std.proofs.Common.{length}
use Rattle.btor_emit.specs.Marks.{has_mark}
use Rattle.btor_emit.proofs.Inputting.{row_inside}
use Rattle.btor_emit.proofs.Rowing.{kept_step}
use Rattle.btor_emit.proofs.rows.push_rows.Goals as goal

pub has_mark-requires : goal.has_mark-requires
has_mark-requires c = row_inside (length c.args.marks.now) c.args.rows.now c.loop-k.k c.row-row.result.now c.requires c.row-row.ensures

pub loop-k-preserved : goal.loop-k-preserved
loop-k-preserved c = kept_step (has_mark c.args.marks.now) c.has_mark.result c.args.rows.now c.loop-k.k c.row-row.result.now c.args.read.now c.loop-k.read c.push_if.new.read c.row-row.ensures c.has_mark.ensures c.loop-k.invariant c.in_ok-push_if.ensures
