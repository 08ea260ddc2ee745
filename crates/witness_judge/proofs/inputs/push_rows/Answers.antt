use Rattle.std.proofs.Common.{arith, refl}
use Rattle.witness_judge.proofs.Merging.{rows_pushed}
use Rattle.witness_judge.proofs.inputs.push_rows.Goals as goal

pub loop-cycle-preserved : goal.loop-cycle-preserved
loop-cycle-preserved c =
    let p = rows_pushed c.args.all.now c.args.read.now c.args.rows.now c.loop-cycle.bits.items c.push_row.new.bits.items c.loop-cycle.cycle _ _ c.loop-cycle.invariant.len c.loop-cycle.invariant.rows refl (omega arith) c.in_ok-push_row.ensures.row in
    record { len = p.long; rows = p.same }
