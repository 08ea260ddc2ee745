use Rattle.sby_task.proofs.Tasks.{fault_at_row}
use Rattle.sby_task.proofs.expansion.read_rows.Goals as goal

pub returns-in-Err : goal.returns-in-Err
returns-in-Err c =
    let fault = rw c.in-Err.is at c.in_ok-kind.ensures in
    fault_at_row c.args.files.now c.args.rows.now c.loop-row.row-index c.loop-row.draft c.row-item.result c.in-Err.kind _ c.loop-row-test.true c.row-item.is fault c.loop-row.invariant
