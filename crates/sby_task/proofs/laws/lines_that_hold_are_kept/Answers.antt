use Rattle.sby_task.proofs.Blocks.{line_kept, line_dropped}
use Rattle.sby_task.proofs.laws.lines_that_hold_are_kept.Goals as goal

pub returns-clause-kept : goal.returns-clause-kept
returns-clause-kept c = line_kept

pub returns-clause-dropped : goal.returns-clause-dropped
returns-clause-dropped c = line_dropped
