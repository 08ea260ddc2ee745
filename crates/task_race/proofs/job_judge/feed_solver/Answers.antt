use Rattle.std.proofs.Common.{◌++◌}
use Rattle.task_race.proofs.Answering.{solver_told}
use Rattle.task_race.proofs.job_judge.feed_solver.Goals as goal

pub returns : goal.returns
returns c = λ p job kind bytes goes.
    rw c.judged.ensures (solver_told p job kind c.args.judge.now c.feed.new.self bytes (bytes ++ c.args.piece.now) goes c.feed.result (c.feed.ensures.feeds bytes goes.took))
