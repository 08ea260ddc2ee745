use Rattle.task_race.proofs.Answering.{stream_ended}
use Rattle.task_race.proofs.job_judge.end_stream.Goals as goal

pub returns : goal.returns
returns c = λ p job kind bytes goes.
    rw c.judged.ensures (stream_ended p job kind c.args.judge.now c.end.new.self bytes bytes goes c.end.result (c.end.ensures.ends bytes goes.took))
