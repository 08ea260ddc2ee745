use Rattle.sby_top.proofs.JudgeLemmas.{stream_ended}
use Rattle.sby_top.proofs.judge_stream.end_stream.Goals as goal

pub returns-in-Ok : goal.returns-in-Ok
returns-in-Ok c = λ bytes took. stream_ended c.args.judge.now c.end.new.self bytes c.in-Ok.answer c.end_of.result c.requires c.end_of.ensures.end c.end_of.ensures.is_true (c.in-Ok.ensures.ends bytes took)
