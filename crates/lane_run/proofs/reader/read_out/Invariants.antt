use Rattle.std.proofs.Common.{vec_len}
use Rattle.lane_run.proofs.Readers.{AtRead}
use Rattle.lane_run.proofs.reader.read_out.Given as goal

abbrev pub invariant-loop : goal.invariant-loop
invariant-loop g l = AtRead (g.S.ChildJudge.goes_on l.judge) (g.S.ChildJudge.stands l.judge) (g.S.ChildJudge.stands l.fn.judge) (g.S.ChildJudge.ends l.judge) (g.S.ChildJudge.ends l.fn.judge)
    (g.S.ChildJudge.proves l.judge) (g.S.ChildJudge.proves l.fn.judge) (g.S.ChildJudge.most l.judge) (g.S.ChildJudge.most l.fn.judge)
    (g.P.Pipe.told l.fn.pipe) (g.P.Pipe.told l.pipe) (g.S.ChildJudge.taken l.judge) l.events.events l.events.room (vec_len l.buffer)
