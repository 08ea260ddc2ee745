use Rattle.lane_run.proofs.start.findings_are_for.Goals as goal

pub returns : goal.returns
returns g c = λ bytes f h. g.met.S.ChildJudge.is_for c.args.judge.now bytes f h
