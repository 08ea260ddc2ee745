use Rattle.lane_tests.proofs.short_tests.ShortJudgeChildJudgeFinding.end.Goals as goal

pub returns-clause-says : goal.returns-clause-says
returns-clause-says c = c.told_of_end.ensures c.args.self.now.problem.now c.args.self.now.job c.args.self.now.most c.args.self.now.output.bytes c.requires
