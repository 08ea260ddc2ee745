use Rattle.lane_tests.proofs.short_tests.ShortJudgeChildJudgeFinding.feed.Goals as goal

pub returns-clause-says : goal.returns-clause-says
returns-clause-says c =
    let s = c.args.self.now in
    rw c.with_piece.ensures ((c.told_of_piece.ensures s.problem.now s.job s.most s.output.bytes c.has_file.ensures.0 c.requires c.has_file.ensures.1).says)

pub returns-clause-more : goal.returns-clause-more
returns-clause-more c =
    let s = c.args.self.now in
    rw c.with_piece.ensures ((c.told_of_piece.ensures s.problem.now s.job s.most s.output.bytes c.has_file.ensures.0 c.requires c.has_file.ensures.1).more)
