use Rattle.std.proofs.Common.{◌++◌}
use Rattle.lane_tests.proofs.Shorts.{fed_says}
use Rattle.lane_tests.proofs.short_tests.told_of_piece.Goals as goal

pub returns : goal.returns
returns c = λ p job most bytes file took is.
    rw c.told.ensures (fed_says p job most c.args.judge.now c.feed.new.self bytes (bytes ++ c.args.piece.now) took c.feed.result file is (c.feed.ensures.feeds bytes took.took))
