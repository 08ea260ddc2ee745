use Rattle.lane_tests.proofs.Shorts.{end_says}
use Rattle.lane_tests.proofs.short_tests.told_of_end.Goals as goal

pub returns : goal.returns
returns c = λ p job most bytes took.
    rw c.told.ensures (end_says p job most c.args.judge.now c.end.new.self bytes bytes took c.end.result (c.end.ensures.ends bytes took.took))
