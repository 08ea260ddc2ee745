use Rattle.lane_run.proofs.Joins.{join_left, join_right}
use Rattle.lane_run.proofs.gather.take_in.Goals as goal

pub returns-clause-notes : goal.returns-clause-notes
returns-clause-notes g c =
    let j = c.join.ensures in (
      join_left c.args.raced.now.notes c.args.lane.notes c.join.new.self j.joined j.cells,
      join_right c.args.raced.now.notes c.args.lane.notes c.join.new.self j.joined j.cells c.requires.cells j.agree,
    )
