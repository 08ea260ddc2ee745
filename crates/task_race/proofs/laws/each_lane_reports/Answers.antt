use Rattle.task_race.proofs.laws.each_lane_reports.Goals as goal

pub returns-clause-count : goal.returns-clause-count
returns-clause-count g c = λ racing pool before now start reports ran. ran.consistent.lanes_are

pub returns-clause-each : goal.returns-clause-each
returns-clause-each g c = λ racing pool before now start reports ran lane r at.
    let whole = ran.consistent.replays lane r at in
    (ran.consistent.places lane r at, whole.ends, whole.events)
