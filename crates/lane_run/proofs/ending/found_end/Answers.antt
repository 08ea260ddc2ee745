use Rattle.lane_run.proofs.Endings.{not_found}
use Rattle.lane_run.proofs.ending.found_end.Goals as goal

pub returns-in_default : goal.returns-in_default
returns-in_default g c =
    let left = not_found c.args.part (λ f b won is. c.in_default.not-Found f b won is) c.requires.left in
    record { end = λ a. c.end_by_keeper.ensures.end a c.args.part left; ran = c.end_by_keeper.ensures.ran; other = c.end_by_keeper.ensures.other; hold = c.end_by_keeper.ensures.hold }
