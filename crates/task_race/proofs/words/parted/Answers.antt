use Rattle.task_race.proofs.Marking.{parted_as}
use Rattle.task_race.proofs.words.parted.Goals as goal

pub returns : goal.returns
returns c = parted_as c.args.mark.now c.requires c.args.word.now _ c.split_once.result c.split_once.ensures.cases (λ i j at. at.split) (λ i j at. at.ends)
