use Rattle.sby_task.proofs.Paths.{last_part}
use Rattle.sby_task.proofs.laws.paths_end_in_names.Goals as goal

pub returns : goal.returns
returns c = last_part
