use Rattle.sby_task.proofs.FirstFaults.{task_sound}
use Rattle.sby_task.proofs.laws.kept_lines_are_sound.Goals as goal

pub returns : goal.returns
returns c conf asked t rows h k = task_sound conf asked rows c.addresses_are_told.ensures t h k
