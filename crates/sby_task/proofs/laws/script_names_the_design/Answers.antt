use Rattle.sby_task.proofs.Said.{design_said}
use Rattle.sby_task.proofs.laws.script_names_the_design.Goals as goal

pub returns : goal.returns
returns c = design_said
