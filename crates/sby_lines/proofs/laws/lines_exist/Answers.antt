use Rattle.sby_lines.proofs.LinesExist.{task_lines}
use Rattle.sby_lines.proofs.laws.lines_exist.Goals as goal

pub returns : goal.returns
returns c = λ request text early design reports start unput status rc plain is coded. task_lines request text early design reports start unput status rc plain is coded
