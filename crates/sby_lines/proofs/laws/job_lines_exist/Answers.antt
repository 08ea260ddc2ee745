use Rattle.sby_lines.proofs.LinesExist.{lines_exist}
use Rattle.sby_lines.proofs.laws.job_lines_exist.Goals as goal

pub returns : goal.returns
returns c = λ request came status are limited is. lines_exist request came status are limited is
