use Rattle.sby_lines.proofs.OneLemmas.{lines_are_one}
use Rattle.sby_lines.proofs.laws.job_lines_are_one.Goals as goal

pub returns : goal.returns
returns c = λ request came status a b are x y. lines_are_one request came status a b are x y
