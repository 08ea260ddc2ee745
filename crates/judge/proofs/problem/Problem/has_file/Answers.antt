use Rattle.judge.proofs.Files.{file-there}
use Rattle.judge.proofs.problem.Problem.has_file.Goals as goal

pub returns : goal.returns
returns c = file-there c.args.self.now c.flat-flat.ensures.problem c.args.job c.requires
