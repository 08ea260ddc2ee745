use Rattle.sby_file.proofs.FaultLines.{of_lines}
use Rattle.sby_file.proofs.FaultOrder.{by_size}
use Rattle.sby_file.proofs.laws.faults_are_of_lines.Goals as goal

pub returns-clause-lines : goal.returns-clause-lines
returns-clause-lines c = of_lines

pub returns-clause-size : goal.returns-clause-size
returns-clause-size c = by_size
