use Rattle.cdcl_run.proofs.Connections.{file_asked}
use Rattle.cdcl_run.proofs.laws.files_are_not_served.Goals as goal

pub returns : goal.returns
returns c = file_asked
