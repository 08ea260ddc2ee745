use Rattle.sby_lines.proofs.ExistLemmas.{printed_of}
use Rattle.sby_lines.proofs.laws.printed_finding_exists.Goals as goal

pub returns : goal.returns
returns c = λ mode reports place places winners r among has. printed_of mode reports place places winners r among has
