use Rattle.std.proofs.lemmas.Option.{slice_get-get_or}
use Rattle.frame_gates.proofs.statements.statement_at.Goals as goal

pub returns : goal.returns
returns c = slice_get-get_or c.args.statements.now c.args.place _ c.requires
