use Rattle.btor_core.proofs.Rows.{widths_are}
use Rattle.btor_core.proofs.laws.values_have_their_widths.Goals as goal

pub returns : goal.returns
returns c = widths_are
