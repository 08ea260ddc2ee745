use Rattle.design_trace.proofs.Pieces.{vcd_is_pieces}
use Rattle.design_trace.proofs.laws.vcd_is_its_pieces.Goals as goal

pub returns : goal.returns
returns c d rows = vcd_is_pieces d rows
