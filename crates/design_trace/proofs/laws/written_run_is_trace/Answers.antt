use Rattle.std.proofs.Common.{refl, arith}
use Rattle.design_trace.proofs.Lines.{shown_fits, shown_length}
use Rattle.design_trace.proofs.laws.written_run_is_trace.Goals as goal

pub returns : goal.returns
returns c d run fits some = record { fits = shown_fits d run fits; some = omega (arith, some, shown_length run); text = refl }
