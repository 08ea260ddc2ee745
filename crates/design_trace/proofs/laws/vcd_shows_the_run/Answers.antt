use Rattle.design_trace.proofs.Printing.{run_changes}
use Rattle.design_trace.proofs.laws.vcd_shows_the_run.Goals as goal

pub returns : goal.returns
returns c d run fits = run_changes d run fits
