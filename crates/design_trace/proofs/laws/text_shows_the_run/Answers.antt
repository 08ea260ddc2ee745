use Rattle.design_trace.proofs.Printing.{run_prints}
use Rattle.design_trace.proofs.laws.text_shows_the_run.Goals as goal

pub returns : goal.returns
returns c d run fits = run_prints d run fits
