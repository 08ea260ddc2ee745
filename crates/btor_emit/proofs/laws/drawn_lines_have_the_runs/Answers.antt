use Rattle.btor_emit.proofs.Running.{runs_from, runs_to}
use Rattle.btor_emit.proofs.laws.drawn_lines_have_the_runs.Goals as goal

pub returns : goal.returns
returns c = record { from = λ m g e inputs drawn. runs_from m g e inputs drawn; to = λ m g e inputs drawn. runs_to m g e inputs drawn }
