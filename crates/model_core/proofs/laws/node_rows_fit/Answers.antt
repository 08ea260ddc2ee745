use Rattle.model_core.specs.Served.{IsNode}
use Rattle.model_core.proofs.Fitting.{node_rows_fit}
use Rattle.model_core.proofs.Lists.{all_at}
use Rattle.model_core.proofs.laws.node_rows_fit.Goals as goal

pub returns : goal.returns
returns c m is v i n e = node_rows_fit v n (all_at IsNode m.nodes i n is.nodes e)
