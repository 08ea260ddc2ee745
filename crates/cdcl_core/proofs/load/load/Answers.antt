use Rattle.std.proofs.Common.{◌∙◌, ap}
use Rattle.unit_propagation.specs.Propagator.{clauses_of}
use Rattle.cdcl_core.proofs.Reductions.{clauses_map}
use Rattle.cdcl_core.proofs.load.load.Goals as goal

pub returns-clause-clauses : goal.returns-clause-clauses
returns-clause-clauses c = let e = c.in_ok-add_all.ensures in ap clauses_of e.slots ∙ clauses_map c.args.formula.now.clauses
