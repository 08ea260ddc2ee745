use Rattle.cdcl_core.proofs.Steps.{reduces_moves}
use Rattle.cdcl_core.proofs.solver.Solver.drop_next.Goals as goal

pub returns-in_ok-freeze-clause-reduces : goal.returns-in_ok-freeze-clause-reduces
returns-in_ok-freeze-clause-reduces g c =
    let e = c.in_ok-freeze.ensures in
    reduces_moves g.L.Log.takes g.L.Log.faults c.args.self.now c.freeze.new.self c.args.log.now e.moves e.solver e.rest
