use Rattle.cdcl_core.proofs.Steps.{reduces_both}
use Rattle.cdcl_core.proofs.solver.Solver.drop_all.Goals as goal

pub loop-k-preserved : goal.loop-k-preserved
loop-k-preserved g c =
    let e = c.in_ok-drop_next.ensures in
    reduces_both g.L.Log.takes g.L.Log.faults c.args.self.now c.loop-k.self c.drop_next.new.self c.args.log.now c.loop-k.log c.drop_next.new.log c.loop-k.invariant e.reduces
