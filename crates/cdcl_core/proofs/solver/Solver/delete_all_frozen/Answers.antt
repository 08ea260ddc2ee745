use Rattle.std.proofs.Common.{◌∙◌}
use Rattle.cdcl_core.proofs.Steps.{reduces_both}
use Rattle.cdcl_core.proofs.solver.Solver.delete_all_frozen.Goals as goal

pub loop-k-preserved : goal.loop-k-preserved
loop-k-preserved g c =
    let i = c.loop-k.invariant in
    let e = c.in_ok-delete_frozen.ensures in
    record {
      count = e.count ∙ i.count;
      reduces = reduces_both g.L.Log.takes g.L.Log.faults c.args.self.now c.loop-k.self c.delete_frozen.new.self c.args.log.now c.loop-k.log c.delete_frozen.new.log i.reduces e.reduces;
    }
