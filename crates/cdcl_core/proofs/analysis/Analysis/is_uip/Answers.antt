use Rattle.std.proofs.Common.{arith}
use Rattle.cdcl_core.proofs.Marks.{prefix_grows}
use Rattle.cdcl_core.proofs.analysis.Analysis.is_uip.Goals as goal

pub returns-clause-late : goal.returns-clause-late
returns-clause-late c h k =
    let p = c.place.ensures in
    p.first (prefix_grows c.args.core.now.trail c.args.base c.place.result c.args.l (omega arith) k)
