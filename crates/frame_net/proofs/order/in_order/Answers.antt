use Rattle.std.proofs.Common.{arith}
use Rattle.frame_net.proofs.Ordering.{put_all}
use Rattle.frame_net.proofs.order.in_order.Goals as goal

pub returns : goal.returns
returns c = put_all c.args.kept.now c.args.first c.args.count c.loop-entry.entry-index c.loop-entry.gates.items c.requires (omega arith) c.loop-entry.invariant
