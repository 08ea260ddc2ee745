use Rattle.std.proofs.Common.{◌≡◌, ◌+◌}
use Rattle.std.specs.List.{flat_map}
use Rattle.bit_net.specs.Net.{vars}
use Rattle.bit_net.specs.Reaching.{numbers}
use Rattle.net_unroll.specs.Making.{IsMaking, made_of, nothing_made, run}
use Rattle.net_unroll.specs.Program.{cycle}
use Rattle.net_unroll.proofs.cycles.add_cycles.Given as goal

abbrev pub invariant-loop-t : goal.invariant-loop-t
invariant-loop-t l = record {
  making : IsMaking (vars l.net + 1) l.made;
  made : made_of l.made ≡ run (nothing_made l.net) (flat_map (cycle l.net l.goal l.cycles) (numbers 0 l.t));
}
