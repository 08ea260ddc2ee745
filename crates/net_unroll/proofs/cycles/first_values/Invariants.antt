use Rattle.std.proofs.Common.{◌≡◌, ◌+◌, take}
use Rattle.std.specs.List.{flat_map}
use Rattle.bit_net.specs.Net.{node_at, vars}
use Rattle.net_unroll.specs.Making.{IsMaking, made_of, run}
use Rattle.net_unroll.specs.Program.{first_steps}
use Rattle.net_unroll.proofs.cycles.first_values.Given as goal

abbrev pub invariant-loop-var : goal.invariant-loop-var
invariant-loop-var l = record {
  making : IsMaking (vars l.net + 1) l.made;
  made : made_of l.made ≡ run (made_of l.fn.made) (flat_map (λ v. first_steps l.start v (node_at l.net v)) (take l.var-index l.places));
}
