use Rattle.std.proofs.Common.{◌≡◌, map, take}
use Rattle.net_pair.specs.Laying.{with_gates}
use Rattle.net_pair.specs.Pairing.{gate_at}
use Rattle.net_pair.proofs.cycles.push_cycle.Given as goal

abbrev pub invariant-loop-gate : goal.invariant-loop-gate
invariant-loop-gate l = l.circuit ≡ with_gates l.initial.circuit (map (gate_at l.net l.frame) (take l.gate-index l.net.gates))
