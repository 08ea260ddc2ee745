use Rattle.std.proofs.Common.{◌≡◌}
use Rattle.net_pair.specs.Laying.{with_inputs}
use Rattle.net_pair.proofs.cycles.push_inputs.Given as goal

abbrev pub invariant-loop : goal.invariant-loop
invariant-loop l = l.circuit ≡ with_inputs l.initial.circuit l.counter
