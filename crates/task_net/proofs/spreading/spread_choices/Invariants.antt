use Rattle.std.proofs.Common.{◌≡◌, take}
use Rattle.std.specs.List.{flat_map}
use Rattle.task_net.specs.Spreading.{spread_bits}
use Rattle.task_net.proofs.spreading.spread_choices.Given as goal

abbrev pub invariant-loop-cycle : goal.invariant-loop-cycle
invariant-loop-cycle l = l.rows.items ≡ flat_map (spread_bits l.inputs) (take l.cycle l.choices.inputs)
