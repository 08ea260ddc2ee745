use Rattle.std.proofs.Common.{◌≡◌, map, take}
use Rattle.model_cone.specs.Slice.{kept_by}
use Rattle.task_net.proofs.kept.kept_inputs.Given as goal

abbrev pub invariant-loop-k : goal.invariant-loop-k
invariant-loop-k l = l.kept.items ≡ map (kept_by l.marks) (take l.k l.places)
