use Rattle.std.proofs.Common.{◌≡◌, ◌++◌, map, drop}
use Rattle.model_core.specs.Choices.{without_digit}
use Rattle.model_cone.specs.Slice.{kept_by}
use Rattle.task_net.proofs.kept.kept_starts.Given as goal

abbrev pub invariant-loop-k : goal.invariant-loop-k
invariant-loop-k l = l.kept.items ++ map (kept_by l.marks) (without_digit (drop l.k l.places) (drop l.k l.digits)) ≡ map (kept_by l.marks) (without_digit l.places l.digits)
