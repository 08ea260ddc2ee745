use Rattle.std.proofs.Common.{◌≡◌, ◌++◌, take}
use Rattle.std.specs.List.{filter}
use Rattle.model_cone.specs.Slice.{kept_by}
use Rattle.model_cone.proofs.slice.push_inputs.Given as goal

abbrev pub invariant-loop-k : goal.invariant-loop-k
invariant-loop-k l = l.draft ≡ record l.fn.draft { inputs = l.fn.draft.inputs ++ filter (kept_by l.marks) (take l.k l.model.inputs) }
