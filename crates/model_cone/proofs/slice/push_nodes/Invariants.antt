use Rattle.std.proofs.Common.{◌≡◌, ◌++◌, map, take}
use Rattle.model_cone.specs.Slice.{kept_by, sliced_node}
use Rattle.model_cone.proofs.slice.push_nodes.Given as goal

abbrev pub invariant-loop-node : goal.invariant-loop-node
invariant-loop-node l = l.draft ≡ record l.fn.draft { nodes = l.fn.draft.nodes ++ map (sliced_node (kept_by l.marks) l.model.zero) (take l.node l.model.nodes) }
