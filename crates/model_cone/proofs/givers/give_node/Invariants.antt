use Rattle.std.proofs.Common.{take}
use Rattle.model_cone.specs.declared.givers.Giver.TheVariants.{Node}
use Rattle.model_cone.specs.Marking.{IsGiven}
use Rattle.model_cone.proofs.givers.give_node.Given as goal

abbrev pub invariant-loop-place : goal.invariant-loop-place
invariant-loop-place l = IsGiven (take l.place-index l.places) (λ k. Node l.node) l.fn.givers.items l.givers.items
