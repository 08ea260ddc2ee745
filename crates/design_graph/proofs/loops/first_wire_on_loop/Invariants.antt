use Rattle.std.proofs.Common.{ℕ, ◌<◌}
use Rattle.design_graph.specs.Edges.{IsWireOnLoop}
use Rattle.design_graph.proofs.loops.first_wire_on_loop.Given as goal

abbrev pub invariant-loop-wire : goal.invariant-loop-wire
invariant-loop-wire l = (k : ℕ) → k < l.wire → IsWireOnLoop l.design k → ⊥
