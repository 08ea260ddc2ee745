use Rattle.std.proofs.Common.{ℕ, ◌<◌}
use Rattle.design_graph.specs.Order.{IsCellOnLoop}
use Rattle.design_graph.proofs.loops.first_cell_on_loop.Given as goal

abbrev pub invariant-loop-place : goal.invariant-loop-place
invariant-loop-place l = (k : ℕ) → k < l.place → IsCellOnLoop l.design k → ⊥
