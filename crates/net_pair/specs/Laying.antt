-- Inputs and gates that are put after others, one by one.
use Rattle.std.specs.Prelude.{ℕ, zero, suc, List, [], ◌∷◌}
use Rattle.gate_graph.specs.declared.gate.Gate.{Gate}
use Rattle.gate_graph.specs.Circuit.{GatesOf}
use Rattle.gate_graph.specs.Kept.{circuit_with, with_input}

abbrev pub with_inputs : GatesOf → ℕ → GatesOf
with_inputs g zero = g
with_inputs g (suc count) = with_input (with_inputs g count)

abbrev pub with_gates : GatesOf → List Gate → GatesOf
with_gates g [] = g
with_gates g (k ∷ ks) = with_gates (circuit_with g k) ks
