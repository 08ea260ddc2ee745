use Rattle.std.proofs.Common.{take, length, ◌*◌}
use Rattle.std.specs.List.{flat_map, sum_by}
use Rattle.gate_rows.specs.Literals.{Builds, MeansRow}
use Rattle.model_core.specs.Meaning.{next_row}
use Rattle.frame_gates.specs.Frames.{cycle_of}
use Rattle.frame_gates.proofs.registers.next_states.Given as goal

abbrev pub invariant-loop-register : goal.invariant-loop-register
invariant-loop-register l = record {
  row : MeansRow l.gates (λ x. flat_map (next_row (cycle_of l.table x)) (take l.register l.model.registers)) l.row.items;
  builds : Builds l.fn.gates l.gates (sum_by (λ r. 2 * length r.q) (take l.register l.model.registers));
}
