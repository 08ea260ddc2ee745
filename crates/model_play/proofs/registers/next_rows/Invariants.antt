use Rattle.std.proofs.Common.{◌≡◌, length, take}
use Rattle.std.specs.List.{flat_map}
use Rattle.model_core.specs.Meaning.{next_row}
use Rattle.model_play.specs.Playing.{cycle_of}
use Rattle.model_play.proofs.registers.next_rows.Given as goal

abbrev pub invariant-loop-register : goal.invariant-loop-register
invariant-loop-register l = record {
  reached : l.end ≡ length (flat_map (λ r. r.q) (take l.register l.model.registers));
  rows : take l.end l.held ≡ flat_map (next_row (cycle_of l.table)) (take l.register l.model.registers);
}
