use Rattle.std.proofs.Common.{◌*◌, take}
use Rattle.std.specs.List.{list_all}
use Rattle.gate_rows.specs.Literals.{Builds, MeansBit}
use Rattle.frame_gates.specs.Frames.{cycle_of}
use Rattle.frame_gates.specs.Rows.{holds}
use Rattle.frame_gates.proofs.statements.all_hold.Given as goal

abbrev pub invariant-loop-statement : goal.invariant-loop-statement
invariant-loop-statement l = record {
  builds : Builds l.fn.gates l.gates (2 * l.statement-index);
  bit : MeansBit l.gates (λ x. list_all (holds (cycle_of l.table x)) (take l.statement-index l.statements)) l.all;
}
