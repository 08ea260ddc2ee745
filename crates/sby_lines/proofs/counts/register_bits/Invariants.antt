use Rattle.std.proofs.Common.{◌≡◌, ◌≤◌, ◌^◌, ◌*◌, length, take}
use Rattle.std.specs.List.{filter, sum_by}
use Rattle.design_core.specs.Asked.{output_of}
use Rattle.design_core.specs.Table.{role_of}
use Rattle.design_core.specs.Shape.{CellOf}
use Rattle.design_meaning.specs.Meaning.{is_register}
use Rattle.sby_lines.proofs.counts.register_bits.Given as goal

abbrev pub invariant-loop-cell : goal.invariant-loop-cell
invariant-loop-cell l = record {
  few : l.bits ≤ l.cell-index * 2 ^ 96;
  sum : l.bits ≡ sum_by (λ (c : CellOf). length (output_of c)) (filter (λ (c : CellOf). is_register (role_of c.kind)) (take l.cell-index l.cells));
}
