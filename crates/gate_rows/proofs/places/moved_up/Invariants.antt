use Rattle.std.proofs.Common.{◌*◌, ◌^◌}
use Rattle.std.specs.Prelude.{pos}
use Rattle.sby_bits.specs.Rows.{num}
use Rattle.sby_bits.proofs.Numbers.{bit_of}
use Rattle.gate_rows.specs.Literals.{row_of}
use Rattle.gate_rows.specs.Sums.{IsBuilt}
use Rattle.gate_rows.proofs.places.moved_up.Given as goal

abbrev pub invariant-loop-place : goal.invariant-loop-place
invariant-loop-place l = IsBuilt l.gates l.gates (λ x j. bit_of (pos (num (row_of x l.a) * 2 ^ l.by)) j) l.place l.word.items
