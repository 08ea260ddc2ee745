use Rattle.std.proofs.Common.{◌≡◌, ◌*◌, length, map}
use Rattle.model_play.specs.Packed.{rows_of}
use Rattle.witness_judge.specs.Choosing.{bit_for}
use Rattle.witness_judge.proofs.inputs.push_rows.Given as goal

abbrev pub invariant-loop-cycle : goal.invariant-loop-cycle
invariant-loop-cycle l = record {
  len : length l.bits.items ≡ l.cycle * length l.all;
  rows : rows_of (length l.all) l.cycle l.bits.items ≡ map (λ row. map (bit_for l.read row) l.all) (rows_of (length l.read) l.cycle l.rows);
}
