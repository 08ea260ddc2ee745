use Rattle.std.proofs.Common.{◌≡◌, ◌<◌, ℕ, false, Some, get_or, length}
use Rattle.std.specs.Prelude.{slice_get}
use Rattle.btor_emit.specs.Stretching.{digit_in}
use Rattle.btor_emit.specs.Table.{seat_at}
use Rattle.btor_emit.proofs.table.digits_part.Given as goal

abbrev pub invariant-loop-k : goal.invariant-loop-k
invariant-loop-k l = record {
  long : length l.bits ≡ 4096;
  each : (k p : ℕ) → k < l.k → slice_get l.places k ≡ Some p → get_or l.bits k false ≡ digit_in (seat_at l.table p);
}
