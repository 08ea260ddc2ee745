use Rattle.std.proofs.Common.{◌≡◌, ◌*◌, drop, length}
use Rattle.job_terms.specs.Decoding.{values_of}
use Rattle.net_jobs.specs.Decoding.{TellInputs}
use Rattle.net_jobs.proofs.decoding.input_bits.Given as goal

abbrev pub invariant-loop-place : goal.invariant-loop-place
invariant-loop-place l = record {
  size : length l.bits.items ≡ l.count * l.width;
  tell : TellInputs (values_of l.values) l.first l.width l.count (drop l.place l.free) l.bits.items;
}
