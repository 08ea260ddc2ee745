use Rattle.std.proofs.Common.{◌≡◌, ◌+◌, ◌-◌, ◌≤◌, drop, length}
use Rattle.btor_witness.specs.Machine.{after}
use Rattle.btor_witness.proofs.witnesses.Witnesses.take_bytes.Given as goal

abbrev pub invariant-loop-i : goal.invariant-loop-i
invariant-loop-i l = record {
  left : after l.self (drop l.i l.piece) ≡ after l.initial.self l.piece;
  taken : l.self.taken ≤ l.initial.self.taken + l.i;
  within : l.i ≤ length l.piece;
}

abbrev pub decreases-loop-i : goal.decreases-loop-i
decreases-loop-i l = length l.piece - l.i
