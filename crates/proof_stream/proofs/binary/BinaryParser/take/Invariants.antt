use Rattle.std.proofs.Common.{◌≡◌, length, ◌-◌}
use Rattle.proof_stream.proofs.Pieces.{Left}
use Rattle.proof_stream.proofs.binary.BinaryParser.take.Given as goal

abbrev pub invariant-loop-i : goal.invariant-loop-i
invariant-loop-i g l = record {
  left : Left g.R.Receiver.gets g.R.Receiver.stops l.initial.self l.initial.receiver l.piece l.self l.receiver l.i;
  vars : g.R.Receiver.vars l.receiver ≡ l.self.vars;
}

abbrev pub decreases-loop-i : goal.decreases-loop-i
decreases-loop-i g l = length l.piece - l.i
