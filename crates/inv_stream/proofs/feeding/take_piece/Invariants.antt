use Rattle.std.proofs.Common.{◌≡◌, ◌-◌, length}
use Rattle.inv_stream.proofs.Pieces.{Left}
use Rattle.inv_stream.proofs.feeding.take_piece.Given as goal

abbrev pub invariant-loop-i : goal.invariant-loop-i
invariant-loop-i g l = record {
  left : Left g.R.Receiver.gets g.R.InvReceiver.parts g.R.Receiver.stops l.initial.parser l.initial.receiver l.piece l.parser l.receiver l.i;
  vars : g.R.Receiver.vars l.receiver ≡ l.parser.parser.vars;
}

abbrev pub decreases-loop-i : goal.decreases-loop-i
decreases-loop-i g l = length l.piece - l.i
