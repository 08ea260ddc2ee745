use Rattle.std.proofs.Common.{◌≡◌, length, ◌-◌}
use Rattle.cert_stream.proofs.LratPieces.{Left}
use Rattle.cert_stream.proofs.lrat.feeding.take_piece.Given as goal

abbrev pub invariant-loop-i : goal.invariant-loop-i
invariant-loop-i g l = record {
  left : Left g.R.LratReceiver.gets g.R.LratReceiver.stops l.initial.parser l.initial.receiver l.piece l.parser l.receiver l.i;
  vars : g.R.LratReceiver.vars l.receiver ≡ l.parser.vars;
}

abbrev pub decreases-loop-i : goal.decreases-loop-i
decreases-loop-i g l = length l.piece - l.i
