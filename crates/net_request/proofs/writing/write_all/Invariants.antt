use Rattle.std.proofs.Common.{◌≡◌, length}
use Rattle.net_request.specs.Writing.{Sent}
use Rattle.net_request.proofs.writing.write_all.Given as goal

abbrev pub invariant-loop : goal.invariant-loop
invariant-loop g l = record {
  sent : Sent (g.S.Source.rest l.fn.source) (g.S.Source.rest l.source) (g.L.Link.written l.fn.link) (g.L.Link.written l.link);
  unread : g.L.Link.left l.link ≡ g.L.Link.left l.fn.link;
  still : g.L.Link.faults l.link ≡ g.L.Link.faults l.fn.link;
  size : length l.buffer ≡ 4096;
}

abbrev pub decreases-loop : goal.decreases-loop
decreases-loop g l = length (g.S.Source.rest l.source)
