use Rattle.std.proofs.Common.{◌≡◌, length}
use Rattle.gate_graph.specs.Places.{AreLinked, HasPlaces, place_of}
use Rattle.gate_graph.proofs.kept.link_all.Given as goal

abbrev pub invariant-loop-count : goal.invariant-loop-count
invariant-loop-count l = record {
  places : HasPlaces l.heads l.links (length l.entries);
  size : length l.heads ≡ length l.fn.heads;
  chains : length l.links ≡ length l.fn.links;
  linked : AreLinked (place_of (length l.fn.heads)) l.heads l.links l.entries l.count;
}
