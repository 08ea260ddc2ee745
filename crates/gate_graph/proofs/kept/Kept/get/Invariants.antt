use Rattle.std.proofs.Common.{length}
use Rattle.gate_graph.specs.Places.{place_of}
use Rattle.gate_graph.proofs.Linking.{IsAhead}
use Rattle.gate_graph.proofs.kept.Kept.get.Given as goal

abbrev pub invariant-links : goal.invariant-links
invariant-links l = IsAhead (place_of (length l.self-inside.heads.items)) l.self-inside.entries.items l.gate l.link

abbrev pub decreases-links : goal.decreases-links
decreases-links l = l.link
