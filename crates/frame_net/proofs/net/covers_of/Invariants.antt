use Rattle.gate_rows.specs.Literals.{Builds}
use Rattle.frame_net.specs.Making.{TellCovers}
use Rattle.frame_net.proofs.net.covers_of.Given as goal

abbrev pub invariant-loop-k : goal.invariant-loop-k
invariant-loop-k l = record {
  covers : TellCovers l.model l.gates l.frame l.k l.covers.items;
  builds : Builds l.fn.gates l.gates l.k;
}
