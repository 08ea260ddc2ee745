use Rattle.std.proofs.Common.{◌≡◌, ◌++◌, All, length}
use Rattle.design_core.specs.Shape.{IsDeclared}
use Rattle.design_signals.specs.Chunks.{bits_of}
use Rattle.word_model.specs.Built.{pair_places}
use Rattle.word_model.proofs.nodes.push_pairs.Given as goal

abbrev pub invariant-bits : goal.invariant-bits
invariant-bits l = record {
  driven : All (IsDeclared l.design.wires l.design.free) l.driven;
  from : All (IsDeclared l.design.wires l.design.free) l.from;
  listed : l.pairs.items ++ pair_places l.design l.driven l.from ≡ l.fn.pairs.items ++ pair_places l.design (bits_of l.left) (bits_of l.right);
}

abbrev pub decreases-bits : goal.decreases-bits
decreases-bits l = length l.driven
