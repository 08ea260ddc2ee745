use Rattle.std.proofs.Common.{All, drop}
use Rattle.design_core.specs.Shape.{IsDeclared}
use Rattle.design_signals.specs.Chunks.{bits_of}
use Rattle.design_core.proofs.design.Design.declares_all.Given as goal

abbrev pub invariant-loop-chunk : goal.invariant-loop-chunk
invariant-loop-chunk l = record {
  whole : All (IsDeclared l.self.wires l.self.free) (bits_of (drop l.chunk-index l.chunks)) → All (IsDeclared l.self.wires l.self.free) (bits_of l.chunks);
  rest : All (IsDeclared l.self.wires l.self.free) (bits_of l.chunks) → All (IsDeclared l.self.wires l.self.free) (bits_of (drop l.chunk-index l.chunks));
}
