use Rattle.std.proofs.Common.{arith}
use Rattle.std.proofs.lemmas.List.Elements.{All-push}
use Rattle.design_signals.specs.Chunks.{IsChunk}
use Rattle.design_signals.proofs.Cutting.{push_long}
use Rattle.design_signals.proofs.signal.Signal.push.Goals as goal

pub invariant_of-self-2 : goal.invariant_of-self-2
invariant_of-self-2 c = record {
  chunks = rw c.in_ok-push.ensures.items (All-push IsChunk c.self.inside.chunks.items c.args.chunk c.self.invariant.chunks c.requires);
  len = rw c.in_ok-push.ensures.items (omega (arith, push_long c.self.inside.chunks.items c.args.chunk, c.self.invariant.len, c.in-Some.ensures));
}
