use Rattle.std.proofs.Common.{◌++◌}
use Rattle.design_core.specs.Shape.{IsDeclared}
use Rattle.design_graph.proofs.EdgeSteps.{left-head, left-tail}
use Rattle.design_signals.specs.Chunks.{bits_of}
use Rattle.word_model.specs.Built.{pair_places}
use Rattle.word_model.proofs.Listing.{pairs-next}
use Rattle.word_model.proofs.nodes.push_pairs.Goals as goal

pub place-requires : goal.place-requires
place-requires c = left-head (IsDeclared c.args.design.now.wires c.args.design.now.free) c.bits.driven c.in-Some.bit c.next.new.self c.in-Some.ensures.some c.bits.invariant.driven

pub place-requires-in-Some : goal.place-requires-in-Some
place-requires-in-Some c = left-head (IsDeclared c.args.design.now.wires c.args.design.now.free) c.bits.from c.in-Some-next.other c.next-in-Some.new.self c.in-Some-next.ensures.some c.bits.invariant.from

pub bits-preserved : goal.bits-preserved
bits-preserved c =
    let d = c.args.design.now in
    record {
      driven = left-tail (IsDeclared d.wires d.free) c.bits.driven c.in-Some.bit c.next.new.self c.in-Some.ensures.some c.bits.invariant.driven;
      from = left-tail (IsDeclared d.wires d.free) c.bits.from c.in-Some-next.other c.next-in-Some.new.self c.in-Some-next.ensures.some c.bits.invariant.from;
      listed =
          rw c.in_ok-push.ensures.items
          (pairs-next d c.bits.pairs.items c.place.result c.place-in-Some.result c.bits.driven c.bits.from c.in-Some.bit c.in-Some-next.other c.next.new.self c.next-in-Some.new.self
          (c.args.pairs.now.items ++ pair_places d (bits_of c.args.left.now) (bits_of c.args.right.now)) c.place.ensures c.place-in-Some.ensures c.in-Some.ensures.some c.in-Some-next.ensures.some c.bits.invariant.listed);
    }
