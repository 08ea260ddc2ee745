use Rattle.std.proofs.Common.{map}
use Rattle.design_core.specs.Places.{place_of}
use Rattle.design_core.specs.Shape.{IsDeclared}
use Rattle.design_graph.proofs.EdgeSteps.{left-tail}
use Rattle.design_signals.specs.Chunks.{bits_of}
use Rattle.word_model.proofs.Listing.{item-next}
use Rattle.source_rows.proofs.rows.fill_row.Goals as goal

pub bits-preserved : goal.bits-preserved
bits-preserved c = record {
  declared = left-tail (IsDeclared c.args.design.now.wires c.args.design.now.free) c.bits.left c.in-Some.bit c.next.new.self c.in-Some.ensures.some c.bits.invariant.declared;
  listed =
      rw c.in_ok-push.ensures.items
      (item-next (place_of c.args.design.now) c.bits.row.items c.place.result c.bits.left c.in-Some.bit c.next.new.self (map (place_of c.args.design.now) (bits_of c.args.signal.now))
      c.place.ensures.place c.in-Some.ensures.some c.bits.invariant.listed);
}
