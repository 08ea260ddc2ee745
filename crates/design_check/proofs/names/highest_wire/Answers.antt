use Rattle.std.proofs.Common.{◌∙◌, sym, arith}
use Rattle.design_check.proofs.Highest.{highest-found, highest-step, none-of}
use Rattle.design_check.proofs.names.highest_wire.Goals as goal

pub returns-in-Some : goal.returns-in-Some
returns-in-Some c =
    highest-found c.args.chunks.now c.loop-place.place _ (omega (arith, c.loop-place-test.true)) c.loop-place.invariant.within c.requires c.loop-place.invariant.none c.in-Some.wire c.in-Some.ensures

pub loop-place-preserved : goal.loop-place-preserved
loop-place-preserved c = record {
  within = omega (arith, c.loop-place.invariant.within);
  none =
      highest-step c.args.chunks.now c.loop-place.place _ (omega (arith, c.loop-place-test.true)) c.loop-place.invariant.within c.requires c.loop-place.invariant.none
      (sym c.wire_of.ensures ∙ none-of c.wire_of.result c.in_default.not-Some);
}
