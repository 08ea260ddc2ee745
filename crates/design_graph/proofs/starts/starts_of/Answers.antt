use Rattle.std.proofs.Common.{arith}
use Rattle.design_graph.proofs.Starting.{StartsBefore-next, IsStarts-built}
use Rattle.design_graph.proofs.starts.starts_of.Goals as goal

pub loop-place-preserved : goal.loop-place-preserved
loop-place-preserved c =
    rw c.in_ok-push.ensures.items (StartsBefore-next c.args.design.now c.loop-place.starts.items c.loop-place.place c.start_of.result c.loop-place.invariant c.start_of.ensures)

pub returns : goal.returns
returns c =
    IsStarts-built c.args.design.now c.places-place-end.ensures.design c.loop-place.starts.items c.loop-place.place (omega (arith, c.places-place-end.ensures.places, c.loop-place-test.false))
    (omega (arith, c.places-place-end.ensures.places, c.loop-place.auto.place-end)) c.loop-place.invariant c.requires.conflicts
