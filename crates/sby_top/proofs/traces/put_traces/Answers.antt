use Rattle.std.proofs.Common.{ap, length, arith}
use Rattle.std.proofs.lemmas.List.{length-append}
use Rattle.design_core.proofs.Lists.{item_at}
use Rattle.sby_lines.specs.Told.{asked_by}
use Rattle.sby_top.proofs.TraceLemmas.{fitting_at, put_next}
use Rattle.sby_top.proofs.traces.put_traces.Goals as goal

pub put_listed-requires-clause-rows : goal.put_listed-requires-clause-rows
put_listed-requires-clause-rows g c = fitting_at c.args.flat.now c.args.runs.now c.loop-run.run-index c.run-item.result c.requires.fitting
    (item_at c.args.runs.now c.loop-run.run-index c.run-item.result c.run-item.is c.loop-run-test.true)

pub loop-run-preserved : goal.loop-run-preserved
loop-run-preserved g c =
    let at = item_at c.args.runs.now c.loop-run.run-index c.run-item.result c.run-item.is c.loop-run-test.true in
    let h = c.in_ok-put_listed.ensures.put in
    let count = ap length h.2 in
    let both = length-append c.loop-run.unput.items h.0 in
    record {
      put = λ expect. put_next (asked_by c.args.heading.now expect) c.args.flat.now c.args.runs.now c.loop-run.run-index c.run-item.result _ _ _ c.loop-run.unput.items _ h.0 at h.2 (c.loop-run.invariant.put expect) (h.1 expect);
      count = omega (arith, count, both, h.3, c.loop-run.invariant.count);
      room = omega (arith, c.loop-run.invariant.room, c.in_ok-put_listed.ensures.room);
      later = omega (arith, c.loop-run.invariant.later, c.in_ok-put_listed.ensures.later);
    }
