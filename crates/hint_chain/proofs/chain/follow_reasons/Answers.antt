use Rattle.std.proofs.Common.{◌∙◌}
use Rattle.hint_chain.proofs.Chaining.{goes_both}
use Rattle.hint_chain.proofs.chain.follow_reasons.Goals as goal

pub loop-l-preserved : goal.loop-l-preserved
loop-l-preserved c =
    let i = c.loop-l.invariant in
    let e = c.in_ok-follow.ensures in
    record {
      marked = e.marked;
      sized = e.sized ∙ i.sized;
      few = e.few;
      goes = goes_both c.args.core.now.slots c.args.ids.now c.args.hints.now.items c.loop-l.hints.items c.follow.new.hints.items c.args.marked.now.trail.items c.loop-l.marked.trail.items c.follow.new.marked.trail.items i.goes (e.goes (cc));
    }
