use Rattle.std.proofs.Common.{◌∙◌}
use Rattle.hint_chain.proofs.Chaining.{goes_both}
use Rattle.hint_chain.proofs.chain.join_facts.Goals as goal

pub loop-l-preserved : goal.loop-l-preserved
loop-l-preserved c =
    let i = c.loop-l.invariant in
    let e = c.in_ok-join_fact.ensures in
    record {
      marked = e.marked;
      sized = e.sized ∙ i.sized;
      few = e.few;
      goes = λ slots. goes_both slots c.args.ids.now c.args.hints.now.items c.loop-l.hints.items c.join_fact.new.hints.items c.args.marked.now.trail.items c.loop-l.marked.trail.items c.join_fact.new.marked.trail.items (i.goes slots) (e.goes slots);
    }
