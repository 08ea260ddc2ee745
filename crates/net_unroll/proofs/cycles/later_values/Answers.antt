use Rattle.std.proofs.Common.{◌≡◌, ℕ, Err, ap, subst, get_or}
use Rattle.gate_graph.specs.declared.gates.GateFault.{GateFault}
use Rattle.bit_net.specs.Net.{node_at}
use Rattle.net_unroll.specs.Making.{IsMaking, made_of}
use Rattle.net_unroll.specs.Program.{later_steps}
use Rattle.net_unroll.proofs.Stepping.{loop_past, loop_step}
use Rattle.net_unroll.proofs.cycles.later_values.Goals as goal

pub loop-var-preserved : goal.loop-var-preserved
loop-var-preserved c = record {
  making = subst (λ (k : ℕ). IsMaking k c.later_step.new.made) c.loop-var.invariant.making.size c.in-Ok.ensures.making;
  made = loop_step (λ v. later_steps c.args.cycle v (node_at c.args.net.now v)) c.args.places.now c.loop-var.var-index (made_of c.args.made.now) (made_of c.loop-var.made) (made_of c.later_step.new.made)
      (later_steps c.args.cycle (get_or c.args.places.now c.loop-var.var-index 0) c.node.result) c.loop-var-test.true c.loop-var.invariant.made (ap (later_steps c.args.cycle (get_or c.args.places.now c.loop-var.var-index 0)) c.node.ensures) c.in-Ok.ensures.made;
}

pub returns-in-Err-clause-too_many : goal.returns-in-Err-clause-too_many
returns-in-Err-clause-too_many c h =
    let f : c.in-Err.fault ≡ GateFault.TooMany = cc in
    loop_past (λ v. later_steps c.args.cycle v (node_at c.args.net.now v)) c.args.places.now c.loop-var.var-index (made_of c.args.made.now) (made_of c.loop-var.made)
    (later_steps c.args.cycle (get_or c.args.places.now c.loop-var.var-index 0) c.node.result) c.loop-var-test.true c.loop-var.invariant.made (ap (later_steps c.args.cycle (get_or c.args.places.now c.loop-var.var-index 0)) c.node.ensures) (c.in-Err.ensures.too_many (ap Err f))
